-- The text of a flow is read back as that flow.
use Rattle.std.proofs.Common.{◌≡◌, ℕ, zero, suc, ◌+◌, ◌*◌, ◌/◌, ◌%◌, ◌^◌, ◌<◌, ◌≤◌, List, [], ◌∷◌, ◌++◌, length, get_or, take, drop, false, decimal, refl, ap, sym, subst, ◌∙◌, arith, length-append, inl, inr, drop-cons}
use Rattle.std.proofs.lemmas.Bool.{cases_order}
use Rattle.std.proofs.lemmas.Bool.Decides.{nat_tests}
use Rattle.std.specs.Fmt.{digit_glyph}
use Rattle.std.proofs.Math.Nat.{pow-suc, pow-le-pow_right}
use Rattle.std.proofs.Math.Seq.{take-append_seam, drop-append_seam, get_or-append_seam}
use Rattle.std.proofs.lemmas.List.{get_or_append_left, take-append-drop, take_more}
use Rattle.std.proofs.lemmas.Fmt.{decimal_injective}
use Rattle.mmt_model.specs.declared.programmes.Flow.{Flow}
use Rattle.mmt_command.specs.Flows.{hex_text, flow_text, HasFlowRange}

pub length_hex : (k n : ℕ) → length (hex_text k n) ≡ k
unfolding hex_text
length_hex zero n = refl
length_hex (suc k) n = omega (arith, length-append (hex_text k (n / 16)) (digit_glyph false (n % 16) ∷ []), length_hex k (n / 16))

pub hex_none : (n : ℕ) → [] ≡ hex_text 0 n
unfolding hex_text
hex_none n = refl

pub hex_last : (k n : ℕ) → hex_text (suc k) n ≡ hex_text k (n / 16) ++ (digit_glyph false (n % 16) ∷ [])
unfolding hex_text
hex_last k n = refl

glyph_once : (c d : ℕ) → c < 16 → d < 16 → digit_glyph false c ≡ digit_glyph false d → c ≡ d
glyph_once c d x y e = grind (arith, nat_tests)

take_front : (k : ℕ) (xs ys : List ℕ) → length xs ≡ k → take k (xs ++ ys) ≡ xs
take_front k xs ys e = subst (λ j. take j (xs ++ ys) ≡ xs) e (take-append_seam xs ys)

drop_front : (k : ℕ) (xs ys : List ℕ) → length xs ≡ k → drop k (xs ++ ys) ≡ ys
drop_front k xs ys e = subst (λ j. drop j (xs ++ ys) ≡ ys) e (drop-append_seam xs ys)

at_seam : (k : ℕ) (xs ys : List ℕ) (y : ℕ) → length xs ≡ k → get_or (xs ++ (y ∷ ys)) k 0 ≡ y
at_seam k xs ys y e = subst (λ j. get_or (xs ++ (y ∷ ys)) j 0 ≡ y) e (get_or-append_seam xs y ys 0)

smaller : (n p : ℕ) → n < p * 16 → n / 16 < p
smaller n p h = omega arith

rejoined : (m n : ℕ) → m / 16 ≡ n / 16 → m % 16 ≡ n % 16 → m ≡ n
rejoined m n d r = omega arith

hex_once : (k m n : ℕ) → m < 16 ^ k → n < 16 ^ k → hex_text k m ≡ hex_text k n → m ≡ n
hex_once zero m n x y e = omega arith
hex_once (suc k) m n x y e =
    let w : 16 ^ suc k ≡ 16 ^ k * 16 = pow-suc 16 k in
    let s : hex_text k (m / 16) ++ (digit_glyph false (m % 16) ∷ []) ≡ hex_text k (n / 16) ++ (digit_glyph false (n % 16) ∷ []) = sym (hex_last k m) ∙ e ∙ hex_last k n in
    let front : hex_text k (m / 16) ≡ hex_text k (n / 16) = sym (take_front k _ _ (length_hex k (m / 16))) ∙ ap (λ x. take k x) s ∙ take_front k _ _ (length_hex k (n / 16)) in
    let last : digit_glyph false (m % 16) ≡ digit_glyph false (n % 16) = sym (at_seam k (hex_text k (m / 16)) [] _ (length_hex k (m / 16))) ∙ ap (λ x. get_or x k 0) s ∙ at_seam k (hex_text k (n / 16)) [] _ (length_hex k (n / 16)) in
    rejoined m n (hex_once k (m / 16) (n / 16) (smaller m (16 ^ k) (subst (λ q. m < q) w x)) (smaller n (16 ^ k) (subst (λ q. n < q) w y)) front) (glyph_once (m % 16) (n % 16) (omega arith) (omega arith) last)

-- each byte is a digit
pub hex_byte_is : (k n i : ℕ) → i < k → (d : ℕ) × (d < 16) × (get_or (hex_text k n) i 0 ≡ digit_glyph false d)
hex_byte_is zero n i lt = absurd (omega arith)
hex_byte_is (suc k) n i lt = elim (cases_order i k) [
  | inl same ↦ (n % 16, omega arith, ap (λ x. get_or x i 0) (hex_last k n) ∙ at_seam i (hex_text k (n / 16)) [] _ (length_hex k (n / 16) ∙ sym same))
  | inr (inl below) ↦ let r = hex_byte_is k (n / 16) i below in
      (r.0, r.1, ap (λ x. get_or x i 0) (hex_last k n) ∙ (get_or_append_left (hex_text k (n / 16)) (digit_glyph false (n % 16) ∷ []) 0 i (omega (arith, length_hex k (n / 16))) ∙ r.2))
  | inr (inr above) ↦ absurd (omega arith)
]

-- the text of a flow has one flow
pub front_of : (f : Flow) → take 32 (flow_text f) ≡ hex_text 32 f.address
front_of f = take_front 32 _ _ (length_hex 32 f.address)

after_of : (f : Flow) → drop 32 (flow_text f) ≡ 58 ∷ decimal f.port
after_of f = drop_front 32 _ _ (length_hex 32 f.address)

pub colon_of : (f : Flow) → get_or (flow_text f) 32 0 ≡ 58
colon_of f = at_seam 32 _ _ 58 (length_hex 32 f.address)

drop_past : (k : ℕ) (xs ys : List ℕ) (y : ℕ) → length xs ≡ k → drop (suc k) (xs ++ (y ∷ ys)) ≡ ys
drop_past zero [] ys y e = refl
drop_past (suc k) [] ys y e = absurd (omega arith)
drop_past zero (x ∷ xs) ys y e = absurd (omega arith)
drop_past (suc k) (x ∷ xs) ys y e = drop_past k xs ys y (omega arith)

pub port_of : (f : Flow) → drop 33 (flow_text f) ≡ decimal f.port
port_of f = drop_past 32 (hex_text 32 f.address) (decimal f.port) 58 (length_hex 32 f.address)

pub length_of : (f : Flow) → length (flow_text f) ≡ 33 + length (decimal f.port)
length_of f = omega (arith, length-append (hex_text 32 f.address) (58 ∷ decimal f.port), length_hex 32 f.address)

-- a text is a flow's by its parts
pub parts : (text : List ℕ) (f : Flow) → 33 ≤ length text → take 32 text ≡ hex_text 32 f.address → get_or text 32 0 ≡ 58 → drop 33 text ≡ decimal f.port → text ≡ flow_text f
parts text f long front colon back = sym (take-append-drop 32 text) ∙ (ap (λ x. x ++ drop 32 text) front ∙ ap (λ x. hex_text 32 f.address ++ x) (drop-cons text 32 0 (omega arith) ∙ (ap (λ x. x ∷ drop 33 text) colon ∙ ap (λ x. 58 ∷ x) back)))

same_flow : (f g : Flow) → f.address ≡ g.address → f.port ≡ g.port → f ≡ g
same_flow f g a p = ap (λ x. record f { address = x }) a ∙ ap (λ x. record g { port = x }) p

pub flow_text_once : (f g : Flow) → HasFlowRange f → HasFlowRange g → flow_text f ≡ flow_text g → f ≡ g
flow_text_once f g x y e =
    same_flow f g (hex_once 32 f.address g.address x.address y.address (sym (front_of f) ∙ ap (λ t. take 32 t) e ∙ front_of g))
    (decimal_injective f.port g.port (omega arith) (omega arith) (sym (port_of f) ∙ ap (λ t. drop 33 t) e ∙ port_of g))

-- reading a digit more
hex_step : (k n d : ℕ) → d < 16 → hex_text (suc k) (n * 16 + d) ≡ hex_text k n ++ (digit_glyph false d ∷ [])
hex_step k n d lt =
    let q : (n * 16 + d) / 16 ≡ n = omega arith in
    let r : (n * 16 + d) % 16 ≡ d = omega arith in
    hex_last k (n * 16 + d) ∙ (ap (λ x. hex_text k x ++ (digit_glyph false ((n * 16 + d) % 16) ∷ [])) q ∙ ap (λ x. hex_text k n ++ (digit_glyph false x ∷ [])) r)

pub read_more : (text : List ℕ) (i n d : ℕ) → i < length text → d < 16 → take i text ≡ hex_text i n → get_or text i 0 ≡ digit_glyph false d → take (i + 1) text ≡ hex_text (i + 1) (n * 16 + d)
read_more text i n d lt small read is =
    let e : i + 1 ≡ suc i = omega arith in
    take_more text i 0 lt ∙ (ap (λ x. x ++ (get_or text i 0 ∷ [])) read ∙ (ap (λ x. hex_text i n ++ (x ∷ [])) is ∙ (sym (hex_step i n d small) ∙ ap (λ k. hex_text k (n * 16 + d)) (sym e))))

step_below : (n d p q : ℕ) → n < p → d < 16 → q ≡ p * 16 → n * 16 + d < q
step_below n d p q lt small e = omega arith

pub still_below : (n d i : ℕ) → n < 16 ^ i → d < 16 → n * 16 + d < 16 ^ (i + 1)
still_below n d i lt small =
    let e : i + 1 ≡ suc i = omega arith in
    step_below n d (16 ^ i) (16 ^ (i + 1)) lt small (ap (λ k. 16 ^ k) e ∙ pow-suc 16 i)

pub fits_address : (n d i : ℕ) → n < 16 ^ i → d < 16 → i < 32 → n * 16 + d < 2 ^ 128
fits_address n d i lt small le =
    let w : 16 ^ (i + 1) ≤ 16 ^ 32 = pow-le-pow_right {n = 16} (omega arith) {i = i + 1} {j = 32} (omega arith) in
    let b = still_below n d i lt small in omega arith

pub not_digits : (text : List ℕ) (i a : ℕ) → i < 32 → ((d : ℕ) → d < 16 → get_or text i 0 ≡ digit_glyph false d → ⊥) → text ≡ hex_text 32 a → ⊥
not_digits text i a lt none e = let r = hex_byte_is 32 a i lt in none r.0 r.1 (ap (λ x. get_or x i 0) e ∙ r.2)
