-- Lines of decimal digits.
use Rattle.std.proofs.Common.{◌≡◌, ◌⊎◌, ℕ, ◌+◌, ◌%◌, ◌/◌, ◌^◌, ◌<◌, ◌≤◌, zero, suc, List, [], ◌∷◌, ◌++◌, length, get_or, take, drop, arith, refl, ap, ap₂, sym, ◌∙◌, subst, append_assoc, drop-cons, ⊎_elim}
use Rattle.std.specs.Prelude.{decimal}
use Rattle.std.specs.List.{AllByRecursion, flat_map}
use Rattle.std.specs.Str.{IsUtf8}
use Rattle.std.proofs.lemmas.Bool.{cases_order}
use Rattle.std.proofs.lemmas.Fmt.{IsAscii-decimal, decimal_by_steps}
use Rattle.std.proofs.lemmas.Str.{IsUtf8-from_ascii}
use Rattle.std.proofs.lemmas.List.{length-append, append-nil}
use Rattle.mmt_channel.specs.Lists.{IsLine, line_of}

each-append : (P : ℕ → Type 0) (xs ys : List ℕ) → AllByRecursion P xs → AllByRecursion P ys → AllByRecursion P (xs ++ ys)
each-append P [] ys a b = b
each-append P (x ∷ xs) ys a b = (a.0, each-append P xs ys a.1 b)

each-at : (P : ℕ → Type 0) (xs : List ℕ) (i d : ℕ) → AllByRecursion P xs → i < length xs → P (get_or xs i d)
each-at P [] i d a l = absurd (omega arith)
each-at P (x ∷ xs) zero d a l = a.0
each-at P (x ∷ xs) (suc i) d a l = each-at P xs i d a.1 (omega arith)

-- digits are no line feed
are-digits : (d : ℕ) → d < 2 ^ 64 → AllByRecursion (λ b. 48 ≤ b) (decimal d)
are-digits d l =
    decimal_by_steps (λ n ds. AllByRecursion (λ b. 48 ≤ b) ds)
    (λ n h. (omega arith, tt))
    (λ n ds h before. each-append (λ b. 48 ≤ b) ds ((48 + n % 10) ∷ []) before (omega arith, tt))
    d l

get-front : (xs ys : List ℕ) (i : ℕ) → i < length xs → get_or (xs ++ ys) i 0 ≡ get_or xs i 0
get-front [] ys i l = absurd (omega arith)
get-front (x ∷ xs) ys zero l = refl
get-front (x ∷ xs) ys (suc i) l = get-front xs ys i (omega arith)

get-behind : (xs : List ℕ) (y : ℕ) (ys : List ℕ) → get_or (xs ++ y ∷ ys) (length xs) 0 ≡ y
get-behind [] y ys = refl
get-behind (x ∷ xs) y ys = get-behind xs y ys

take-front : (xs ys : List ℕ) → take (length xs) (xs ++ ys) ≡ xs
take-front [] ys = refl
take-front (x ∷ xs) ys = ap (λ l. x ∷ l) (take-front xs ys)

split-at : (xs : List ℕ) (e : ℕ) → e < length xs → xs ≡ take e xs ++ (get_or xs e 0 ∷ drop (suc e) xs)
split-at [] e l = absurd (omega arith)
split-at (x ∷ xs) zero l = refl
split-at (x ∷ xs) (suc e) l = ap (λ l. x ∷ l) (split-at xs e (omega arith))

as-line : (d : ℕ) (more : List ℕ) → line_of d ++ more ≡ decimal d ++ 10 ∷ more
as-line d more = append_assoc (decimal d) (10 ∷ []) more

-- a text without a line feed is no line
pub no-line : (text : List ℕ) (d : ℕ) (more : List ℕ) → d < 2 ^ 64 → ((k : ℕ) → k < length text → get_or text k 0 ≡ 10 → ⊥) → text ≡ line_of d ++ more → ⊥
no-line text d more l none e =
    let e' : text ≡ decimal d ++ 10 ∷ more = e ∙ as-line d more in
    none (length (decimal d)) (omega (arith, ap length e', length-append (decimal d) (10 ∷ more))) (ap (λ t. get_or t (length (decimal d)) 0) e' ∙ get-behind (decimal d) 10 more)

-- the digits of a line stand before its first line feed
pub digits-before : (text : List ℕ) (end d : ℕ) (more : List ℕ) → d < 2 ^ 64 → end < length text → get_or text end 0 ≡ 10 → ((k : ℕ) → k < end → get_or text k 0 ≡ 10 → ⊥) → text ≡ line_of d ++ more → take end text ≡ decimal d
digits-before text end d more l within feed first e =
    let e' : text ≡ decimal d ++ 10 ∷ more = e ∙ as-line d more in
    let same : end ≡ length (decimal d) =
    ⊎_elim
    (λ (s : end ≡ length (decimal d)). s)
    (λ (o : (end < length (decimal d)) ⊎ (length (decimal d) < end)).
    ⊎_elim
    (λ (s : end < length (decimal d)).
    let digit : 48 ≤ get_or (decimal d) end 0 = each-at (λ b. 48 ≤ b) (decimal d) end 0 (are-digits d l) s in
    absurd (omega (arith, digit, feed, ap (λ t. get_or t end 0) e', get-front (decimal d) (10 ∷ more) end s)))
    (λ (s : length (decimal d) < end).
    absurd (first (length (decimal d)) s (ap (λ t. get_or t (length (decimal d)) 0) e' ∙ get-behind (decimal d) 10 more))) o)
    (cases_order end (length (decimal d))) in
    ap₂ (λ n t. take n t) same e' ∙ take-front (decimal d) (10 ∷ more)

-- digits are text
pub digits-are-text : (d : ℕ) → d < 2 ^ 64 → IsUtf8 (decimal d)
digits-are-text d l = IsUtf8-from_ascii (decimal d) (IsAscii-decimal d l)

-- the line before the first line feed
pub is-line : (sent place end : ℕ) (text : List ℕ) → place < sent → end < length text → get_or text end 0 ≡ 10 → take end text ≡ decimal place → IsLine sent place (end + 1) text
is-line sent place end text known within feed digits =
    let s : suc end ≡ end + 1 = omega arith in
    record {
      begins = split-at text end within ∙ (ap₂ (λ a b. a ++ (b ∷ drop (suc end) text)) digits feed ∙ (sym (as-line place (drop (suc end) text)) ∙ ap (λ n. line_of place ++ drop n text) s));
      known = known;
      within = omega arith;
      some = omega arith;
    }

-- one line more
pub lines-more : (text rest later : List ℕ) (list list' : List ℕ) (d : ℕ) → text ≡ flat_map line_of list ++ rest → rest ≡ line_of d ++ later → list' ≡ list ++ d ∷ [] → text ≡ flat_map line_of list' ++ later
lines-more text rest later list list' d e f g =
    e ∙ (ap (λ r. flat_map line_of list ++ r) f ∙ (sym (append_assoc (flat_map line_of list) (line_of d) later) ∙ ap (λ l. l ++ later) (sym (ap (flat_map line_of) g ∙ snoc list))))
  where
    snoc : (xs : List ℕ) → flat_map line_of (xs ++ d ∷ []) ≡ flat_map line_of xs ++ line_of d
    snoc [] = append-nil (line_of d)
    snoc (x ∷ xs) = ap (λ l. line_of x ++ l) (snoc xs) ∙ sym (append_assoc (line_of x) (flat_map line_of xs) (line_of d))

pub places-more : (sent : ℕ) (list list' : List ℕ) (d : ℕ) → AllByRecursion (λ d. d < sent) list → d < sent → list' ≡ list ++ d ∷ [] → AllByRecursion (λ d. d < sent) list'
places-more sent list list' d h l e = subst (AllByRecursion (λ d. d < sent)) (sym e) (each-append (λ d. d < sent) list (d ∷ []) h (l, tt))
