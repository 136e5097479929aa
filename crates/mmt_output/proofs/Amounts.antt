-- How much is handed out, and what of it is left.
use Rattle.std.proofs.Common.{◌≡◌, ℕ, ◌+◌, List, [], ◌∷◌, ◌++◌, length, refl, ap, ap₂, sym, subst, ◌∙◌, append_assoc, arith}
use Rattle.std.specs.List.{sum_by}
use Rattle.std.proofs.lemmas.List.{append-nil, length-append}
use Rattle.std.proofs.lemmas.List.Sums.{sum_by-append}
use Rattle.std.proofs.lemmas.Grind.{flat_map-append}
use Rattle.mmt_io.specs.History.{Event}
use Rattle.mmt_model.specs.Counts.{counted}
use Rattle.mmt_model.specs.Handing.{Presentation}
use Rattle.mmt_output.specs.declared.handed.Handed.{Handed}
use Rattle.mmt_io.specs.Output.{only_written, Puts, PutsPrefix}
use Rattle.mmt_output.specs.Records.{record_of, records, amount_of}
use Rattle.mmt_output.proofs.Putting.{puts_nothing, puts_both, puts_and_start, start_of_part}

abbrev sizes : List Presentation → ℕ
sizes ps = sum_by (λ p. length p.unit.bytes) ps

counted_both : (a b : ℕ) → counted (counted a + counted b) ≡ counted (a + b)
counted_both a b = omega arith

counted_more : (a b : ℕ) → counted (counted a + b) ≡ counted (a + b)
counted_more a b = omega arith

same_amount : (m n : Handed) → m.units ≡ n.units → m.bytes ≡ n.bytes → m ≡ n
same_amount m n units bytes =
    let make : ℕ → ℕ → Handed = λ u b. record { units = u; bytes = b } in
    ap₂ make units bytes

-- the amount of units and of others after them
pub amount-append : (xs ys : List Presentation)
    → record { units = counted ((amount_of xs).units + (amount_of ys).units); bytes = counted ((amount_of xs).bytes + (amount_of ys).bytes) } ≡ amount_of (xs ++ ys)
unfolding amount_of
amount-append xs ys =
    same_amount _ _ (counted_both (length xs) (length ys) ∙ ap counted (sym (length-append xs ys))) (counted_both (sizes xs) (sizes ys) ∙ ap counted (sym (sum_by-append (λ p. length p.unit.bytes) xs ys)))

-- the amount of units and of one more
amount-push : (xs : List Presentation) (p : Presentation) → record { units = counted ((amount_of xs).units + 1); bytes = counted ((amount_of xs).bytes + length p.unit.bytes) } ≡ amount_of (xs ++ p ∷ [])
unfolding amount_of
amount-push xs p =
    same_amount _ _ (counted_more (length xs) 1 ∙ ap counted (omega (arith, length-append xs (p ∷ []))))
    (counted_more (sizes xs) (length p.unit.bytes) ∙ ap counted (omega (arith, sum_by-append (λ q. length q.unit.bytes) xs (p ∷ []))))

records-push : (xs : List Presentation) (p : Presentation) → records (xs ++ p ∷ []) ≡ records xs ++ record_of p
records-push xs p = flat_map-append record_of xs (p ∷ []) ∙ ap (λ x. records xs ++ x) (append-nil (record_of p))

-- the records of some of the units were written, and those of the others are left
pub record HandsOut (told : Type 0) (old new : List Event) (all left : List Presentation) (so_far : Handed) : Type 0 where
  pub front : List Presentation
  pub whole : all ≡ front ++ left
  pub amount : so_far ≡ amount_of front
  pub written : told → Puts old new (only_written (records front))

pub hands_none : (told : Type 0) (old : List Event) (all : List Presentation) (n : Handed) → n ≡ amount_of [] → HandsOut told old old all all n
hands_none told old all n is = record { front = []; whole = refl; amount = is; written = λ t. puts_nothing old }

pub hands_more : (told : Type 0) (old mid new : List Event) (all left : List Presentation) (p : Presentation) (n next : Handed) (count : ℕ) → HandsOut told old mid all (p ∷ left) n → (told → Puts mid new (only_written (record_of p)))
    → count ≡ length p.unit.bytes → next ≡ record { units = counted (n.units + 1); bytes = counted (n.bytes + count) } → HandsOut told old new all left next
hands_more told old mid new all left p n next count h more is counts = record {
  front = h.front ++ p ∷ [];
  whole = h.whole ∙ sym (append_assoc h.front (p ∷ []) left);
  amount =
      let step : ℕ → Handed → Handed = λ k m. record { units = counted (m.units + 1); bytes = counted (m.bytes + k) } in
      counts ∙ (ap (λ k. step k n) is ∙ (ap (step (length p.unit.bytes)) h.amount ∙ amount-push h.front p));
  written = λ t. (let P : List ℕ → Type 0 = λ b. Puts old new (only_written b) in
      subst P (sym (records-push h.front p)) (puts_both old mid new (only_written (records h.front)) (only_written (record_of p)) (h.written t) (more t)));
}

pub hands_start : (told : Type 0) (old mid new : List Event) (all left : List Presentation) (p : Presentation) (n : Handed) → HandsOut told old mid all (p ∷ left) n → told → PutsPrefix mid new (only_written (record_of p)) → PutsPrefix old new (only_written (records all))
hands_start told old mid new all left p n h t start =
    let P : List ℕ → Type 0 = λ b. PutsPrefix old new (only_written b) in
    let is : (records h.front ++ record_of p) ++ records left ≡ records all = append_assoc (records h.front) (record_of p) (records left) ∙ (sym (flat_map-append record_of h.front (p ∷ left)) ∙ ap records (sym h.whole)) in
    subst P is (start_of_part old new (only_written (records h.front ++ record_of p)) (only_written (records left)) (puts_and_start old mid new (only_written (records h.front)) (only_written (record_of p)) (h.written t) start))

none_left : (all front left : List Presentation) → all ≡ front ++ left → left ≡ [] → front ≡ all
none_left all front left whole is = sym (append-nil front) ∙ (ap (λ x. front ++ x) (sym is) ∙ sym whole)

pub hands_all : (told : Type 0) (old new : List Event) (all left : List Presentation) (n : Handed) → HandsOut told old new all left n → left ≡ [] → told → Puts old new (only_written (records all))
hands_all told old new all left n h is t = let P : List Presentation → Type 0 = λ ps. Puts old new (only_written (records ps)) in subst P (none_left all h.front left h.whole is) (h.written t)

pub hands_amount : (told : Type 0) (old new : List Event) (all left : List Presentation) (n : Handed) → HandsOut told old new all left n → left ≡ [] → n ≡ amount_of all
hands_amount told old new all left n h is = h.amount ∙ ap amount_of (none_left all h.front left h.whole is)

-- the amounts of units and of others after them, added up
pub amounts_joined : (m n : Handed) (u b : ℕ) (xs ys : List Presentation) → u ≡ counted (m.units + n.units) → b ≡ counted (m.bytes + n.bytes) → m ≡ amount_of xs → n ≡ amount_of ys → record { units = u; bytes = b } ≡ amount_of (xs ++ ys)
amounts_joined m n u b xs ys units bytes first rest =
    same_amount _ (amount_of (xs ++ ys)) (units ∙ (ap₂ (λ x y. counted (x + y)) (ap (λ h. h.units) first) (ap (λ h. h.units) rest) ∙ ap (λ h. h.units) (amount-append xs ys)))
    (bytes ∙ (ap₂ (λ x y. counted (x + y)) (ap (λ h. h.bytes) first) (ap (λ h. h.bytes) rest) ∙ ap (λ h. h.bytes) (amount-append xs ys)))
