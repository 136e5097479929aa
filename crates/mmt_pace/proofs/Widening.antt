-- The spans of units and table copies, packet by packet from the last to the first.
use Rattle.std.proofs.Common.{◌≡◌, ℕ, ◌+◌, ◌-◌, ◌<◌, ◌≤◌, suc, zero, Bool, true, false, ◌==◌, ◌&&◌, nat_le, nat_lt, cond, List, [], ◌∷◌, ◌++◌, map, length, get_or, take, drop, set, replicate, arith, refl, ap, ap₂, sym, ◌∙◌, subst, Option, Some, None, ⊎_elim, max, get_or-set_other, get_or-set_same}
use Rattle.std.specs.List.{filter}
use Rattle.std.proofs.lemmas.Bool.{cases_eq, eq-eqb, ne_eqb}
use Rattle.std.proofs.lemmas.Bool.Decides.{nat_tests}
use Rattle.std.proofs.lemmas.List.{append-nil, drop_all, length-replicate, take_all}
use Rattle.mmt_cast.specs.Casting.{greatest, has_table, has_unit, least, tick_of_sent}
use Rattle.mmt_cast.proofs.Copies.{Differ, own-copy}
use Rattle.mmt_cast.proofs.Listing.{each-weaker}
use Rattle.mmt_model.specs.Carrying.{copy_place, no_table_copy, table_copy}
use Rattle.mmt_model.specs.declared.casts.Carries.{Carries}
use Rattle.mmt_model.specs.declared.casts.Carries.TheVariants as carries
use Rattle.mmt_model.specs.declared.casts.Cast.{Cast}
use Rattle.mmt_model.specs.declared.casts.TableCopy.{TableCopy}
use Rattle.mmt_pace.proofs.Lesser.{has-signal}
use Rattle.mmt_pace.specs.Asked.{AreListed, IsCarriedBy}
use Rattle.mmt_model.specs.declared.casts.Sent.{Sent}
use Rattle.mmt_pace.proofs.Deadlined.{at-drop}
use Rattle.mmt_pace.specs.Recast.{ticks_with}
use Rattle.mmt_pace.specs.Spanned.{AreSpans, is_among, span_of_ticks, with_tick}
use Rattle.mmt_pace.specs.declared.spans.Run.{Run}
use Rattle.mmt_pace.specs.declared.spans.Span.{Span}

-- ---- a run of numbers

-- the first k of a run are widened
abbrev pub AreWidened : ℕ → ℕ → ℕ → List (Option Span) → List (Option Span) → Type 0
AreWidened first k at old new = (n : ℕ) → n < length old → get_or new n None ≡ cond (nat_le first n && nat_lt n (first + k)) (Some (with_tick at (get_or old n None))) (get_or old n None)

none-yet : (first n : ℕ) → (nat_le first n && nat_lt n (first + 0)) ≡ false
none-yet first n = grind (arith, nat_tests)

pub none-widened : (first at : ℕ) (old : List (Option Span)) → AreWidened first 0 at old old
none-widened first at old n l = ap (λ (t : Bool). cond t (Some (with_tick at (get_or old n None))) (get_or old n None)) (sym (none-yet first n))

same-test : (first k n : ℕ) → (first + k ≡ n → ⊥) → (nat_le first n && nat_lt n (first + (k + 1))) ≡ (nat_le first n && nat_lt n (first + k))
same-test first k n ne = grind (arith, nat_tests)

now-test : (first k n : ℕ) → first + k ≡ n → (nat_le first n && nat_lt n (first + (k + 1))) ≡ true
now-test first k n e = grind (arith, nat_tests)

not-test : (first k n : ℕ) → first + k ≡ n → (nat_le first n && nat_lt n (first + k)) ≡ false
not-test first k n e = grind (arith, nat_tests)

pub one-widened : (first k at : ℕ) (old new : List (Option Span)) (x : Span) (d : Option Span) → first + k < length old → length new ≡ length old → x ≡ with_tick at (get_or new (first + k) d) → AreWidened first k at old new → AreWidened first (k + 1) at old (set new (first + k) (Some x))
one-widened first k at old new x d l same ex w n ln =
    ⊎_elim
    (λ (e : first + k ≡ n).
    (let was : get_or new (first + k) d ≡ get_or old n None = get-any new (first + k) d (omega (arith, l, same)) ∙ (ap (λ (m : ℕ). get_or new m None) e ∙ (w n ln ∙ ap (λ (t : Bool). cond t (Some (with_tick at (get_or old n None))) (get_or old n None)) (not-test first k n e))) in
    subst (λ (m : ℕ). get_or (set new (first + k) (Some x)) m None ≡ cond (nat_le first n && nat_lt n (first + (k + 1))) (Some (with_tick at (get_or old n None))) (get_or old n None)) e
    (get_or-set_same new (first + k) (Some x) None (omega (arith, l, same))
    ∙ (ap Some (ex ∙ ap (with_tick at) was) ∙ ap (λ (t : Bool). cond t (Some (with_tick at (get_or old n None))) (get_or old n None)) (sym (now-test first k n e))))))
    (λ (ne : first + k ≡ n → ⊥).
    get_or-set_other new (first + k) n (Some x) None (λ e. ne (sym e)) ∙ (w n ln ∙ ap (λ (t : Bool). cond t (Some (with_tick at (get_or old n None))) (get_or old n None)) (sym (same-test first k n ne))))
    (cases_eq (first + k) n)
  where
    get-any : (xs : List (Option Span)) (k : ℕ) (d : Option Span) → k < length xs → get_or xs k d ≡ get_or xs k None
    get-any [] k d l = absurd (omega arith)
    get-any (x ∷ xs) zero d l = refl
    get-any (x ∷ xs) (suc k) d l = get-any xs k d (omega arith)

-- ---- all packets

replicate-at : (n m : ℕ) (d : Option Span) → get_or (replicate n d) m d ≡ d
replicate-at zero m d = refl
replicate-at (suc n) zero d = refl
replicate-at (suc n) (suc m) d = replicate-at n m d

pub no-spans : (things count : ℕ) (has : ℕ → Carries → Bool) (packets : List Sent) (spans : List (Option Span)) → count ≡ length packets → spans ≡ replicate things None → AreSpans things has (drop (count - 0) packets) spans
unfolding ticks_with
no-spans things count has packets spans ec e =
    let nothing : Option Span = None in
    record {
      long = ap (λ (xs : List (Option Span)). length xs) e ∙ length-replicate things nothing;
      each = λ n l. ap (λ (xs : List (Option Span)). get_or xs n None) e ∙ (replicate-at things n None ∙ ap (λ (ps : List Sent). span_of_ticks (ticks_with (has n) ps)) (sym (drop_all (count - 0) packets (omega (arith, ec)))));
    }

with-one : (t : ℕ) (ts : List ℕ) → Some (with_tick t (span_of_ticks ts)) ≡ span_of_ticks (t ∷ ts)
unfolding least greatest
with-one t [] = let e : t ≡ max t 0 = omega arith in ap (λ (x : ℕ). Some (record { first = record { 0 = t }; last = record { 0 = x } })) e
with-one t (u ∷ us) = refl

one-has : (has : Carries → Bool) (p : Sent) (ps : List Sent) → cond (has p.carries) (Some (with_tick p.at.0 (span_of_ticks (ticks_with has ps)))) (span_of_ticks (ticks_with has ps)) ≡ span_of_ticks (ticks_with has (p ∷ ps))
unfolding ticks_with
one-has has p ps = go (has p.carries)
  where
    go : (t : Bool) → cond t (Some (with_tick p.at.0 (span_of_ticks (map tick_of_sent (filter (λ q. has q.carries) ps))))) (span_of_ticks (map tick_of_sent (filter (λ q. has q.carries) ps))) ≡ span_of_ticks (map tick_of_sent (cond t (p ∷ filter (λ q. has q.carries) ps) (filter (λ q. has q.carries) ps)))
    go true = with-one p.at.0 (map tick_of_sent (filter (λ q. has q.carries) ps))
    go false = refl

pub one-span : (things count i : ℕ) (has : ℕ → Carries → Bool) (packets : List Sent) (p : Sent) (run : Run) (old new : List (Option Span)) → count ≡ length packets → i < count → p ≡ get_or packets (count - 1 - i) p
    → ((n : ℕ) → n < things → has n p.carries ≡ is_among run n) → length new ≡ length old
    → ((n : ℕ) → n < length old → get_or new n None ≡ cond (is_among run n) (Some (with_tick p.at.0 (get_or old n None))) (get_or old n None))
    → AreSpans things has (drop (count - i) packets) old → AreSpans things has (drop (count - (i + 1)) packets) new
one-span things count i has packets p run old new ec l is among same step before =
    let k : ℕ = count - 1 - i in
    let a : k ≡ count - (i + 1) = omega arith in
    let b : count - i ≡ k + 1 = omega (arith, l) in
    record {
      long = same ∙ before.long;
      each = λ n ln.
          step n (omega (arith, ln, before.long))
          ∙ (ap₂ (λ (t : Bool) (s : Option Span). cond t (Some (with_tick p.at.0 s)) s) (sym (among n ln)) (before.each n ln ∙ ap (λ (m : ℕ). span_of_ticks (ticks_with (has n) (drop m packets))) b)
          ∙ (one-has (has n) p (drop (k + 1) packets)
          ∙ (at-drop (λ (ps : List Sent). span_of_ticks (ticks_with (has n) ps)) packets k p (omega (arith, l, ec)) is ∙ ap (λ (m : ℕ). span_of_ticks (ticks_with (has n) (drop m packets))) a)));
    }

pub all-spans : (things count i : ℕ) (has : ℕ → Carries → Bool) (packets : List Sent) (spans : List (Option Span)) → count ≤ i → AreSpans things has (drop (count - i) packets) spans → AreSpans things has packets spans
all-spans things count i has packets spans l are = let z : count - i ≡ 0 = omega (arith, l) in subst (λ (n : ℕ). AreSpans things has (drop n packets) spans) z are

-- ---- which packets carry which numbers

pub one-run : (v n : ℕ) → (v == n) ≡ (nat_le v n && nat_lt n (v + 1))
one-run v n = grind (arith, nat_tests)

pub no-run : (n : ℕ) → false ≡ (nat_le 0 n && nat_lt n (0 + 0))
no-run n = grind (arith, nat_tests)

none-among : (n : ℕ) (r : Run) → r ≡ record { first = 0; count = 0 } → false ≡ is_among r n
none-among n r e = no-run n ∙ sym (ap (λ (x : Run). is_among x n) e)

-- units
pub whole-unit : (n u : ℕ) (x : Carries) → x ≡ carries.Whole u → has_unit n x ≡ (nat_le u n && nat_lt n (u + 1))
unfolding has_unit
whole-unit n u x e = ap (has_unit n) e ∙ one-run u n

pub fragment-unit : (n u k : ℕ) (x : Carries) → x ≡ carries.Fragment u k → has_unit n x ≡ (nat_le u n && nat_lt n (u + 1))
unfolding has_unit
fragment-unit n u k x e = ap (has_unit n) e ∙ one-run u n

pub group-unit : (n f c : ℕ) (x : Carries) → x ≡ carries.Group f c → has_unit n x ≡ (nat_le f n && nat_lt n (f + c))
unfolding has_unit
group-unit n f c x e = ap (has_unit n) e

pub parameters-unit : (n s : ℕ) (x : Carries) (r : Run) → x ≡ carries.Parameters s → r ≡ record { first = 0; count = 0 } → has_unit n x ≡ is_among r n
unfolding has_unit
parameters-unit n s x r e er = ap (has_unit n) e ∙ none-among n r er

pub table-unit : (n s : ℕ) (x : Carries) (r : Run) → x ≡ carries.Table s → r ≡ record { first = 0; count = 0 } → has_unit n x ≡ is_among r n
unfolding has_unit
table-unit n s x r e er = ap (has_unit n) e ∙ none-among n r er

pub part-unit : (n s k : ℕ) (x : Carries) (r : Run) → x ≡ carries.TablePart s k → r ≡ record { first = 0; count = 0 } → has_unit n x ≡ is_among r n
unfolding has_unit
part-unit n s k x r e er = ap (has_unit n) e ∙ none-among n r er

-- table copies
pub whole-table : (s u n : ℕ) (x : Carries) (r : Run) → x ≡ carries.Whole u → r ≡ record { first = 0; count = 0 } → has_table s x ≡ is_among r n
unfolding has_table
whole-table s u n x r e er = ap (has_table s) e ∙ none-among n r er

pub fragment-table : (s u k n : ℕ) (x : Carries) (r : Run) → x ≡ carries.Fragment u k → r ≡ record { first = 0; count = 0 } → has_table s x ≡ is_among r n
unfolding has_table
fragment-table s u k n x r e er = ap (has_table s) e ∙ none-among n r er

pub group-table : (s f c n : ℕ) (x : Carries) (r : Run) → x ≡ carries.Group f c → r ≡ record { first = 0; count = 0 } → has_table s x ≡ is_among r n
unfolding has_table
group-table s f c n x r e er = ap (has_table s) e ∙ none-among n r er

pub parameters-table : (s t n : ℕ) (x : Carries) (r : Run) → x ≡ carries.Parameters t → r ≡ record { first = 0; count = 0 } → has_table s x ≡ is_among r n
unfolding has_table
parameters-table s t n x r e er = ap (has_table s) e ∙ none-among n r er

differ-by : (cs : List TableCopy) → AreListed cs → Differ cs
differ-by [] l = tt
differ-by (c ∷ cs) l = (each-weaker (λ (d : TableCopy). c.signal < d.signal) (λ (d : TableCopy). c.signal ≡ d.signal → ⊥) cs (λ d lt e. omega (arith, lt, e)) l.0, differ-by cs l.1)

-- a copy is that of a signal if and only if it stands at its place
own-test : (cs : List TableCopy) (s n : ℕ) → AreListed cs → copy_place cs s < length cs → n < length cs → (s == (get_or cs n no_table_copy).signal) ≡ (copy_place cs s == n)
own-test cs s n listed known l =
    ⊎_elim
    (λ (e : copy_place cs s ≡ n). (let at : (get_or cs n no_table_copy).signal ≡ s = ap (λ (k : ℕ). (get_or cs k no_table_copy).signal) (sym e) ∙ has-signal cs s known in eq-eqb s (get_or cs n no_table_copy).signal (sym at) ∙ sym (eq-eqb (copy_place cs s) n e)))
    (λ (ne : copy_place cs s ≡ n → ⊥). ne_eqb s (get_or cs n no_table_copy).signal (λ e. ne (ap (copy_place cs) e ∙ own-copy cs n (differ-by cs listed) l)) ∙ sym (ne_eqb (copy_place cs s) n ne))
    (cases_eq (copy_place cs s) n)

copy-among : (cast : Cast) (s n : ℕ) (r : Run) → AreListed cast.copies → copy_place cast.copies s < length cast.copies → n < length cast.copies → r.first ≡ copy_place cast.copies s → r.count ≡ 1 → (s == (table_copy cast n).signal) ≡ is_among r n
unfolding table_copy
copy-among cast s n r listed known l ef ec =
    own-test cast.copies s n listed known l ∙ (one-run (copy_place cast.copies s) n ∙ ap₂ (λ (f c : ℕ). nat_le f n && nat_lt n (f + c)) (sym ef) (sym ec))

pub table-table : (cast : Cast) (s n : ℕ) (x : Carries) (r : Run) → x ≡ carries.Table s → AreListed cast.copies → copy_place cast.copies s < length cast.copies → n < length cast.copies → r.first ≡ copy_place cast.copies s → r.count ≡ 1 → has_table (table_copy cast n).signal x ≡ is_among r n
unfolding has_table
table-table cast s n x r e listed known l ef ec = ap (has_table (table_copy cast n).signal) e ∙ copy-among cast s n r listed known l ef ec

pub part-table : (cast : Cast) (s k n : ℕ) (x : Carries) (r : Run) → x ≡ carries.TablePart s k → AreListed cast.copies → copy_place cast.copies s < length cast.copies → n < length cast.copies → r.first ≡ copy_place cast.copies s → r.count ≡ 1 → has_table (table_copy cast n).signal x ≡ is_among r n
unfolding has_table
part-table cast s k n x r e listed known l ef ec = ap (has_table (table_copy cast n).signal) e ∙ copy-among cast s n r listed known l ef ec

-- what is known of a packet by what it carries
pub table-known : (cast : Cast) (s : ℕ) (x : Carries) → x ≡ carries.Table s → IsCarriedBy cast x → copy_place cast.copies s < length cast.copies
table-known cast s x e is = subst (IsCarriedBy cast) e is

pub part-known : (cast : Cast) (s k : ℕ) (x : Carries) → x ≡ carries.TablePart s k → IsCarriedBy cast x → copy_place cast.copies s < length cast.copies
part-known cast s k x e is = subst (IsCarriedBy cast) e is

-- a slice that was written back whole
pub written-back : (n : ℕ) (xs ys : List (Option Span)) → n ≡ length ys → length xs ≡ length ys → take n (xs ++ drop (length xs) ys) ≡ xs
written-back n xs ys en e = ap (λ r. take n (xs ++ r)) (drop_all (length xs) ys (omega arith)) ∙ (ap (take n) (append-nil xs) ∙ take_all n xs (omega arith))
