-- The table copies of a cast: each table has one, which stands in the packets of its sending.
use Rattle.std.proofs.Common.{◌≡◌, ℕ, ◌+◌, ◌<◌, zero, suc, Bool, true, false, ◌==◌, ◌⊎◌, inl, inr, cond, List, [], ◌∷◌, ◌++◌, map, length, get_or, arith, refl, ap, sym, ◌∙◌, subst, true≢false}
use Rattle.std.specs.List.{AllByRecursion}
use Rattle.std.proofs.lemmas.Bool.{eq-eqb, eqb-true, ne_eqb}
use Rattle.mmt_cast.proofs.Listing.{IsIn, each-at, each-in, in-left, at-map_from_0, in-at, in-split, length-map_from}
use Rattle.mmt_cast.proofs.Placed.{each-flat_map_from, in-flat_map_from}
use Rattle.mmt_cast.specs.Casting.{copies_as_sent, copy_as_sent, place_of_mpu, span_of_table}
use Rattle.mmt_cast.specs.Placing.{all_mpus, all_units, flat_map_from, map_from}
use Rattle.mmt_cast.specs.Right.{no_signal, signal_at}
use Rattle.mmt_cast.specs.Sending.{Sending, sending_of_signal, sendings, sendings_of_units}
use Rattle.mmt_cast.specs.Tables.{table_message_length}
use Rattle.mmt_base.specs.declared.ticks.LongTick.{LongTick}
use Rattle.mmt_model.specs.Carrying.{copy_place, no_table_copy}
use Rattle.mmt_model.specs.declared.casts.TableCopy.{TableCopy}
use Rattle.mmt_model.specs.declared.programmes.Programme.{Programme}
use Rattle.mmt_model.specs.declared.programmes.Signal.{Signal}
use Rattle.mmt_model.specs.declared.programmes.Signal.TheVariants as signals

-- the copy of a table
abbrev pub copy_of : Programme → ℕ → List (ℕ × ℕ) → TableCopy
copy_of programme s names =
    record {
      signal = s;
      names = map (place_of_mpu (all_mpus programme)) names;
      first = (span_of_table programme s).first;
      last = (span_of_table programme s).last;
      first_number = (span_of_table programme s).first_number;
      count = (span_of_table programme s).count;
    }

-- a copy is that of a table of the programme
pub record IsCopy (programme : Programme) (y : TableCopy) : Type 0 where
  pub of : y.signal < length programme.signals
  pub at : LongTick
  pub names : List (ℕ × ℕ)
  pub table : signal_at programme y.signal ≡ signals.Table at names
  pub is : y ≡ copy_of programme y.signal names

copies-of : (programme : Programme) (s : ℕ) (signal : Signal) → s < length programme.signals → signal_at programme s ≡ signal → AllByRecursion (IsCopy programme) (copy_as_sent programme s signal)
unfolding copy_as_sent
copies-of programme s (signals.Parameters at) l e = tt
copies-of programme s (signals.Table at names) l e = (record { of = l; at = at; names = names; table = e; is = refl }, tt)

pub are-copies : (programme : Programme) → AllByRecursion (IsCopy programme) (copies_as_sent programme)
unfolding copies_as_sent signal_at
are-copies programme =
    each-flat_map_from (IsCopy programme) (copy_as_sent programme) 0 programme.signals no_signal
    (λ j l. copies-of programme (0 + j) (get_or programme.signals j no_signal) (omega arith) (let z : 0 + j ≡ j = omega arith in ap (λ k. get_or programme.signals k no_signal) z))

-- the copies have different signals
abbrev pub Differ : List TableCopy → Type 0
Differ [] = Unit {0}
Differ (x ∷ xs) = AllByRecursion (λ (y : TableCopy). x.signal ≡ y.signal → ⊥) xs × Differ xs

from-signal : (programme : Programme) (n m : ℕ) (xs : List Signal) → n < m → AllByRecursion (λ (y : TableCopy). n ≡ y.signal → ⊥) (flat_map_from (copy_as_sent programme) m xs)
unfolding flat_map_from copy_as_sent
from-signal programme n m [] l = tt
from-signal programme n m (signals.Parameters at ∷ xs) l = from-signal programme n (m + 1) xs (omega arith)
from-signal programme n m (signals.Table at names ∷ xs) l = ((λ e. omega arith), from-signal programme n (m + 1) xs (omega arith))

differ-from : (programme : Programme) (n : ℕ) (xs : List Signal) → Differ (flat_map_from (copy_as_sent programme) n xs)
unfolding flat_map_from copy_as_sent
differ-from programme n [] = tt
differ-from programme n (signals.Parameters at ∷ xs) = differ-from programme (n + 1) xs
differ-from programme n (signals.Table at names ∷ xs) = (from-signal programme n (n + 1) xs (omega arith), differ-from programme (n + 1) xs)

pub differ : (programme : Programme) → Differ (copies_as_sent programme)
unfolding copies_as_sent
differ programme = differ-from programme 0 programme.signals

pub own-copy : (cs : List TableCopy) (c : ℕ) → Differ cs → c < length cs → copy_place cs (get_or cs c no_table_copy).signal ≡ c
unfolding copy_place
own-copy [] c d l = absurd (omega arith)
own-copy (x ∷ xs) zero d l = ap (λ (t : Bool). cond t 0 (suc (copy_place xs x.signal))) (eq-eqb x.signal x.signal refl)
own-copy (x ∷ xs) (suc c) d l =
    let y : TableCopy = get_or xs c no_table_copy in
    let ne = each-at (λ (y : TableCopy). x.signal ≡ y.signal → ⊥) xs c no_table_copy d.0 (omega arith) in
    ap (λ (t : Bool). cond t 0 (suc (copy_place xs y.signal))) (ne_eqb x.signal y.signal ne) ∙ ap suc (own-copy xs c d.1 (omega arith))

in-place : (cs : List TableCopy) (y : TableCopy) → Differ cs → IsIn y cs → (copy_place cs y.signal < length cs) × (get_or cs (copy_place cs y.signal) no_table_copy ≡ y)
unfolding copy_place
in-place [] y d i = absurd i
in-place (x ∷ xs) y d i = go (x.signal == y.signal) refl i (in-place xs y d.1)
  where
    go : (t : Bool) → (x.signal == y.signal) ≡ t → (x ≡ y) ⊎ IsIn y xs → (IsIn y xs → (copy_place xs y.signal < length xs) × (get_or xs (copy_place xs y.signal) no_table_copy ≡ y))
        → (cond t 0 (suc (copy_place xs y.signal)) < suc (length xs)) × (get_or (x ∷ xs) (cond t 0 (suc (copy_place xs y.signal))) no_table_copy ≡ y)
    go true e (inl same) ih = (omega arith, same)
    go true e (inr later) ih = absurd (each-in (λ (y : TableCopy). x.signal ≡ y.signal → ⊥) y xs d.0 later (eqb-true x.signal y.signal e))
    go false e (inl same) ih = absurd (true≢false (sym (eq-eqb x.signal y.signal (ap (λ (z : TableCopy). z.signal) same)) ∙ e))
    go false e (inr later) ih = let r = ih later in (omega (arith, r.0), r.1)

-- each table has a copy
pub table-copied : (programme : Programme) (s : ℕ) (at : LongTick) (names : List (ℕ × ℕ)) → s < length programme.signals → signal_at programme s ≡ signals.Table at names
    → (copy_place (copies_as_sent programme) s < length (copies_as_sent programme)) × (get_or (copies_as_sent programme) (copy_place (copies_as_sent programme) s) no_table_copy ≡ copy_of programme s names)
unfolding copies_as_sent signal_at copy_as_sent
table-copied programme s at names l e =
    let y : TableCopy = copy_of programme s names in
    let z : s ≡ 0 + s = omega arith in
    in-place (flat_map_from (copy_as_sent programme) 0 programme.signals) y (differ-from programme 0 programme.signals)
    (in-flat_map_from (copy_as_sent programme) 0 programme.signals s no_signal y l
    (subst (λ k. IsIn y (copy_as_sent programme k (get_or programme.signals s no_signal))) z
    (subst (λ signal. IsIn y (copy_as_sent programme s signal)) (sym e) (inl refl))))

-- the sending of a table
pub record IsTableIn (programme : Programme) (s at : ℕ) (names : List (ℕ × ℕ)) : Type 0 where
  pub front : List Sending
  pub back : List Sending
  pub is : sendings programme ≡ front ++ Sending.Table s at (table_message_length programme names) ∷ back

pub table-in : (programme : Programme) (s : ℕ) (at : LongTick) (names : List (ℕ × ℕ)) → s < length programme.signals → signal_at programme s ≡ signals.Table at names → IsTableIn programme s at.0 names
unfolding sendings signal_at sending_of_signal
table-in programme s at names l e =
    let x : Sending = Sending.Table s at.0 (table_message_length programme names) in
    let heads : List Sending = map_from (sending_of_signal programme) 0 programme.signals in
    let here : get_or heads s (Sending.Parameters 0 0) ≡ x = at-map_from_0 (sending_of_signal programme) programme.signals s no_signal (Sending.Parameters 0 0) l ∙ ap (sending_of_signal programme s) e in
    let i : IsIn x heads = subst (λ y. IsIn y heads) here (in-at heads s (Sending.Parameters 0 0) (omega (arith, l, length-map_from (sending_of_signal programme) 0 programme.signals))) in
    let s = in-split x (heads ++ sendings_of_units programme 0 0 (all_units programme)) (in-left x heads (sendings_of_units programme 0 0 (all_units programme)) i) in
    record { front = s.0; back = s.1; is = s.2 }
