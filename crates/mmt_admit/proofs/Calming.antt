-- In a stretch of ticks no more MPUs are live at a tick than may be live in all of it.
use Rattle.std.proofs.Common.{◌≡◌, ℕ, ◌<◌, ◌≤◌, Bool, true, false, ◌&&◌, nat_le, nat_lt, cond, List, [], ◌∷◌, arith, refl, ap, sym, subst, Option, Some, None}
use Rattle.std.specs.List.{count_by}
use Rattle.std.proofs.lemmas.Bool.{and_from, and_parts, le-leb, leb-true, lt-ltb, ltb-true, true≢false}
use Rattle.std.proofs.lemmas.List.Sums.{sum_by-cons}
use Rattle.mmt_admit.specs.Calm.{IsCalm, live_between}
use Rattle.mmt_admit.specs.declared.live.Calm.{Calm}
use Rattle.mmt_base.specs.declared.ticks.LongTick.{LongTick}
use Rattle.mmt_model.specs.Admission.{fault_of_live, is_named_by, live_at, unless}
use Rattle.mmt_model.specs.Carrying.{table_copy}
use Rattle.mmt_model.specs.declared.casts.Cast.{Cast}
use Rattle.mmt_model.specs.declared.casts.SentMpu.{SentMpu}

count-le : {X : Type 0} (p q : X → Bool) → ((x : X) → p x ≡ true → q x ≡ true) → (xs : List X) → count_by p xs ≤ count_by q xs
count-le p q h [] = omega arith
count-le {X} p q h (x ∷ xs) = omega (arith, sum_by-cons (λ (y : X). cond (p y) 1 0) x xs, sum_by-cons (λ (y : X). cond (q y) 1 0) x xs, count-le p q h xs, one (p x) (q x) (h x))
  where
    one : (a b : Bool) → (a ≡ true → b ≡ true) → cond a 1 0 ≤ cond b 1 0
    one true true i = omega arith
    one true false i = absurd (true≢false (sym (i refl)))
    one false b i = omega arith

named-later : (tick high : ℕ) (from : Option LongTick) → tick ≤ high → is_named_by tick from ≡ true → is_named_by high from ≡ true
named-later tick high None l e = absurd (true≢false (sym e))
named-later tick high (Some from) l e = le-leb from.0 high (omega (arith, l, leb-true from.0 tick e))

pub live-within : (mpus : List SentMpu) (low high tick : ℕ) → low ≤ tick → tick ≤ high → live_at mpus tick ≤ live_between mpus low high
unfolding live_at live_between
live-within mpus low high tick l h =
    count-le (λ (m : SentMpu). is_named_by tick m.named_from && nat_lt tick m.last.0) (λ (m : SentMpu). is_named_by high m.named_from && nat_lt low m.last.0)
    (λ (m : SentMpu) e. (let both = and_parts (is_named_by tick m.named_from) (nat_lt tick m.last.0) e in
    and_from (is_named_by high m.named_from) (nat_lt low m.last.0) (named-later tick high m.named_from h both.0) (lt-ltb low m.last.0 (omega (arith, l, ltb-true tick m.last.0 both.1))))) mpus

-- no tick stands in an empty stretch
pub none-calm : (mpus : List SentMpu) (calm : Calm) → calm.high < calm.low → IsCalm mpus calm
none-calm mpus calm e = record { few = λ tick l h. absurd (omega (arith, e, l, h)) }

pub stretch-calm : (mpus : List SentMpu) (calm : Calm) (count : ℕ) → count ≡ live_between mpus calm.low calm.high → count ≤ 1024 → IsCalm mpus calm
stretch-calm mpus calm count e few = record { few = λ tick l h. omega (arith, e, few, live-within mpus calm.low calm.high tick l h) }

-- where a copy ends in such a stretch, it has no fault
pub copy-calm : (cast : Cast) (c tick : ℕ) (calm : Calm) → tick ≡ (table_copy cast c).last.0 → IsCalm cast.mpus calm → calm.low ≤ tick → tick ≤ calm.high → fault_of_live cast c ≡ None
unfolding fault_of_live
copy-calm cast c tick calm e is l h =
    let last : ℕ = (table_copy cast c).last.0 in
    let few : live_at cast.mpus last ≤ 1024 = is.few last (omega (arith, e, l)) (omega (arith, e, h)) in
    ap (λ b. unless b 7 c (live_at cast.mpus last) 1024) (le-leb (live_at cast.mpus last) 1024 few)

passes : (b : Bool) (rule number found allowed : ℕ) → unless b rule number found allowed ≡ None → b ≡ true
passes true rule number found allowed e = refl
passes false rule number found allowed e = absurd cc

-- where it has no fault, its last tick is such a stretch
pub tick-calm : (cast : Cast) (c tick : ℕ) (calm : Calm) → tick ≡ (table_copy cast c).last.0 → None ≡ fault_of_live cast c → calm.low ≡ tick → calm.high ≡ tick → IsCalm cast.mpus calm
unfolding fault_of_live
tick-calm cast c tick calm e none low high =
    let last : ℕ = (table_copy cast c).last.0 in
    let few : live_at cast.mpus last ≤ 1024 = leb-true (live_at cast.mpus last) 1024 (passes (nat_le (live_at cast.mpus last) 1024) 7 c (live_at cast.mpus last) 1024 (sym none)) in
    record { few = λ t l h. (let same : t ≡ last = omega (arith, l, h, low, high, e) in subst (λ n. live_at cast.mpus n ≤ 1024) (sym same) few) }
