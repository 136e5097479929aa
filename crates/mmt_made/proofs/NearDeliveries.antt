-- What is delivered of the made programme's cast are packets of it, and near ones.
use Rattle.std.proofs.Common.{◌≡◌, ℕ, ◌+◌, ◌-◌, ◌*◌, ◌%◌, ◌^◌, ◌<◌, ◌≤◌, ◌==◌, ◌||◌, nat_lt, suc, zero, Bool, true, false, cond, List, [], ◌∷◌, length, arith, refl, ap, sym, subst}
use Rattle.std.specs.List.{AllByRecursion, flat_map}
use Rattle.std.proofs.lemmas.Bool.{ltb-true}
use Rattle.std.proofs.lemmas.List.{length-append}
use Rattle.mmt_admit.proofs.Sliding.{sorted-at}
use Rattle.mmt_cast.specs.Casting.{cast_of}
use Rattle.mmt_delivery.proofs.Delivering.{short_near}
use Rattle.mmt_made.proofs.Few.{packets-few}
use Rattle.mmt_made.proofs.Lists.{each-flat}
use Rattle.mmt_made.proofs.NoFault.{near-at}
use Rattle.mmt_made.proofs.NoRefusal.{not-refused}
use Rattle.mmt_made.proofs.PlanOrder.{sent-in-order}
use Rattle.mmt_made.proofs.RightMade.{made-right}
use Rattle.mmt_made.specs.Generator.{copies, delivery, made_programme, swapped}
use Rattle.mmt_model.specs.Carrying.{numbers}
use Rattle.mmt_model.specs.Delivery.{from_first, from_heard, reach}
use Rattle.mmt_model.specs.Received.{IsNear, tuned_places, tunes_at}
use Rattle.mmt_model.specs.Survival.{AreOf, sent_at}
use Rattle.mmt_model.specs.declared.casts.Cast.{Cast}
use Rattle.mmt_model.specs.declared.casts.Sent.{Sent}
use Rattle.mmt_model.specs.declared.programmes.Programme.{Programme}

-- ---- places of the cast

swapped-within : (count i : ℕ) → i < count → swapped count i < count
swapped-within count i l = go (i % 2 == 1) (nat_lt (i + 1) count) refl
  where
    go : (odd more : Bool) → nat_lt (i + 1) count ≡ more → cond odd (cond more (i + 1) i) (i - 1) < count
    go true true e = ltb-true (i + 1) count e
    go true false e = l
    go false more e = omega (arith, l)

copies-within : (n count place : ℕ) → place < count → AllByRecursion (λ (d : ℕ). d < count) (copies n place)
copies-within n count place l = go (place % 50 == (7 * n) % 50) (place % 20 == 10)
  where
    go : (a b : Bool) → AllByRecursion (λ (d : ℕ). d < count) (cond a [] (cond b (place ∷ place ∷ []) (place ∷ [])))
    go true b = tt
    go false true = (l, (l, tt))
    go false false = (l, tt)

copies-few : (n place : ℕ) → length (copies n place) ≤ 2
copies-few n place = go (place % 50 == (7 * n) % 50) (place % 20 == 10)
  where
    go : (a b : Bool) → length (cond a [] (cond b (place ∷ place ∷ []) (place ∷ []))) ≤ 2
    go true b = omega arith
    go false true = omega arith
    go false false = omega arith

of-each : (packets : List Sent) (list : List ℕ) → AllByRecursion (λ (d : ℕ). d < length packets) list → AreOf packets list
of-each packets [] h = tt
of-each packets (d ∷ list) h = (h.0, of-each packets list h.1)

delivery-of : (packets : List Sent) (n : ℕ) → AreOf packets (delivery n (length packets))
unfolding delivery
delivery-of packets n =
    of-each packets (delivery n (length packets))
    (each-flat (λ (d : ℕ). d < length packets) (λ (i : ℕ). copies n (swapped (length packets) i)) 0 (length packets)
    (λ i lo hi. copies-within n (length packets) (swapped (length packets) i) (swapped-within (length packets) i (omega (arith, hi)))))

flat-few : (f : ℕ → List ℕ) (j k : ℕ) → ((i : ℕ) → length (f i) ≤ 2) → length (flat_map f (numbers j k)) ≤ 2 * k
unfolding numbers
flat-few f j zero h = omega arith
flat-few f j (suc k) h = omega (arith, length-append (f j) (flat_map f (numbers (j + 1) k)), h j, flat-few f (j + 1) k h)

delivery-few : (n count : ℕ) → length (delivery n count) ≤ 2 * count
unfolding delivery
delivery-few n count = flat-few (λ (i : ℕ). copies n (swapped count i)) 0 count (λ i. copies-few n (swapped count i))

-- ---- near ones

of-first : (packets : List Sent) (test : ℕ → Bool) (ds : List ℕ) → AreOf packets ds → AreOf packets (from_first test ds)
unfolding from_first
of-first packets test [] h = tt
of-first packets test (d ∷ ds) h = go (test d) (of-first packets test ds h.1)
  where
    go : (t : Bool) → AreOf packets (from_first test ds) → AreOf packets (cond t (d ∷ ds) (from_first test ds))
    go true ih = h
    go false ih = ih

of-heard : (packets : List Sent) (full_every : ℕ) (ds : List ℕ) → AreOf packets ds → AreOf packets (from_heard full_every ds)
unfolding from_heard
of-heard packets full_every [] h = tt
of-heard packets full_every (d ∷ ds) h = go ((full_every == 0) || (d % full_every == 0)) (of-heard packets full_every ds h.1)
  where
    go : (t : Bool) → AreOf packets (from_heard full_every ds) → AreOf packets (cond t (d ∷ ds) (from_heard full_every ds))
    go true ih = h
    go false ih = ih

-- all packets are sent less than the reach after the first
close : (n : ℕ) → n < length (cast_of made_programme).packets
    → (sent_at (cast_of made_programme).packets 0 ≤ sent_at (cast_of made_programme).packets n) × (sent_at (cast_of made_programme).packets n < sent_at (cast_of made_programme).packets 0 + reach)
close n l = (sorted-at (cast_of made_programme).packets (sent-in-order made_programme) 0 n (omega arith) l, omega (arith, (near-at n l).1, (near-at 0 (omega (arith, l))).0))

-- each delivery of the made programme's cast is near
near-always : (full_every : ℕ) (list : List ℕ) → AreOf (cast_of made_programme).packets list → IsNear (cast_of made_programme) full_every list
unfolding tuned_places
near-always full_every list of =
    let cast : Cast = cast_of made_programme in
    short_near cast.packets close (from_first (tunes_at cast) (from_heard full_every list)) (of-first cast.packets (tunes_at cast) (from_heard full_every list) (of-heard cast.packets full_every list of))

-- so it is of the made delivery
pub is-near : (programme : Programme) (list : List ℕ) (n : ℕ) → programme ≡ made_programme → list ≡ delivery n (length (cast_of made_programme).packets) → IsNear (cast_of programme) programme.full_every list
is-near programme list n made is =
    subst (λ (p : Programme). IsNear (cast_of p) p.full_every list) (sym made)
    (near-always made_programme.full_every list (subst (AreOf (cast_of made_programme).packets) (sym is) (delivery-of (cast_of made_programme).packets n)))

-- and it has fewer than 2^32 packets, all of them of the cast
pub is-of : (programme : Programme) (list : List ℕ) (n : ℕ) → programme ≡ made_programme → list ≡ delivery n (length (cast_of made_programme).packets) → AreOf (cast_of programme).packets list
is-of programme list n made is =
    subst (λ (p : Programme). AreOf (cast_of p).packets list) (sym made) (subst (AreOf (cast_of made_programme).packets) (sym is) (delivery-of (cast_of made_programme).packets n))

pub is-few : (list : List ℕ) (n : ℕ) → list ≡ delivery n (length (cast_of made_programme).packets) → length list < 2 ^ 32
is-few list n is =
    omega (arith, packets-few made_programme (cast_of made_programme) made-right not-refused refl, delivery-few n (length (cast_of made_programme).packets), ap (λ (l : List ℕ). length l) is)
