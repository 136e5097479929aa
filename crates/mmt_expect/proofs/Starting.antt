-- Where a list begins that stands from its first item on that passes a test.
use Rattle.std.proofs.Common.{◌≡◌, ℕ, ◌<◌, ◌≤◌, zero, suc, Bool, true, false, cond, List, [], ◌∷◌, length, get_or, drop, arith, refl, ap, sym, subst, ◌∙◌}
use Rattle.std.proofs.lemmas.Bool.{cond_both}
use Rattle.std.proofs.Math.ListN.{drop_of_length-le}
use Rattle.std.proofs.Math.Seq.{drop-length}
use Rattle.mmt_expect.specs.Heard.{is_heard}
use Rattle.mmt_model.specs.Delivery.{from_first, from_heard, newest_first, onto}
use Rattle.mmt_model.specs.Received.{tuned_places, tunes_at}
use Rattle.mmt_model.specs.declared.casts.Cast.{Cast}
use Rattle.mmt_model.specs.Survival.{AreOf}
use Rattle.mmt_model.specs.declared.casts.Sent.{Sent}

pub heard-first : (full_every : ℕ) (ds : List ℕ) → from_heard full_every ds ≡ from_first (is_heard full_every) ds
unfolding from_heard from_first
heard-first full_every [] = refl
heard-first full_every (d ∷ ds) = ap (λ r. cond (is_heard full_every d) (d ∷ ds) r) (heard-first full_every ds)

pub first-here : {X : Type 0} (test : X → Bool) (xs : List X) (i : ℕ) (d : X) → i < length xs → test (get_or xs i d) ≡ true → from_first test (drop i xs) ≡ drop i xs
unfolding from_first
first-here test [] i d l t = absurd (omega arith)
first-here test (x ∷ xs) zero d l t = ap (λ b. cond b (x ∷ xs) (from_first test xs)) t
first-here test (x ∷ xs) (suc i) d l t = first-here test xs i d (omega arith) t

pub first-on : {X : Type 0} (test : X → Bool) (xs : List X) (i : ℕ) (d : X) → i < length xs → test (get_or xs i d) ≡ false → from_first test (drop i xs) ≡ from_first test (drop (suc i) xs)
unfolding from_first
first-on test [] i d l t = absurd (omega arith)
first-on test (x ∷ xs) zero d l t = ap (λ b. cond b (x ∷ xs) (from_first test xs)) t
first-on test (x ∷ xs) (suc i) d l t = first-on test xs i d (omega arith) t

pub first-none : {X : Type 0} (test : X → Bool) → from_first test [] ≡ []
unfolding from_first
first-none test = refl

-- the places of a delivery are of the cast, one by one
pub of-at : (packets : List Sent) (ds : List ℕ) (i d : ℕ) → AreOf packets ds → i < length ds → get_or ds i d < length packets
of-at packets [] i d of l = absurd (omega arith)
of-at packets (x ∷ ds) zero d of l = of.0
of-at packets (x ∷ ds) (suc i) d of l = of-at packets ds i d of.1 (omega arith)

pub of-drop : (packets : List Sent) (ds : List ℕ) (i : ℕ) → AreOf packets ds → AreOf packets (drop i ds)
of-drop packets [] zero of = tt
of-drop packets [] (suc i) of = tt
of-drop packets (x ∷ ds) zero of = of
of-drop packets (x ∷ ds) (suc i) of = of-drop packets ds i of.1

pub heard-here : (full_every : ℕ) (ds : List ℕ) (i d : ℕ) → i < length ds → is_heard full_every (get_or ds i d) ≡ true → from_heard full_every (drop i ds) ≡ drop i ds
heard-here full_every ds i d l t = heard-first full_every (drop i ds) ∙ first-here (is_heard full_every) ds i d l t

pub heard-on : (full_every : ℕ) (ds : List ℕ) (i d : ℕ) → i < length ds → is_heard full_every (get_or ds i d) ≡ false → from_heard full_every (drop i ds) ≡ from_heard full_every (drop (suc i) ds)
heard-on full_every ds i d l t = heard-first full_every (drop i ds) ∙ (first-on (is_heard full_every) ds i d l t ∙ sym (heard-first full_every (drop (suc i) ds)))

-- where none passes, nothing is left
pub first-end : {X : Type 0} (test : X → Bool) (xs : List X) (i : ℕ) → length xs ≤ i → from_first test xs ≡ from_first test (drop i xs) → drop (length xs) xs ≡ from_first test xs
first-end test xs i l e = drop-length xs ∙ sym (e ∙ (ap (from_first test) (drop_of_length-le xs l) ∙ first-none test))

pub heard-none : (full_every : ℕ) (ds : List ℕ) (i : ℕ) → length ds ≤ i → from_heard full_every ds ≡ from_heard full_every (drop i ds) → drop (length ds) ds ≡ from_heard full_every ds
heard-none full_every ds i l e = first-end (is_heard full_every) ds i l (sym (heard-first full_every ds) ∙ (e ∙ heard-first full_every (drop i ds))) ∙ sym (heard-first full_every ds)

-- ---- what places of a cast stay such

pub of-first : (packets : List Sent) (test : ℕ → Bool) (ds : List ℕ) → AreOf packets ds → AreOf packets (from_first test ds)
unfolding from_first
of-first packets test [] of = tt
of-first packets test (d ∷ ds) of = cond_both (test d) (d ∷ ds) (from_first test ds) (AreOf packets) (λ t. of) (λ t. of-first packets test ds of.1)

of-onto : (packets : List Sent) (ds older : List ℕ) → AreOf packets ds → AreOf packets older → AreOf packets (onto ds older)
unfolding onto
of-onto packets [] older of o = o
of-onto packets (d ∷ ds) older of o = of-onto packets ds (d ∷ older) of.1 (of.0, o)

pub of-tuned : (cast : Cast) (full_every : ℕ) (ds : List ℕ) → AreOf cast.packets ds → AreOf cast.packets (newest_first (tuned_places cast full_every ds))
unfolding newest_first tuned_places
of-tuned cast full_every ds of =
    of-onto cast.packets (from_first (tunes_at cast) (from_heard full_every ds)) []
    (of-first cast.packets (tunes_at cast) (from_heard full_every ds) (subst (AreOf cast.packets) (sym (heard-first full_every ds)) (of-first cast.packets (is_heard full_every) ds of))) tt

pub of-tuned-list : (cast : Cast) (full_every : ℕ) (ds : List ℕ) → AreOf cast.packets ds → AreOf cast.packets (tuned_places cast full_every ds)
unfolding tuned_places
of-tuned-list cast full_every ds of =
    of-first cast.packets (tunes_at cast) (from_heard full_every ds) (subst (AreOf cast.packets) (sym (heard-first full_every ds)) (of-first cast.packets (is_heard full_every) ds of))

-- places of a cast, one by one, are a list of them
pub of-each : (packets : List Sent) (ds : List ℕ) → ((k : ℕ) → k < length ds → get_or ds k 0 < length packets) → AreOf packets ds
of-each packets [] h = tt
of-each packets (d ∷ ds) h = (h 0 (omega arith), of-each packets ds (λ k l. h (suc k) (omega arith)))
