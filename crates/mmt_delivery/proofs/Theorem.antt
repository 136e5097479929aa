-- The theorem of casts.
use Rattle.std.proofs.Common.{◌≡◌, ℕ, ◌≤◌, List, [], ◌∷◌, map, sum_by, arith, ap, ◌∙◌}
use Rattle.mmt_base.specs.Ticks.{low}
use Rattle.mmt_delivery.proofs.Admitted.{IsAdmitted}
use Rattle.mmt_delivery.proofs.Admitting.{apart, sound}
use Rattle.mmt_delivery.proofs.Carried.{formed}
use Rattle.mmt_delivery.proofs.Delivering.{delivers, history, holds, near-nothing, of-nothing, outcomes, room_of}
use Rattle.mmt_delivery.proofs.Faultless.{admitted}
use Rattle.mmt_delivery.proofs.Held.{begins-older, held}
use Rattle.mmt_delivery.proofs.Kept.{kept-held, sum-map_heard, sum_held}
use Rattle.mmt_delivery.proofs.Premises.{Begins, IsNear}
use Rattle.mmt_delivery.specs.Laws.{Delivers, HoldsAlways, IsReceiver, OutcomesAre, PeakFits}
use Rattle.mmt_model.specs.Broadcast.{Broadcast}
use Rattle.mmt_model.specs.Carrying.{broadcast_of}
use Rattle.mmt_model.specs.Delivery.{newest_first, start_of}
use Rattle.mmt_model.specs.Keeping.{kept, peak}
use Rattle.mmt_model.specs.Packets.{Heard}
use Rattle.mmt_model.specs.Survival.{AreOf, SentPackets, heard_of, latest, length_of, load}
use Rattle.mmt_model.specs.declared.programmes.Params.{Params}

pub theorem : Delivers
theorem names_in cast contents k ok right receiver full_every tunes delivery of near =
    let a = admitted cast contents names_in ok right in
    delivers names_in (broadcast_of cast contents) cast.params k a (formed cast contents names_in right (apart (broadcast_of cast contents) cast.params a)) receiver full_every tunes delivery of near

pub at_each_moment : HoldsAlways
at_each_moment names_in cast contents k ok right receiver ds after of near =
    let a = admitted cast contents names_in ok right in
    holds names_in (broadcast_of cast contents) cast.params k a (formed cast contents names_in right (apart (broadcast_of cast contents) cast.params a)) receiver ds after of near

pub outcomes_are : OutcomesAre
outcomes_are names_in cast contents k ok right receiver ds d after of near =
    let a = admitted cast contents names_in ok right in
    outcomes names_in (broadcast_of cast contents) cast.params k a (formed cast contents names_in right (apart (broadcast_of cast contents) cast.params a)) receiver ds d after of near

peak-fits : (broadcast : Broadcast) (r k : Params) (start : ℕ) (hist : List ℕ) → IsAdmitted broadcast r → IsReceiver r k → AreOf broadcast.cast.packets.sent hist → Begins broadcast.cast.packets.sent start hist → IsNear broadcast.cast.packets.sent start hist
    → peak k (low start) (map (heard_of broadcast.cast.packets) hist) ≤ r.bound
unfolding peak
peak-fits broadcast r k start [] admitted receiver o b near = omega arith
peak-fits broadcast r k start (n ∷ older) admitted receiver o b near =
    let p : SentPackets = broadcast.cast.packets in
    let s = sound broadcast r k admitted receiver.window receiver.delay receiver.bound in
    let bytes = sum_held p k start (n ∷ older) s.short_delay o b in
    let room = room_of broadcast r k start (n ∷ older) admitted o b (omega (arith, bytes, ap (λ w. load p.sent w (latest p.sent start (n ∷ older))) receiver.window)) in
    let e : sum_by (λ (h : Heard). h.length) (kept k (low start) (map (heard_of p) (n ∷ older))) ≡ sum_by (length_of p.sent) (held p k start (n ∷ older)) =
    ap (sum_by (λ (h : Heard). h.length)) (kept-held p k start (n ∷ older) s o b near) ∙ sum-map_heard p (held p k start (n ∷ older)) in
    omega (arith, e, room, peak-fits broadcast r k start older admitted receiver o.1 (begins-older p start n older b) near.0)

pub peak_fits : PeakFits
peak_fits names_in cast contents k ok right receiver ds of near =
    let b : Broadcast = broadcast_of cast contents in
    let h = history b ds [] (of-nothing b.cast.packets ds of) (near-nothing b.cast.packets ds near) in
    peak-fits b cast.params k (start_of cast.packets ds) (newest_first ds) (admitted cast contents names_in ok right) receiver h.of h.begins h.near
