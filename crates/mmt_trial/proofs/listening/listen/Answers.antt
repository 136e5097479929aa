use Rattle.std.proofs.Common.{◌≡◌, ◌<◌, ℕ, List, length, take, get_or, refl, arith, ap, sym, ◌∙◌, subst}
use Rattle.mmt_model.specs.Delivery.{newest_first}
use Rattle.mmt_recv.specs.Receiving.{Stands, summary_of}
use Rattle.mmt_take.specs.Taking.{placed}
use Rattle.mmt_tlv.specs.Framing.{Packet}
use Rattle.mmt_trial.proofs.Heard.{IsNext, all-given, bytes-none, given-long, next-given, placed-none}
use Rattle.mmt_trial.specs.Given.{WasGiven}
use Rattle.mmt_tune.specs.Tuning.{Placed}
use Rattle.mmt_tune.specs.declared.config.Config.{Config}
use Rattle.mmt_trial.proofs.listening.listen.Goals as goal

pub loop-place-init : goal.loop-place-init
loop-place-init c = record {
  config = c.in-Ok.ensures.config;
  at = omega arith;
  given = λ packets fits g. record { stands = subst (λ (l : List Placed). Stands c.in-Ok.receiver l) (sym placed-none) c.in-Ok.ensures.stands; at = sym bytes-none };
}

pub loop-place-preserved : goal.loop-place-preserved
loop-place-preserved c = record {
  config = c.in-Ok-give_at.ensures.config ∙ c.loop-place.invariant.config;
  at = omega (arith, c.in-Ok-give_at.ensures.at, c.loop-place.invariant.at);
  given = λ packets fits g.
      let l : c.loop-place.place-index < length c.args.list.now = omega arith in
      let n : IsNext c.args.sent.now c.args.list.now packets c.loop-place.place-index (get_or c.args.list.now c.loop-place.place-index 0) = next-given c.args.sent.now c.args.list.now packets c.loop-place.place-index _ l refl fits g in
      subst (λ (l : List Packet). WasGiven c.in-Ok-give_at.next l) (sym n.newest)
      (c.in-Ok-give_at.ensures.given (newest_first (take c.loop-place.place-index packets)) n.packet (c.loop-place.invariant.given packets fits g) n.fits n.bytes);
}

pub returns-in-Ok-finish : goal.returns-in-Ok-finish
returns-in-Ok-finish c = λ packets fits g.
    let all = all-given packets c.loop-place.place-index (omega (arith, given-long c.args.sent.now c.args.list.now packets g)) in
    c.in-Ok-finish.ensures.summary (placed (newest_first packets))
    (subst (λ (l : List Packet). Stands c.loop-place.listening.receiver (placed (newest_first l))) all (c.loop-place.invariant.given packets fits g).stands)
    ∙ ap (λ (k : Config). summary_of k (placed (newest_first packets))) c.loop-place.invariant.config
