use Rattle.std.proofs.Common.{◌≡◌, ℕ, List, length, map, arith, ap, sym, ◌∙◌, subst}
use Rattle.mmt_cast.specs.Casting.{cast_of}
use Rattle.mmt_headline.specs.Programmes.{IsSendable}
use Rattle.mmt_model.specs.Received.{IsNear, expected_in}
use Rattle.mmt_model.specs.Survival.{AreOf}
use Rattle.mmt_model.specs.declared.casts.Cast.{Cast}
use Rattle.mmt_model.specs.declared.casts.Sent.{Sent}
use Rattle.mmt_recv.specs.Receiving.{summary_of}
use Rattle.mmt_send.specs.Files.{files_on}
use Rattle.mmt_model.specs.Delivery.{newest_first}
use Rattle.mmt_sent.specs.Stream.{stream}
use Rattle.mmt_take.specs.Taking.{placed}
use Rattle.mmt_tlv.specs.Framing.{spelling}
use Rattle.mmt_tune.specs.declared.config.Config.{Config}
use Rattle.mmt_trial.proofs.Counted.{counted-so, expected-so, keeps-so, tried-is}
use Rattle.mmt_trial.proofs.Taken.{bound-fits, packets-few, sendable}
use Rattle.mmt_trial.specs.Given.{AreGiven}
use Rattle.mmt_trial.specs.Trials.{KeepsBound, counts_of, tried}
use Rattle.mmt_trial.specs.declared.trying.Tried.{Tried}
use Rattle.mmt_trial.proofs.trying.trial.Goals as goal

pub expected_units-requires-clause-of : goal.expected_units-requires-clause-of
expected_units-requires-clause-of g c =
    subst (λ (l : List ℕ). AreOf c.cast-whole.result.now.packets l) (sym c.as_slice-list.ensures) (subst (λ (k : Cast). AreOf k.packets c.args.deliveries.now) (sym c.cast-whole.ensures.same) c.requires.of)

pub listen-requires-clause-bound : goal.listen-requires-clause-bound
listen-requires-clause-bound g c =
    omega (arith, bound-fits c.args.programme.now c.cast-whole.result.now (c.cast-whole.ensures.same ∙ c.requires.cast) c.cast-whole.ensures.admitted, ap (λ (k : Config). k.bound) c.receiver_of.ensures)

pub overflow_cast-sent : goal.overflow_cast-sent
overflow_cast-sent g c =
    omega (arith, packets-few c.args.programme.now c.cast-whole.result.now c.requires.right c.requires.none (c.cast-whole.ensures.same ∙ c.requires.cast), c.len-sent.ensures)

pub returns-clause-tried : goal.returns-clause-tried
returns-clause-tried g c = λ t.
    let p = c.args.programme.now in
    let files = files_on (g.H.Shelf.file c.args.shelf.now) p in
    let list = c.args.deliveries.now in
    let is : c.cast-whole.result.now ≡ cast_of p = c.cast-whole.ensures.same ∙ c.requires.cast in
    let ok : IsSendable p (cast_of p) files = sendable p files c.cast-whole.result.now c.requires.right c.requires.none is c.cast-whole.ensures.admitted (c.in-Ok.ensures.whole t) in
    let of : AreOf (cast_of p).packets list = subst (λ (k : Cast). AreOf k.packets list) c.requires.cast c.requires.of in
    let counts : c.in-Ok-listen.counts ≡ counts_of p files list =
    counted-so p files list c.in-Ok.sent c.in-Ok-listen.counts ok of (c.in-Ok.ensures.sent t ∙ ap (λ (k : Cast). map spelling (stream p k files)) c.requires.cast)
    (λ packets fits given. c.in-Ok-listen.ensures packets fits (subst (λ (l : List ℕ). AreGiven c.in-Ok.sent l packets) (sym c.as_slice-list.ensures) given) ∙ ap (λ (k : Config). summary_of k (placed (newest_first packets))) c.receiver_of.ensures) in
    let expected = expected-so p files list c.cast-whole.result.now c.in-Ok-expected_units.expected ok is
    (λ contents names right. c.in-Ok-expected_units.ensures contents names right ∙ ap (λ (l : List ℕ). length (expected_in c.cast-whole.result.now contents p.full_every l)) c.as_slice-list.ensures) in
    c.put_together.ensures.numbers
    ∙ tried-is p files list c.len-sent.result (length c.as_slice-list.result.now) c.in-Ok-expected_units.expected c.in-Ok-listen.counts
    (c.len-sent.ensures ∙ ap (λ (k : Cast). length k.packets) is) (ap (λ (l : List ℕ). length l) c.as_slice-list.ensures) expected counts

pub returns-clause-bound : goal.returns-clause-bound
returns-clause-bound g c = λ t near.
    let p = c.args.programme.now in
    let files = files_on (g.H.Shelf.file c.args.shelf.now) p in
    let list = c.args.deliveries.now in
    let ok : IsSendable p (cast_of p) files = sendable p files c.cast-whole.result.now c.requires.right c.requires.none (c.cast-whole.ensures.same ∙ c.requires.cast) c.cast-whole.ensures.admitted (c.in-Ok.ensures.whole t) in
    keeps-so c.programmes_are_received.ensures c.receivers_have_room.ensures p files list c.args.cast.now c.put_together.result ok c.requires.cast c.requires.of near
    (omega (arith, c.put_together.ensures.small, ap (λ (x : Tried). x.expected) c.put_together.ensures.numbers)) (returns-clause-tried g c t)
