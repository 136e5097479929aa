use Rattle.std.proofs.Common.{◌≡◌, ◌∷◌, ◌++◌, List, [], ℕ, Option, arith, refl, get_or, sym, subst, below_more}
use Rattle.mmt_model.specs.declared.casts.Cast.{Cast}
use Rattle.mmt_pace.specs.Recast.{IsItsCast}
use Rattle.mmt_plan.proofs.Fronts.{stays_on}
use Rattle.mmt_plan.proofs.Passes.{before}
use Rattle.mmt_sent.specs.Stream.{packet_sent, stream}
use Rattle.mmt_send.specs.Files.{files_on}
use Rattle.mmt_model.specs.Survival.{no_packet}
use Rattle.mmt_send.specs.Held.{AreHeld}
use Rattle.mmt_send.specs.Writes.{AddsFront, HasBegun, pieces}
use Rattle.mmt_send.proofs.AllHeld.{all-whole}
use Rattle.mmt_send.proofs.WholeStream.{has-begun, none-begun, on-err, sent-all, sent-more, sent-none, told-before, unread-on}
use Rattle.mmt_send.proofs.sending.send.Goals as goal

pub returns-in_err-sender-clause-begun : goal.returns-in_err-sender-clause-begun
returns-in_err-sender-clause-begun g c t u = on-err _ c.from_residual.result (none-begun (stream c.args.programme.now c.args.cast.now (files_on (g.H.Shelf.file c.args.shelf.now) c.args.programme.now)) (g.P.Port.history c.args.port.now))

pub loop-place-init : goal.loop-place-init
loop-place-init g c = record {
  ready = c.in_ok-sender.ensures;
  sent = λ t u. sent-none c.args.programme.now c.cast.result.now (files_on (g.H.Shelf.file c.args.shelf.now) c.args.programme.now) (g.P.Port.history c.args.port.now);
  held = λ t n below. absurd (omega arith);
  shelf = record { tells = refl; files = λ t. refl; later = omega arith };
  port = record { tells = refl; left = λ t. refl; reads = refl; writes = omega arith };
}

pub returns-in-Err-clause-begun : goal.returns-in-Err-clause-begun
returns-in-Err-clause-begun g c t u =
    subst (λ (k : Cast). HasBegun (g.P.Port.history c.args.port.now) (g.P.Port.history c.write_next.new.port) (stream c.args.programme.now k (files_on (g.H.Shelf.file c.args.shelf.now) c.args.programme.now))) c.cast.ensures.same
    (has-begun c.args.programme.now c.cast.result.now (files_on (g.H.Shelf.file c.args.shelf.now) c.args.programme.now) c.loop-place.place (g.P.Port.history c.args.port.now) (g.P.Port.history c.loop-place.port) (g.P.Port.history c.write_next.new.port) (omega (arith, c.loop-place-test.true, c.len-place-end.ensures)) (c.loop-place.invariant.sent t u)
    (before (λ (file : List ℕ → Option (List ℕ)). AddsFront (g.P.Port.history c.loop-place.port) (g.P.Port.history c.write_next.new.port) (packet_sent c.args.programme.now c.cast.result.now (files_on file c.args.programme.now) c.loop-place.place ∷ [])) c.loop-place.invariant.shelf (λ s. c.in-Err.ensures.front s (told-before (g.P.Port.tells c.args.port.now) (g.P.Port.tells c.loop-place.port) c.loop-place.invariant.port.tells u)) t))

pub loop-place-preserved : goal.loop-place-preserved
loop-place-preserved g c = record {
  ready = c.in-Ok.ensures.ready;
  sent = λ t u.
      sent-more c.args.programme.now c.cast.result.now (files_on (g.H.Shelf.file c.args.shelf.now) c.args.programme.now) c.loop-place.place (g.P.Port.history c.args.port.now) (g.P.Port.history c.loop-place.port) (g.P.Port.history c.write_next.new.port) (c.loop-place.invariant.sent t u)
      (before (λ (file : List ℕ → Option (List ℕ)). (g.P.Port.history c.write_next.new.port) ≡ (g.P.Port.history c.loop-place.port) ++ pieces (packet_sent c.args.programme.now c.cast.result.now (files_on file c.args.programme.now) c.loop-place.place ∷ [])) c.loop-place.invariant.shelf (λ s. c.in-Ok.ensures.sent s (told-before (g.P.Port.tells c.args.port.now) (g.P.Port.tells c.loop-place.port) c.loop-place.invariant.port.tells u)) t);
  held = λ t. below_more (λ (n : ℕ). AreHeld c.args.programme.now (files_on (g.H.Shelf.file c.args.shelf.now) c.args.programme.now) (get_or c.cast.result.now.packets n no_packet).carries) c.loop-place.place (c.loop-place.invariant.held t)
      (before (λ (file : List ℕ → Option (List ℕ)). AreHeld c.args.programme.now (files_on file c.args.programme.now) (get_or c.cast.result.now.packets c.loop-place.place no_packet).carries) c.loop-place.invariant.shelf c.in-Ok.ensures.held t);
  shelf = stays_on c.loop-place.invariant.shelf c.in-Ok.ensures.shelf.tells c.in-Ok.ensures.shelf.files c.in-Ok.ensures.shelf.later;
  port = unread-on c.loop-place.invariant.port c.in-Ok.ensures.port;
}

pub returns-clause-done : goal.returns-clause-done
returns-clause-done g c t u =
    subst (λ (k : Cast). g.P.Port.history c.loop-place.port ≡ g.P.Port.history c.args.port.now ++ pieces (stream c.args.programme.now k (files_on (g.H.Shelf.file c.args.shelf.now) c.args.programme.now))) c.cast.ensures.same
    (sent-all c.args.programme.now c.cast.result.now (files_on (g.H.Shelf.file c.args.shelf.now) c.args.programme.now) c.loop-place.place (g.P.Port.history c.args.port.now) (g.P.Port.history c.loop-place.port) (omega (arith, c.loop-place-test.false, c.loop-place.auto.place-end, c.len-place-end.ensures)) (c.loop-place.invariant.sent t u))

pub returns-clause-whole : goal.returns-clause-whole
returns-clause-whole g c t =
    all-whole c.args.programme.now c.cast.result.now (files_on (g.H.Shelf.file c.args.shelf.now) c.args.programme.now) c.requires.right (subst (IsItsCast c.args.programme.now) (sym c.cast.ensures.same) c.requires.cast)
    (λ n below. c.loop-place.invariant.held t n (omega (arith, c.loop-place-test.false, c.len-place-end.ensures, below)))
