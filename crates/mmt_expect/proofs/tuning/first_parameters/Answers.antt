use Rattle.std.proofs.Common.{List, arith, sym, ◌∙◌, ap, add-one, drop, get_or, length}
use Rattle.mmt_model.specs.Admission.{has_parameters}
use Rattle.mmt_model.specs.Delivery.{from_first}
use Rattle.mmt_model.specs.Received.{tunes_at}
use Rattle.mmt_model.specs.Survival.{no_packet}
use Rattle.mmt_model.specs.declared.casts.Sent.{Sent}
use Rattle.mmt_expect.proofs.Starting.{first-end, first-here, first-on, of-at}
use Rattle.mmt_expect.proofs.tuning.first_parameters.Goals as goal

pub carries_at-requires : goal.carries_at-requires
carries_at-requires c =
    let here = of-at c.args.cast.now.packets c.args.list.now c.loop-i.i 0 c.requires (omega arith) in
    omega (arith, here, ap (λ (xs : List Sent). length xs) c.as_slice-packets.ensures)

pub returns-then-is_parameters-clause-rest : goal.returns-then-is_parameters-clause-rest
unfolding tunes_at
returns-then-is_parameters-clause-rest c =
    sym (c.loop-i.invariant ∙ first-here (tunes_at c.args.cast.now) c.args.list.now c.loop-i.i 0 (omega arith) (ap (λ (xs : List Sent). has_parameters (get_or xs (get_or c.args.list.now c.loop-i.i 0) no_packet).carries) (sym c.as_slice-packets.ensures) ∙ (ap has_parameters (sym c.carries_at.ensures) ∙ (sym c.is_parameters.ensures ∙ c.if-is_parameters.true))))

pub loop-i-preserved : goal.loop-i-preserved
unfolding tunes_at
loop-i-preserved c =
    c.loop-i.invariant ∙ (first-on (tunes_at c.args.cast.now) c.args.list.now c.loop-i.i 0 (omega arith) (ap (λ (xs : List Sent). has_parameters (get_or xs (get_or c.args.list.now c.loop-i.i 0) no_packet).carries) (sym c.as_slice-packets.ensures) ∙ (ap has_parameters (sym c.carries_at.ensures) ∙ (sym c.is_parameters.ensures ∙ c.if-is_parameters.false)))
    ∙ ap (λ k. from_first (tunes_at c.args.cast.now) (drop k c.args.list.now)) (sym (add-one c.loop-i.i)))

pub returns-clause-rest : goal.returns-clause-rest
returns-clause-rest c = first-end (tunes_at c.args.cast.now) c.args.list.now c.loop-i.i (omega arith) c.loop-i.invariant
