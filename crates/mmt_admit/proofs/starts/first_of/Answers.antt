use Rattle.std.proofs.Common.{◌≡◌, ◌≤◌, true, false, length, get_or, arith, ap, sym, ◌∙◌}
use Rattle.std.proofs.lemmas.List.{get_or_default}
use Rattle.mmt_admit.proofs.Keys.{first-ends, first-goes_on, first-here}
use Rattle.mmt_model.specs.Admission.{has_parameters}
use Rattle.mmt_model.specs.Survival.{no_packet}
use Rattle.mmt_model.specs.declared.casts.Sent.{Sent}
use Rattle.mmt_admit.proofs.starts.first_of.Goals as goal

pub returns-then-is_parameters : goal.returns-then-is_parameters
returns-then-is_parameters c =
    let is : has_parameters (get_or c.args.packets.now c.loop-n.n no_packet).carries ≡ true =
    ap (λ (p : Sent). has_parameters p.carries) (get_or_default c.args.packets.now c.loop-n.n no_packet _ c.loop-n-test.true) ∙ sym c.if-is_parameters.ensures in
    omega (arith, c.loop-n.invariant, first-here c.args.packets.now c.loop-n.n c.loop-n-test.true is)

pub loop-n-preserved : goal.loop-n-preserved
loop-n-preserved c =
    let is : has_parameters (get_or c.args.packets.now c.loop-n.n no_packet).carries ≡ false =
    ap (λ (p : Sent). has_parameters p.carries) (get_or_default c.args.packets.now c.loop-n.n no_packet _ c.loop-n-test.true) ∙ sym c.if-is_parameters.ensures in
    omega (arith, c.loop-n.invariant, first-goes_on c.args.packets.now c.loop-n.n c.loop-n-test.true is)

pub returns : goal.returns
returns c =
    let past : length c.args.packets.now ≤ c.loop-n.n = omega arith in
    let end : c.loop-n.n ≤ length c.args.packets.now = omega arith in
    omega (arith, c.loop-n.invariant, first-ends c.args.packets.now c.loop-n.n past, end, past)
