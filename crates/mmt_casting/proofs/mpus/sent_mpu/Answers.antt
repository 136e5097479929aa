use Rattle.std.proofs.Common.{arith, ap, ap₂, ◌∙◌, length, max}
use Rattle.std.specs.List.{fold}
use Rattle.mmt_casting.proofs.MpusSent.{mpu-made, units-within}
use Rattle.mmt_casting.proofs.Spots.{mpu-here}
use Rattle.mmt_casting.proofs.UnitTimes.{mpu-few, scale-some}
use Rattle.mmt_casting.specs.Timed.{times_of}
use Rattle.mmt_model.specs.declared.programmes.Asset.{Asset}
use Rattle.mmt_model.specs.declared.programmes.Mpu.{Mpu}
use Rattle.mmt_times.specs.Times.{in_range}
use Rattle.mmt_casting.proofs.mpus.sent_mpu.Goals as goal

pub last_time-time-requires-clause-few : goal.last_time-time-requires-clause-few
last_time-time-requires-clause-few c =
    omega (arith, mpu-few c.args.programme.now c.requires.right c.args.spot c.requires.spot c.requires.inside, ap (λ (m : Mpu). length m.aus) c.mpu_of-mpu.ensures)

pub last_time-time-requires-clause-some : goal.last_time-time-requires-clause-some
last_time-time-requires-clause-some c =
    omega (arith, scale-some c.args.programme.now c.requires.right c.args.spot.asset c.requires.inside, ap (λ (x : Asset). x.timescale) c.asset_of.ensures)

pub least_due-requires-clause-within : goal.least_due-requires-clause-within
least_due-requires-clause-within c =
    units-within c.args.programme.now c.requires.right c.args.spot c.len.result c.args.units.now c.requires.spot c.requires.inside c.requires.first (c.len.ensures ∙ ap (λ (m : Mpu). length m.units) c.mpu_of-mpu.ensures) c.requires.units

pub bounds-named-spot : goal.bounds-named-spot
bounds-named-spot c = omega (arith, c.requires.named.long, (mpu-here c.args.programme.now c.args.spot c.requires.spot c.requires.inside).0)

pub returns : goal.returns
returns c =
    mpu-made c.args.programme.now c.args.spot c.len.result c.last_time-time.result.0 c.args.units.now c.args.named.now c.least_due.result c.long_due_of.result c.requires.spot c.requires.inside c.requires.first
    (c.len.ensures ∙ ap (λ (m : Mpu). length m.units) c.mpu_of-mpu.ensures) c.requires.units c.requires.named c.least_due.ensures
    (c.last_time-time.ensures ∙ ap₂ (λ (m : Mpu) (x : Asset). fold max m.time.0 (in_range (times_of m x.timescale))) c.mpu_of-mpu.ensures c.asset_of.ensures)
    c.long_due_of.ensures
