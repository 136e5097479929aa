use Rattle.std.proofs.Common.{ap, ap₂, sym, subst, ◌∙◌, arith, length}
use Rattle.mmt_casting.proofs.UnitTimes.{item-time, mpu-few, mpu-timed, scale-some, timed-time}
use Rattle.mmt_casting.specs.Places.{placed_at}
use Rattle.mmt_casting.specs.Timed.{IsTimed, sample_time}
use Rattle.mmt_model.specs.declared.programmes.Asset.{Asset}
use Rattle.mmt_model.specs.declared.programmes.Mpu.{Mpu}
use Rattle.mmt_model.specs.declared.programmes.Unit.{Unit as PlannedUnit}
use Rattle.mmt_casting.proofs.units.unit_time.Goals as goal

pub sample_time-requires-clause-few : goal.sample_time-requires-clause-few
sample_time-requires-clause-few c =
    omega (arith, mpu-few c.args.programme.now c.requires.right c.args.spot c.requires.spot c.requires.inside, ap (λ (m : Mpu). length m.aus) c.mpu_of-mpu.ensures)

pub sample_time-requires-clause-some : goal.sample_time-requires-clause-some
sample_time-requires-clause-some c =
    omega (arith, scale-some c.args.programme.now c.requires.right c.args.spot.asset c.requires.inside, ap (λ (x : Asset). x.timescale) c.asset_of.ensures)

pub sample_time-requires-clause-timed : goal.sample_time-requires-clause-timed
sample_time-requires-clause-timed c =
    subst (λ (m : Mpu). IsTimed m c.asset_of.result.now.timescale) (sym c.mpu_of-mpu.ensures)
    (subst (λ (x : Asset). IsTimed (placed_at c.args.programme.now c.args.spot).value x.timescale) (sym c.asset_of.ensures)
    (mpu-timed c.args.programme.now c.args.spot c.requires.timed c.requires.spot c.requires.inside))

pub returns-in-Timed : goal.returns-in-Timed
returns-in-Timed c =
    timed-time c.args.programme.now c.args.spot c.in-Timed.movie_fragment c.in-Timed.sample c.in-Timed.offset c.sample_time.result.0 c.requires.spot c.requires.inside
    (sym (ap (λ (x : PlannedUnit). x.key) c.unit_of.ensures) ∙ c.in-Timed.is)
    (c.sample_time.ensures ∙ ap₂ (λ (m : Mpu) (x : Asset). sample_time m x.timescale c.in-Timed.sample) c.mpu_of-mpu.ensures c.asset_of.ensures)

pub returns-in-Item : goal.returns-in-Item
returns-in-Item c =
    item-time c.args.programme.now c.args.spot c.in-Item.item c.mpu_of-mpu.result.now.time.0 c.requires.spot c.requires.inside
    (sym (ap (λ (x : PlannedUnit). x.key) c.unit_of.ensures) ∙ c.in-Item.is) (ap (λ (m : Mpu). m.time.0) c.mpu_of-mpu.ensures)
