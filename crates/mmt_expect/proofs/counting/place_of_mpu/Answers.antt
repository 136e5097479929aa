use Rattle.std.proofs.Common.{◌+◌, ◌<◌, length, arith, ap, ap₂, ◌∙◌}
use Rattle.mmt_casting.proofs.Starting.{start-read, starts-long}
use Rattle.mmt_casting.specs.Spans.{start_of}
use Rattle.mmt_expect.proofs.MpuPlaces.{mpu-is}
use Rattle.mmt_model.specs.declared.casts.SentUnit.{SentUnit}
use Rattle.mmt_expect.proofs.counting.place_of_mpu.Goals as goal

pub bounds-starts-sent : goal.bounds-starts-sent
bounds-starts-sent c =
    let of = mpu-is c.args.programme.now c.args.cast.now c.args.unit c.requires.cast c.requires.unit in
    omega (arith, of.known.0, starts-long c.args.programme.now c.args.starts.now c.requires.starts, ap (λ (s : SentUnit). s.asset) c.unit_at-sent.ensures)

pub returns-clause-place : goal.returns-clause-place
returns-clause-place c =
    let of = mpu-is c.args.programme.now c.args.cast.now c.args.unit c.requires.cast c.requires.unit in
    let asset = ap (λ (s : SentUnit). s.asset) c.unit_at-sent.ensures in
    let there : c.unit_at-sent.result.asset < length c.args.programme.now.assets = omega (arith, of.known.0, asset) in
    ap₂ (λ a b. a + b) (start-read c.args.programme.now c.args.starts.now c.unit_at-sent.result.asset 0 c.requires.starts there ∙ ap (start_of c.args.programme.now) asset) (ap (λ (s : SentUnit). s.mpu) c.unit_at-sent.ensures)
    ∙ of.place

pub returns-clause-within : goal.returns-clause-within
returns-clause-within c =
    let of = mpu-is c.args.programme.now c.args.cast.now c.args.unit c.requires.cast c.requires.unit in
    let asset = ap (λ (s : SentUnit). s.asset) c.unit_at-sent.ensures in
    let there : c.unit_at-sent.result.asset < length c.args.programme.now.assets = omega (arith, of.known.0, asset) in
    let mpu = ap (λ (s : SentUnit). s.mpu) c.unit_at-sent.ensures in
    let start = start-read c.args.programme.now c.args.starts.now c.unit_at-sent.result.asset 0 c.requires.starts there ∙ ap (start_of c.args.programme.now) asset in
    omega (arith, of.within, of.place, start, mpu)
