use Rattle.std.proofs.Common.{◌≡◌, ◌<◌, ◌+◌, length, arith, refl, subst, sym}
use Rattle.std.specs.List.{sum_by}
use Rattle.mmt_cast.specs.Placing.{map_from}
use Rattle.mmt_cast.specs.Tables.{asset_length}
use Rattle.mmt_casting.proofs.Long.{lengths-past, table-sums}
use Rattle.mmt_casting.proofs.OwnNames.{AreOwn, few-own, first-own, next-own, parts-next}
use Rattle.mmt_casting.proofs.tables.table_length.Goals as goal

pub loop-a-init : goal.loop-a-init
loop-a-init c = record { sum = omega arith; own = first-own c.args.listed.now; within = omega arith; short = omega arith }

pub asset_part-part-requires-clause-few : goal.asset_part-part-requires-clause-few
asset_part-part-requires-clause-few c = few-own c.args.programme.now c.args.listed.now c.loop-a.a c.loop-a.first c.requires.fits c.requires.names (omega (arith, c.loop-a-test.true, c.len-a-end.ensures)) c.loop-a.invariant.own

pub loop-a-preserved : goal.loop-a-preserved
loop-a-preserved c =
    let l : c.loop-a.a < length c.args.programme.now.assets = omega (arith, c.loop-a-test.true, c.len-a-end.ensures) in
    record {
      sum = omega (arith, c.loop-a.invariant.sum, parts-next c.args.programme.now c.args.listed.now c.loop-a.a c.loop-a.first c.asset_part-part.result.length c.requires.names l c.loop-a.invariant.own c.asset_part-part.ensures.length);
      own = subst (λ n. AreOwn (c.loop-a.a + 1) n c.args.listed.now) (sym c.asset_part-part.ensures.end) (next-own c.loop-a.a c.loop-a.first c.args.listed.now c.requires.names.0 c.loop-a.invariant.own);
      within = c.asset_part-part.ensures.within;
      short = omega (arith, c.loop-a.invariant.short, c.asset_part-part.ensures.short);
    }

pub returns-clause-value : goal.returns-clause-value
returns-clause-value c =
    let p = lengths-past c.args.listed.now c.loop-a.a c.args.programme.now.assets (omega (arith, c.loop-a-test.false, c.loop-a.auto.a-end, c.len-a-end.ensures)) in
    let s : sum_by (λ n. n) (map_from (asset_length c.args.listed.now) 0 c.args.programme.now.assets) ≡ c.loop-a.sum = omega (arith, c.loop-a.invariant.sum, p) in
    table-sums c.args.programme.now c.args.listed.now c.args.programme.now.assets c.len.result c.loop-a.sum refl c.len.ensures s
