use Rattle.std.proofs.Common.{arith}
use Rattle.mmt_times.specs.Stamps.{PairFits, pair_bytes}
use Rattle.mmt_times.specs.Writing.{pair_value}
use Rattle.mmt_times.proofs.Written.{written_more, fit_more}
use Rattle.mmt_times.proofs.writing.put_pairs.Goals as goal

pub loop-pair-preserved : goal.loop-pair-preserved
loop-pair-preserved c =
    let l = c.loop-pair in
    record {
      items = written_more pair_bytes pair_value c.args.pairs.now l.pair-index _ _ _ _ c.loop-pair-test.true l.invariant.items c.put_pair.ensures.items;
      fits = fit_more PairFits pair_value c.args.pairs.now l.pair-index _ c.loop-pair-test.true l.invariant.fits c.put_pair.ensures.fits;
      room = omega (arith, l.invariant.room, c.put_pair.ensures.len, c.put_pair.ensures.capacity);
    }
