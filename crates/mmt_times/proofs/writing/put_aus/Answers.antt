use Rattle.std.proofs.Common.{arith, true}
use Rattle.mmt_times.specs.Extended.{AuFits, au_bytes}
use Rattle.mmt_times.specs.Writing.{au_value}
use Rattle.mmt_times.proofs.Written.{written_more, fit_more}
use Rattle.mmt_times.proofs.writing.put_aus.Goals as goal

pub loop-au-preserved : goal.loop-au-preserved
loop-au-preserved c =
    let l = c.loop-au in
    record {
      items = written_more au_bytes au_value c.args.aus.now l.au-index _ _ _ _ c.loop-au-test.true l.invariant.items c.put_au.ensures.items;
      fits = fit_more (AuFits true) au_value c.args.aus.now l.au-index _ c.loop-au-test.true l.invariant.fits c.put_au.ensures.fits;
      room = omega (arith, l.invariant.room, c.put_au.ensures.len, c.put_au.ensures.capacity);
    }
