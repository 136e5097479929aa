use Rattle.std.proofs.Common.{map, refl, ap}
use Rattle.mmt_model.specs.Keeping.{kept, peak}
use Rattle.mmt_pool.specs.Holding.{Holding}
use Rattle.mmt_peak.specs.Buffers.{shown}
use Rattle.mmt_peak.proofs.buffer.Buffer.new.Goals as goal

pub returns-clause-empty : goal.returns-clause-empty
unfolding kept peak
returns-clause-empty c = record {
  bound = ap (λ (h : Holding). h.bound) c.in_ok-pool.ensures;
  clock = refl;
  kept = ap (λ (h : Holding). map shown h.kept) c.in_ok-pool.ensures;
  peak = ap (λ (h : Holding). h.peak) c.in_ok-pool.ensures;
  heard = refl;
  tally = refl;
}
