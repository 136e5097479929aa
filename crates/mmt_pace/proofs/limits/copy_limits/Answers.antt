use Rattle.std.proofs.Common.{◌<◌, All, List, length, sym, subst, ℕ}
use Rattle.mmt_pace.proofs.Lesser.{copy-fits}
use Rattle.mmt_pace.proofs.limits.copy_limits.Goals as goal

pub names_limit-requires-clause-known : goal.names_limit-requires-clause-known
names_limit-requires-clause-known c =
    let fits = copy-fits c.args.cast.now c.as_slice-copies.result.now c.loop-i.i c.index-copies-i.result c.requires.readable.copies c.as_slice-copies.ensures c.loop-i-test.true c.index-copies-i.is in
    subst (λ (ns : List ℕ). All (λ m. m < length c.args.cast.now.mpus) ns) (sym c.as_slice.ensures) fits.2

pub names_limit-requires-clause-last : goal.names_limit-requires-clause-last
names_limit-requires-clause-last c =
    let fits = copy-fits c.args.cast.now c.as_slice-copies.result.now c.loop-i.i c.index-copies-i.result c.requires.readable.copies c.as_slice-copies.ensures c.loop-i-test.true c.index-copies-i.is in
    fits.1
