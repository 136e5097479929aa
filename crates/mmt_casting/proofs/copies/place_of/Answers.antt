use Rattle.std.proofs.Common.{arith, ap, ◌+◌, ◌∙◌}
use Rattle.mmt_casting.proofs.Starting.{place-is, place-known, start-read, starts-long}
use Rattle.mmt_casting.proofs.copies.place_of.Goals as goal

pub bounds-starts-name : goal.bounds-starts-name
bounds-starts-name c = omega (arith, starts-long c.args.programme.now c.args.starts.now c.requires.starts, c.requires.known.0)

pub overflow_add-result : goal.overflow_add-result
overflow_add-result c =
    omega (arith, start-read c.args.programme.now c.args.starts.now c.args.name.0 0 c.requires.starts c.requires.known.0, place-known c.args.programme.now c.requires.right c.args.name c.requires.known)

pub returns : goal.returns
returns c =
    ap (λ n. n + c.args.name.1) (start-read c.args.programme.now c.args.starts.now c.args.name.0 0 c.requires.starts c.requires.known.0) ∙ place-is c.args.programme.now c.args.name c.requires.known
