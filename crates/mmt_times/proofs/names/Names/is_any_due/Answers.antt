use Rattle.std.proofs.Common.{◌≡◌, false, rules, refl}
use Rattle.std.specs.List.{list_any}
use Rattle.mmt_times.specs.Known.{has_due}
use Rattle.mmt_times.proofs.Quietness.{quiet-due}
use Rattle.mmt_times.proofs.names.Names.is_any_due.Goals as goal

pub returns-else-not-is_within : goal.returns-else-not-is_within
returns-else-not-is_within c =
    let none : list_any (has_due c.args.from.0 c.args.to.0) c.args.self.now.entries ≡ false = rw (← c.self.view_is) (quiet-due c.self.inside.quiet_from.0 c.self.inside.quiet c.args.from.0 c.args.to.0 _ c.self.invariant.5 (search rules) (search rules) (c.is_within.ensures c.if-not-is_within.false) c.self.invariant.4) in
    rw (c.if-not-is_within.false, none) refl
