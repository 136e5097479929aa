use Rattle.std.proofs.Common.{rules}
use Rattle.mmt_plan.specs.Assets.{asset_of}
use Rattle.mmt_plan.proofs.FileNumbers.{grown, kept, named}
use Rattle.mmt_plan.proofs.assets.asset.Goals as goal

pub returns-in_err-no_other-clause-value : goal.returns-in_err-no_other-clause-value
unfolding asset_of
returns-in_err-no_other-clause-value c =
    rw (← c.in_ok-object.ensures, ← c.in_ok-packet_id.ensures.value, ← c.in_ok-id.ensures.value, ← c.in_ok-kind.ensures.value, ← c.in_ok-timed.ensures, ← c.in_ok-timescale.ensures.value, ← c.in_ok-file.ensures.value, c.in_ok-mpus.ensures.value, ← c.in_err-no_other.ensures) (search rules)

pub returns-clause-value : goal.returns-clause-value
unfolding asset_of
returns-clause-value c =
    rw (
      ← c.in_ok-object.ensures,
      ← c.in_ok-packet_id.ensures.value,
      ← c.in_ok-id.ensures.value,
      ← c.in_ok-kind.ensures.value,
      ← c.in_ok-timed.ensures,
      ← c.in_ok-timescale.ensures.value,
      ← c.in_ok-file.ensures.value,
      c.in_ok-mpus.ensures.value,
      ← c.in_ok-no_other.ensures,
      c.in_ok-id-2.ensures,
      c.in_ok-file-2.ensures.number,
      c.in_ok-file-2.ensures.names,
    )

pub returns-clause-grows : goal.returns-clause-grows
returns-clause-grows c = rw c.in_ok-file-2.ensures.names (grown c.in_ok-file.file.now c.args.files.now)

pub returns-clause-kept : goal.returns-clause-kept
returns-clause-kept c = rw c.in_ok-file-2.ensures.names (kept c.in_ok-file.file.now c.args.files.now)

pub returns-clause-named : goal.returns-clause-named
returns-clause-named c = rw c.in_ok-file-2.ensures.names (named c.in_ok-file.file.now c.args.files.now (record { some = c.in_ok-file.ensures.size.0; short = c.in_ok-file.ensures.size.1 }))
