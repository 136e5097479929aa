use Rattle.std.proofs.Common.{rules}
use Rattle.mmt_times.specs.Extended.{ExtendedFits}
use Rattle.mmt_times.specs.Writing.{written_extended}
use Rattle.mmt_times.proofs.Laws.{extended_again}
use Rattle.mmt_times.proofs.writing.write_extended.Goals as goal

pub returns-clause-read : goal.returns-clause-read
returns-clause-read c =
    let fits : ExtendedFits (written_extended c.args.timescale c.args.mpu.now) = search rules in
    extended_again (written_extended c.args.timescale c.args.mpu.now) fits
