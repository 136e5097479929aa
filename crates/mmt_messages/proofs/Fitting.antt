-- What is written of a right programme fits its fields, and the worked plan is such a programme.
use Rattle.std.proofs.Common.{◌≡◌, None}
use Rattle.mmt_cast.proofs.Examples.{examples}
use Rattle.mmt_cast.proofs.FromRight.{right-programmes-fit}
use Rattle.mmt_cast.specs.PlanOne.{plan_one}
use Rattle.mmt_messages.specs.Sent.{PlanOneFits, RightProgrammesFitBytes}

pub right-bytes : RightProgrammesFitBytes
right-bytes programme right none =
    let fields = right-programmes-fit.fields programme right none in
    record { package_id = fields.package_id; assets = fields.assets; each = fields.each; mpus = fields.mpus; bound = right.params.bound; rise = right-programmes-fit.rise programme right }

pub plan_one_fits : PlanOneFits
plan_one_fits = right-bytes plan_one examples.worked.one_table.right examples.worked.one_table.has_cast
