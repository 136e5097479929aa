use Rattle.std.proofs.Common.{◌∙◌}
use Rattle.mmt_expect.proofs.Defaults.{same-item}
use Rattle.mmt_model.specs.Carrying.{no_table_copy}
use Rattle.mmt_expect.proofs.naming.copy_at.Goals as goal

pub returns : goal.returns
returns c = c.index-copies-place.is ∙ same-item c.args.copies.now c.args.place _ no_table_copy c.requires
