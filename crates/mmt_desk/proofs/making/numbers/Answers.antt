use Rattle.std.proofs.Common.{ℕ, List, ap, ◌∙◌, refl}
use Rattle.mmt_desk.proofs.WholeFiles.{none-short, tried-is}
use Rattle.mmt_expect.proofs.Premises.{readable}
use Rattle.mmt_io.specs.Shelf.{file_in}
use Rattle.mmt_desk.proofs.making.numbers.Goals as goal

pub admit-requires : goal.admit-requires
admit-requires c = readable c.in-Ok.made.programme c.in-Ok-cast_of_made.cast c.in-Ok.ensures.right c.in-Ok.ensures.none c.in-Ok-cast_of_made.ensures

pub returns-in-Ok-trial-clause-tried : goal.returns-in-Ok-trial-clause-tried
returns-in-Ok-trial-clause-tried c =
    tried-is c.in-Ok.made.programme c.new-shelf.result c.in-Ok.made.deliveries c.args.seed c.in-Ok-trial.tried c.in-Ok.ensures.programme
    (λ name. ap (λ (files : List (List ℕ × List ℕ)). file_in files name) c.new-shelf.ensures ∙ c.in-Ok.ensures.files name) c.in-Ok.ensures.deliveries (c.in-Ok-trial.ensures.tried refl)

pub unreachable-requires-in-Err-UnitShort : goal.unreachable-requires-in-Err-UnitShort
unreachable-requires-in-Err-UnitShort c =
    none-short c.in-Ok.made.programme c.new-shelf.result c.args.seed c.in-Err-UnitShort.field-0 0 0 c.in-Err-UnitShort.field-0-0 c.in-Err-UnitShort.field-0-1 c.in-Err-UnitShort.field-0-2 c.in-Ok.ensures.programme
    (λ name. ap (λ (files : List (List ℕ × List ℕ)). file_in files name) c.new-shelf.ensures ∙ c.in-Ok.ensures.files name) c.in-Err-UnitShort.field-0-is c.in-Err-UnitShort.ensures.cause
