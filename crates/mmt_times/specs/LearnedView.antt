-- What contracts see of the answer to a new entry.
use Rattle.std.specs.Prelude.{◌≡◌, ⊤}
use Rattle.mmt_times.specs.declared.learned.Learned.{Learned}
use Rattle.mmt_times.specs.declared.learned.Learned.TheVariants as learned
use Rattle.mmt_times.specs.Known.{Known}
use Rattle.mmt_times.specs.Learning.{Verdict}

-- an answer, with its time as a number (this project's rule)
abbrev pub view_learned : Learned → Verdict
view_learned learned.New = Verdict.New
view_learned learned.Known = Verdict.Known
view_learned (learned.Differs kept) = Verdict.Differs kept.0
view_learned learned.Past = Verdict.Past
view_learned learned.EntriesFull = Verdict.EntriesFull

-- every answer but New changes nothing (this project's rule)
abbrev pub ChangesNothing : Learned → Known → Known → Type 0
ChangesNothing learned.New old new = ⊤
ChangesNothing learned.Known old new = new ≡ old
ChangesNothing (learned.Differs kept) old new = new ≡ old
ChangesNothing learned.Past old new = new ≡ old
ChangesNothing learned.EntriesFull old new = new ≡ old
