-- The trial of what is made from a number (this project's rules).
use Rattle.std.specs.Prelude.{ℕ, List, length}
use Rattle.mmt_cast.specs.Casting.{cast_of}
use Rattle.mmt_made.specs.Generator.{delivery, made_file, made_programme}
use Rattle.mmt_send.specs.Files.{files_on}
use Rattle.mmt_trial.specs.Trials.{tried}
use Rattle.mmt_trial.specs.declared.trying.Tried.{Tried}

-- the files of the made programme, by their places
abbrev pub files_made : ℕ → ℕ → List ℕ
files_made n = files_on (made_file n) made_programme

-- the delivery of its cast
abbrev pub list_made : ℕ → List ℕ
list_made n = delivery n (length (cast_of made_programme).packets)

-- the numbers of its trial
abbrev pub made_tried : ℕ → Tried
made_tried n = tried made_programme (files_made n) (list_made n)
