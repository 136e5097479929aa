-- The line of a trial.
use Rattle.std.specs.Prelude.{◌≡◌, ℕ, List, ◌++◌, codes, decimal, Result, Ok, Err}
use Rattle.mmt_io.specs.History.{Event}
use Rattle.mmt_io.specs.Output.{Puts, PutsPrefix, only_written}
use Rattle.mmt_io.specs.declared.halt.Halt.{Halt}
use Rattle.mmt_io.specs.declared.halt.Halt.TheVariants as halts
use Rattle.mmt_trial.specs.declared.trying.Tried.{Tried}

-- the numbers of a trial, each after its word (this project's rule)
abbrev pub line_of : Tried → List ℕ
line_of t =
    codes "sent " ++ decimal t.sent ++ codes " delivered " ++ decimal t.delivered ++ codes " units " ++ decimal t.units ++ codes " expected " ++ decimal t.expected ++ codes " bytes " ++ decimal t.bytes
    ++ codes " peak " ++ decimal t.peak ++ codes " bound " ++ decimal t.bound ++ codes " late " ++ decimal t.late ++ codes " repeat " ++ decimal t.repeat ++ codes " full " ++ decimal t.full ++ codes "\n"

-- the line was written, and nothing was noted: all of it, a prefix of it where the write failed, and nothing where there was no memory
abbrev pub PutsLine : List Event → List Event → List ℕ → Result (Unit {0}) Halt → Type 0
PutsLine old new line (Ok x) = Puts old new (only_written line)
PutsLine old new line (Err halts.WriteFault) = PutsPrefix old new (only_written line)
PutsLine old new line (Err halts.OutOfMemory) = new ≡ old
