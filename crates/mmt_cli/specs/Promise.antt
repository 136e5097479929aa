-- What each command promises.
use Rattle.std.specs.Prelude.{◌≡◌, ℕ}
use Rattle.mmt_io.specs.Port.{Rose}
use Rattle.mmt_cli.specs.Gateways.{Expands, Squeezes}
use Rattle.mmt_cli.specs.Listing.{Lists}
use Rattle.mmt_cli.specs.Peaks.{Peaks}
use Rattle.mmt_cli.specs.Takes.{Takes, config_of}
use Rattle.mmt_cli.specs.Trying.{Makes}
use Rattle.mmt_cli.specs.Moments.{Moment, Faults}
use Rattle.mmt_cli.specs.Muxing.{ReadsNothing}
use Rattle.mmt_cli.specs.declared.status.Status.{Status}
use Rattle.mmt_cli.specs.declared.status.Status.TheVariants as status
use Rattle.mmt_command.specs.declared.words.Command.{Command}
use Rattle.mmt_command.specs.declared.words.Command.TheVariants as command

-- A run of a command that reads the port answers a fault only where the port's count rose.
abbrev pub HasPortCauses : Status → Faults → Faults → Type 0
HasPortCauses outcome old new = (outcome ≡ status.ReadFault → Rose old.reads new.reads) × (outcome ≡ status.WriteFault → Rose old.writes new.writes)

-- A run of a command that reads files answers a fault only where the count of the shelf, or that of the port's writes, rose.
abbrev pub HasShelfCauses : Status → Faults → Faults → Type 0
HasShelfCauses outcome old new = (outcome ≡ status.ReadFault → Rose old.shelf new.shelf) × (outcome ≡ status.WriteFault → Rose old.writes new.writes)

-- where the faults of a command come from, whether or not the port tells its bytes
abbrev pub HasCauses : Command → Status → Faults → Faults → Type 0
HasCauses command.List outcome old new = HasPortCauses outcome old new
HasCauses (command.Peak flow params) outcome old new = HasPortCauses outcome old new
HasCauses (command.Take options) outcome old new = HasPortCauses outcome old new
HasCauses command.Mux outcome old new = HasShelfCauses outcome old new
HasCauses command.Trial outcome old new = HasShelfCauses outcome old new
HasCauses (command.Make seed) outcome old new = (outcome ≡ status.ReadFault → ⊥) × (outcome ≡ status.WriteFault → Rose old.writes new.writes)
HasCauses command.Expand outcome old new = HasPortCauses outcome old new
HasCauses (command.Squeeze context full_every) outcome old new = HasPortCauses outcome old new
HasCauses (command.Pace step) outcome old new = HasShelfCauses outcome old new

-- what a run of the command does, from the moment before it to the one after it
abbrev pub Promises : Command → ℕ → Status → Moment → Moment → Type 0
Promises command.List limit outcome old new = Lists limit outcome old new
Promises (command.Peak flow params) limit outcome old new = Peaks flow params limit outcome old new
Promises (command.Take options) limit outcome old new = Takes (config_of options) limit outcome old new
Promises command.Mux limit outcome old new = ReadsNothing old new
Promises command.Trial limit outcome old new = ReadsNothing old new
Promises (command.Make seed) limit outcome old new = Makes seed outcome old new
Promises command.Expand limit outcome old new = Expands limit outcome old new
Promises (command.Squeeze context full_every) limit outcome old new = Squeezes context full_every limit outcome old new
Promises (command.Pace step) limit outcome old new = ReadsNothing old new
