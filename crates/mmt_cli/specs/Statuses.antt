-- The statuses of the program, which are this project's own.
use Rattle.std.specs.Prelude.{ℕ, Result, Ok, Err}
use Rattle.mmt_io.specs.declared.halt.Halt.{Halt}
use Rattle.mmt_io.specs.declared.halt.Halt.TheVariants as halts
use Rattle.mmt_mux.specs.declared.ends.MuxEnd.{MuxEnd}
use Rattle.mmt_mux.specs.declared.ends.MuxEnd.TheVariants as muxes
use Rattle.mmt_mux.specs.declared.ends.PaceEnd.{PaceEnd}
use Rattle.mmt_mux.specs.declared.ends.PaceEnd.TheVariants as paces
use Rattle.mmt_stream.specs.declared.end.StreamEnd.{StreamEnd}
use Rattle.mmt_stream.specs.declared.end.StreamEnd.TheVariants as end
use Rattle.mmt_cli.specs.declared.status.Status.{Status}
use Rattle.mmt_cli.specs.declared.status.Status.TheVariants as status

-- the status of a command that reads a stream
abbrev pub status_of : StreamEnd → Status
status_of end.Done = status.Done
status_of end.ReadFault = status.ReadFault
status_of end.WriteFault = status.WriteFault
status_of (end.Broken kind place) = status.Broken kind place
status_of end.OutOfMemory = status.OutOfMemory
status_of end.TooLong = status.TooLong

-- the status of `mux` and `trial`
abbrev pub status_of_mux : MuxEnd → Status
status_of_mux (muxes.Refused reason place) = status.PlanRefused reason place
status_of_mux (muxes.NotAdmitted refusal) = status.NotAdmitted refusal
status_of_mux muxes.ReadFault = status.ReadFault
status_of_mux muxes.WriteFault = status.WriteFault
status_of_mux muxes.OutOfMemory = status.OutOfMemory

-- the status of `pace`
abbrev pub status_of_pace_end : PaceEnd → Status
status_of_pace_end (paces.NotPaced from to jobs slots) = status.NotPaced from to jobs slots
status_of_pace_end (paces.Ended end) = status_of_mux end

-- the status of a call that only writes
abbrev pub status_of_halt : Halt → Status
status_of_halt halts.WriteFault = status.WriteFault
status_of_halt halts.OutOfMemory = status.OutOfMemory

-- the status of a run of `make`, which is done where it does not end before
abbrev pub status_of_make : Result (Unit {0}) Halt → Status
status_of_make (Ok x) = status.Done
status_of_make (Err halt) = status_of_halt halt

-- the status of a run of `mux` or `trial`, which is done where it does not end before
abbrev pub status_of_run : Result (Unit {0}) MuxEnd → Status
status_of_run (Ok x) = status.Done
status_of_run (Err end) = status_of_mux end

-- the status of a run of `pace`, which is done where it does not end before
abbrev pub status_of_pace : Result (Unit {0}) PaceEnd → Status
status_of_pace (Ok x) = status.Done
status_of_pace (Err end) = status_of_pace_end end

-- the number with which the program ends
abbrev pub number_of : Status → ℕ
number_of status.Done = 0
number_of (status.Usage index) = 1
number_of status.ReadFault = 2
number_of status.WriteFault = 3
number_of (status.Broken kind place) = 4
number_of (status.PlanRefused reason place) = 5
number_of (status.NotAdmitted refusal) = 6
number_of status.OutOfMemory = 7
number_of status.TooLong = 8
number_of (status.NotPaced from to jobs slots) = 9
