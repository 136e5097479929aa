-- How sending a cast ends, by its first fault (this project's rules).
use Rattle.std.specs.Prelude.{◌≡◌, ℕ, List, [], Option, Some, None, Result, Ok, Err}
use Rattle.mmt_admit.specs.Faults.{fault_value}
use Rattle.mmt_model.specs.Admission.{Fault}
use Rattle.mmt_mux.specs.declared.ends.MuxEnd.{MuxEnd}
use Rattle.mmt_mux.specs.declared.ends.MuxEnd.TheVariants as ends

-- sending a cast whose files were checked is done only where it is admitted, and ends not admitted only with its first fault; it is never refused
abbrev pub IsCastAnswer : Option Fault → Result (Unit {0}) MuxEnd → Type 0
IsCastAnswer found (Ok x) = found ≡ None
IsCastAnswer found (Err (ends.Refused reason place)) = ⊥
IsCastAnswer found (Err (ends.NotAdmitted refusal)) = found ≡ Some (fault_value refusal)
IsCastAnswer found (Err ends.ReadFault) = Unit {0}
IsCastAnswer found (Err ends.WriteFault) = Unit {0}
IsCastAnswer found (Err ends.OutOfMemory) = Unit {0}

-- the bytes that are sent where a cast has no fault, and none where it has one
abbrev pub bytes_if : Option Fault → List ℕ → List ℕ
bytes_if None bytes = bytes
bytes_if (Some found) bytes = []
