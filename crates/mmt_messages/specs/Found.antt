-- What a receiver finds in the signalling messages that are sent.
use Rattle.std.specs.Prelude.{ℕ, ◌≡◌, ◌<◌, length, map, Ok, None}
use Rattle.mmt_cast.specs.Refusing.{refusal}
use Rattle.mmt_cast.specs.Right.{IsRight, signal_at}
use Rattle.mmt_messages.specs.Sent.{FitsBytes}
use Rattle.mmt_model.specs.Admission.{fault_of_params}
use Rattle.mmt_model.specs.declared.programmes.Programme.{Programme}
use Rattle.mmt_naming.specs.Findings.{Naming, findings_in, names_in}
use Rattle.mmt_sent.specs.Messages.{message_bytes, message_of_signal}
use Rattle.mmt_sig.specs.MessageReading.{message_of}

-- the signalling message at a place is read as what it is, and all that is found in it are its names, where the receiver was tuned by the programme's values
pub record IsFound (programme : Programme) (timescale s : ℕ) : Type 0 where
  pub value : message_of (message_bytes programme s) ≡ Ok (message_of_signal programme s (signal_at programme s))
  pub findings : (m : ℕ) → findings_in timescale programme.params m (message_bytes programme s) ≡ map (Naming m) (names_in timescale (message_bytes programme s))

-- so it is of each message of a right programme that has a cast and whose values are admitted, whatever the timescale of the receiver
abbrev pub MessagesAreFound : Type 0
MessagesAreFound =
    (programme : Programme) (timescale : ℕ) → IsRight programme → FitsBytes programme → refusal programme ≡ None → fault_of_params programme.params ≡ None
    → (s : ℕ) → s < length programme.signals → IsFound programme timescale s
