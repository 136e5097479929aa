-- What a gateway puts out of the packets of a stream (this project's rules). Earlier packets stand with the newest first.
use Rattle.std.specs.Prelude.{ℕ, ◌+◌, List, [], ◌∷◌, ◌++◌, length, Result, Ok, Err}
use Rattle.std.specs.List.{cons_option}
use Rattle.mmt_tlv.specs.Framing.{Packet, spelling, joined}
use Rattle.mmt_io.specs.Output.{Output}
use Rattle.mmt_stream.specs.Consuming.{Meaning}
use Rattle.mmt_gate.specs.Image.{given, image}
use Rattle.mmt_gate.specs.Expanding.{expanded}
use Rattle.mmt_gate.specs.Flows.{Options}
use Rattle.mmt_gate.specs.Shrinking.{squeezed}
use Rattle.mmt_gateway.specs.Noting.{expand_note, squeeze_note}

-- the note of a packet at a place, if it is left out
abbrev pub note_of : {E : Type 0} → (ℕ → E → List ℕ) → ℕ → Result Packet E → List ℕ
note_of note place (Ok packet) = []
note_of note place (Err reason) = note place reason

-- the notes of the packets of a stream that are left out, from a place on and after earlier packets
unfoldable pub notes_after : {E : Type 0} → (List Packet → Packet → Result Packet E) → (ℕ → E → List ℕ)
    → ℕ → List Packet → List Packet → List ℕ
notes_after becomes note place earlier [] = []
notes_after becomes note place earlier (packet ∷ packets) =
    note_of note place (becomes earlier packet) ++ notes_after becomes note (place + length (spelling packet)) (packet ∷ earlier) packets

-- what is put out of the packets of a stream: what they become is written, and those that are left out are noted
abbrev pub passed : {E : Type 0} → (List Packet → Packet → Result Packet E) → (ℕ → E → List ℕ) → List Packet → Output
passed becomes note packets = record { written = joined (image becomes packets); noted = notes_after becomes note 0 [] packets }

-- what is put out of one packet at a place, after earlier ones
abbrev pub passed_one : {E : Type 0} → (List Packet → Packet → Result Packet E) → (ℕ → E → List ℕ) → ℕ → List Packet → Packet → Output
passed_one becomes note place earlier packet = record {
  written = joined (cons_option (given (becomes earlier packet)) []);
  noted = note_of note place (becomes earlier packet);
}

-- at each moment that of the packets so far, and nothing more at the end
abbrev pub passing : {E : Type 0} → (List Packet → Packet → Result Packet E) → (ℕ → E → List ℕ) → Meaning
passing becomes note = record { so_far = passed becomes note; at_end = passed becomes note }

-- `expand` writes the stream with all headers
abbrev pub expanding : Meaning
expanding = passing expanded expand_note

-- `squeeze` writes the stream with compressed headers
abbrev pub squeezing : Options → Meaning
squeezing options = passing (squeezed options) squeeze_note
