-- A receiver that is given the packets of a recording that a list of places names (this project's rules).
use Rattle.std.specs.Prelude.{◌≡◌, ℕ, List, [], map, get_or}
use Rattle.mmt_recv.specs.Receiving.{Stands}
use Rattle.mmt_take.specs.Taking.{bytes_of, placed}
use Rattle.mmt_tlv.specs.Framing.{Packet, spelling}
use Rattle.mmt_trial.specs.declared.listening.Listening.{Listening}

-- the pieces at these places are the bytes of these packets
abbrev pub AreGiven : List (List ℕ) → List ℕ → List Packet → Type 0
AreGiven pieces list packets = map (λ n. get_or pieces n []) list ≡ map spelling packets

-- a receiver was given these packets, the newest first
pub record WasGiven (listening : Listening) (packets : List Packet) : Type 0 where
  pub stands : Stands listening.receiver (placed packets)
  pub at : listening.at ≡ bytes_of packets
