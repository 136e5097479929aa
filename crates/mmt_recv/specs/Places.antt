-- Where in the stream the notes of a packet lie.
use Rattle.std.specs.Prelude.{ℕ, ◌+◌, ◌≤◌, List, length}
use Rattle.std.specs.List.{All}
use Rattle.mmt_packet.specs.Spelling.{head_length}
use Rattle.mmt_tune.specs.Tuning.{HeardAt}
use Rattle.mmt_recv.specs.Noting.{PlacedNote}

-- each of these notes lies at the first place or after it, and at the last or before it (this project's rule)
abbrev pub LieBetween : ℕ → ℕ → List PlacedNote → Type 0
LieBetween first last ns = All (λ n. (first ≤ n.place) × (n.place ≤ last)) ns

-- the place after the last byte of a heard packet
abbrev pub end_of : HeardAt → ℕ
end_of h = h.place + head_length h.packet + length h.packet.payload

-- the notes lie within a heard packet, or directly after its last byte
abbrev pub LieWithin : HeardAt → List PlacedNote → Type 0
LieWithin h ns = LieBetween h.place (end_of h) ns
