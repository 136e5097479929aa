-- Cutting units and messages into parts, and gathering short units. All rules are this project's.
use Rattle.std.specs.Prelude.{ℕ, suc, ◌+◌, ◌-◌, ◌*◌, List, [], ◌∷◌, take, drop, nat_le, max, min, if◌then◌else◌}
use Rattle.std.specs.Int.{div_ceil}

-- how many parts a unit or message of this length is cut into: its length by the limit, rounded up
abbrev pub parts : ℕ → ℕ → ℕ
parts length limit = div_ceil length limit

-- the length of part number k: every part but the last has as many bytes as the limit
unfoldable pub part_length : ℕ → ℕ → ℕ → ℕ
part_length length limit k = min limit (length - k * limit)

-- the bytes of part number k
unfoldable pub part_bytes : ℕ → ℕ → List ℕ → List ℕ
part_bytes limit k bytes = take limit (drop (k * limit) bytes)

-- how many of these units, from the first on, go into so much room, each with two bytes of length and its header
unfoldable pub fitting : ℕ → ℕ → List ℕ → ℕ
fitting header room [] = 0
fitting header room (length ∷ lengths) = if nat_le (2 + header + length) room then suc (fitting header (room - (2 + header + length)) lengths) else 0

-- how many of these units, from the first on, are gathered into one payload: one, or as many as go into the limit
unfoldable pub gathered : ℕ → ℕ → List ℕ → ℕ
gathered header limit [] = 0
gathered header limit (length ∷ lengths) = max 1 (fitting header limit (length ∷ lengths))
