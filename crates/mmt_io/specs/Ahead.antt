-- Bytes of a file that are held (this project's rule).
use Rattle.std.specs.Prelude.{ℕ, ◌-◌, nat_lt, List, [], drop, if◌then◌else◌}

-- bytes, and the place in the file from which on they are its bytes
pub record Held : Type 0 where
  pub from : ℕ
  pub bytes : List ℕ

-- those that are held from a place on
abbrev pub bytes_at : Held → ℕ → List ℕ
bytes_at held at = if nat_lt at held.from then [] else drop (at - held.from) held.bytes
