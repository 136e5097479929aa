-- What was written between two moments of a port.
use Rattle.std.specs.Prelude.{◌≡◌, ℕ, List, ◌++◌}
use Rattle.mmt_io.specs.History.{Event, bytes_written}

-- exactly these bytes were written after the first history (this project's rule)
abbrev pub HasWritten : List Event → List Event → List ℕ → Type 0
HasWritten old new bytes = bytes_written new ≡ bytes_written old ++ bytes
