-- What goes out of a port: bytes that are written, and bytes that are noted (this project's rules).
use Rattle.std.specs.Prelude.{◌≡◌, ℕ, Bool, IsTrue, List, [], ◌∷◌, ◌++◌, Result, Ok, Err}
use Rattle.mmt_io.specs.History.{Event, bytes_written, bytes_noted}
use Rattle.mmt_io.specs.History.Event.{In, Out, Note}

-- bytes that are written, and bytes that are noted
pub record Output : Type 0 where
  pub written : List ℕ
  pub noted : List ℕ

-- no bytes
abbrev pub nothing : Output
nothing = record { written = []; noted = [] }

-- these bytes are written, and nothing is noted
abbrev pub only_written : List ℕ → Output
only_written bytes = record { written = bytes; noted = [] }

-- these bytes are noted, and nothing is written
abbrev pub only_noted : List ℕ → Output
only_noted bytes = record { written = []; noted = bytes }

-- the first output with the second behind it
abbrev pub followed : Output → Output → Output
followed first second = record { written = first.written ++ second.written; noted = first.noted ++ second.noted }

-- what went out in these events
abbrev pub output_of : List Event → Output
output_of events = record { written = bytes_written events; noted = bytes_noted events }

-- the list begins with the other one
abbrev pub IsPrefix : List ℕ → List ℕ → Type 0
IsPrefix part whole = (rest : List ℕ) × (whole ≡ part ++ rest)

-- both parts of the output begin with those of the other one
pub record IsPrefixOf (part whole : Output) : Type 0 where
  pub written : IsPrefix part.written whole.written
  pub noted : IsPrefix part.noted whole.noted

-- no read is among the events
abbrev pub NoRead : List Event → Type 0
NoRead [] = Unit {0}
NoRead (In bytes ∷ events) = ⊥
NoRead (Out bytes ∷ events) = NoRead events
NoRead (Note bytes ∷ events) = NoRead events

-- the history grew by events that are no reads, and all of this went out in them
pub record Puts (old new : List Event) (whole : Output) : Type 0 where
  pub events : List Event
  pub history : new ≡ old ++ events
  pub outputs : NoRead events
  pub output : output_of events ≡ whole

-- the same, but only a prefix of it went out
pub record PutsPrefix (old new : List Event) (whole : Output) : Type 0 where
  pub events : List Event
  pub history : new ≡ old ++ events
  pub outputs : NoRead events
  pub start : IsPrefixOf (output_of events) whole

-- all of this went out, or a prefix of it where the call failed
abbrev pub Put : {T E : Type 0} → List Event → List Event → Output → Result T E → Type 0
Put old new whole (Ok answer) = Puts old new whole
Put old new whole (Err reason) = PutsPrefix old new whole

-- where the port tells its bytes: these are written and nothing is noted, or a prefix of them where the call failed
abbrev pub Writes : {P T E : Type 0} → (P → Bool) → (P → List Event) → P → P → List ℕ → Result T E → Type 0
Writes tells history old new bytes result = IsTrue (tells old) → Put (history old) (history new) (only_written bytes) result

-- where the port tells its bytes: these are noted and nothing is written, or a prefix of them where the call failed
abbrev pub Notes : {P T E : Type 0} → (P → Bool) → (P → List Event) → P → P → List ℕ → Result T E → Type 0
Notes tells history old new bytes result = IsTrue (tells old) → Put (history old) (history new) (only_noted bytes) result
