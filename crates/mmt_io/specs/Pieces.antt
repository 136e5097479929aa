-- The history that a port in memory keeps, by the lengths of its pieces.
use Rattle.std.specs.Prelude.{ℕ, ◌+◌, List, [], ◌∷◌, take, drop}
use Rattle.mmt_io.specs.declared.memory.CallKind.{CallKind}
use Rattle.mmt_io.specs.declared.memory.CallKind.TheVariants.{Read, Write, Note}
use Rattle.mmt_io.specs.declared.log.Piece.{Piece}
use Rattle.mmt_io.specs.History.{Event}
use Rattle.mmt_io.specs.History.Event.{In, Out, Note as Noted}

-- the number at its kind, and 0 at the others
abbrev pub at_read : CallKind → ℕ → ℕ
at_read Read n = n
at_read Write n = 0
at_read Note n = 0

abbrev pub at_write : CallKind → ℕ → ℕ
at_write Read n = 0
at_write Write n = n
at_write Note n = 0

abbrev pub at_note : CallKind → ℕ → ℕ
at_note Read n = 0
at_note Write n = 0
at_note Note n = n

-- how many bytes the pieces of a kind have
abbrev pub total : (CallKind → ℕ → ℕ) → List Piece → ℕ
total at [] = 0
total at (piece ∷ pieces) = at piece.kind piece.length + total at pieces

-- a piece of so many bytes, at the front of the bytes of its kind
abbrev pub event_of : CallKind → ℕ → List ℕ → List ℕ → List ℕ → Event
event_of Read n input written noted = In (take n input)
event_of Write n input written noted = Out (take n written)
event_of Note n input written noted = Noted (take n noted)

-- the pieces as they lie one after the other in the bytes of their kind
abbrev pub events_of : List Piece → List ℕ → List ℕ → List ℕ → List Event
events_of [] input written noted = []
events_of (piece ∷ pieces) input written noted = event_of piece.kind piece.length input written noted
    ∷ events_of pieces (drop (at_read piece.kind piece.length) input) (drop (at_write piece.kind piece.length) written) (drop (at_note piece.kind piece.length) noted)
