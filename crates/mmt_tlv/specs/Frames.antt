-- The places and lengths of the packets of a stream, and how it ends.
use Rattle.std.specs.Prelude.{◌≡◌, ◌≢◌, ℕ, ◌+◌, List, [], ◌∷◌, ◌++◌, length, Option, Some, None, Vec}
use Rattle.std.specs.declared.alloc.Global.{Global}
use Rattle.mmt_tlv.specs.Framing.{Packet, spelling, joined, IsFront, IsOutOfSync, Framed}
use Rattle.mmt_tlv.specs.Cutting.{Cutting, StandsFor}
use Rattle.mmt_tlv.specs.declared.stream.Span.{Span}
use Rattle.mmt_tlv.specs.declared.stream.FrameEnd.{FrameEnd}
use Rattle.mmt_tlv.specs.declared.stream.FrameEnd.TheVariants as end

-- the bytes of a piece
abbrev pub bytes_of : Vec ℕ Global → List ℕ
bytes_of piece = piece.items

-- where packets stand that follow one another from a place on: each place is the count of the bytes before it
abbrev pub spans_from : ℕ → List Packet → List Span
spans_from at [] = []
spans_from at (packet ∷ packets) = record { place = at; length = length (spelling packet) } ∷ spans_from (at + length (spelling packet)) packets

-- what the rest behind the last packet is, which begins at a place
abbrev pub IsEnd : FrameEnd → ℕ → List ℕ → Type 0
IsEnd end.Whole at rest = rest ≡ []
IsEnd (end.Cut place) at rest = (place ≡ at) × (rest ≢ []) × IsFront rest
IsEnd (end.Sync place) at rest = (place ≡ at) × IsOutOfSync rest

-- These are the places and lengths of the packets of the stream, in order, and this is how it ends.
pub record Frames (stream : List ℕ) (spans : List Span) (how : FrameEnd) : Type 0 where
  pub packets : List Packet
  pub rest : List ℕ
  pub framed : Framed stream packets rest
  pub placed : spans ≡ spans_from 0 packets
  pub ended : IsEnd how (length (joined packets)) rest

-- a cutter has taken the stream up to the unread bytes, and its packets stand at these places
pub record Cuts (stream unread : List ℕ) (c : Cutting) (spans : List Span) : Type 0 where
  pub taken : List ℕ
  pub packets : List Packet
  pub whole : stream ≡ taken ++ unread
  pub stands : StandsFor taken packets c
  pub placed : spans ≡ spans_from 0 packets

-- all of the stream was taken, or it is out of sync at a place
abbrev pub CutOn : Option ℕ → List ℕ → Cutting → List Span → Type 0
CutOn None stream c spans = Cuts stream [] c spans
CutOn (Some place) stream c spans = Frames stream spans (end.Sync place)
