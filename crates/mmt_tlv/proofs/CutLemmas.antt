-- What a run of feeds has cut, from call to call.
use Rattle.std.proofs.Common.{◌≡◌, ℕ, ◌+◌, ◌≤◌, Bool, true, false, List, [], ◌∷◌, ◌++◌, length, take, drop, refl, ap, sym, subst, ◌∙◌, arith, append_assoc}
use Rattle.std.specs.Prelude.{◌<◌, Vec, get_or, flat_map}
use Rattle.std.specs.declared.alloc.Global.{Global}
use Rattle.std.proofs.lemmas.List.{append-nil, length-append, take-append-drop, take_more, flat_map_more}
use Rattle.std.proofs.lemmas.Grind.{flat_map-append}
use Rattle.mmt_tlv.specs.Framing.{Packet, spelling, joined, Framed}
use Rattle.mmt_tlv.specs.Cutting.{Cutting, Feeds, Ends, next_place, next_held}
use Rattle.mmt_tlv.specs.Frames.{bytes_of, spans_from, Cuts, Frames}
use Rattle.mmt_tlv.specs.declared.stream.Span.{Span}
use Rattle.mmt_tlv.specs.declared.stream.FrameEnd.TheVariants as how
use Rattle.mmt_tlv.specs.declared.Fed.TheVariants as fed
use Rattle.mmt_tlv.specs.declared.CutEnd.TheVariants as end
use Rattle.mmt_tlv.proofs.Stands.{NextPacket, stands_packet, stands_taken, stands_sync, stands_framed, stands_at_start}
use Rattle.mmt_tlv.proofs.Unique.{out_for_good, out_of_sync_on}

abbrev span : ℕ → ℕ → Span
span place size = record { place = place; length = size }

-- one more packet stands behind the others
spans_from-push : (at : ℕ) (packets : List Packet) (packet : Packet) → spans_from at (packets ++ packet ∷ []) ≡ spans_from at packets ++ span (at + length (joined packets)) (length (spelling packet)) ∷ []
spans_from-push at [] packet = ap (λ n. span n (length (spelling packet)) ∷ []) (omega arith)
spans_from-push at (p ∷ packets) packet =
    let n : ℕ = length (spelling p) in
    let same : (at + n) + length (joined packets) ≡ at + length (joined (p ∷ packets)) = omega (arith, length-append (spelling p) (joined packets)) in
    ap (λ x. span at n ∷ x) (spans_from-push (at + n) packets packet ∙ ap (λ k. spans_from (at + n) packets ++ span k (length (spelling packet)) ∷ []) same)

pub cuts_at_start : Cuts [] [] (record { place = 0; held = []; whole = false; lost = false }) []
cuts_at_start = record { taken = []; packets = []; whole = refl; stands = stands_at_start; placed = refl }

-- a further piece is to be read
pub cuts_on : (stream piece : List ℕ) (c : Cutting) (spans : List Span) → Cuts stream [] c spans → Cuts (stream ++ piece) piece c spans
cuts_on stream piece c spans t = record {
  taken = t.taken;
  packets = t.packets;
  whole = ap (λ x. x ++ piece) (t.whole ∙ append-nil t.taken);
  stands = t.stands;
  placed = t.placed;
}

pub cuts_packet : (stream piece : List ℕ) (used : ℕ) (old new : Cutting) (spans next : List Span) (place size : ℕ)
    → Cuts stream piece old spans → Feeds old piece (fed.Packet used) new → place ≡ new.place → size ≡ length new.held → next ≡ spans ++ span place size ∷ [] → Cuts stream (drop used piece) new next
cuts_packet stream piece used old new spans next place size t f at long pushed =
    let n : NextPacket t.taken piece used t.packets new = stands_packet t.taken piece used t.packets old new t.stands f in
    let same_place : place ≡ 0 + length (joined t.packets) = omega (arith, at, n.place) in
    let same_size : size ≡ length (spelling n.packet) = long ∙ ap length n.held in
    record {
      taken = t.taken ++ take used piece;
      packets = t.packets ++ n.packet ∷ [];
      whole = t.whole ∙ (ap (λ x. t.taken ++ x) (sym (take-append-drop used piece)) ∙ sym (append_assoc t.taken (take used piece) (drop used piece)));
      stands = n.stands;
      placed = pushed ∙ (ap (λ x. x ++ span place size ∷ []) t.placed ∙ (ap (λ k. spans_from 0 t.packets ++ span k size ∷ []) same_place
          ∙ (ap (λ k. spans_from 0 t.packets ++ span (0 + length (joined t.packets)) k ∷ []) same_size ∙ sym (spans_from-push 0 t.packets n.packet))));
    }

pub cuts_taken : (stream piece : List ℕ) (old new : Cutting) (spans : List Span) → Cuts stream piece old spans → Feeds old piece fed.Taken new → Cuts stream [] new spans
cuts_taken stream piece old new spans t f = record {
  taken = t.taken ++ piece;
  packets = t.packets;
  whole = t.whole ∙ sym (append-nil (t.taken ++ piece));
  stands = stands_taken t.taken piece t.packets old new t.stands f;
  placed = t.placed;
}

pub cuts_sync : (stream piece : List ℕ) (place : ℕ) (old new : Cutting) (spans : List Span) → Cuts stream piece old spans → Feeds old piece (fed.Sync place) new → Frames stream spans (how.Sync place)
cuts_sync stream piece place old new spans t f =
    let s = stands_sync t.taken piece place t.packets old new t.stands f in
    let P : List ℕ → Type 0 = λ x. Framed x t.packets piece in
    record {
      packets = t.packets;
      rest = piece;
      framed = subst P (sym t.whole) s.0;
      placed = t.placed;
      ended = (s.2, s.1);
    }

-- what follows a byte that begins no packet changes nothing
pub frames_on : (stream more : List ℕ) (place : ℕ) (spans : List Span) → Frames stream spans (how.Sync place) → Frames (stream ++ more) spans (how.Sync place)
frames_on stream more place spans f = record {
  packets = f.packets;
  rest = f.rest ++ more;
  framed = out_for_good stream more f.packets f.rest f.framed f.ended.1;
  placed = f.placed;
  ended = (f.ended.0, out_of_sync_on f.rest more f.ended.1);
}

-- the stream that was taken, as a framing
all_framed : (stream : List ℕ) (c : Cutting) (spans : List Span) → (t : Cuts stream [] c spans) → Framed stream t.packets (next_held c)
all_framed stream c spans t =
    let P : List ℕ → Type 0 = λ x. Framed x t.packets (next_held c) in
    subst P (sym (t.whole ∙ append-nil t.taken)) (stands_framed t.taken t.packets c t.stands)

pub frames_whole : (stream : List ℕ) (c : Cutting) (spans : List Span) → Cuts stream [] c spans → Ends c end.Whole → Frames stream spans how.Whole
frames_whole stream c spans t none = record { packets = t.packets; rest = next_held c; framed = all_framed stream c spans t; placed = t.placed; ended = none }

pub frames_cut : (stream : List ℕ) (c : Cutting) (spans : List Span) (place : ℕ) → Cuts stream [] c spans → Ends c (end.Cut place) → Frames stream spans (how.Cut place)
frames_cut stream c spans place t (some, at) = record { packets = t.packets; rest = next_held c; framed = all_framed stream c spans t; placed = t.placed; ended = (at ∙ t.stands.place, some, t.stands.front) }

held_size : (place : ℕ) (held : List ℕ) (whole lost : Bool) → let c : Cutting = record { place = place; held = held; whole = whole; lost = lost } in next_place c + length (next_held c) ≡ place + length held
held_size place held true lost = omega arith
held_size place held false lost = refl

-- how many bytes were taken
pub cuts_size : (stream unread : List ℕ) (c : Cutting) (spans : List Span) → Cuts stream unread c spans → c.place + length c.held + length unread ≡ length stream
cuts_size stream unread c spans t =
    let all : length stream ≡ length t.taken + length unread = ap length t.whole ∙ length-append t.taken unread in
    let taken : length t.taken ≡ length (joined t.packets) + length (next_held c) = ap length t.stands.whole ∙ length-append (joined t.packets) (next_held c) in
    omega (arith, all, taken, t.stands.place, held_size c.place c.held c.whole c.lost)

-- the pieces up to one of them, joined, are those before it and then its bytes
pub pieces_on : (pieces : List (Vec ℕ Global)) (i : ℕ) (piece : Vec ℕ Global) → i < length pieces → piece ≡ get_or pieces i piece → flat_map bytes_of (take (i + 1) pieces) ≡ flat_map bytes_of (take i pieces) ++ bytes_of piece
pieces_on pieces i piece lt is =
    ap (λ x. flat_map bytes_of x) (take_more pieces i piece lt ∙ ap (λ x. take i pieces ++ x ∷ []) (sym is)) ∙ sym (flat_map_more bytes_of [] (take i pieces) piece)

-- the pieces joined are the first ones and then the others
pub pieces_all : (pieces : List (Vec ℕ Global)) (i : ℕ) → flat_map bytes_of pieces ≡ flat_map bytes_of (take i pieces) ++ flat_map bytes_of (drop i pieces)
pieces_all pieces i = sym (ap (λ x. flat_map bytes_of x) (take-append-drop i pieces)) ∙ flat_map-append bytes_of (take i pieces) (drop i pieces)

-- the next piece is to be read
pub cuts_next : (pieces : List (Vec ℕ Global)) (i : ℕ) (piece : Vec ℕ Global) (c : Cutting) (spans : List Span) → i < length pieces → piece ≡ get_or pieces i piece → Cuts (flat_map bytes_of (take i pieces)) [] c spans → Cuts (flat_map bytes_of (take (i + 1) pieces)) (bytes_of piece) c spans
cuts_next pieces i piece c spans lt is t =
    let P : List ℕ → Type 0 = λ x. Cuts x (bytes_of piece) c spans in
    subst P (sym (pieces_on pieces i piece lt is)) (cuts_on (flat_map bytes_of (take i pieces)) (bytes_of piece) c spans t)

-- what was taken, and the next piece, are no longer than all pieces
pub next_within : (pieces : List (Vec ℕ Global)) (i : ℕ) (piece : Vec ℕ Global) (c : Cutting) (spans : List Span) → i < length pieces → piece ≡ get_or pieces i piece → Cuts (flat_map bytes_of (take i pieces)) [] c spans → c.place + length c.held + length (bytes_of piece) ≤ length (flat_map bytes_of pieces)
next_within pieces i piece c spans lt is t =
    let size = cuts_size _ (bytes_of piece) c spans (cuts_next pieces i piece c spans lt is t) in
    let all : length (flat_map bytes_of pieces) ≡ length (flat_map bytes_of (take (i + 1) pieces)) + length (flat_map bytes_of (drop (i + 1) pieces)) = ap length (pieces_all pieces (i + 1)) ∙ length-append (flat_map bytes_of (take (i + 1) pieces)) (flat_map bytes_of (drop (i + 1) pieces)) in
    omega (arith, size, all)

pub frames_all : (pieces : List (Vec ℕ Global)) (i place : ℕ) (spans : List Span) → Frames (flat_map bytes_of (take i pieces)) spans (how.Sync place) → Frames (flat_map bytes_of pieces) spans (how.Sync place)
frames_all pieces i place spans f =
    let P : List ℕ → Type 0 = λ x. Frames x spans (how.Sync place) in
    subst P (sym (pieces_all pieces i)) (frames_on (flat_map bytes_of (take i pieces)) (flat_map bytes_of (drop i pieces)) place spans f)
