-- What a port in memory keeps, from what its fields keep.
use Rattle.std.proofs.Common.{◌≡◌, ℕ, ◌+◌, ◌-◌, ◌<◌, ◌≤◌, Bool, true, false, not, ◌||◌, nat_le, nat_lt, List, [], ◌∷◌, ◌++◌, length, take, drop, refl, ap, sym, subst, ◌∙◌, arith, ⊎_elim}
use Rattle.std.proofs.lemmas.Bool.{cases_lt, le-leb, lt-leb, lt-ltb, le-ltb}
use Rattle.std.proofs.lemmas.List.{length-drop, take-append-drop, drop-drop}
use Rattle.mmt_io.specs.declared.memory.CallKind.{CallKind}
use Rattle.mmt_io.specs.declared.memory.CallKind.TheVariants.{Read, Write, Note}
use Rattle.mmt_io.specs.declared.log.Piece.{Piece}
use Rattle.mmt_io.specs.History.{Event, bytes_written, bytes_noted}
use Rattle.mmt_io.specs.History.Event.{In, Out, Note as Noted}
use Rattle.mmt_io.specs.Pieces.{total, at_read, at_write, at_note, event_of, events_of}
use Rattle.mmt_io.specs.Kept.{Kept, passes_room}
use Rattle.mmt_io.proofs.History.{after_read, after_write, after_note}

abbrev pub kept_of : List ℕ → ℕ → List ℕ → List ℕ → List Piece → ℕ → ℕ → Kept
kept_of input taken written noted pieces calls bytes = record { history = events_of pieces input written noted; unread = drop taken input; calls = calls; bytes = bytes }

pub length-events : (pieces : List Piece) (i w m : List ℕ) → length (events_of pieces i w m) ≡ length pieces
length-events [] i w m = refl
length-events (piece ∷ pieces) i w m = omega (arith, length-events pieces (drop (at_read piece.kind piece.length) i) (drop (at_write piece.kind piece.length) w) (drop (at_note piece.kind piece.length) m))

written-event : (kind : CallKind) (n : ℕ) (i w m : List ℕ) (events : List Event) → bytes_written (event_of kind n i w m ∷ events) ≡ take (at_write kind n) w ++ bytes_written events
written-event Read n i w m events = refl
written-event Write n i w m events = refl
written-event Note n i w m events = refl

noted-event : (kind : CallKind) (n : ℕ) (i w m : List ℕ) (events : List Event) → bytes_noted (event_of kind n i w m ∷ events) ≡ take (at_note kind n) m ++ bytes_noted events
noted-event Read n i w m events = refl
noted-event Write n i w m events = refl
noted-event Note n i w m events = refl

-- the pieces of output, joined, are what was written
pub written-events : (pieces : List Piece) (i w m : List ℕ) → total at_write pieces ≡ length w → bytes_written (events_of pieces i w m) ≡ w
written-events [] i [] m e = refl
written-events [] i (x ∷ w) m e = absurd (omega (arith, e))
written-events (piece ∷ pieces) i w m e =
    let k : ℕ = at_write piece.kind piece.length in
    let left : total at_write pieces ≡ length (drop k w) = omega (arith, e, length-drop k w) in
    written-event piece.kind piece.length i w m _
    ∙ (ap (λ x. take k w ++ x) (written-events pieces (drop (at_read piece.kind piece.length) i) (drop k w) (drop (at_note piece.kind piece.length) m) left) ∙ take-append-drop k w)

-- the notes, joined, are what was noted
pub noted-events : (pieces : List Piece) (i w m : List ℕ) → total at_note pieces ≡ length m → bytes_noted (events_of pieces i w m) ≡ m
noted-events [] i w [] e = refl
noted-events [] i w (x ∷ m) e = absurd (omega (arith, e))
noted-events (piece ∷ pieces) i w m e =
    let k : ℕ = at_note piece.kind piece.length in
    let left : total at_note pieces ≡ length (drop k m) = omega (arith, e, length-drop k m) in
    noted-event piece.kind piece.length i w m _
    ∙ (ap (λ x. take k m ++ x) (noted-events pieces (drop (at_read piece.kind piece.length) i) (drop (at_write piece.kind piece.length) w) (drop k m) left) ∙ take-append-drop k m)

-- the fields of a port, which keep what it tells
pub record Keeps (input : List ℕ) (taken : ℕ) (written noted : List ℕ) (pieces : List Piece) (calls bytes : ℕ) (kept : Kept) : Type 0 where
  pub view : kept_of input taken written noted pieces calls bytes ≡ kept
  pub out : total at_write pieces ≡ length written
  pub note : total at_note pieces ≡ length noted
  pub used : length written + length noted ≤ bytes

-- what the room has to do with the fields
room_is : (i : List ℕ) (t : ℕ) (w m : List ℕ) (pieces : List Piece) (calls bytes : ℕ) (kept : Kept) (size : ℕ) → Keeps i t w m pieces calls bytes kept → passes_room kept size ≡ (nat_le calls (length pieces) || nat_lt bytes (length w + length m + size))
room_is i t w m pieces calls bytes kept size k =
    let P : Kept → Type 0 = λ x. passes_room x size ≡ (nat_le calls (length pieces) || nat_lt bytes (length w + length m + size)) in
    let here : P (kept_of i t w m pieces calls bytes) = rw (length-events pieces i w m, written-events pieces i w m k.out, noted-events pieces i w m k.note) refl in
    subst P k.view here

pub room_left : (i : List ℕ) (t : ℕ) (w m : List ℕ) (pieces : List Piece) (calls bytes : ℕ) (kept : Kept) (size : ℕ) → Keeps i t w m pieces calls bytes kept → length pieces < calls → nat_le size (bytes - (length w + length m)) ≡ not (passes_room kept size)
room_left i t w m pieces calls bytes kept size k lt =
    rw (room_is i t w m pieces calls bytes kept size k, lt-leb calls (length pieces) lt)
    (⊎_elim
    (λ (over : bytes - (length w + length m) < size). rw (lt-leb size (bytes - (length w + length m)) over, lt-ltb bytes (length w + length m + size) (omega (arith, k.used))) refl)
    (λ (fits : size ≤ bytes - (length w + length m)). rw (le-leb size (bytes - (length w + length m)) fits, le-ltb bytes (length w + length m + size) (omega (arith, k.used))) refl)
    (cases_lt (bytes - (length w + length m)) size))

pub no_room_left : (i : List ℕ) (t : ℕ) (w m : List ℕ) (pieces : List Piece) (calls bytes : ℕ) (kept : Kept) (size : ℕ) → Keeps i t w m pieces calls bytes kept → calls ≤ length pieces → false ≡ not (passes_room kept size)
no_room_left i t w m pieces calls bytes kept size k le = rw (room_is i t w m pieces calls bytes kept size k, le-leb calls (length pieces) le) refl

or_false : (a b : Bool) → (a || b) ≡ false → (a ≡ false) × (b ≡ false)
or_false true b e = absurd cc
or_false false b e = (refl, e)

true_not_false : true ≡ false → ⊥
true_not_false e = cc

-- where the room isn't passed, a piece and its bytes fit
pub fits_room : (i : List ℕ) (t : ℕ) (w m : List ℕ) (pieces : List Piece) (calls bytes : ℕ) (kept : Kept) (size : ℕ) → Keeps i t w m pieces calls bytes kept → passes_room kept size ≡ false → (length pieces < calls) × (length w + length m + size ≤ bytes)
fits_room i t w m pieces calls bytes kept size k not_passed =
    let both = or_false (nat_le calls (length pieces)) (nat_lt bytes (length w + length m + size)) (sym (room_is i t w m pieces calls bytes kept size k) ∙ not_passed) in (
      ⊎_elim (λ (lt : length pieces < calls). lt) (λ (le : calls ≤ length pieces). absurd (true_not_false (sym (le-leb calls (length pieces) le) ∙ both.0))) (cases_lt (length pieces) calls),
      ⊎_elim
          (λ (over : bytes < length w + length m + size). absurd (true_not_false (sym (lt-ltb bytes (length w + length m + size) over) ∙ both.1)))
          (λ (le : length w + length m + size ≤ bytes). le)
          (cases_lt bytes (length w + length m + size)),
    )

-- what a piece changes of what is kept
abbrev put : Kept → Event → Kept
put kept event = record kept { history = kept.history ++ event ∷ [] }

pub kept_read : (i : List ℕ) (t : ℕ) (w m : List ℕ) (pieces next : List Piece) (calls bytes : ℕ) (kept : Kept) (n : ℕ) → kept_of i t w m pieces calls bytes ≡ kept → total at_read pieces ≡ t → next ≡ pieces ++ record { kind = Read; length = n } ∷ []
    → kept_of i (t + n) w m next calls bytes ≡ record kept { history = kept.history ++ In (take n kept.unread) ∷ []; unread = drop n kept.unread }
kept_read i t w m pieces next calls bytes kept n view read pushed =
    let P : Kept → Type 0 = λ x. kept_of i (t + n) w m next calls bytes ≡ record x { history = x.history ++ In (take n x.unread) ∷ []; unread = drop n x.unread } in
    let make : List Event → List ℕ → Kept = λ h u. record { history = h; unread = u; calls = calls; bytes = bytes } in
    let history = after_read pieces next n t i w m pushed read in
    let unread : drop (t + n) i ≡ drop n (drop t i) = sym (drop-drop n t i) in
    let here : P (kept_of i t w m pieces calls bytes) = ap (λ h. make h (drop (t + n) i)) history ∙ ap (λ u. make (events_of pieces i w m ++ In (take n (drop t i)) ∷ []) u) unread in
    subst P view here

pub kept_write : (i : List ℕ) (t : ℕ) (w x m : List ℕ) (pieces next : List Piece) (calls bytes : ℕ) (kept : Kept) (part : List ℕ) → kept_of i t w m pieces calls bytes ≡ kept → total at_write pieces ≡ length w → next ≡ pieces ++ record { kind = Write; length = length part } ∷ [] → x ≡ w ++ part
    → kept_of i t x m next calls bytes ≡ put kept (Out part)
kept_write i t w x m pieces next calls bytes kept part view total_is pushed added =
    let P : Kept → Type 0 = λ k. kept_of i t x m next calls bytes ≡ put k (Out part) in
    let make : List Event → Kept = λ h. record { history = h; unread = drop t i; calls = calls; bytes = bytes } in
    let here : P (kept_of i t w m pieces calls bytes) = ap make (after_write pieces next i w x m part part pushed added total_is refl) in
    subst P view here

pub kept_note : (i : List ℕ) (t : ℕ) (w m x : List ℕ) (pieces next : List Piece) (calls bytes : ℕ) (kept : Kept) (part : List ℕ) → kept_of i t w m pieces calls bytes ≡ kept → total at_note pieces ≡ length m → next ≡ pieces ++ record { kind = Note; length = length part } ∷ [] → x ≡ m ++ part
    → kept_of i t w x next calls bytes ≡ put kept (Noted part)
kept_note i t w m x pieces next calls bytes kept part view total_is pushed added =
    let P : Kept → Type 0 = λ k. kept_of i t w x next calls bytes ≡ put k (Noted part) in
    let make : List Event → Kept = λ h. record { history = h; unread = drop t i; calls = calls; bytes = bytes } in
    let here : P (kept_of i t w m pieces calls bytes) = ap make (after_note pieces next i w m x part part pushed added total_is refl) in
    subst P view here
