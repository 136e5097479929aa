-- What passes when a stream is sent, and how a run then ends.
use Rattle.std.proofs.Common.{◌≡◌, ℕ, Bool, List, [], ◌∷◌, ◌++◌, map, Option, None, Result, Ok, Err, refl, ap, sym, ◌∙◌, subst, append_assoc}
use Rattle.std.specs.Prelude.{IsTrue}
use Rattle.std.proofs.lemmas.List.{append-nil}
use Rattle.std.proofs.lemmas.List.Concat.{flat_map-append}
use Rattle.mmt_admit.specs.Faults.{IsReadable}
use Rattle.mmt_cast.proofs.FromRight.{right-programmes-fit}
use Rattle.mmt_cast.proofs.Readable.{readable as casts-readable}
use Rattle.mmt_cast.specs.Casting.{cast_of}
use Rattle.mmt_cast.specs.Refusing.{refusal}
use Rattle.mmt_io.specs.History.{Event, bytes_noted, bytes_read, bytes_written}
use Rattle.mmt_io.specs.History.Event.{In, Note, Out}
use Rattle.mmt_model.specs.Admission.{Fault}
use Rattle.mmt_model.specs.Right.{IsRight}
use Rattle.mmt_model.specs.declared.casts.Cast.{Cast}
use Rattle.mmt_model.specs.declared.programmes.Programme.{Programme}
use Rattle.mmt_mux.proofs.Holding.{never_short}
use Rattle.mmt_mux.specs.Casts.{IsCastAnswer, bytes_if}
use Rattle.mmt_mux.specs.Ending.{Muxes, Passes, send_end}
use Rattle.mmt_mux.specs.declared.ends.MuxEnd.{MuxEnd}
use Rattle.mmt_plan.specs.Files.{files_of}
use Rattle.mmt_send.specs.Writes.{EndsFor, HasBegun, IsFrontOf, pieces}
use Rattle.mmt_send.specs.declared.ends.SendEnd.{SendEnd}
use Rattle.mmt_send.specs.declared.ends.SendEnd.TheVariants as sends
use Rattle.mmt_tlv.specs.Framing.{Packet, joined, spelling}

-- a cast that may be asked about
pub readable : (p : Programme) (cast : Cast) → IsRight p → refusal p ≡ None → cast ≡ cast_of p → IsReadable cast
readable p cast right none is = subst IsReadable (sym is) (casts-readable p (right-programmes-fit.right p right) (right-programmes-fit.ticks p right) none)

-- ---- packets written one by one

written : (ps : List Packet) → bytes_written (pieces ps) ≡ joined ps
written [] = refl
written (p ∷ ps) = ap (λ l. spelling p ++ l) (written ps)

unread : (ps : List Packet) → bytes_read (pieces ps) ≡ []
unread [] = refl
unread (p ∷ ps) = unread ps

quiet : (ps : List Packet) → bytes_noted (pieces ps) ≡ []
quiet [] = refl
quiet (p ∷ ps) = quiet ps

pub all_sent : (found : Option Fault) (packets : List Packet) (old new : List Event) → found ≡ None → new ≡ old ++ pieces packets → Passes (bytes_if found (joined packets)) old new
all_sent found packets old new none h =
    subst (λ (o : Option Fault). Passes (bytes_if o (joined packets)) old new) (sym none) (record { events = pieces packets; history = h; written = written packets; unread = unread packets; quiet = quiet packets })

-- ---- a front of them

-- the bytes of a front of the first packet, and what is left of them all
record IsPart (last : List Event) (packets : List Packet) : Type 0 where
  rest : List ℕ
  bytes : joined packets ≡ bytes_written last ++ rest
  unread : bytes_read last ≡ []
  quiet : bytes_noted last ≡ []

part-of : (last : List Event) (packets : List Packet) → IsFrontOf last packets → IsPart last packets
part-of [] packets f = record { rest = joined packets; bytes = refl; unread = refl; quiet = refl }
part-of (Out bytes ∷ []) (p ∷ packets) f =
    record {
      rest = f.0 ++ joined packets;
      bytes = ap (λ l. l ++ joined packets) f.1 ∙ (append_assoc bytes f.0 (joined packets) ∙ ap (λ l. l ++ (f.0 ++ joined packets)) (sym (append-nil bytes)));
      unread = refl;
      quiet = refl;
    }
part-of (Out bytes ∷ []) [] f = absurd f
part-of (In bytes ∷ events) packets f = absurd f
part-of (Note bytes ∷ events) packets f = absurd f
part-of (Out bytes ∷ event ∷ events) packets f = absurd f

written-then : (ps : List Packet) (last : List Event) → bytes_written (pieces ps ++ last) ≡ joined ps ++ bytes_written last
written-then [] last = refl
written-then (p ∷ ps) last = ap (λ l. spelling p ++ l) (written-then ps last) ∙ sym (append_assoc (spelling p) (joined ps) (bytes_written last))

unread-then : (ps : List Packet) (last : List Event) → bytes_read last ≡ [] → bytes_read (pieces ps ++ last) ≡ []
unread-then [] last e = e
unread-then (p ∷ ps) last e = unread-then ps last e

quiet-then : (ps : List Packet) (last : List Event) → bytes_noted last ≡ [] → bytes_noted (pieces ps ++ last) ≡ []
quiet-then [] last e = e
quiet-then (p ∷ ps) last e = quiet-then ps last e

begun : (packets : List Packet) (end : MuxEnd) (old new : List Event) → HasBegun old new packets → Muxes (joined packets) (Err end) old new
begun packets end old new b =
    let part = part-of b.last b.left b.front in (
      joined b.sent ++ bytes_written b.last,
      part.rest,
      ap joined b.all ∙ (flat_map-append spelling b.sent b.left ∙ (ap (λ l. joined b.sent ++ l) part.bytes ∙ sym (append_assoc (joined b.sent) (bytes_written b.last) part.rest))),
      record { events = pieces b.sent ++ b.last; history = b.history; written = written-then b.sent b.last; unread = unread-then b.sent b.last part.unread; quiet = quiet-then b.sent b.last part.quiet },
    )

pub part_sent : (found : Option Fault) (packets : List Packet) (end : MuxEnd) (old new : List Event) → found ≡ None → HasBegun old new packets → Muxes (bytes_if found (joined packets)) (Err end) old new
part_sent found packets end old new none b = subst (λ (o : Option Fault). Muxes (bytes_if o (joined packets)) (Err end) old new) (sym none) (begun packets end old new b)

pub none_sent : (bytes : List ℕ) (end : MuxEnd) (h : List Event) → Muxes bytes (Err end) h h
none_sent bytes end h = ([], bytes, refl, record { events = []; history = sym (append-nil h); written = refl; unread = refl; quiet = refl })

-- ---- the end

pub send_ended : (file : List ℕ → Option (List ℕ)) (found : Option Fault) (p : Programme) (cast : Cast) (tells : Bool) (reads writes : ℕ × ℕ) (end : SendEnd) → files_of file p ≡ Ok tt → IsTrue tells
    → EndsFor p tells file reads writes end → IsCastAnswer found (Err (send_end cast end))
send_ended file found p cast tells reads writes sends.ReadFault files told why = tt
send_ended file found p cast tells reads writes (sends.UnitShort unit size held) files told why = absurd (never_short file p unit size held files (why told))
send_ended file found p cast tells reads writes sends.WriteFault files told why = tt
send_ended file found p cast tells reads writes sends.OutOfMemory files told why = tt

-- what was checked of files that are still the same
pub same_files : (file now : List ℕ → Option (List ℕ)) (p : Programme) → now ≡ file → files_of file p ≡ Ok tt → files_of now p ≡ Ok tt
same_files file now p same e = ap (λ (f : List ℕ → Option (List ℕ)). files_of f p) same ∙ e
