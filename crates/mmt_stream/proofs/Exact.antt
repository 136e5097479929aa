-- The answer follows from what was read.
use Rattle.std.proofs.Common.{◌≡◌, ◌≢◌, ◌⊎◌, inl, inr, ℕ, ◌+◌, ◌<◌, ◌≤◌, List, [], ◌∷◌, ◌++◌, length, take, refl, ap, sym, subst, ◌∙◌, arith}
use Rattle.std.proofs.lemmas.List.{append_cancel_left, length-append, take_all, take_at, append-nil}
use Rattle.mmt_io.specs.History.{Event, bytes_read}
use Rattle.mmt_io.specs.Port.{Rose}
use Rattle.mmt_tlv.specs.Framing.{Packet, joined, IsFront, IsOutOfSync, Framed}
use Rattle.mmt_tlv.proofs.Fronts.{front_nil}
use Rattle.mmt_tlv.proofs.Unique.{one_framing, out_for_good, front_in_sync, out_is_some}
use Rattle.mmt_stream.specs.Consuming.{Meaning}
use Rattle.mmt_stream.specs.Streaming.{Ends, Streams, HasEnded, IsInterrupted, Does}
use Rattle.mmt_stream.specs.declared.end.StreamEnd.{StreamEnd}
use Rattle.mmt_stream.specs.declared.end.StreamEnd.TheVariants as end
use Rattle.mmt_stream.specs.declared.end.BrokenKind.TheVariants as kind

-- what the first bytes are, at each end of a run but a fault's
abbrev Sees : ℕ → StreamEnd → List Event → Type 0
Sees limit outcome events = (packets : List Packet) × (tail : List ℕ) × Framed (take limit (bytes_read events)) packets tail
    × ((IsOutOfSync tail × (outcome ≡ end.Broken kind.Sync (length (joined packets))))
    ⊎ (IsFront tail × ((outcome ≡ end.TooLong) ⊎ (length (bytes_read events) ≤ limit))))

all_seen : (limit : ℕ) (bytes : List ℕ) (packets : List Packet) (tail : List ℕ) → Framed bytes packets tail → length bytes ≤ limit → Framed (take limit bytes) packets tail
all_seen limit bytes packets tail f within = rw (take_all limit bytes within) f

sees : (m : Meaning) (limit : ℕ) (outcome : StreamEnd) (events : List Event) (unread : List ℕ) → Ends m limit outcome events unread → Sees limit outcome events ⊎ IsInterrupted outcome
sees m limit end.Done events unread (packets, shown, over, none, within) = inl (packets, [], all_seen limit _ packets [] shown.framed within, inr (front_nil, inr within))
sees m limit (end.Broken kind.Sync place) events unread (packets, tail, shown, out, at, within) = inl (packets, tail, all_seen limit _ packets tail shown.framed within, inl (out, ap (λ p. end.Broken kind.Sync p) at))
sees m limit (end.Broken kind.Cut place) events unread (packets, tail, shown, front, some, at, over, none, within) = inl (packets, tail, all_seen limit _ packets tail shown.framed within, inr (front, inr within))
sees m limit end.TooLong events unread (packets, tail, seen, byte, read, full, framed, front, output, going) =
    inl (packets, tail, rw (read, take_at seen (byte ∷ []) limit full) framed, inr (front, inl refl))
sees m limit end.ReadFault events unread ends = inr (inl refl)
sees m limit end.WriteFault events unread ends = inr (inr (inl refl))
sees m limit end.OutOfMemory events unread ends = inr (inr (inr refl))

tells_sync : (m : Meaning) (limit : ℕ) (outcome : StreamEnd) (events : List Event) (unread : List ℕ) (packets : List Packet) (tail : List ℕ) → Ends m limit outcome events unread
    → Framed (take limit (bytes_read events)) packets tail → IsOutOfSync tail → (outcome ≡ end.Broken kind.Sync (length (joined packets))) ⊎ IsInterrupted outcome
tells_sync m limit outcome events unread packets tail ends framed out =
    elim (sees m limit outcome events unread ends) [
      | inr interrupted ↦ inr interrupted
      | inl (ps, rest, f, told) ↦
          let one = one_framing (take limit (bytes_read events)) ps packets rest tail f framed in
          elim told [
            | inl (lost, told) ↦ inl (told ∙ ap (λ p. end.Broken kind.Sync (length (joined p))) one.0)
            | inr (front, how) ↦ absurd (front_in_sync tail (subst IsFront one.1 front) out)
          ]
    ]

too_long : (m : Meaning) (limit : ℕ) (outcome : StreamEnd) (events : List Event) (unread : List ℕ) → Ends m limit outcome events unread → limit < length (bytes_read events) → outcome ≡ end.TooLong
too_long m limit end.Done events unread (packets, shown, over, none, within) long = absurd (omega arith)
too_long m limit (end.Broken kind.Sync place) events unread (packets, tail, shown, out, at, within) long = absurd (omega arith)
too_long m limit (end.Broken kind.Cut place) events unread (packets, tail, shown, front, some, at, over, none, within) long = absurd (omega arith)
too_long m limit end.TooLong events unread ends long = refl
too_long m limit end.ReadFault events unread (packets, tail, shown, front, within) long = absurd (omega arith)
too_long m limit end.WriteFault events unread (begun, over, within) long = absurd (omega arith)
too_long m limit end.OutOfMemory events unread (begun, over, within) long = absurd (omega arith)

few : (m : Meaning) (limit : ℕ) (outcome : StreamEnd) (events : List Event) (unread : List ℕ) → Ends m limit outcome events unread → length (bytes_read events) ≤ limit + 1
few m limit end.Done events unread (packets, shown, over, none, within) = omega arith
few m limit (end.Broken kind.Sync place) events unread (packets, tail, shown, out, at, within) = omega arith
few m limit (end.Broken kind.Cut place) events unread (packets, tail, shown, front, some, at, over, none, within) = omega arith
few m limit end.TooLong events unread (packets, tail, seen, byte, read, full, framed, front, output, going) =
    omega (arith, ap length read, length-append seen (byte ∷ []), full)
few m limit end.ReadFault events unread (packets, tail, shown, front, within) = omega arith
few m limit end.WriteFault events unread (begun, over, within) = omega arith
few m limit end.OutOfMemory events unread (begun, over, within) = omega arith

tells_cut : (m : Meaning) (limit : ℕ) (outcome : StreamEnd) (events : List Event) (unread : List ℕ) (packets : List Packet) (tail : List ℕ) → Ends m limit outcome events unread
    → Framed (bytes_read events) packets tail → IsFront tail → tail ≢ [] → HasEnded events → (outcome ≡ end.Broken kind.Cut (length (joined packets))) ⊎ IsInterrupted outcome
tells_cut m limit end.Done events unread packets tail (ps, shown, over, none, within) framed front some ended =
    absurd (some (one_framing (bytes_read events) packets ps tail [] framed shown.framed).1)
tells_cut m limit (end.Broken kind.Sync place) events unread packets tail (ps, rest, shown, out, at, within) framed front some ended =
    absurd (front_in_sync rest (subst IsFront (one_framing (bytes_read events) packets ps tail rest framed shown.framed).1 front) out)
tells_cut m limit (end.Broken kind.Cut place) events unread packets tail (ps, rest, shown, before, more, at, over, none, within) framed front some ended =
    inl (ap (λ p. end.Broken kind.Cut p) (at ∙ ap (λ q. length (joined q)) (one_framing (bytes_read events) ps packets rest tail shown.framed framed).0))
tells_cut m limit end.TooLong events unread packets tail (ps, rest, seen, byte, read, full, shown, before, output, going) framed front some ended = absurd (going ended)
tells_cut m limit end.ReadFault events unread packets tail ends framed front some ended = inr (inl refl)
tells_cut m limit end.WriteFault events unread packets tail ends framed front some ended = inr (inr (inl refl))
tells_cut m limit end.OutOfMemory events unread packets tail ends framed front some ended = inr (inr (inr refl))

tells_done : (m : Meaning) (limit : ℕ) (outcome : StreamEnd) (events : List Event) (unread : List ℕ) (packets : List Packet) → Ends m limit outcome events unread
    → Framed (bytes_read events) packets [] → HasEnded events → (outcome ≡ end.Done) ⊎ IsInterrupted outcome
tells_done m limit end.Done events unread packets ends framed ended = inl refl
tells_done m limit (end.Broken kind.Sync place) events unread packets (ps, rest, shown, out, at, within) framed ended =
    absurd (front_in_sync rest (subst IsFront (one_framing (bytes_read events) packets ps [] rest framed shown.framed).1 front_nil) out)
tells_done m limit (end.Broken kind.Cut place) events unread packets (ps, rest, shown, before, more, at, over, none, within) framed ended =
    absurd (more (one_framing (bytes_read events) ps packets rest [] shown.framed framed).1)
tells_done m limit end.TooLong events unread packets (ps, rest, seen, byte, read, full, shown, before, output, going) framed ended = absurd (going ended)
tells_done m limit end.ReadFault events unread packets ends framed ended = inr (inl refl)
tells_done m limit end.WriteFault events unread packets ends framed ended = inr (inr (inl refl))
tells_done m limit end.OutOfMemory events unread packets ends framed ended = inr (inr (inr refl))

not_out : (read left unread : List ℕ) (ps qs : List Packet) (tail : List ℕ) → left ≡ read ++ unread → Framed left ps [] → Framed read qs tail → IsOutOfSync tail → ⊥
not_out read left unread ps qs tail is whole broken out =
    let one = one_framing left qs ps (tail ++ unread) [] (rw is (out_for_good read unread qs tail broken out)) whole in
    out_is_some tail unread out one.1

not_cut : (read left unread : List ℕ) (ps qs : List Packet) (tail : List ℕ) → left ≡ read ++ unread → unread ≡ [] → Framed left ps [] → Framed read qs tail → tail ≡ []
not_cut read left unread ps qs tail is none whole cut =
    let all : left ≡ read = is ∙ (ap (λ x. read ++ x) none ∙ append-nil read) in
    (one_framing left qs ps tail [] (rw all cut) whole).1

completes : (m : Meaning) (limit : ℕ) (outcome : StreamEnd) (events : List Event) (left unread : List ℕ) (packets : List Packet) → Ends m limit outcome events unread → left ≡ bytes_read events ++ unread
    → Framed left packets [] → length left ≤ limit → (outcome ≡ end.ReadFault → ⊥) → (outcome ≡ end.WriteFault → ⊥)
    → (outcome ≡ end.Done) ⊎ (outcome ≡ end.OutOfMemory)
completes m limit end.Done events left unread packets ends taken framed within no_read no_write = inl refl
completes m limit end.OutOfMemory events left unread packets ends taken framed within no_read no_write = inr refl
completes m limit end.ReadFault events left unread packets ends taken framed within no_read no_write = absurd (no_read refl)
completes m limit end.WriteFault events left unread packets ends taken framed within no_read no_write = absurd (no_write refl)
completes m limit (end.Broken kind.Sync place) events left unread packets (ps, rest, shown, out, at, few) taken framed within no_read no_write =
    absurd (not_out (bytes_read events) left unread packets ps rest taken framed shown.framed out)
completes m limit (end.Broken kind.Cut place) events left unread packets (ps, rest, shown, before, more, at, over, none, few) taken framed within no_read no_write =
    absurd (more (not_cut (bytes_read events) left unread packets ps rest taken none framed shown.framed))
completes m limit end.TooLong events left unread packets (ps, rest, seen, byte, read, full, shown, before, output, going) taken framed within no_read no_write =
    absurd (omega (arith, ap length taken, length-append (bytes_read events) unread, ap length read, length-append seen (byte ∷ []), full))

pub does : (m : Meaning) (limit : ℕ) (outcome : StreamEnd) (old new : List Event) (left unread : List ℕ) (reads reads' writes writes' : ℕ) → Streams m limit outcome old new left unread
    → (outcome ≡ end.ReadFault → Rose reads reads') → (outcome ≡ end.WriteFault → Rose writes writes') → Does m limit outcome old new left unread reads reads' writes writes'
does m limit outcome old new left unread reads reads' writes writes' s read write =
    let same = λ (events : List Event) (is : new ≡ old ++ events). append_cancel_left old s.events events (sym s.passed.history ∙ is) in
    let ends = λ (events : List Event) (is : new ≡ old ++ events). subst (λ e. Ends m limit outcome e unread) (same events is) s.ends in record {
      streams = s;
      few = λ events is. few m limit outcome events unread (ends events is);
      tells_sync = λ events packets tail is framed out. tells_sync m limit outcome events unread packets tail (ends events is) framed out;
      tells_length = λ events packets tail is framed front long. too_long m limit outcome events unread (ends events is) long;
      tells_cut = λ events packets tail is framed front some over. tells_cut m limit outcome events unread packets tail (ends events is) framed front some over;
      tells_done = λ events packets is framed over. tells_done m limit outcome events unread packets (ends events is) framed over;
      complete = λ packets framed within no_reads no_writes. completes m limit outcome s.events left unread packets s.ends s.passed.taken framed within (λ e. no_reads (read e)) (λ e. no_writes (write e));
    }
