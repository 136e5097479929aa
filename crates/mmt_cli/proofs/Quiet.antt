-- A command that notes nothing, and one that has no memory to begin with.
use Rattle.std.proofs.Common.{◌≡◌, inl, inr, ℕ, List, [], ◌∷◌, ◌++◌, refl, ap, sym, subst, ◌∙◌}
use Rattle.std.proofs.lemmas.List.{append_cancel_left}
use Rattle.mmt_io.specs.History.{Event, bytes_noted}
use Rattle.mmt_tlv.specs.Framing.{Packet}
use Rattle.mmt_stream.specs.Consuming.{Meaning, Grows}
use Rattle.mmt_io.specs.Output.{IsPrefix}
use Rattle.mmt_stream.specs.Streaming.{Ends, HasBegun, Does}
use Rattle.mmt_stream.specs.declared.end.StreamEnd.{StreamEnd}
use Rattle.mmt_stream.specs.declared.end.StreamEnd.TheVariants as end
use Rattle.mmt_stream.specs.declared.end.BrokenKind.TheVariants as kind
use Rattle.mmt_stream.proofs.Exact.{does}
use Rattle.mmt_stream.proofs.Turns.{nothing_yet}

pub no_front : (xs ys : List ℕ) → IsPrefix xs ys → ys ≡ [] → xs ≡ []
no_front [] ys (rest, is) none = refl
no_front (x ∷ xs) ys (rest, is) none = absurd cc

module _ (m : Meaning) (going : (packets : List Packet) → (m.so_far packets).noted ≡ []) (ended : (packets : List Packet) → (m.at_end packets).noted ≡ []) where
  begun_quiet : (events : List Event) → HasBegun m events → bytes_noted events ≡ []
  begun_quiet events (packets, tail, framed, inl start) = no_front (bytes_noted events) _ start.noted (going packets)
  begun_quiet events (packets, tail, framed, inr (start, how)) = no_front (bytes_noted events) _ start.noted (ended packets)

  quiet : (limit : ℕ) (outcome : StreamEnd) (events : List Event) (unread : List ℕ) → Ends m limit outcome events unread → bytes_noted events ≡ []
  quiet limit end.Done events unread (packets, shown, over, none, within) = ap (λ o. o.noted) shown.output ∙ ended packets
  quiet limit (end.Broken kind.Sync place) events unread (packets, tail, shown, out, at, within) = ap (λ o. o.noted) shown.output ∙ ended packets
  quiet limit (end.Broken kind.Cut place) events unread (packets, tail, shown, front, some, at, over, none, within) = ap (λ o. o.noted) shown.output ∙ ended packets
  quiet limit end.TooLong events unread (packets, tail, seen, byte, read, full, framed, front, output, out) = ap (λ o. o.noted) output ∙ going packets
  quiet limit end.ReadFault events unread (packets, tail, shown, front, within) = ap (λ o. o.noted) shown.output ∙ going packets
  quiet limit end.WriteFault events unread (begun, over, within) = begun_quiet events begun
  quiet limit end.OutOfMemory events unread ((packets, tail, framed, begun), over, within) = begun_quiet events (packets, tail, framed, inl begun)

  pub notes_nothing : (limit : ℕ) (outcome : StreamEnd) (old new : List Event) (left unread : List ℕ) (reads reads' writes writes' : ℕ) → Does m limit outcome old new left unread reads reads' writes writes'
      → (events : List Event) → new ≡ old ++ events → bytes_noted events ≡ []
  notes_nothing limit outcome old new left unread reads reads' writes writes' d events is =
      let s = d.streams in subst (λ e. bytes_noted e ≡ []) (append_cancel_left old s.events events (sym s.passed.history ∙ is)) (quiet limit outcome s.events unread s.ends)

-- a run that has no memory to begin with
pub not_begun : (m : Meaning) (limit : ℕ) (history : List Event) (left : List ℕ) (reads writes : ℕ) → Grows m → Does m limit end.OutOfMemory history history left left reads reads writes writes
not_begun m limit history left reads writes grows = does _ _ _ _ _ _ _ _ _ _ _ (nothing_yet m limit history left grows) (λ e. absurd cc) (λ e. absurd cc)
