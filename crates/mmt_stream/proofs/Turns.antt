-- The steps of a run over a stream, for any consumer.
use Rattle.std.proofs.Common.{◌⊎◌, true, false, Bool, ◌≡◌, inl, inr, ℕ, ◌+◌, ◌<◌, ◌≤◌, List, [], ◌∷◌, ◌++◌, length, take, drop, refl, ap, sym, subst, ◌∙◌, arith, append_assoc}
use Rattle.std.proofs.lemmas.List.{append-nil, length-append, take-append-drop}
use Rattle.std.specs.Prelude.{Ok, Err}
use Rattle.mmt_io.specs.History.{Event, bytes_read}
use Rattle.mmt_io.specs.History.Event.{In}
use Rattle.mmt_io.specs.Port.{Receives, Stays}
use Rattle.mmt_io.proofs.Passing.{at_no_read}
use Rattle.mmt_tlv.specs.Framing.{Packet, spelling, joined, IsFront, IsOutOfSync}
use Rattle.mmt_tlv.specs.Cutting.{Cutting, Feeds, StandsFor, next_place, next_held}
use Rattle.mmt_tlv.specs.Cutting as cutting
use Rattle.mmt_tlv.specs.declared.Fed.TheVariants as fed
use Rattle.mmt_tlv.specs.declared.CutEnd.TheVariants as cut_end
use Rattle.mmt_tlv.proofs.Stands.{NextPacket, stands_taken, stands_sync, stands_framed, stands_at_start}
use Rattle.mmt_tlv.proofs.Unique.{same_packet, rest_is_short}
use Rattle.mmt_io.specs.Output.{Output, nothing, followed, output_of, IsPrefixOf, NoRead}
use Rattle.mmt_stream.specs.Consuming.{Meaning, Grows, Emits, EmitsStart, Settles}
use Rattle.mmt_stream.specs.Streaming.{HasShown, HasFinished, HasBegun, HasBegunPackets, HasEnded, Streams, Passed}
use Rattle.mmt_stream.specs.Driving.{Turn, Stopped, EndsWith, halted}
use Rattle.mmt_stream.specs.declared.end.StreamEnd.{StreamEnd}
use Rattle.mmt_stream.specs.declared.end.StreamEnd.TheVariants as end
use Rattle.mmt_stream.specs.declared.end.BrokenKind.TheVariants as kind
use Rattle.mmt_io.specs.declared.halt.Halt.{Halt}
use Rattle.mmt_io.specs.declared.halt.Halt.TheVariants as halt
use Rattle.mmt_stream.proofs.Framings.{IsFramed, framed, framed_behind}
use Rattle.mmt_stream.proofs.Outputs.{followed-nothing, output_of-append, output_of-read, start_trans, start_of_both}
use Rattle.mmt_stream.proofs.Histories.{read_same, read_more, ended_more, going_more, going_read, once_going, passed_more, passed_read}

next_size : (place : ℕ) (held : List ℕ) (whole lost : Bool) → let c : Cutting = record { place = place; held = held; whole = whole; lost = lost } in next_place c + length (next_held c) ≡ place + length held
next_size place held true lost = omega arith
next_size place held false lost = refl

none_held : (c : Cutting) → c.whole ≡ true → next_held c ≡ []
none_held c whole = rw whole refl

-- the bytes taken, by the packets up to one more
read_on : (taken rest read : List ℕ) (used : ℕ) → read ≡ taken ++ rest → read ≡ (taken ++ take used rest) ++ drop used rest
read_on taken rest read used is = is ∙ (ap (λ x. taken ++ x) (sym (take-append-drop used rest)) ∙ sym (append_assoc taken (take used rest) (drop used rest)))

-- packets that the bytes begin with are among the whole packets of the bytes
more_packets : (ps qs : List Packet) (r s : List ℕ) → joined ps ++ r ≡ joined qs ++ s → IsFront s ⊎ IsOutOfSync s → (more : List Packet) × (qs ≡ ps ++ more)
more_packets [] qs r s e right = (qs, refl)
more_packets (p ∷ ps) [] r s e right = absurd (rest_is_short p (joined ps ++ r) s right (sym e ∙ append_assoc (spelling p) (joined ps) r))
more_packets (p ∷ ps) (q ∷ qs) r s e right =
    let first = same_packet p q (joined ps ++ r) (joined qs ++ s) (sym (append_assoc (spelling p) (joined ps) r) ∙ (e ∙ append_assoc (spelling q) (joined qs) s)) in
    let others = more_packets ps qs r s first.1 right in
    (others.0, ap (λ x. x ∷ qs) (sym first.0) ∙ ap (λ x. p ∷ x) others.1)

-- a prefix of what belongs to the first packets is one of what belongs to all of them
pub begun : (m : Meaning) (events : List Event) (packets : List Packet) (rest : List ℕ) → Grows m → bytes_read events ≡ joined packets ++ rest → IsFramed (bytes_read events) → IsPrefixOf (output_of events) (m.so_far packets) → HasBegunPackets m events
begun m events packets rest grows read (all, tail, framed) start =
    let more = more_packets packets all rest tail (sym read ∙ framed.whole) framed.left in
    let later : IsPrefixOf (m.so_far packets) (m.so_far all) = subst (λ x. IsPrefixOf (m.so_far packets) (m.so_far x)) (sym more.1) (grows.more packets more.0) in
    (all, tail, framed, start_trans (output_of events) (m.so_far packets) (m.so_far all) start later)

-- what goes out after what went out before
went_out : (events more : List Event) (wanted : Output) → IsPrefixOf (followed (output_of events) (output_of more)) wanted → IsPrefixOf (output_of (events ++ more)) wanted
went_out events more wanted start = subst (λ o. IsPrefixOf o wanted) (sym (output_of-append events more)) start

all_out : (events more : List Event) (gathered wanted : Output) → followed (followed (output_of events) (output_of more)) gathered ≡ wanted → followed (output_of (events ++ more)) gathered ≡ wanted
all_out events more gathered wanted is = ap (λ o. followed o gathered) (output_of-append events more) ∙ is

nothing_ended : HasEnded [] → ⊥
nothing_ended ([], after, e) = cc
nothing_ended (b ∷ before, after, e) = cc

-- a run that ends before it begins
pub nothing_yet : (m : Meaning) (limit : ℕ) (start : List Event) (left : List ℕ) → Grows m → Streams m limit end.OutOfMemory start start left left
nothing_yet m limit start left grows = record {
  events = [];
  passed = record { history = sym (append-nil start); taken = refl; prompt = at_no_read _; once = once_going [] nothing_ended };
  ends = (begun m [] [] [] grows refl (framed [] (λ i. omega arith)) (start_of_both nothing nothing (m.so_far []) (sym grows.none)), λ ended. absurd (nothing_ended ended), omega arith);
}

module _ {C : Type 0} (m : Meaning) (stands : C → List Packet → Type 0) (limit : ℕ) (start : List Event) (left : List ℕ) where
  -- nothing has passed
  pub turn_new : (c : Cutting) (consumer : C) (gathered : Output) → Grows m → c ≡ record { place = 0; held = []; whole = false; lost = false }
      → stands consumer [] → gathered ≡ nothing → Turn m stands limit start start left left [] c consumer gathered
  turn_new c consumer gathered grows is stood none = record {
    events = [];
    passed = record { history = sym (append-nil start); taken = refl; prompt = at_no_read _; once = once_going [] nothing_ended };
    few = omega arith;
    going = nothing_ended;
    taken = [];
    packets = [];
    read = refl;
    cut = subst (λ x. StandsFor [] [] x) (sym is) stands_at_start;
    stood = stood;
    output = ap (λ o. followed nothing o) none ∙ sym grows.none;
  }

  turn_shown : (now : List Event) (unread : List ℕ) (c : Cutting) (consumer : C) (gathered : Output) → gathered ≡ nothing → (t : Turn m stands limit start now left unread [] c consumer gathered) → HasShown m t.events t.packets (next_held c)
  turn_shown now unread c consumer gathered none t =
      let all : bytes_read t.events ≡ t.taken = t.read ∙ append-nil t.taken in
      record { framed = rw all (stands_framed t.taken t.packets c t.cut); output = sym (followed-nothing (output_of t.events)) ∙ (ap (λ o. followed (output_of t.events) o) (sym none) ∙ t.output) }

  -- a packet was cut off, and given to the consumer
  pub turn_pushed : (now next : List Event) (unread after rest : List ℕ) (used : ℕ) (old new : Cutting) (consumer other : C) (gathered gathered' : Output)
      → (t : Turn m stands limit start now left unread rest old consumer gathered) → (packet : Packet) → StandsFor (t.taken ++ take used rest) (t.packets ++ packet ∷ []) new
      → stands other (t.packets ++ packet ∷ []) → Emits now next gathered gathered' (m.so_far t.packets) (m.so_far (t.packets ++ packet ∷ [])) → after ≡ unread
      → Turn m stands limit start next left after (drop used rest) new other gathered'
  turn_pushed now next unread after rest used old new consumer other gathered gathered' t packet cut stood e kept = record {
    events = t.events ++ e.events;
    passed = passed_more m start now next left unread after t.events e.events t.passed e.history e.outputs kept;
    few = rw (read_same t.events e.events e.outputs) t.few;
    going = going_more t.events e.events e.outputs t.going;
    taken = t.taken ++ take used rest;
    packets = t.packets ++ packet ∷ [];
    read = read_same t.events e.events e.outputs ∙ read_on t.taken rest (bytes_read t.events) used t.read;
    cut = cut;
    stood = stood;
    output = all_out t.events e.events gathered' _ (e.output (output_of t.events) t.output);
  }

  -- a run that a consumer halted
  halts : (now next : List Event) (unread after : List ℕ) (events more : List Event) (reason : Halt) → Passed m start now left unread events → next ≡ now ++ more → NoRead more → after ≡ unread
      → length (bytes_read events) ≤ limit → HasBegunPackets m (events ++ more) → (HasEnded (events ++ more) → after ≡ []) → Streams m limit (halted reason) start next left after
  halts now next unread after events more halt.WriteFault p grown outputs kept few (packets, tail, framed, first) over = record {
    events = events ++ more;
    passed = passed_more m start now next left unread after events more p grown outputs kept;
    ends = ((packets, tail, framed, inl first), over, rw (read_same events more outputs) few);
  }
  halts now next unread after events more halt.OutOfMemory p grown outputs kept few begun over = record {
    events = events ++ more;
    passed = passed_more m start now next left unread after events more p grown outputs kept;
    ends = (begun, over, rw (read_same events more outputs) few);
  }

  -- the packet ended the run
  pub turn_halted : (now next : List Event) (unread after rest : List ℕ) (used : ℕ) (old new : Cutting) (consumer : C) (gathered : Output) (reason : Halt) → Grows m → IsFramed (drop used rest)
      → (t : Turn m stands limit start now left unread rest old consumer gathered) → (n : NextPacket t.taken rest used t.packets new)
      → EmitsStart now next gathered (m.so_far t.packets) (m.so_far (t.packets ++ n.packet ∷ [])) → after ≡ unread → Streams m limit (halted reason) start next left after
  turn_halted now next unread after rest used old new consumer gathered reason grows behind t n e kept =
      let packets : List Packet = t.packets ++ n.packet ∷ [] in
      let none : next_held new ≡ [] = none_held new n.whole in
      let read : bytes_read (t.events ++ e.events) ≡ joined packets ++ drop used rest =
      read_same t.events e.events e.outputs ∙ (read_on t.taken rest (bytes_read t.events) used t.read
      ∙ ap (λ x. x ++ drop used rest) (n.stands.whole ∙ (ap (λ x. joined packets ++ x) none ∙ append-nil (joined packets)))) in
      let is_framed : IsFramed (bytes_read (t.events ++ e.events)) = rw read (framed_behind packets (drop used rest) n.stands.each behind) in
      halts now next unread after t.events e.events reason t.passed e.history e.outputs kept t.few
      (begun m (t.events ++ e.events) packets (drop used rest) grows read is_framed (went_out t.events e.events _ (e.output (output_of t.events) t.output)))
      (λ ended. absurd (going_more t.events e.events e.outputs t.going ended))

  -- the piece is taken
  pub turn_taken : (now : List Event) (unread rest : List ℕ) (old new : Cutting) (consumer : C) (gathered : Output) → Turn m stands limit start now left unread rest old consumer gathered
      → Feeds old rest fed.Taken new → Turn m stands limit start now left unread [] new consumer gathered
  turn_taken now unread rest old new consumer gathered t fed = record {
    events = t.events;
    passed = t.passed;
    few = t.few;
    going = t.going;
    taken = t.taken ++ rest;
    packets = t.packets;
    read = t.read ∙ sym (append-nil (t.taken ++ rest));
    cut = stands_taken t.taken rest t.packets old new t.cut fed;
    stood = t.stood;
    output = t.output;
  }

  -- a byte begins no packet
  pub turn_lost : (place : ℕ) (now : List Event) (unread rest : List ℕ) (old new : Cutting) (consumer : C) (gathered : Output) → Turn m stands limit start now left unread rest old consumer gathered
      → Feeds old rest (fed.Sync place) new → (s : Stopped m stands limit start now left unread consumer gathered) × IsOutOfSync s.tail × (place ≡ length (joined s.packets))
  turn_lost place now unread rest old new consumer gathered t fed =
      let s = stands_sync t.taken rest place t.packets old new t.cut fed in (
        record {
          events = t.events;
          passed = t.passed;
          few = t.few;
          packets = t.packets;
          tail = rest;
          framed = rw t.read s.0;
          how = inr s.1;
          over = inl t.going;
          stood = t.stood;
          output = t.output;
        },
        s.1,
        s.2,
      )

  -- what was gathered went out
  pub turn_settled : (now next : List Event) (unread after : List ℕ) (c : Cutting) (gathered : C → Output) (consumer other : C) → Turn m stands limit start now left unread [] c consumer (gathered consumer)
      → ((packets : List Packet) → stands consumer packets → Settles m stands gathered consumer packets now next (Ok other)) → after ≡ unread
      → Turn m stands limit start next left after [] c other (gathered other) × (gathered other ≡ nothing)
  turn_settled now next unread after c gathered consumer other t settled kept =
      let s = settled t.packets t.stood in
      let e : Emits now next (gathered consumer) nothing (m.so_far t.packets) (m.so_far t.packets) = s.2 in (
        record {
          events = t.events ++ e.events;
          passed = passed_more m start now next left unread after t.events e.events t.passed e.history e.outputs kept;
          few = rw (read_same t.events e.events e.outputs) t.few;
          going = going_more t.events e.events e.outputs t.going;
          taken = t.taken;
          packets = t.packets;
          read = read_same t.events e.events e.outputs ∙ t.read;
          cut = t.cut;
          stood = s.0;
          output = ap (λ o. followed (output_of (t.events ++ e.events)) o) s.1 ∙ all_out t.events e.events nothing _ (e.output (output_of t.events) t.output);
        },
        s.1,
      )

  -- it didn't
  pub turn_unsettled : (now next : List Event) (unread after : List ℕ) (c : Cutting) (gathered : C → Output) (consumer : C) (reason : Halt) → Grows m → Turn m stands limit start now left unread [] c consumer (gathered consumer)
      → ((packets : List Packet) → stands consumer packets → Settles m stands gathered consumer packets now next (Err reason)) → after ≡ unread → Streams m limit (halted reason) start next left after
  turn_unsettled now next unread after c gathered consumer reason grows t settled kept =
      let e : EmitsStart now next (gathered consumer) (m.so_far t.packets) (m.so_far t.packets) = settled t.packets t.stood in
      let read : bytes_read (t.events ++ e.events) ≡ joined t.packets ++ next_held c = read_same t.events e.events e.outputs ∙ (t.read ∙ (append-nil t.taken ∙ t.cut.whole)) in
      let is_framed : IsFramed (bytes_read (t.events ++ e.events)) = rw (read_same t.events e.events e.outputs, t.read, append-nil t.taken) (t.packets, next_held c, stands_framed t.taken t.packets c t.cut) in
      halts now next unread after t.events e.events reason t.passed e.history e.outputs kept t.few
      (begun m (t.events ++ e.events) t.packets (next_held c) grows read is_framed (went_out t.events e.events _ (e.output (output_of t.events) t.output)))
      (λ ended. absurd (going_more t.events e.events e.outputs t.going ended))

  -- a piece came
  pub turn_read : (room : ℕ) (now next : List Event) (unread after bytes : List ℕ) (c : Cutting) (consumer : C) (gathered : Output) → gathered ≡ nothing → (t : Turn m stands limit start now left unread [] c consumer gathered)
      → Receives now next unread after bytes room → 0 < length bytes → length (bytes_read t.events) + length bytes ≤ limit → Turn m stands limit start next left after bytes c consumer gathered
  turn_read room now next unread after [] c consumer gathered none t r some few = absurd (omega (arith, some))
  turn_read room now next unread after (x ∷ bytes) c consumer gathered none t r some few = record {
    events = t.events ++ In (x ∷ bytes) ∷ [];
    passed = passed_read m start now next left unread after t.events (x ∷ bytes) t.packets (next_held c) t.passed (turn_shown now unread c consumer gathered none t) t.going r.history r.taken;
    few = rw (read_more t.events (x ∷ bytes), length-append (bytes_read t.events) (x ∷ bytes)) few;
    going = going_read t.events x bytes t.going;
    taken = t.taken;
    packets = t.packets;
    read = read_more t.events (x ∷ bytes) ∙ ap (λ y. y ++ x ∷ bytes) (t.read ∙ append-nil t.taken);
    cut = t.cut;
    stood = t.stood;
    output = ap (λ o. followed o gathered) (output_of-read t.events (x ∷ bytes)) ∙ t.output;
  }

  -- how much was read
  pub turn_size : (now : List Event) (unread : List ℕ) (c : Cutting) (consumer : C) (gathered : Output) → (t : Turn m stands limit start now left unread [] c consumer gathered) → length (bytes_read t.events) ≡ c.place + length c.held
  turn_size now unread c consumer gathered t =
      ap length (t.read ∙ (append-nil t.taken ∙ t.cut.whole)) ∙ (length-append (joined t.packets) (next_held c) ∙ (ap (λ n. n + length (next_held c)) (sym t.cut.place) ∙ next_size c.place c.held c.whole c.lost))

  -- the input ended
  pub turn_none : (room : ℕ) (now next : List Event) (unread after bytes : List ℕ) (c : Cutting) (consumer : C) (gathered : Output) → gathered ≡ nothing → Turn m stands limit start now left unread [] c consumer gathered
      → Receives now next unread after bytes room → 0 < room → bytes ≡ []
      → (s : Stopped m stands limit start next left after consumer gathered) × (s.tail ≡ next_held c) × IsFront (next_held c) × (length (joined s.packets) ≡ next_place c) × HasEnded s.events
  turn_none room now next unread after (x ∷ bytes) c consumer gathered nil t r some none = absurd cc
  turn_none room now next unread after [] c consumer gathered nil t r some none =
      let shown = turn_shown now unread c consumer gathered nil t in
      let same : bytes_read (t.events ++ In [] ∷ []) ≡ bytes_read t.events = read_more t.events [] ∙ append-nil (bytes_read t.events) in
      let over : HasEnded (t.events ++ In [] ∷ []) = (t.events, [], refl) in (
        record {
          events = t.events ++ In [] ∷ [];
          passed = passed_read m start now next left unread after t.events [] t.packets (next_held c) t.passed shown t.going r.history r.taken;
          few = rw same t.few;
          packets = t.packets;
          tail = next_held c;
          framed = rw same shown.framed;
          how = inl over;
          over = inr (r.end some none);
          stood = t.stood;
          output = ap (λ o. followed o gathered) (output_of-read t.events []) ∙ t.output;
        },
        refl,
        t.cut.front,
        sym t.cut.place,
        over,
      )

  -- a byte came after the limit
  pub turn_too_long : (room : ℕ) (now next : List Event) (unread after bytes : List ℕ) (c : Cutting) (consumer : C) (gathered : Output) → gathered ≡ nothing → (t : Turn m stands limit start now left unread [] c consumer gathered)
      → Receives now next unread after bytes room → length (bytes_read t.events) ≡ limit → length bytes ≡ 1 → Streams m limit end.TooLong start next left after
  turn_too_long room now next unread after [] c consumer gathered none t r full one = absurd (omega (arith, one))
  turn_too_long room now next unread after (byte ∷ x ∷ more) c consumer gathered none t r full one = absurd (omega (arith, one))
  turn_too_long room now next unread after (byte ∷ []) c consumer gathered none t r full one =
      let shown = turn_shown now unread c consumer gathered none t in
      record {
        events = t.events ++ In (byte ∷ []) ∷ [];
        passed = passed_read m start now next left unread after t.events (byte ∷ []) t.packets (next_held c) t.passed shown t.going r.history r.taken;
        ends = (
          t.packets,
          next_held c,
          bytes_read t.events,
          byte,
          read_more t.events (byte ∷ []),
          full,
          shown.framed,
          t.cut.front,
          output_of-read t.events (byte ∷ []) ∙ shown.output,
          going_read t.events byte [] t.going,
        );
      }

  -- the read failed
  pub turn_read_fault : (now next : List Event) (unread after : List ℕ) (c : Cutting) (consumer : C) (gathered : Output) → gathered ≡ nothing → Turn m stands limit start now left unread [] c consumer gathered
      → Stays now next unread after → Streams m limit end.ReadFault start next left after
  turn_read_fault now next unread after c consumer gathered none t s = record {
    events = t.events;
    passed = record { history = s.history ∙ t.passed.history; taken = rw s.untaken t.passed.taken; prompt = t.passed.prompt; once = t.passed.once };
    ends = (t.packets, next_held c, turn_shown now unread c consumer gathered none t, t.cut.front, t.few);
  }

  finished : (now next : List Event) (unread : List ℕ) (consumer : C) (gathered : Output) (s : Stopped m stands limit start now left unread consumer gathered)
      → (e : Emits now next gathered nothing (m.so_far s.packets) (m.at_end s.packets)) → HasFinished m (s.events ++ e.events) s.packets s.tail
  finished now next unread consumer gathered s e = record {
    framed = rw (read_same s.events e.events e.outputs) s.framed;
    output = sym (followed-nothing (output_of (s.events ++ e.events))) ∙ all_out s.events e.events nothing _ (e.output (output_of s.events) s.output);
  }

  how_more : (events more : List Event) (tail : List ℕ) → HasEnded events ⊎ IsOutOfSync tail → HasEnded (events ++ more) ⊎ IsOutOfSync tail
  how_more events more tail (inl over) = inl (ended_more events more over)
  how_more events more tail (inr out) = inr out

  over_more : (events more : List Event) (unread after : List ℕ) → NoRead more → after ≡ unread → (HasEnded events → ⊥) ⊎ (unread ≡ []) → HasEnded (events ++ more) → after ≡ []
  over_more events more unread after outputs kept (inl going) ended = absurd (going_more events more outputs going ended)
  over_more events more unread after outputs kept (inr none) ended = kept ∙ none

  -- the end, and then a write that failed
  pub stopped_halted : (now next : List Event) (unread after : List ℕ) (consumer : C) (gathered : Output) (s : Stopped m stands limit start now left unread consumer gathered)
      → EmitsStart now next gathered (m.so_far s.packets) (m.at_end s.packets) → after ≡ unread → Streams m limit end.WriteFault start next left after
  stopped_halted now next unread after consumer gathered s e kept =
      let begun : HasBegun m (s.events ++ e.events) = (
        s.packets,
        s.tail,
        rw (read_same s.events e.events e.outputs) s.framed,
        inr (went_out s.events e.events _ (e.output (output_of s.events) s.output), how_more s.events e.events s.tail s.how),
      ) in
      record {
        events = s.events ++ e.events;
        passed = passed_more m start now next left unread after s.events e.events s.passed e.history e.outputs kept;
        ends = (begun, over_more s.events e.events unread after e.outputs kept s.over, rw (read_same s.events e.events e.outputs) s.few);
      }

  pub whole_ends : (room : ℕ) (now next final : List Event) (unread after last bytes : List ℕ) (c : Cutting) (consumer : C) (gathered : Output) (outcome : StreamEnd) → gathered ≡ nothing → Turn m stands limit start now left unread [] c consumer gathered
      → Receives now next unread after bytes room → 0 < room → bytes ≡ [] → cutting.Ends c cut_end.Whole
      → ((packets : List Packet) → stands consumer packets → EndsWith m gathered packets end.Done next final outcome) → last ≡ after → Streams m limit outcome start final left last
  whole_ends room now next final unread after last bytes c consumer gathered outcome nil before r some none whole ended kept =
      let both = turn_none room now next unread after bytes c consumer gathered nil before r some none in
      let s : Stopped m stands limit start next left after consumer gathered = both.0 in
      elim (ended s.packets s.stood) [
        | inl (is, e) ↦ rw is (record {
          events = s.events ++ e.events;
          passed = passed_more m start next final left after last s.events e.events s.passed e.history e.outputs kept;
          ends = (
            s.packets,
            subst (λ x. HasFinished m (s.events ++ e.events) s.packets x) (both.1 ∙ whole) (finished next final after consumer gathered s e),
            ended_more s.events e.events both.4,
            kept ∙ r.end some none,
            rw (read_same s.events e.events e.outputs) s.few,
          );
        })
        | inr (is, e) ↦ rw is (stopped_halted next final after last consumer gathered s e kept)
      ]

  pub cut_ends : (place room : ℕ) (now next final : List Event) (unread after last bytes : List ℕ) (c : Cutting) (consumer : C) (gathered : Output) (outcome : StreamEnd) → gathered ≡ nothing → Turn m stands limit start now left unread [] c consumer gathered
      → Receives now next unread after bytes room → 0 < room → bytes ≡ [] → cutting.Ends c (cut_end.Cut place)
      → ((packets : List Packet) → stands consumer packets → EndsWith m gathered packets (end.Broken kind.Cut place) next final outcome) → last ≡ after → Streams m limit outcome start final left last
  cut_ends place room now next final unread after last bytes c consumer gathered outcome nil before r some none cut ended kept =
      let both = turn_none room now next unread after bytes c consumer gathered nil before r some none in
      let s : Stopped m stands limit start next left after consumer gathered = both.0 in
      elim (ended s.packets s.stood) [
        | inl (is, e) ↦ rw is (record {
          events = s.events ++ e.events;
          passed = passed_more m start next final left after last s.events e.events s.passed e.history e.outputs kept;
          ends = (
            s.packets,
            next_held c,
            subst (λ x. HasFinished m (s.events ++ e.events) s.packets x) both.1 (finished next final after consumer gathered s e),
            both.2,
            cut.0,
            cut.1 ∙ sym both.3,
            ended_more s.events e.events both.4,
            kept ∙ r.end some none,
            rw (read_same s.events e.events e.outputs) s.few,
          );
        })
        | inr (is, e) ↦ rw is (stopped_halted next final after last consumer gathered s e kept)
      ]

  pub lost_ends : (place : ℕ) (now final : List Event) (unread last : List ℕ) (consumer : C) (gathered : Output) (outcome : StreamEnd)
      → ((s : Stopped m stands limit start now left unread consumer gathered) × IsOutOfSync s.tail × (place ≡ length (joined s.packets)))
      → ((packets : List Packet) → stands consumer packets → EndsWith m gathered packets (end.Broken kind.Sync place) now final outcome) → last ≡ unread → Streams m limit outcome start final left last
  lost_ends place now final unread last consumer gathered outcome (s, out, at) ended kept =
      elim (ended s.packets s.stood) [
        | inl (is, e) ↦ rw is (record {
          events = s.events ++ e.events;
          passed = passed_more m start now final left unread last s.events e.events s.passed e.history e.outputs kept;
          ends = (s.packets, s.tail, finished now final unread consumer gathered s e, out, at, rw (read_same s.events e.events e.outputs) s.few);
        })
        | inr (is, e) ↦ rw is (stopped_halted now final unread last consumer gathered s e kept)
      ]
