-- What `take` writes of a delivery.
use Rattle.std.proofs.Common.{◌≡◌, ◌⊎◌, inl, inr, ℕ, List, [], ◌∷◌, ◌++◌, append_assoc, refl, sym, ap, subst, ◌∙◌}
use Rattle.std.proofs.lemmas.List.{append-nil}
use Rattle.std.proofs.lemmas.List.Concat.{flat_map-append}
use Rattle.mmt_io.specs.History.{Event, bytes_read}
use Rattle.mmt_model.specs.Delivery.{NearDelivery, newest_first}
use Rattle.mmt_model.specs.Handing.{Presentation}
use Rattle.mmt_model.specs.Survival.{AreOf}
use Rattle.mmt_model.specs.declared.casts.Cast.{Cast}
use Rattle.mmt_model.specs.declared.programmes.Programme.{Programme}
use Rattle.mmt_output.specs.Records.{record_of, records}
use Rattle.mmt_recv.specs.Noting.{noted}
use Rattle.mmt_recv.specs.Receiving.{all_units, received, session_of, summary_of, units_left, units_out, values_of}
use Rattle.mmt_stream.specs.Consuming.{Grows, Meaning}
use Rattle.mmt_io.specs.Output.{IsPrefixOf, Output, output_of}
use Rattle.mmt_stream.specs.Streaming.{Ends, HasBegun, IsAllRead}
use Rattle.mmt_stream.specs.declared.end.StreamEnd.{StreamEnd}
use Rattle.mmt_stream.proofs.Outputs.{same_output, start_trans}
use Rattle.mmt_take.specs.Taking.{line_of, placed, taking}
use Rattle.mmt_take.specs.TakingGrows.{taking_grows}
use Rattle.mmt_tlv.specs.Framing.{Framed, IsOutOfSync, Packet, joined, spelling}
use Rattle.mmt_tlv.proofs.Unique.{one_framing, out_for_good, out_is_some, same_packet}
use Rattle.mmt_tune.specs.Tuning.{Placed, packets_of as tlv_of}
use Rattle.mmt_tune.specs.declared.config.Config.{Config}
use Rattle.mmt_headline.specs.Programmes.{IsSendable, ProgrammesAreReceived, Receives}
use Rattle.mmt_sent.specs.Stream.{stream_of}
use Rattle.mmt_model.specs.Received.{tuned_places}
use Rattle.mmt_headline.proofs.Framed.{streams-framed}
use Rattle.mmt_headline.specs.Taken.{TakesAStart, TakesDelivery, all_taken, expected_of, placed_of}
use Rattle.mmt_stream.specs.declared.end.BrokenKind.TheVariants as kind
use Rattle.mmt_stream.specs.declared.end.StreamEnd.TheVariants as end

pub placed-packets : (packets : List Packet) → tlv_of (placed packets) ≡ packets
unfolding placed
placed-packets [] = refl
placed-packets (p ∷ older) = ap (λ (ps : List Packet). p ∷ ps) (placed-packets older)

-- ---- what belongs to the end

end-written : (config : Config) (packets : List Packet) → (let m = taking config in (m.at_end packets).written ≡ records (all_units config (placed (newest_first packets))))
unfolding received
end-written config packets =
    let ps : List Placed = placed (newest_first packets) in
    let out : List Presentation = units_out config (session_of config ps) (values_of config ps) in
    let rest : List Presentation = units_left config (session_of config ps) (values_of config ps) in
    ap (λ (xs : List ℕ). records out ++ xs) (append-nil (records rest)) ∙ sym (flat_map-append record_of out rest)

end-noted : (config : Config) (packets : List Packet) → (let m = taking config in (m.at_end packets).noted ≡ noted config (placed (newest_first packets)) ++ line_of (summary_of config (placed (newest_first packets))))
unfolding received
end-noted config packets = refl

pub units-are : (config : Config) (programme : Programme) (cast : Cast) (files : ℕ → List ℕ) (delivery : List ℕ) → ProgrammesAreReceived → IsSendable programme cast files → Receives config programme → AreOf cast.packets delivery → NearDelivery cast.packets (tuned_places cast programme.full_every delivery)
    → all_units config (placed_of programme cast files delivery) ≡ expected_of programme cast files delivery
unfolding placed_of
units-are config programme cast files delivery theorem ok r of near =
    theorem config programme cast files delivery (placed (newest_first (stream_of programme cast files delivery))) ok r of near (placed-packets (newest_first (stream_of programme cast files delivery)))

-- all that belongs to the end
at-end : (config : Config) (programme : Programme) (cast : Cast) (files : ℕ → List ℕ) (delivery : List ℕ) → ProgrammesAreReceived → IsSendable programme cast files → Receives config programme
    → AreOf cast.packets delivery → NearDelivery cast.packets (tuned_places cast programme.full_every delivery)
    → (let m = taking config in m.at_end (stream_of programme cast files delivery)) ≡ all_taken config programme cast files delivery
unfolding placed_of
at-end config programme cast files delivery theorem ok r of near =
    let packets : List Packet = stream_of programme cast files delivery in
    same_output ((taking config).at_end packets) (all_taken config programme cast files delivery) (end-written config packets ∙ ap records (units-are config programme cast files delivery theorem ok r of near)) (end-noted config packets)

-- ---- a run that is done

pub takes : ProgrammesAreReceived → TakesDelivery
takes theorem config programme cast files delivery limit old new unread ok r of near s =
    let packets : List Packet = stream_of programme cast files delivery in
    let ends : Ends (taking config) limit end.Done s.events unread = s.ends in
    let finished = ends.1 in
    let all : joined packets ≡ bytes_read s.events = s.passed.taken ∙ ap (λ (xs : List ℕ). bytes_read s.events ++ xs) ends.3 ∙ append-nil (bytes_read s.events) in
    let framed : Framed (bytes_read s.events) packets [] = subst (λ (xs : List ℕ). Framed xs packets []) all (streams-framed programme cast files delivery ok of) in
    let same = one_framing (bytes_read s.events) ends.0 packets [] [] finished.framed framed in
    let m = taking config in
    finished.output ∙ ap (λ (ps : List Packet). m.at_end ps) same.0 ∙ at-end config programme cast files delivery theorem ok r of near

-- ---- a run that ends in any way

-- the packets of a prefix of the bytes are a prefix of the packets
start-packets : (ps qs : List Packet) (rest : List ℕ) → joined ps ++ rest ≡ joined qs → (others : List Packet) × (qs ≡ ps ++ others)
start-packets [] qs rest e = (qs, refl)
start-packets (p ∷ ps) [] rest e = absurd cc
start-packets (p ∷ ps) (q ∷ qs) rest e =
    let first = same_packet p q (joined ps ++ rest) (joined qs) (sym (append_assoc (spelling p) (joined ps) rest) ∙ e) in
    let later = start-packets ps qs rest first.1 in
    (later.0, ap (λ (x : Packet). x ∷ qs) (sym first.0) ∙ ap (λ (xs : List Packet). p ∷ xs) later.1)

-- what went out of the packets of a front of the bytes is a prefix of what belongs to the end
start-of : (config : Config) (packets read : List Packet) (got tail left : List ℕ) (went : Output) → Framed (joined packets) packets [] → Framed got read tail → joined packets ≡ got ++ left
    → (let m = taking config in IsPrefixOf went (m.so_far read) ⊎ (IsPrefixOf went (m.at_end read) × ((left ≡ []) ⊎ IsOutOfSync tail)))
    → (let m = taking config in IsPrefixOf went (m.at_end packets))
start-of config packets read got tail left went whole framed taken (inl begun) =
    let m = taking config in
    let grows : Grows m = taking_grows config in
    let split : joined read ++ (tail ++ left) ≡ joined packets = sym (append_assoc (joined read) tail left) ∙ ap (λ (xs : List ℕ). xs ++ left) (sym framed.whole) ∙ sym taken in
    let others = start-packets read packets (tail ++ left) split in
    let more : IsPrefixOf (m.so_far read) (m.so_far packets) = subst (λ (ps : List Packet). IsPrefixOf (m.so_far read) (m.so_far ps)) (sym others.1) (grows.more read others.0) in
    start_trans _ _ _ begun (start_trans _ _ _ more (grows.end packets))
start-of config packets read got tail left went whole framed taken (inr (begun, inl none)) =
    let m = taking config in
    let all : joined packets ≡ got = taken ∙ ap (λ (xs : List ℕ). got ++ xs) none ∙ append-nil got in
    let same = one_framing got read packets tail [] framed (subst (λ (xs : List ℕ). Framed xs packets []) all whole) in
    subst (λ (ps : List Packet). IsPrefixOf went (m.at_end ps)) same.0 begun
start-of config packets read got tail left went whole framed taken (inr (begun, inr out)) =
    let good : Framed (got ++ left) read (tail ++ left) = out_for_good got left read tail framed out in
    let same = one_framing (got ++ left) read packets (tail ++ left) [] good (subst (λ (xs : List ℕ). Framed xs packets []) taken whole) in
    absurd (out_is_some tail left out same.1)

same-start : (a b : Output) → a ≡ b → IsPrefixOf a b
same-start a b is = record {
  written = ([], sym (ap (λ (o : Output). o.written) is) ∙ sym (append-nil a.written));
  noted = ([], sym (ap (λ (o : Output). o.noted) is) ∙ sym (append-nil a.noted));
}

-- which packets were read of the bytes, and what went out of them
record WentOut (m : Meaning) (whole : List ℕ) (went : Output) : Type 0 where
  read : List Packet
  got : List ℕ
  tail : List ℕ
  left : List ℕ
  framed : Framed got read tail
  taken : whole ≡ got ++ left
  begun : IsPrefixOf went (m.so_far read) ⊎ (IsPrefixOf went (m.at_end read) × ((left ≡ []) ⊎ IsOutOfSync tail))

module _ (m : Meaning) (limit : ℕ) (events : List Event) (unread whole : List ℕ) (taken : whole ≡ bytes_read events ++ unread) where
  halted : HasBegun m events → IsAllRead events unread → WentOut m whole (output_of events)
  halted (packets, tail, framed, inl begun) over = record { read = packets; got = bytes_read events; tail = tail; left = unread; framed = framed; taken = taken; begun = inl begun }
  halted (packets, tail, framed, inr (begun, inl has)) over = record { read = packets; got = bytes_read events; tail = tail; left = unread; framed = framed; taken = taken; begun = inr (begun, inl (over has)) }
  halted (packets, tail, framed, inr (begun, inr out)) over = record { read = packets; got = bytes_read events; tail = tail; left = unread; framed = framed; taken = taken; begun = inr (begun, inr out) }

  went-out : (outcome : StreamEnd) → Ends m limit outcome events unread → WentOut m whole (output_of events)
  went-out end.Done (packets, finished, ended, none, within) =
      record { read = packets; got = bytes_read events; tail = []; left = unread; framed = finished.framed; taken = taken; begun = inr (same-start (output_of events) (m.at_end packets) finished.output, inl none) }
  went-out (end.Broken kind.Sync place) (packets, tail, finished, out, at, within) =
      record { read = packets; got = bytes_read events; tail = tail; left = unread; framed = finished.framed; taken = taken; begun = inr (same-start (output_of events) (m.at_end packets) finished.output, inr out) }
  went-out (end.Broken kind.Cut place) (packets, tail, finished, front, some, at, ended, none, within) =
      record { read = packets; got = bytes_read events; tail = tail; left = unread; framed = finished.framed; taken = taken; begun = inr (same-start (output_of events) (m.at_end packets) finished.output, inl none) }
  went-out end.TooLong (packets, tail, seen, byte, read, full, framed, front, output, going) =
      record { read = packets; got = seen; tail = tail; left = byte ∷ unread; framed = framed; taken = taken ∙ ap (λ (xs : List ℕ). xs ++ unread) read ∙ append_assoc seen (byte ∷ []) unread; begun = inl (same-start (output_of events) (m.so_far packets) output) }
  went-out end.ReadFault (packets, tail, shown, front, within) =
      record { read = packets; got = bytes_read events; tail = tail; left = unread; framed = shown.framed; taken = taken; begun = inl (same-start (output_of events) (m.so_far packets) shown.output) }
  went-out end.WriteFault (begun, over, within) = halted begun over
  went-out end.OutOfMemory ((packets, tail, framed, begun), over, within) = halted (packets, tail, framed, inl begun) over

pub takes-start : ProgrammesAreReceived → TakesAStart
takes-start theorem config programme cast files delivery limit outcome old new unread ok r of near s =
    let packets : List Packet = stream_of programme cast files delivery in
    let w = went-out (taking config) limit s.events unread (joined packets) s.passed.taken outcome s.ends in
    subst (IsPrefixOf (output_of s.events)) (at-end config programme cast files delivery theorem ok r of near)
    (start-of config packets w.read w.got w.tail w.left (output_of s.events) (streams-framed programme cast files delivery ok of) w.framed w.taken w.begun)
