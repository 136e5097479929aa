use Rattle.std.proofs.Common.{rules, ◌≡◌, ◌+◌, ◌≤◌, ◌<◌, sym, ◌∙◌, subst, length, take, arith, [], refl}
use Rattle.std.specs.Prelude.{IsTrue}
use Rattle.std.proofs.lemmas.List.{length-take}
use Rattle.std.proofs.lemmas.Grind.{common_steps}
use Rattle.mmt_stream.specs.Consuming.{Meaning}
use Rattle.mmt_stream.proofs.Turns.{turn_settled, turn_unsettled, turn_read, turn_read_fault, turn_too_long, turn_size, whole_ends, cut_ends, lost_ends}
use Rattle.mmt_stream.proofs.drive.read_through.Goals as goal

pub returns-in-Err-clause-streams : goal.returns-in-Err-clause-streams
returns-in-Err-clause-streams g c = λ told first.
    let m : Meaning = g.C.Consumer.meaning c.args.consumer in
    let told_here : IsTrue (g.P.Port.tells c.reads.port) = subst IsTrue (sym c.reads.invariant.tells) told in
    let settled = rw c.reads.invariant.same at (c.in-Err.ensures.settled told_here) in
    rw c.end_of.ensures
    (turn_unsettled m g.C.Consumer.stands _ _ _ _ _ _ _ c.reads.cutter g.C.Consumer.gathered c.reads.consumer c.in-Err.reason (g.met.C.Consumer.grows c.args.consumer) (c.reads.invariant.turn told first) settled (c.in-Err.ensures.sends.unread told_here))

pub returns-in-Err-read-clause-streams : goal.returns-in-Err-read-clause-streams
returns-in-Err-read-clause-streams g c = λ told first.
    let m : Meaning = g.C.Consumer.meaning c.args.consumer in
    let told_here : IsTrue (g.P.Port.tells c.reads.port) = subst IsTrue (sym c.reads.invariant.tells) told in
    let told_settled : IsTrue (g.P.Port.tells c.settle.new.port) = subst IsTrue (sym c.in-Ok.ensures.sends.telling) told_here in
    let settled = rw c.reads.invariant.same at (c.in-Ok.ensures.settled told_here) in
    let ready = turn_settled m g.C.Consumer.stands _ _ _ _ _ _ _ c.reads.cutter g.C.Consumer.gathered c.reads.consumer c.in-Ok.next (c.reads.invariant.turn told first) settled (c.in-Ok.ensures.sends.unread told_here) in
    turn_read_fault m g.C.Consumer.stands _ _ _ _ _ _ _ c.reads.cutter c.in-Ok.next _ ready.1 ready.0 (c.in-Err-read.ensures.bytes told_settled)

pub returns-in-Whole-clause-streams : goal.returns-in-Whole-clause-streams
returns-in-Whole-clause-streams g c = λ told first.
    let m : Meaning = g.C.Consumer.meaning c.args.consumer in
    let told_here : IsTrue (g.P.Port.tells c.reads.port) = subst IsTrue (sym c.reads.invariant.tells) told in
    let told_settled : IsTrue (g.P.Port.tells c.settle.new.port) = subst IsTrue (sym c.in-Ok.ensures.sends.telling) told_here in
    let settled = rw c.reads.invariant.same at (c.in-Ok.ensures.settled told_here) in
    let ready = turn_settled m g.C.Consumer.stands _ _ _ _ _ _ _ c.reads.cutter g.C.Consumer.gathered c.reads.consumer c.in-Ok.next (c.reads.invariant.turn told first) settled (c.in-Ok.ensures.sends.unread told_here) in
    let told_read : IsTrue (g.P.Port.tells c.read.new.self) = subst IsTrue (sym c.in-Ok-read.ensures.tells) told_settled in
    let none : take c.in-Ok-read.count c.read.new.buf ≡ [] = rw c.if-count-eq0.true refl in
    let same : g.C.Consumer.meaning c.in-Ok.next ≡ m = c.in-Ok.ensures.same ∙ c.reads.invariant.same in
    let ended = rw same at (c.finish-in-Whole.ensures.finished told_read) in
    whole_ends m g.C.Consumer.stands _ _ _ _ _ _ _ _ _ _ _ c.reads.cutter c.in-Ok.next _ _ ready.1 ready.0 (c.in-Ok-read.ensures.bytes told_settled) (search rules) none c.in-Whole.ensures ended (c.finish-in-Whole.ensures.sends.unread told_read)

pub returns-in-Cut-clause-streams : goal.returns-in-Cut-clause-streams
returns-in-Cut-clause-streams g c = λ told first.
    let m : Meaning = g.C.Consumer.meaning c.args.consumer in
    let told_here : IsTrue (g.P.Port.tells c.reads.port) = subst IsTrue (sym c.reads.invariant.tells) told in
    let told_settled : IsTrue (g.P.Port.tells c.settle.new.port) = subst IsTrue (sym c.in-Ok.ensures.sends.telling) told_here in
    let settled = rw c.reads.invariant.same at (c.in-Ok.ensures.settled told_here) in
    let ready = turn_settled m g.C.Consumer.stands _ _ _ _ _ _ _ c.reads.cutter g.C.Consumer.gathered c.reads.consumer c.in-Ok.next (c.reads.invariant.turn told first) settled (c.in-Ok.ensures.sends.unread told_here) in
    let told_read : IsTrue (g.P.Port.tells c.read.new.self) = subst IsTrue (sym c.in-Ok-read.ensures.tells) told_settled in
    let none : take c.in-Ok-read.count c.read.new.buf ≡ [] = rw c.if-count-eq0.true refl in
    let same : g.C.Consumer.meaning c.in-Ok.next ≡ m = c.in-Ok.ensures.same ∙ c.reads.invariant.same in
    let ended = rw same at (c.finish_broken.ensures.finished told_read) in
    cut_ends m g.C.Consumer.stands _ _ _ c.in-Cut.place _ _ _ _ _ _ _ _ c.reads.cutter c.in-Ok.next _ _ ready.1 ready.0 (c.in-Ok-read.ensures.bytes told_settled) (search rules) none c.in-Cut.ensures ended (c.finish_broken.ensures.sends.unread told_read)

pub returns-then-room-eq0-clause-streams : goal.returns-then-room-eq0-clause-streams
returns-then-room-eq0-clause-streams g c = λ told first.
    let count : length (take c.in-Ok-read.count c.read.new.buf) ≡ c.in-Ok-read.count = search (rules, length-take) in
    let one : c.in-Ok-read.count ≡ 1 = grind (arith, common_steps) in
    let m : Meaning = g.C.Consumer.meaning c.args.consumer in
    let told_here : IsTrue (g.P.Port.tells c.reads.port) = subst IsTrue (sym c.reads.invariant.tells) told in
    let told_settled : IsTrue (g.P.Port.tells c.settle.new.port) = subst IsTrue (sym c.in-Ok.ensures.sends.telling) told_here in
    let settled = rw c.reads.invariant.same at (c.in-Ok.ensures.settled told_here) in
    let ready = turn_settled m g.C.Consumer.stands _ _ _ _ _ _ _ c.reads.cutter g.C.Consumer.gathered c.reads.consumer c.in-Ok.next (c.reads.invariant.turn told first) settled (c.in-Ok.ensures.sends.unread told_here) in
    turn_too_long m g.C.Consumer.stands _ _ _ _ _ _ _ _ _ c.reads.cutter c.in-Ok.next _ ready.1 ready.0 (c.in-Ok-read.ensures.bytes told_settled)
    (omega (arith, turn_size m g.C.Consumer.stands _ _ _ _ _ c.reads.cutter c.in-Ok.next _ ready.0, c.reads.invariant.size)) (omega (arith, count, one))

pub reads-preserved : goal.reads-preserved
reads-preserved g c =
    let count : length (take c.in-Ok-read.count c.read.new.buf) ≡ c.in-Ok-read.count = search (rules, length-take) in
    let bound : c.reads.taken + c.in-Ok-read.count ≤ c.args.limit = grind (arith, common_steps) in
    let some : 0 < c.in-Ok-read.count = omega arith in
    record {
      tells = search rules;
      later_reads = omega (arith, c.in-Ok-read.ensures.cause.later);
      later_writes = omega arith;
      size = omega (arith, c.in-On.ensures.size _ refl, count, c.reads.invariant.size);
      bound = bound;
      room = omega arith;
      same = c.in-On.ensures.same _ refl ∙ (c.in-Ok.ensures.same ∙ c.reads.invariant.same);
      turn = λ told first.
          let m : Meaning = g.C.Consumer.meaning c.args.consumer in
          let told_here : IsTrue (g.P.Port.tells c.reads.port) = subst IsTrue (sym c.reads.invariant.tells) told in
          let told_settled : IsTrue (g.P.Port.tells c.settle.new.port) = subst IsTrue (sym c.in-Ok.ensures.sends.telling) told_here in
          let settled = rw c.reads.invariant.same at (c.in-Ok.ensures.settled told_here) in
          let ready = turn_settled m g.C.Consumer.stands _ _ _ _ _ _ _ c.reads.cutter g.C.Consumer.gathered c.reads.consumer c.in-Ok.next (c.reads.invariant.turn told first) settled (c.in-Ok.ensures.sends.unread told_here) in
          let told_read : IsTrue (g.P.Port.tells c.read.new.self) = subst IsTrue (sym c.in-Ok-read.ensures.tells) told_settled in
          let got = turn_read m g.C.Consumer.stands _ _ _ _ _ _ _ _ _ c.reads.cutter c.in-Ok.next _ ready.1 ready.0 (c.in-Ok-read.ensures.bytes told_settled) (omega (arith, count, some))
          (omega (arith, count, bound, turn_size m g.C.Consumer.stands _ _ _ _ _ c.reads.cutter c.in-Ok.next _ ready.0, c.reads.invariant.size)) in
          let same : g.C.Consumer.meaning c.in-Ok.next ≡ m = c.in-Ok.ensures.same ∙ c.reads.invariant.same in
          let served = rw same at (c.in-On.ensures.served told_read c.args.limit (g.P.Port.history c.args.port.now) (g.P.Port.left c.args.port.now)) in
          served got;
    }

pub returns-in-Lost-clause-streams : goal.returns-in-Lost-clause-streams
returns-in-Lost-clause-streams g c = λ told first.
    let count : length (take c.in-Ok-read.count c.read.new.buf) ≡ c.in-Ok-read.count = search (rules, length-take) in
    let bound : c.reads.taken + c.in-Ok-read.count ≤ c.args.limit = grind (arith, common_steps) in
    let some : 0 < c.in-Ok-read.count = omega arith in
    let m : Meaning = g.C.Consumer.meaning c.args.consumer in
    let told_here : IsTrue (g.P.Port.tells c.reads.port) = subst IsTrue (sym c.reads.invariant.tells) told in
    let told_settled : IsTrue (g.P.Port.tells c.settle.new.port) = subst IsTrue (sym c.in-Ok.ensures.sends.telling) told_here in
    let settled = rw c.reads.invariant.same at (c.in-Ok.ensures.settled told_here) in
    let ready = turn_settled m g.C.Consumer.stands _ _ _ _ _ _ _ c.reads.cutter g.C.Consumer.gathered c.reads.consumer c.in-Ok.next (c.reads.invariant.turn told first) settled (c.in-Ok.ensures.sends.unread told_here) in
    let told_read : IsTrue (g.P.Port.tells c.read.new.self) = subst IsTrue (sym c.in-Ok-read.ensures.tells) told_settled in
    let got = turn_read m g.C.Consumer.stands _ _ _ _ _ _ _ _ _ c.reads.cutter c.in-Ok.next _ ready.1 ready.0 (c.in-Ok-read.ensures.bytes told_settled) (omega (arith, count, some))
    (omega (arith, count, bound, turn_size m g.C.Consumer.stands _ _ _ _ _ c.reads.cutter c.in-Ok.next _ ready.0, c.reads.invariant.size)) in
    let same : g.C.Consumer.meaning c.in-Ok.next ≡ m = c.in-Ok.ensures.same ∙ c.reads.invariant.same in
    let told_served : IsTrue (g.P.Port.tells c.serve.new.port) = subst IsTrue (sym c.in-Lost.ensures.sends.telling) told_read in
    let served = rw same at (c.in-Lost.ensures.served told_read c.args.limit (g.P.Port.history c.args.port.now) (g.P.Port.left c.args.port.now)) in
    let ended = rw (c.in-Lost.ensures.same_lost _ _ refl ∙ same) at (c.finish_broken-in-Lost.ensures.finished told_served) in
    lost_ends m g.C.Consumer.stands _ _ _ _ _ _ _ _ c.in-Lost.consumer _ _ (served got) ended (c.finish_broken-in-Lost.ensures.sends.unread told_served)

pub returns-in-Halted-clause-streams : goal.returns-in-Halted-clause-streams
returns-in-Halted-clause-streams g c = λ told first.
    let count : length (take c.in-Ok-read.count c.read.new.buf) ≡ c.in-Ok-read.count = search (rules, length-take) in
    let bound : c.reads.taken + c.in-Ok-read.count ≤ c.args.limit = grind (arith, common_steps) in
    let some : 0 < c.in-Ok-read.count = omega arith in
    let m : Meaning = g.C.Consumer.meaning c.args.consumer in
    let told_here : IsTrue (g.P.Port.tells c.reads.port) = subst IsTrue (sym c.reads.invariant.tells) told in
    let told_settled : IsTrue (g.P.Port.tells c.settle.new.port) = subst IsTrue (sym c.in-Ok.ensures.sends.telling) told_here in
    let settled = rw c.reads.invariant.same at (c.in-Ok.ensures.settled told_here) in
    let ready = turn_settled m g.C.Consumer.stands _ _ _ _ _ _ _ c.reads.cutter g.C.Consumer.gathered c.reads.consumer c.in-Ok.next (c.reads.invariant.turn told first) settled (c.in-Ok.ensures.sends.unread told_here) in
    let told_read : IsTrue (g.P.Port.tells c.read.new.self) = subst IsTrue (sym c.in-Ok-read.ensures.tells) told_settled in
    let got = turn_read m g.C.Consumer.stands _ _ _ _ _ _ _ _ _ c.reads.cutter c.in-Ok.next _ ready.1 ready.0 (c.in-Ok-read.ensures.bytes told_settled) (omega (arith, count, some))
    (omega (arith, count, bound, turn_size m g.C.Consumer.stands _ _ _ _ _ c.reads.cutter c.in-Ok.next _ ready.0, c.reads.invariant.size)) in
    let same : g.C.Consumer.meaning c.in-Ok.next ≡ m = c.in-Ok.ensures.same ∙ c.reads.invariant.same in
    let served = rw same at (c.in-Halted.ensures.served told_read c.args.limit (g.P.Port.history c.args.port.now) (g.P.Port.left c.args.port.now)) in
    rw c.end_of-in-Halted.ensures (served got)
