use Rattle.std.proofs.Common.{◌≡◌, ℕ, ◌+◌, List, rules, sym, subst, take, take_all, flat_map, arith}
use Rattle.std.specs.Prelude.{Option}
use Rattle.mmt_tlv.specs.Frames.{bytes_of, Cuts, CutOn}
use Rattle.mmt_tlv.proofs.CutLemmas.{cuts_at_start, cuts_next, next_within, frames_all}
use Rattle.mmt_tlv.proofs.stream.frame.Goals as goal

pub loop-piece-init : goal.loop-piece-init
loop-piece-init c = rw (c.in_ok-cutter.ensures, c.new-packets.ensures.items) cuts_at_start

pub feed_all-requires : goal.feed_all-requires
feed_all-requires c =
    let bytes : c.deref.result.now ≡ bytes_of c.piece-item.result = search rules in
    let within = next_within c.args.pieces.now c.loop-piece.piece-index c.piece-item.result c.loop-piece.cutter c.loop-piece.packets.items c.loop-piece-test.true c.piece-item.is c.loop-piece.invariant in
    rw bytes (omega (arith, within, c.requires))

pub returns-in-Some : goal.returns-in-Some
returns-in-Some c =
    let bytes : c.deref.result.now ≡ bytes_of c.piece-item.result = search rules in
    let next = cuts_next c.args.pieces.now c.loop-piece.piece-index c.piece-item.result c.loop-piece.cutter c.loop-piece.packets.items c.loop-piece-test.true c.piece-item.is c.loop-piece.invariant in
    let P : List ℕ → Type 0 = λ x. Cuts (flat_map bytes_of (take (c.loop-piece.piece-index + 1) c.args.pieces.now)) x c.loop-piece.cutter c.loop-piece.packets.items in
    let Q : Option ℕ → Type 0 = λ x. CutOn x (flat_map bytes_of (take (c.loop-piece.piece-index + 1) c.args.pieces.now)) c.feed_all.new.cutter c.feed_all.new.spans.items in
    frames_all c.args.pieces.now (c.loop-piece.piece-index + 1) c.in-Some.place c.feed_all.new.spans.items (subst Q c.in-Some.is (c.in_ok-feed_all.ensures _ (subst P (sym bytes) next)))

pub loop-piece-preserved : goal.loop-piece-preserved
loop-piece-preserved c =
    let bytes : c.deref.result.now ≡ bytes_of c.piece-item.result = search rules in
    let next = cuts_next c.args.pieces.now c.loop-piece.piece-index c.piece-item.result c.loop-piece.cutter c.loop-piece.packets.items c.loop-piece-test.true c.piece-item.is c.loop-piece.invariant in
    let P : List ℕ → Type 0 = λ x. Cuts (flat_map bytes_of (take (c.loop-piece.piece-index + 1) c.args.pieces.now)) x c.loop-piece.cutter c.loop-piece.packets.items in
    let Q : Option ℕ → Type 0 = λ x. CutOn x (flat_map bytes_of (take (c.loop-piece.piece-index + 1) c.args.pieces.now)) c.feed_all.new.cutter c.feed_all.new.spans.items in
    subst Q c.in-None.is (c.in_ok-feed_all.ensures _ (subst P (sym bytes) next))

pub returns : goal.returns
returns c =
    let all : take c.loop-piece.piece-index c.args.pieces.now ≡ c.args.pieces.now = search (rules, take_all) in
    c.end_of-end.ensures _ c.loop-piece.packets.items (rw all at c.loop-piece.invariant)
