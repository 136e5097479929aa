use Rattle.std.proofs.Common.{◌+◌, ◌-◌, ◌*◌, ◌++◌, ap, sym, ◌∙◌, length, take, drop, map, arith}
use Rattle.std.proofs.Common.{append_assoc}
use Rattle.std.proofs.lemmas.List.{append-nil, length-append}
use Rattle.mmt_cast.specs.SentTables.{pair_of}
use Rattle.mmt_mpt.specs.Descriptor.{descriptor_bytes}
use Rattle.mmt_signals.proofs.Bytes.{stamps_from, stamps_left, stamps_long, stamps_none, stamps_whole}
use Rattle.mmt_signals.specs.Named.{named}
use Rattle.mmt_times.specs.Stamps.{stamps_bytes, stamps_tag}
use Rattle.mmt_signals.proofs.named.put_all_stamps.Goals as goal

pub put_stamps-requires-clause-room : goal.put_stamps-requires-clause-room
put_stamps-requires-clause-room c =
    let asset = c.args.asset.now in
    let names = c.args.names.now in
    let k = c.loop-place.place in
    let count = c.div_ceil-place-end.result in
    let here = take 21 (drop (k * 21) names) in
    let left = stamps_left asset names k count c.loop-place-test.true in
    let one = descriptor_bytes (record { tag = stamps_tag; bytes = stamps_bytes (map pair_of (named asset here)) }) in
    let sum = ap length left ∙ length-append one (stamps_from asset names (k + 1) (count - (k + 1))) in
    let whole = ap (λ n. length (stamps_from asset names 0 n)) c.div_ceil-place-end.ensures ∙ ap length (stamps_whole asset names) in
    omega (arith, sum, stamps_long asset here, ap length c.names_at.ensures.names, c.loop-place.invariant.len, whole, c.requires.room, c.loop-place.invariant.capacity)

pub loop-place-preserved : goal.loop-place-preserved
loop-place-preserved c =
    let asset = c.args.asset.now in
    let names = c.args.names.now in
    let k = c.loop-place.place in
    let count = c.div_ceil-place-end.result in
    let here = take 21 (drop (k * 21) names) in
    let left = stamps_left asset names k count c.loop-place-test.true in
    let one = descriptor_bytes (record { tag = stamps_tag; bytes = stamps_bytes (map pair_of (named asset here)) }) in
    let rest = stamps_from asset names (k + 1) (count - (k + 1)) in
    let sum = ap length left ∙ length-append one rest in
    let named_here = ap (λ l. descriptor_bytes (record { tag = stamps_tag; bytes = stamps_bytes (map pair_of (named asset l)) })) c.names_at.ensures.names in
    record {
      items =
          ap (λ l. l ++ rest) (c.put_stamps.ensures.items ∙ ap (λ l. c.loop-place.out.items ++ l) named_here)
          ∙ (append_assoc c.loop-place.out.items one rest
          ∙ (ap (λ l. c.loop-place.out.items ++ l) (sym left) ∙ c.loop-place.invariant.items));
      len = omega (arith, sum, stamps_long asset here, ap length c.names_at.ensures.names, c.loop-place.invariant.len, c.put_stamps.ensures.len);
      capacity = omega (arith, c.loop-place.invariant.capacity, c.put_stamps.ensures.capacity);
    }

pub returns-clause-items : goal.returns-clause-items
returns-clause-items c =
    let asset = c.args.asset.now in
    let names = c.args.names.now in
    let k = c.loop-place.place in
    let count = c.div_ceil-place-end.result in
    sym (append-nil c.loop-place.out.items)
    ∙ (ap (λ l. c.loop-place.out.items ++ l) (sym (stamps_none asset names k count (omega (arith, c.loop-place-test.false))))
    ∙ (c.loop-place.invariant.items
    ∙ ap (λ l. c.args.out.now.items ++ l) (ap (λ n. stamps_from asset names 0 n) c.div_ceil-place-end.ensures ∙ stamps_whole asset names)))

pub returns-clause-len : goal.returns-clause-len
returns-clause-len c =
    let asset = c.args.asset.now in
    let names = c.args.names.now in
    let k = c.loop-place.place in
    let count = c.div_ceil-place-end.result in
    let none = ap length (stamps_none asset names k count (omega (arith, c.loop-place-test.false))) in
    let whole = ap (λ n. length (stamps_from asset names 0 n)) c.div_ceil-place-end.ensures ∙ ap length (stamps_whole asset names) in
    omega (arith, none, whole, c.loop-place.invariant.len)
