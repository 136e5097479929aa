use Rattle.std.proofs.Common.{◌≡◌, ◌-◌, ◌+◌, List, drop, length, get_or, arith, ap, ap₂, refl, sym, ◌∙◌, subst, Option, None}
use Rattle.mmt_base.specs.declared.ticks.LongTick.{LongTick}
use Rattle.mmt_casting.proofs.NamedFrom.{all-named, named-more, none-named, places-in, written-back}
use Rattle.mmt_casting.specs.Named.{AreNamed, named_with}
use Rattle.mmt_model.specs.Counts.{member}
use Rattle.mmt_casting.proofs.naming.named_from.Goals as goal

pub loop-i-init : goal.loop-i-init
loop-i-init c = none-named c.args.mpus (length c.args.copies.now) c.args.copies.now c.in_ok-named.named.items refl c.in_ok-named.ensures

pub name_by-requires : goal.name_by-requires
name_by-requires c =
    places-in c.args.mpus (length c.args.copies.now - 1 - c.loop-i.i) c.args.copies.now c.index-copies-count.result c.as_mut_slice.result.now c.as_slice.result.now c.requires (omega arith) c.index-copies-count.is
    (ap length c.as_mut_slice.ensures.value ∙ c.loop-i.invariant.long) c.as_slice.ensures

pub loop-i-preserved : goal.loop-i-preserved
loop-i-preserved c =
    let v : length c.as_mut_slice.result.now ≡ length c.loop-i.named.items = ap (λ (xs : List (Option LongTick)). length xs) c.as_mut_slice.ensures.value in
    let same : length c.name_by.new.named ≡ length c.loop-i.named.items = omega (arith, c.name_by.auto.named, v) in
    let n : c.loop-i.named.len ≡ length c.loop-i.named.items = omega (arith, c.as_mut_slice.ensures.len, v) in
    subst (AreNamed c.args.mpus (drop (length c.args.copies.now - (c.loop-i.i + 1)) c.args.copies.now)) (sym (written-back c.loop-i.named.len c.name_by.new.named c.loop-i.named.items n same))
    (named-more c.args.mpus (length c.args.copies.now) c.loop-i.i c.args.copies.now c.index-copies-count.result c.loop-i.named.items c.name_by.new.named refl c.loop-i-test.true c.index-copies-count.is same c.loop-i.invariant
    (λ m l. c.name_by.ensures m (omega (arith, l, v)) ∙ ap₂ (λ ns xs. named_with (member m ns) c.index-copies-count.result.last (get_or xs m None)) c.as_slice.ensures c.as_mut_slice.ensures.value))

pub returns : goal.returns
returns c = all-named c.args.mpus (length c.args.copies.now) c.loop-i.i c.args.copies.now c.loop-i.named.items refl c.loop-i-test.false c.loop-i.invariant
