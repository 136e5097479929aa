use Rattle.std.proofs.Common.{◌≡◌, List, length, arith, ap, ◌∙◌}
use Rattle.mmt_casting.proofs.Together.{copies-known, packets-back, put-together}
use Rattle.mmt_model.specs.declared.casts.Sent.{Sent}
use Rattle.mmt_casting.proofs.casting.made.Goals as goal

pub named_from-requires : goal.named_from-requires
named_from-requires c = copies-known c.args.programme.now c.requires.right c.mpus_count.result c.as_slice.result.now c.mpus_count.ensures (c.as_slice.ensures.value ∙ c.in_ok-copies.ensures)

pub returns : goal.returns
returns c =
    let v : length c.as_mut_slice.result.now ≡ length c.put_media.new.packets.items = ap (λ (xs : List Sent). length xs) c.as_mut_slice.ensures.value in
    let same : length c.sort.new.packets ≡ length c.put_media.new.packets.items = omega (arith, c.sort.auto.packets, v) in
    let n : c.put_media.new.packets.len ≡ length c.put_media.new.packets.items = omega (arith, c.as_mut_slice.ensures.len, v) in
    put-together c.args.programme.now c.from_vec.result c.from_vec-2.result c.from_vec-3.result c.from_vec-4.result
    (c.from_vec.ensures ∙ (packets-back c.put_media.new.packets.len c.sort.new.packets c.put_media.new.packets.items n same ∙ c.in_ok-sort.ensures c.args.programme.now (c.as_mut_slice.ensures.value ∙ c.in_ok-put_media.ensures.packets)))
    (c.from_vec-2.ensures ∙ c.in_ok-put_media.ensures.units) (c.from_vec-3.ensures ∙ c.in_ok-mpus.ensures) (c.from_vec-4.ensures ∙ c.in_ok-copies.ensures)
