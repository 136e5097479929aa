use Rattle.std.proofs.Common.{◌≡◌, ◌∙◌, ℕ, List, length, map, ap, ap₂, sym, subst}
use Rattle.std.specs.List.{AllByRecursion}
use Rattle.mmt_cast.specs.Casting.{is_sent_before}
use Rattle.mmt_cast.specs.Placing.{map_from}
use Rattle.mmt_casting.specs.Named.{NamesPlaces}
use Rattle.mmt_model.specs.Sorted.{sort_by}
use Rattle.mmt_model.specs.declared.casts.Cast.{Cast}
use Rattle.mmt_model.specs.declared.casts.Sent.{Sent}
use Rattle.mmt_pace.proofs.Asking.{copies-named}
use Rattle.mmt_pace.proofs.Retiming.{retimed-apart, still-carried}
use Rattle.mmt_pace.proofs.Whole.{copies-done, mpus-done, put-together, units-done}
use Rattle.mmt_pace.specs.Asked.{AreApart, IsCarriedBy}
use Rattle.mmt_pace.specs.Recast.{copy_in_packets, mpu_named_by, retimed, ticks_of, unit_in_packets}
use Rattle.mmt_slots.specs.declared.row.Slots.{Slots}
use Rattle.mmt_pace.proofs.recasting.paced.Goals as goal

pub spans_of-requires-clause-carried : goal.spans_of-requires-clause-carried
spans_of-requires-clause-carried c =
    let slots : Slots = c.args.slots.now in
    let given : List ℕ = c.args.given.now in
    let cast : Cast = c.args.cast.now in
    let moved : List Sent = retimed (ticks_of slots given) cast.packets in
    let is : c.in_ok-packets.packets.items ≡ moved = c.in_ok-packets.ensures ∙ ap₂ (λ (g : List ℕ) (ps : List Sent). retimed (ticks_of slots g) ps) c.as_slice-2.ensures c.as_slice.ensures in
    subst (AllByRecursion (λ (p : Sent). IsCarriedBy cast p.carries)) (sym (c.as_slice-3.ensures.value ∙ is)) (still-carried (ticks_of slots given) cast cast.packets c.requires.cast.carried)

pub spans_of-requires-2-clause-carried : goal.spans_of-requires-2-clause-carried
spans_of-requires-2-clause-carried c =
    let slots : Slots = c.args.slots.now in
    let given : List ℕ = c.args.given.now in
    let cast : Cast = c.args.cast.now in
    let moved : List Sent = retimed (ticks_of slots given) cast.packets in
    let is : c.in_ok-packets.packets.items ≡ moved = c.in_ok-packets.ensures ∙ ap₂ (λ (g : List ℕ) (ps : List Sent). retimed (ticks_of slots g) ps) c.as_slice-2.ensures c.as_slice.ensures in
    subst (AllByRecursion (λ (p : Sent). IsCarriedBy cast p.carries)) (sym (c.as_slice-6.ensures.value ∙ is)) (still-carried (ticks_of slots given) cast cast.packets c.requires.cast.carried)

pub named_from-requires : goal.named_from-requires
named_from-requires c =
    let slots : Slots = c.args.slots.now in
    let given : List ℕ = c.args.given.now in
    let cast : Cast = c.args.cast.now in
    let moved : List Sent = retimed (ticks_of slots given) cast.packets in
    let is : c.in_ok-packets.packets.items ≡ moved = c.in_ok-packets.ensures ∙ ap₂ (λ (g : List ℕ) (ps : List Sent). retimed (ticks_of slots g) ps) c.as_slice-2.ensures c.as_slice.ensures in
    let copies : c.in_ok-copies.copies.items ≡ map (copy_in_packets moved) cast.copies =
    copies-done moved c.as_slice-6.result.now cast c.as_slice-7.result.now c.in_ok-spans-2.spans.items c.as_slice-8.result.now c.in_ok-copies.copies.items c.as_slice-7.ensures c.as_slice-8.ensures.value (c.as_slice-6.ensures.value ∙ is) c.in_ok-spans-2.ensures c.in_ok-copies.ensures in
    subst (λ n. AllByRecursion (NamesPlaces n) c.as_slice-9.result.now) (sym c.len.ensures)
    (subst (AllByRecursion (NamesPlaces (length cast.mpus))) (sym (c.as_slice-9.ensures.value ∙ copies)) (copies-named cast moved c.requires.cast))

pub put_in_order-requires : goal.put_in_order-requires
put_in_order-requires c =
    let slots : Slots = c.args.slots.now in
    let given : List ℕ = c.args.given.now in
    let cast : Cast = c.args.cast.now in
    let moved : List Sent = retimed (ticks_of slots given) cast.packets in
    let is : c.in_ok-packets.packets.items ≡ moved = c.in_ok-packets.ensures ∙ ap₂ (λ (g : List ℕ) (ps : List Sent). retimed (ticks_of slots g) ps) c.as_slice-2.ensures c.as_slice.ensures in
    subst AreApart (sym is) (retimed-apart slots given cast.packets c.requires.row c.requires.given)

pub returns : goal.returns
returns c =
    let slots : Slots = c.args.slots.now in
    let given : List ℕ = c.args.given.now in
    let cast : Cast = c.args.cast.now in
    let moved : List Sent = retimed (ticks_of slots given) cast.packets in
    let is : c.in_ok-packets.packets.items ≡ moved = c.in_ok-packets.ensures ∙ ap₂ (λ (g : List ℕ) (ps : List Sent). retimed (ticks_of slots g) ps) c.as_slice-2.ensures c.as_slice.ensures in
    let copies : c.in_ok-copies.copies.items ≡ map (copy_in_packets moved) cast.copies =
    copies-done moved c.as_slice-6.result.now cast c.as_slice-7.result.now c.in_ok-spans-2.spans.items c.as_slice-8.result.now c.in_ok-copies.copies.items c.as_slice-7.ensures c.as_slice-8.ensures.value (c.as_slice-6.ensures.value ∙ is) c.in_ok-spans-2.ensures c.in_ok-copies.ensures in
    let units : c.in_ok-units.units.items ≡ map_from (unit_in_packets moved) 0 cast.units =
    units-done moved c.as_slice-3.result.now cast c.as_slice-4.result.now c.in_ok-spans.spans.items c.as_slice-5.result.now c.in_ok-units.units.items c.as_slice-4.ensures c.as_slice-5.ensures.value (c.as_slice-3.ensures.value ∙ is) c.in_ok-spans.ensures c.in_ok-units.ensures in
    let mpus : c.in_ok-mpus.mpus.items ≡ map_from (mpu_named_by (map (copy_in_packets moved) cast.copies)) 0 cast.mpus =
    mpus-done cast c.len.result c.as_slice-9.result.now (map (copy_in_packets moved) cast.copies) c.as_slice-10.result.now c.in_ok-named.named.items c.as_slice-11.result.now c.in_ok-mpus.mpus.items c.len.ensures (c.as_slice-9.ensures.value ∙ copies) c.as_slice-10.ensures c.as_slice-11.ensures.value c.in_ok-named.ensures c.in_ok-mpus.ensures in
    put-together slots given cast c.from_vec.result c.from_vec-2.result c.from_vec-3.result c.from_vec-4.result
    (c.from_vec.ensures ∙ (c.in_ok-put_in_order.ensures ∙ ap (sort_by is_sent_before) is)) (c.from_vec-2.ensures ∙ units) (c.from_vec-3.ensures ∙ mpus) (c.from_vec-4.ensures ∙ copies)
