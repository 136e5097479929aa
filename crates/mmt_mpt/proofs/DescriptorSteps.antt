-- Going from descriptor to descriptor.
use Rattle.std.proofs.Common.{◌≡◌, ℕ, ◌+◌, ◌-◌, ◌<◌, ◌≤◌, zero, suc, ltb, List, [], ◌∷◌, length, take, drop, Some, None, Result, Ok, Err, refl, ap, ◌∙◌, arith}
use Rattle.std.specs.Int.{w16, byte_len}
use Rattle.std.proofs.lemmas.Bool.{ltb-false}
use Rattle.std.proofs.lemmas.List.{length-append, length-take}
use Rattle.mmt_base.specs.declared.refused.Refused.{Refused}
use Rattle.mmt_fields.specs.Reading.{number_at, bytes_at}
use Rattle.std.specs.List.{flat_map}
use Rattle.std.proofs.lemmas.List.Concat.{flat_map-cons}
use Rattle.mmt_fields.specs.Items.{Walk, go_on, walk, all_items}
use Rattle.mmt_fields.proofs.Codec.{bind_ok, ok_is}
use Rattle.mmt_fields.proofs.Numbers.{guard_ok, number_leaves, bytes_leave, length_big_endian}
use Rattle.mmt_fields.proofs.Items.{Shortens}
use Rattle.mmt_lists.proofs.ItemSteps as steps
use Rattle.mmt_mpt.specs.declared.part_why.PartWhy.{PartWhy}
use Rattle.mmt_mpt.specs.declared.part_why.PartWhy.TheVariants as why
use Rattle.mmt_mpt.specs.Descriptor.{DescriptorValue, length_width, descriptor_bytes, with_places}
use Rattle.mmt_mpt.specs.DescriptorReading.{descriptor_at, descriptors_from}

abbrev pub Step : Type 0
Step = DescriptorValue × List ℕ

content_length : {W : Type 0} (count : ℕ) (bytes : List ℕ) (at : ℕ) (short : W) (x : List ℕ × List ℕ) → bytes_at count bytes at short ≡ Ok x → length x.0 ≡ count
unfolding bytes_at
content_length count bytes at short x e =
    let g = guard_ok (ltb (length bytes) count) (record { at = at; why = short }) (take count bytes, drop count bytes) x e in
    let long : count ≤ length bytes = ltb-false _ _ g.0 in
    let is : length (take count bytes) ≡ length x.0 = ap (λ (p : List ℕ × List ℕ). length p.0) g.1 in
    omega (arith, length-take count bytes)

pub length-descriptor : (d : DescriptorValue) → length (descriptor_bytes d) ≡ 2 + byte_len (length_width d.tag) + length d.bytes
unfolding descriptor_bytes
length-descriptor d = simp (length-append, length_big_endian) (omega arith)

-- a descriptor takes its bytes
pub descriptor_takes : (at : ℕ) (bytes : List ℕ) (x : Step) → descriptor_at at bytes ≡ Ok x → length bytes ≡ length (descriptor_bytes x.0) + length x.1
unfolding descriptor_at
descriptor_takes at bytes x e =
    let t = bind_ok (number_at w16 bytes at why.Short) _ x e in
    let l = bind_ok (number_at (length_width t.0.0) t.0.1 (at + 2) why.Short) _ x t.2 in
    let c = bind_ok (bytes_at l.0.0 l.0.1 (at + 2 + byte_len (length_width t.0.0)) why.Short) _ x l.2 in
    let is : length c.0.1 ≡ length x.1 = ap (λ (y : Step). length y.1) (ok_is _ x c.2) in
    let same : length (descriptor_bytes (record { tag = t.0.0; bytes = c.0.0 })) ≡ length (descriptor_bytes x.0) = ap (λ (y : Step). length (descriptor_bytes y.0)) (ok_is _ x c.2) in
    let long = length-descriptor (record { tag = t.0.0; bytes = c.0.0 }) in
    omega (arith, number_leaves w16 bytes at why.Short t.0 t.1, number_leaves (length_width t.0.0) t.0.1 (at + 2) why.Short l.0 l.1, bytes_leave l.0.0 l.0.1 (at + 2 + byte_len (length_width t.0.0)) why.Short c.0 c.1, content_length l.0.0 l.0.1 (at + 2 + byte_len (length_width t.0.0)) why.Short c.0 c.1)

pub descriptor_shorter : Shortens descriptor_at
descriptor_shorter at bytes x e = omega (arith, descriptor_takes at bytes x e, length-descriptor x.0)

pub descriptors_first : (at : ℕ) (bytes : List ℕ) (x : Step) → descriptor_at at bytes ≡ Ok x
    → descriptors_from at bytes ≡ record { tag = x.0.tag; from = at + 2 + byte_len (length_width x.0.tag); bytes = x.0.bytes } ∷ descriptors_from (at + (length bytes - length x.1)) x.1
descriptors_first at bytes x e =
    let place : at + length (descriptor_bytes x.0) ≡ at + (length bytes - length x.1) = omega (arith, descriptor_takes at bytes x e) in
    ap (with_places at) (steps.items_step descriptor_at descriptor_shorter at bytes x e)
    ∙ ap (λ (p : ℕ). record { tag = x.0.tag; from = at + 2 + byte_len (length_width x.0.tag); bytes = x.0.bytes } ∷ with_places p (all_items descriptor_at (at + (length bytes - length x.1)) x.1).items) place

pub descriptors_none : (at : ℕ) (bytes : List ℕ) (d : Refused PartWhy) → descriptor_at at bytes ≡ Err d → descriptors_from at bytes ≡ []
descriptors_none at bytes d e = ap (with_places at) (steps.items_err descriptor_at at bytes d e)

pub stop_more : (at : ℕ) (bytes : List ℕ) (x : Step) → descriptor_at at bytes ≡ Ok x → (all_items descriptor_at at bytes).stop ≡ (all_items descriptor_at (at + (length bytes - length x.1)) x.1).stop
stop_more at bytes x e = steps.stop_step descriptor_at descriptor_shorter at bytes x e

pub stop_here : (at : ℕ) (bytes : List ℕ) (d : Refused PartWhy) → 0 < length bytes → descriptor_at at bytes ≡ Err d → (all_items descriptor_at at bytes).stop ≡ Some d
stop_here at bytes d some e = steps.stop_err descriptor_at at bytes d some e

pub stop_none : (at : ℕ) (bytes : List ℕ) → length bytes ≡ 0 → (all_items descriptor_at at bytes).stop ≡ None
stop_none at bytes e = steps.stop_none descriptor_at at bytes e

-- descriptors that were read up to the end take all bytes
long_after : (at : ℕ) (bytes : List ℕ) (r : Result Step (Refused PartWhy)) (f : Step → Walk DescriptorValue PartWhy) → descriptor_at at bytes ≡ r
    → ((x : Step) → r ≡ Ok x → (f x).stop ≡ None → length (flat_map descriptor_bytes (f x).items) ≡ length x.1)
    → (go_on r f).stop ≡ None → length (flat_map descriptor_bytes (go_on r f).items) ≡ length bytes
long_after at bytes (Ok x) f e later stop =
    let l = later x refl stop in
    let joined : length (flat_map descriptor_bytes (x.0 ∷ (f x).items)) ≡ length (descriptor_bytes x.0) + length (flat_map descriptor_bytes (f x).items) =
    ap length (flat_map-cons descriptor_bytes x.0 (f x).items) ∙ length-append (descriptor_bytes x.0) (flat_map descriptor_bytes (f x).items) in
    omega (arith, descriptor_takes at bytes x e)
long_after at bytes (Err d) f e later stop = absurd cc

walk_long : (n at : ℕ) (bytes : List ℕ) → length bytes ≤ n → (walk n descriptor_at at bytes).stop ≡ None → length (flat_map descriptor_bytes (walk n descriptor_at at bytes).items) ≡ length bytes
unfolding walk
walk_long zero at [] le stop = refl
walk_long zero at (b ∷ bytes) le stop = absurd (omega arith)
walk_long (suc n) at [] le stop = refl
walk_long (suc n) at (b ∷ bytes) le stop =
    long_after at (b ∷ bytes) (descriptor_at at (b ∷ bytes)) (λ x. walk n descriptor_at (at + (length (b ∷ bytes) - length x.1)) x.1) refl
    (λ x e none.
    let less = descriptor_shorter at (b ∷ bytes) x e in
    walk_long n (at + (length (b ∷ bytes) - length x.1)) x.1 (omega arith) none) stop

pub all_long : (at : ℕ) (bytes : List ℕ) → (all_items descriptor_at at bytes).stop ≡ None → length (flat_map descriptor_bytes (all_items descriptor_at at bytes).items) ≡ length bytes
all_long at bytes stop = walk_long (length bytes) at bytes (omega arith) stop
