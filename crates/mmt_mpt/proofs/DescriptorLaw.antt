-- What is read as descriptors was spelled so, and what is spelled so is read.
use Rattle.std.proofs.Common.{◌≡◌, ℕ, ◌+◌, ◌^◌, ◌<◌, Bool, true, false, ltb, List, ◌++◌, length, Ok, refl, sym, ap, subst, ◌∙◌, append_assoc, arith, inl, inr}
use Rattle.std.proofs.lemmas.Bool.{cases_lt}
use Rattle.std.proofs.lemmas.List.{get_or_append_left, get_or_past}
use Rattle.std.specs.Prelude.{if◌then◌else◌}
use Rattle.std.specs.List.{flat_map, All}
use Rattle.std.specs.Int.{w8, w16, w32, byte_len}
use Rattle.mmt_fields.specs.Reading.{number_at, bytes_at, big_endian}
use Rattle.mmt_fields.specs.Items.{items_of}
use Rattle.mmt_fields.proofs.Codec.{IsBytes, IsBytes-rest, bind_ok, ok_is, Stage, Field, Format, Always, field, field_of, made, spelled}
use Rattle.mmt_fields.proofs.Numbers.{u8_field, u16_field, u32_field, bytes_field}
use Rattle.mmt_lists.proofs.CountedItems.{items_all}
use Rattle.mmt_mpt.specs.declared.part_why.PartWhy.TheVariants as why
use Rattle.mmt_mpt.specs.Descriptor.{DescriptorValue, length_width, length_limit, descriptor_bytes, descriptors_bytes, DescriptorFits}
use Rattle.mmt_mpt.specs.DescriptorReading.{descriptor_at, descriptors_at}
use Rattle.mmt_mpt.specs.Asset.{DescriptorsFit}
use Rattle.mmt_mpt.proofs.DescriptorSteps.{Step, descriptor_shorter}

-- ---- a length in the width of its tag

by_tests : (p q r s : Bool) (at : ℕ) → Field (λ bytes. number_at (if p then w8 else (if q then w16 else (if r then w32 else (if s then w8 else w16)))) bytes at why.Short)
    (big_endian (if p then w8 else (if q then w16 else (if r then w32 else (if s then w8 else w16)))))
    (λ n. n < (if p then 2 ^ 8 else (if q then 2 ^ 16 else (if r then 2 ^ 32 else (if s then 2 ^ 8 else 2 ^ 16)))))
by_tests true q r s at = u8_field at why.Short
by_tests false true r s at = u16_field at why.Short
by_tests false false true s at = u32_field at why.Short
by_tests false false false true at = u8_field at why.Short
by_tests false false false false at = u16_field at why.Short

length_field : (tag at : ℕ) → Field (λ bytes. number_at (length_width tag) bytes at why.Short) (big_endian (length_width tag)) (λ n. n < length_limit tag)
unfolding length_width length_limit
length_field tag at = by_tests (ltb tag 16384) (ltb tag 28672) (ltb tag 32768) (ltb tag 61440) at

-- ---- a descriptor

descriptor_stage : (at : ℕ) → Stage {V = Step} (λ p. DescriptorFits p.0) Always Always (descriptor_at at) (λ p. big_endian w16 p.0.tag ++ (big_endian (length_width p.0.tag) (length p.0.bytes) ++ (p.0.bytes ++ p.1)))
unfolding descriptor_at
descriptor_stage at =
    field _ (λ p. p.0.tag) (u16_field at why.Short) (λ v c f. f.tag) (λ tag tag_lt.
    spelled (λ p. big_endian (length_width tag) (length p.0.bytes) ++ (p.0.bytes ++ p.1)) (λ v c f. rw (← c.0) refl) (
    field _ (λ p. length p.0.bytes) (length_field tag (at + 2)) (λ v c f. rw (← c.0) f.len) (λ len len_lt.
    field _ (λ p. p.0.bytes) (bytes_field len (at + 2 + byte_len (length_width tag)) why.Short) (λ v c f. c.0) (λ content content_len.
    made (λ p. p.1) (λ rest. (record { tag = tag; bytes = content }, rest))
    (λ rest are known. (refl, (refl, (content_len, (refl, tt))), record { tag = tag_lt; len = rw content_len len_lt }))
    (λ v c f. rw (← c.0, ← c.1.1.0) refl)))))

pub descriptor_field : (at : ℕ) → Field (descriptor_at at) descriptor_bytes DescriptorFits
unfolding descriptor_bytes
descriptor_field at = field_of descriptor_bytes (descriptor_stage at) (λ v. simp append_assoc)

-- ---- descriptors after their length

abbrev Rest : Type 0
Rest = List DescriptorValue × List ℕ

inner_format : (at : ℕ) → Format (All DescriptorFits) (items_of descriptor_at at) (flat_map descriptor_bytes)
inner_format at = items_all descriptor_at descriptor_bytes DescriptorFits descriptor_shorter descriptor_field at

descriptors_takes : (at : ℕ) (bytes : List ℕ) (ds : List DescriptorValue) (rest : List ℕ) → IsBytes bytes → descriptors_at at bytes ≡ Ok (ds, rest) → (bytes ≡ descriptors_bytes ds ++ rest) × DescriptorsFit ds
unfolding descriptors_at descriptors_bytes
descriptors_takes at bytes ds rest are e =
    let len_field = u16_field at why.Short in
    let l = bind_ok (number_at w16 bytes at why.Short) _ (ds, rest) e in
    let lh = len_field.takes bytes l.0.0 l.0.1 are l.1 in
    let l_are : IsBytes l.0.1 = IsBytes-rest (big_endian w16 l.0.0) l.0.1 (subst IsBytes lh.0 are) in
    let inner_field = bytes_field l.0.0 (at + 2) why.Short in
    let i = bind_ok (bytes_at l.0.0 l.0.1 (at + 2) why.Short) _ (ds, rest) l.2 in
    let ih = inner_field.takes l.0.1 i.0.0 i.0.1 l_are i.1 in
    let d = bind_ok (items_of descriptor_at (at + 2) i.0.0) (λ x. Ok (x, i.0.1)) (ds, rest) i.2 in
    let inner = inner_format (at + 2) in
    let i_are : IsBytes i.0.0 = front_bytes i.0.0 i.0.1 (subst IsBytes ih.0 l_are) in
    let dh = inner.takes i.0.0 d.0 i_are tt d.1 in
    let size : length (flat_map descriptor_bytes d.0) ≡ l.0.0 = ap length (sym dh.0) ∙ ih.1 in
    let all : bytes ≡ (big_endian w16 (length (flat_map descriptor_bytes d.0)) ++ flat_map descriptor_bytes d.0) ++ i.0.1 =
    lh.0 ∙ ap (λ (x : List ℕ). big_endian w16 l.0.0 ++ x) ih.0 ∙ ap (λ (x : List ℕ). big_endian w16 l.0.0 ++ (x ++ i.0.1)) dh.0
    ∙ ap (λ (n : ℕ). big_endian w16 n ++ (flat_map descriptor_bytes d.0 ++ i.0.1)) (sym size) ∙ sym (append_assoc (big_endian w16 (length (flat_map descriptor_bytes d.0))) (flat_map descriptor_bytes d.0) i.0.1) in
    subst (λ (p : Rest). (bytes ≡ (big_endian w16 (length (flat_map descriptor_bytes p.0)) ++ flat_map descriptor_bytes p.0) ++ p.1) × DescriptorsFit p.0) (ok_is (d.0, i.0.1) (ds, rest) d.2)
    (all, record { len = rw size lh.1; each = dh.2 })
  where
    front_bytes : (front rest : List ℕ) → IsBytes (front ++ rest) → IsBytes front
    front_bytes front rest are i = elim (cases_lt i (length front)) [
      | inl lt ↦ subst (λ (n : ℕ). n < 256) (get_or_append_left front rest 0 i lt) (are i)
      | inr le ↦ rw (get_or_past front i 0 le) (omega arith)
    ]

descriptors_again : (at : ℕ) (ds : List DescriptorValue) (rest : List ℕ) → DescriptorsFit ds → descriptors_at at (descriptors_bytes ds ++ rest) ≡ Ok (ds, rest)
unfolding descriptors_at descriptors_bytes
descriptors_again at ds rest f =
    let flat = flat_map descriptor_bytes ds in
    let len_field = u16_field at why.Short in
    let inner_field = bytes_field (length flat) (at + 2) why.Short in
    let inner = inner_format (at + 2) in
    let l : number_at w16 ((big_endian w16 (length flat) ++ flat) ++ rest) at why.Short ≡ Ok (length flat, flat ++ rest) =
    ap (λ (x : List ℕ). number_at w16 x at why.Short) (append_assoc (big_endian w16 (length flat)) flat rest) ∙ len_field.again (length flat) (flat ++ rest) f.len in
    let i = inner_field.again flat rest refl in
    let d = inner.again ds tt f.each in
    rw (l, i, d) refl

pub descriptors_field : (at : ℕ) → Field (descriptors_at at) descriptors_bytes DescriptorsFit
descriptors_field at = record { takes = descriptors_takes at; again = descriptors_again at }
