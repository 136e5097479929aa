-- A part of a signalling message, and how long its payload is.
use Rattle.std.proofs.Common.{◌≡◌, ℕ, ◌+◌, ◌-◌, ◌*◌, ◌≤◌, false, min, List, [], ◌∷◌, length, take, drop, arith, ap, ◌∙◌}
use Rattle.std.proofs.lemmas.List.{drop_min, length-append, length-drop, length-take, take_all, take_min}
use Rattle.mmt_fields.proofs.Numbers.{length_big_endian}
use Rattle.mmt_frag.specs.Cuts.{part_bytes}
use Rattle.mmt_model.specs.declared.keys.Part.{Part}
use Rattle.mmt_sig.specs.Payload.{messages_bytes, spelling}

pub piece-is : (bytes : List ℕ) (limit number from count : ℕ) → from ≡ min (number * limit) (length bytes) → count ≡ min (length (take (length bytes - from) (drop from bytes))) limit
    → take count (take (length bytes - from) (drop from bytes)) ≡ part_bytes limit number bytes
unfolding part_bytes
piece-is bytes limit number from count f c =
    let rest : List ℕ = drop (number * limit) bytes in
    let all : take (length bytes - from) (drop from bytes) ≡ drop from bytes = take_all (length bytes - from) (drop from bytes) (omega (arith, length-drop from bytes)) in
    let same : drop from bytes ≡ rest = ap (λ (n : ℕ). drop n bytes) f ∙ drop_min (number * limit) bytes in
    let size : length (take (length bytes - from) (drop from bytes)) ≡ length rest = ap (λ (xs : List ℕ). length xs) (all ∙ same) in
    let e : count ≡ min limit (length rest) = omega (arith, c, size) in
    ap (take count) (all ∙ same) ∙ ap (λ (n : ℕ). take n rest) e ∙ take_min limit rest

-- how long the payload of a part is
pub piece-long : (part : Part) (counter : ℕ) (bytes : List ℕ) → length (spelling (record { head = record { part = part; reserved = 0; long = false; aggregated = false; counter = counter }; messages = bytes ∷ [] })) ≡ 2 + length bytes
unfolding spelling messages_bytes
piece-long part counter bytes = simp (length-append, length_big_endian) (omega arith)

pub part-short : (limit k : ℕ) (bytes : List ℕ) → length (part_bytes limit k bytes) ≤ limit
unfolding part_bytes
part-short limit k bytes = omega (arith, length-take limit (drop (k * limit) bytes))
