-- What is read of a file: the bytes of a unit, or fewer where the file is short.
use Rattle.std.proofs.Common.{◌≡◌, ℕ, ◌+◌, ◌-◌, ◌≤◌, ◌≢◌, min, List, Option, length, take, drop, arith, ap, ap₂, sym, ◌∙◌}
use Rattle.std.proofs.lemmas.List.{length-drop, length-take, drop-drop, drop-take, take-take, take_all}
use Rattle.mmt_cast.specs.Right.{unit_at, unit_bytes}
use Rattle.mmt_model.specs.declared.programmes.Programme.{Programme}
use Rattle.mmt_model.specs.declared.programmes.Unit as model
use Rattle.mmt_send.specs.Files.{IsSource, IsUnitShort, bytes_in, bytes_of_unit, files_on}
use Rattle.mmt_send.specs.declared.sources.Source.{Source}

-- a part of a unit by its file
part-of : (bytes : List ℕ) (from at n size : ℕ) → at + n ≤ size → take n (drop at (take size (drop from bytes))) ≡ take n (drop (from + at) bytes)
part-of bytes from at n size within =
    let e : size ≡ at + (size - at) = omega arith in
    let fits : n ≤ size - at = omega arith in
    ap (λ (k : ℕ). take n (drop at (take k (drop from bytes)))) e ∙ ap (take n) (drop-take at (size - at) (drop from bytes)) ∙ take-take n (size - at) (drop at (drop from bytes)) fits
    ∙ ap (take n) (drop-drop at from bytes)

-- a read that filled the buffer gave the bytes of the unit
pub whole-read : (bytes : List ℕ) (from at n size : ℕ) (buf : List ℕ) → n ≡ length buf → take n buf ≡ take n (drop (from + at) bytes) → (room : ℕ) → length buf ≡ room → at + room ≤ size → buf ≡ take room (drop at (take size (drop from bytes)))
whole-read bytes from at n size buf full same room l within =
    sym (take_all n buf (omega arith)) ∙ same ∙ ap (λ (k : ℕ). take k (drop (from + at) bytes)) (full ∙ l) ∙ sym (part-of bytes from at room size within)

-- and the unit has them
pub whole-there : (bytes : List ℕ) (from at n size : ℕ) (buf : List ℕ) → n ≡ length buf → n ≡ min (length buf) (length (drop (from + at) bytes)) → (room : ℕ) → length buf ≡ room → at + room ≤ size → 1 ≤ room → at + room ≤ length (take size (drop from bytes))
whole-there bytes from at n size buf full count room l within some =
    omega (arith, length-take size (drop from bytes), length-drop from bytes, length-drop (from + at) bytes)

-- the bytes that a file has of a unit are those of the unit
pub source-bytes : (programme : Programme) (file : List ℕ → Option (List ℕ)) (source : Source) → IsSource programme source
    → bytes_of_unit (bytes_in (file source.name.now)) source.unit.now ≡ unit_bytes (files_on file programme) (unit_at programme source.number)
unfolding unit_bytes
source-bytes programme file source is = ap₂ (λ (name : List ℕ) (unit : model.Unit). bytes_of_unit (bytes_in (file name)) unit) is.name is.unit

-- a read that came short shows that the unit is
pub is-short : (programme : Programme) (file : List ℕ → Option (List ℕ)) (source : Source) (at n got : ℕ) (buf : List ℕ) → IsSource programme source
    → n ≢ length buf → n ≡ min (length buf) (length (drop (source.unit.now.from + at) (bytes_in (file source.name.now)))) → at + length buf ≤ source.unit.now.length
    → got ≡ length (bytes_of_unit (bytes_in (file source.name.now)) source.unit.now) → IsUnitShort programme (files_on file programme) source.number source.unit.now.length got
is-short programme file source at n got buf is less count within g = record {
  known = is.known;
  len = ap (λ (u : model.Unit). u.length) is.unit;
  got = g ∙ ap (λ (bytes : List ℕ). length bytes) (source-bytes programme file source is);
  short =
      let bytes : List ℕ = bytes_in (file source.name.now) in
      omega (arith, g, length-take source.unit.now.length (drop source.unit.now.from bytes), length-drop source.unit.now.from bytes, length-drop (source.unit.now.from + at) bytes);
}
