-- Several units of one MPU in one payload: what is asked at each, and that the payload is the one of the definitions.
use Rattle.std.proofs.Common.{◌≡◌, ℕ, zero, suc, ◌+◌, ◌-◌, ◌<◌, ◌≤◌, ◌^◌, Bool, true, false, cond, fold, IsTrue, Option, List, [], ◌∷◌, ◌++◌, map, length, take, drop, arith, refl, sym, ap, subst, ◌∙◌}
use Rattle.std.proofs.lemmas.List.{length-append, length-drop, length-take, take_all, map-append}
use Rattle.std.proofs.lemmas.List.Sums.{fold-append, sum_by-append, sum_by-cons}
use Rattle.std.specs.List.{sum_by}
use Rattle.mmt_cast.specs.FromRight.{FitsUnit}
use Rattle.mmt_cast.proofs.FromRight.{all-counted}
use Rattle.mmt_cast.specs.Placing.{PlacedMpu, PlacedUnit, all_units}
use Rattle.mmt_cast.specs.Right.{contents_of, unit_at, unit_bytes}
use Rattle.mmt_cast.specs.Sending.{header_length}
use Rattle.mmt_fields.proofs.Numbers.{length_big_endian}
use Rattle.mmt_model.specs.Carrying.{entry_of_unit, numbers}
use Rattle.mmt_model.specs.Right.{IsRight}
use Rattle.mmt_model.specs.declared.casts.Carries.TheVariants as carries
use Rattle.mmt_model.specs.declared.casts.Cast.{Cast}
use Rattle.mmt_model.specs.declared.keys.UnitKey.{UnitKey}
use Rattle.mmt_model.specs.declared.keys.UnitKey.TheVariants as keys
use Rattle.mmt_model.specs.declared.programmes.Programme.{Programme}
use Rattle.mmt_model.specs.declared.programmes.Unit as model
use Rattle.mmt_mpu.specs.Spelling.{HeadFits, KeyFits, RanksFit, UnitHead, UnitValue, head_length, spelling}
use Rattle.mmt_mpu.specs.Writing.{CallsWriteThePayload, FitsKind, Kept, begun, ended, total_length, unit_length, with_unit, written_unit}
use Rattle.mmt_mpu.specs.declared.types.MpuHead.{MpuHead}
use Rattle.mmt_sent.specs.Payloads.{as_unit, bytes_of, written}
use Rattle.mmt_sent.specs.Stream.{contents_sent}
use Rattle.mmt_send.specs.Carried.{HasCast, IsGroup, own_size}
use Rattle.mmt_send.specs.Files.{IsSource, bytes_in, bytes_of_unit, files_on}
use Rattle.mmt_send.specs.declared.sources.Source.{Source}
use Rattle.mmt_send.proofs.FileReads.{source-bytes}
use Rattle.mmt_send.proofs.Lone.{front-long, read-front, source-mpu, unit-fits}
use Rattle.mmt_model.specs.declared.keys.Part.TheVariants as parts

-- the bytes of the first units of a group
abbrev pub sizes : Programme → ℕ → ℕ → ℕ
sizes programme f k = sum_by own_size (map (unit_at programme) (numbers f k))

numbers-more : (f k : ℕ) → numbers f (k + 1) ≡ numbers f k ++ (f + k) ∷ []
unfolding numbers
numbers-more f zero = let z : f ≡ f + 0 = omega arith in ap (λ (n : ℕ). n ∷ []) z
numbers-more f (suc k) =
    let e : suc k + 1 ≡ suc (k + 1) = omega arith in
    let s : f + 1 + k ≡ f + suc k = omega arith in
    ap (numbers f) e ∙ ap (λ (ns : List ℕ). f ∷ ns) (numbers-more (f + 1) k ∙ ap (λ (n : ℕ). numbers (f + 1) k ++ n ∷ []) s)

mapped-more : {X : Type 0} (f : ℕ → X) (first k : ℕ) → map f (numbers first (k + 1)) ≡ map f (numbers first k) ++ f (first + k) ∷ []
mapped-more f first k = ap (map f) (numbers-more first k) ∙ map-append f (numbers first k) ((first + k) ∷ [])

sum-one : (y : PlacedUnit) → sum_by own_size (y ∷ []) ≡ own_size y
sum-one y = sum_by-cons own_size y [] ∙ omega arith

sizes-more : (programme : Programme) (f k : ℕ) → sizes programme f (k + 1) ≡ sizes programme f k + own_size (unit_at programme (f + k))
sizes-more programme f k =
    let us : List PlacedUnit = map (unit_at programme) (numbers f k) in
    ap (sum_by own_size) (mapped-more (unit_at programme) f k) ∙ sum_by-append own_size us (unit_at programme (f + k) ∷ []) ∙ ap (λ (n : ℕ). sum_by own_size us + n) (sum-one (unit_at programme (f + k)))

sizes-far : (programme : Programme) (f k j : ℕ) → sizes programme f k ≤ sizes programme f (k + j)
sizes-far programme f k zero = let z : k ≡ k + 0 = omega arith in subst (λ (n : ℕ). sizes programme f k ≤ sizes programme f n) z (omega arith)
sizes-far programme f k (suc j) =
    let e : k + j + 1 ≡ k + suc j = omega arith in
    subst (λ (n : ℕ). sizes programme f k ≤ sizes programme f n) e (omega (arith, sizes-far programme f k j, sizes-more programme f (k + j)))

pub sizes-below : (programme : Programme) (f k c : ℕ) → k ≤ c → sizes programme f k ≤ sizes programme f c
sizes-below programme f k c l = let e : k + (c - k) ≡ c = omega arith in subst (λ (n : ℕ). sizes programme f k ≤ sizes programme f n) e (sizes-far programme f k (c - k))

-- ---- a unit of a group

header-same : (x : PlacedUnit) → header_length x ≡ head_length x.in_mpu.in_asset.timed
unfolding header_length
header-same x = go x.in_mpu.in_asset.timed
  where
    go : (t : Bool) → cond t 14 4 ≡ head_length t
    go true = refl
    go false = refl

kind-of : (timed : Bool) (h : UnitHead) → HeadFits timed h → FitsKind timed h
kind-of timed h fits = go timed h.key fits.key fits.ranks
  where
    go : (t : Bool) (key : UnitKey) → KeyFits t key → RanksFit t h → FitsKind t (record { key = key; priority = h.priority; dependency = h.dependency })
    go true (keys.Timed a b c) k r = tt
    go true (keys.Item i) k r = absurd k
    go false (keys.Timed a b c) k r = absurd k
    go false (keys.Item i) k r = (tt, r.0, r.1)

-- the header of a unit
abbrev pub head_of : model.Unit → UnitHead
head_of unit = record { key = unit.key; priority = unit.priority; dependency = unit.dependency }

-- a unit of a group, whose source it is
pub record IsMember (programme : Programme) (first source : Source) : Type 0 where
  pub kind : FitsKind first.timed (head_of source.unit.now)
  pub size : own_size (unit_at programme source.number) ≡ 2 + head_length first.timed + source.unit.now.length

pub is-member : (programme : Programme) (f c k : ℕ) (first source : Source) → IsRight programme → IsGroup programme f c → k < c → IsSource programme first → first.number ≡ f → IsSource programme source → source.number ≡ f + k
    → IsMember programme first source
is-member programme f c k first source right group l is at its here =
    let mpu : (unit_at programme source.number).in_mpu ≡ (unit_at programme first.number).in_mpu =
    ap (λ (u : ℕ). (unit_at programme u).in_mpu) here ∙ group.one_mpu (f + k) (omega arith) (omega arith) ∙ ap (λ (u : ℕ). (unit_at programme u).in_mpu) (sym at) in
    let timed : (unit_at programme source.number).in_mpu.in_asset.timed ≡ first.timed = ap (λ (m : PlacedMpu). m.in_asset.timed) mpu ∙ sym is.timed in
    let fits : FitsUnit programme (unit_at programme source.number) = unit-fits programme source.number right its.known in
    record {
      kind =
          subst (λ (u : model.Unit). FitsKind first.timed (head_of u)) (sym its.unit)
          (subst (λ (t : Bool). FitsKind t (head_of (unit_at programme source.number).value)) timed (kind-of _ _ fits.head));
      size = ap (λ (h : ℕ). 2 + h + (unit_at programme source.number).value.length) (header-same (unit_at programme source.number) ∙ ap head_length timed) ∙ ap (λ (u : model.Unit). 2 + head_length first.timed + u.length) (sym its.unit);
    }

-- ---- N of the units

-- the header of a group's payload
abbrev pub group_head : Source → MpuHead
group_head first = record { timed = first.timed; part = parts.Whole; aggregated = true; counter = 0; mpu = first.mpu }

-- the data units of the first units of a group
abbrev pub members : Programme → (ℕ → List ℕ) → ℕ → ℕ → List UnitValue
members programme files f k = map as_unit (map (contents_sent programme files).data_unit (numbers f k))

-- the first units of a group have been written, after what stood before
pub record IsGathered (programme : Programme) (tells : Bool) (file : List ℕ → Option (List ℕ)) (f k : ℕ) (head : MpuHead) (before now : List ℕ) (writer : Kept) : Type 0 where
  pub units : List UnitValue
  pub out : now ≡ fold (with_unit head) (begun before head) units
  pub keeps : writer ≡ record { start = length before; head = head; units = length units; bytes = total_length head units }
  pub long : total_length head units ≡ 8 + sizes programme f k
  pub place : length now ≡ length before + (8 + sizes programme f k)
  pub told : IsTrue tells → units ≡ members programme (files_on file programme) f k

-- none so far
pub gathered-none : (programme : Programme) (tells : Bool) (file : List ℕ → Option (List ℕ)) (f : ℕ) (head : MpuHead) (before now : List ℕ) (writer : Kept)
    → now ≡ begun before head → writer ≡ record { start = length before; head = head; units = 0; bytes = 8 } → length now ≡ writer.start + writer.bytes → IsGathered programme tells file f 0 head before now writer
unfolding numbers
gathered-none programme tells file f head before now writer e w p =
    record { units = []; out = e; keeps = w; long = refl; place = p ∙ ap (λ (k : Kept). k.start + k.bytes) w ∙ refl; told = λ t. refl }

total-more : (head : MpuHead) (us : List UnitValue) (u : UnitValue) → total_length head (us ++ u ∷ []) ≡ total_length head us + unit_length head.aggregated head.timed u
total-more head us u = fold-append (λ n v. n + unit_length head.aggregated head.timed v) 8 us (u ∷ [])

length-more : {X : Type 0} (xs : List X) (x : X) → length (xs ++ x ∷ []) ≡ length xs + 1
length-more xs x = length-append xs (x ∷ [])

-- the unit that is written next
abbrev pub next_unit : Source → List ℕ → UnitValue
next_unit source bytes = record { head = head_of source.unit.now; from = 0; bytes = bytes }

member-is : (programme : Programme) (files : ℕ → List ℕ) (source : Source) (bytes : List ℕ) → IsSource programme source → bytes ≡ unit_bytes files (unit_at programme source.number)
    → next_unit source bytes ≡ as_unit ((contents_sent programme files).data_unit source.number)
unfolding contents_of
member-is programme files source bytes is e =
    ap (λ (u : model.Unit). next_of u bytes) is.unit ∙ ap (next_of (unit_at programme source.number).value) e
  where
    next_of : model.Unit → List ℕ → UnitValue
    next_of u b = record { head = head_of u; from = 0; bytes = b }

-- and one more
pub gathered-more : (programme : Programme) (tells : Bool) (file : List ℕ → Option (List ℕ)) (f k : ℕ) (first source : Source) (before now later : List ℕ) (writer next : Kept) (bytes : List ℕ)
    → IsGathered programme tells file f k (group_head first) before now writer → IsMember programme first source → IsSource programme source → source.number ≡ f + k → length bytes ≡ source.unit.now.length
    → (IsTrue tells → bytes ≡ unit_bytes (files_on file programme) (unit_at programme source.number))
    → later ≡ now ++ written_unit writer.head.aggregated writer.head.timed (next_unit source bytes)
    → next ≡ record { start = writer.start; head = writer.head; units = writer.units + 1; bytes = writer.bytes + unit_length writer.head.aggregated writer.head.timed (next_unit source bytes) }
    → length later ≡ next.start + next.bytes → IsGathered programme tells file f (k + 1) (group_head first) before later next
gathered-more programme tells file f k first source before now later writer next bytes so_far member is here l read added kept place =
    let head : MpuHead = group_head first in
    let u : UnitValue = next_unit source bytes in
    let us : List UnitValue = so_far.units in
    let heads : writer.head ≡ head = ap (λ (w : Kept). w.head) so_far.keeps in
    let out : later ≡ now ++ written_unit true first.timed u = added ∙ ap (λ (h : MpuHead). now ++ written_unit h.aggregated h.timed u) heads in
    let more : next ≡ record { start = length before; head = head; units = length us + 1; bytes = total_length head us + unit_length true first.timed u } =
    kept ∙ ap (λ (w : Kept). let v : Kept = record { start = w.start; head = w.head; units = w.units + 1; bytes = w.bytes + unit_length w.head.aggregated w.head.timed u } in v) so_far.keeps in
    let total : total_length head (us ++ u ∷ []) ≡ total_length head us + unit_length true first.timed u = total-more head us u in
    let size : own_size (unit_at programme (f + k)) ≡ unit_length true first.timed u = ap (λ (n : ℕ). own_size (unit_at programme n)) (sym here) ∙ member.size ∙ ap (λ (n : ℕ). 2 + head_length first.timed + n) (sym l) in
    let long : total_length head (us ++ u ∷ []) ≡ 8 + sizes programme f (k + 1) = omega (arith, total, so_far.long, size, sizes-more programme f k) in
    record {
      units = us ++ u ∷ [];
      out = out ∙ ap (λ (xs : List ℕ). xs ++ written_unit true first.timed u) so_far.out ∙ sym (fold-append (with_unit head) (begun before head) us (u ∷ []));
      keeps = more ∙ ap (λ (n : ℕ). let v : Kept = record { start = length before; head = head; units = n; bytes = total_length head us + unit_length true first.timed u } in v) (sym (length-more us u))
          ∙ ap (λ (n : ℕ). let v : Kept = record { start = length before; head = head; units = length (us ++ u ∷ []); bytes = n } in v) (sym total);
      long = long;
      place = place ∙ ap (λ (w : Kept). w.start + w.bytes) more ∙ ap (λ (n : ℕ). length before + n) (sym total ∙ long);
      told = λ t.
          (let own : u ≡ as_unit ((contents_sent programme (files_on file programme)).data_unit (f + k)) =
          member-is programme (files_on file programme) source bytes is (read t) ∙ ap (λ (n : ℕ). as_unit ((contents_sent programme (files_on file programme)).data_unit n)) here in
          ap (λ (v : UnitValue). us ++ v ∷ []) own ∙ ap (λ (vs : List UnitValue). vs ++ as_unit ((contents_sent programme (files_on file programme)).data_unit (f + k)) ∷ []) (so_far.told t)
          ∙ sym (ap (map as_unit) (mapped-more (contents_sent programme (files_on file programme)).data_unit f k) ∙ map-append as_unit (map (contents_sent programme (files_on file programme)).data_unit (numbers f k)) ((contents_sent programme (files_on file programme)).data_unit (f + k) ∷ [])));
    }

-- ---- under the header that a writer keeps

-- the header is that of a group's first unit
pub record IsUnder (programme : Programme) (f : ℕ) (head : MpuHead) : Type 0 where
  pub first : Source
  pub is : IsSource programme first
  pub at : first.number ≡ f
  pub same : head ≡ group_head first

pub under-begun : (programme : Programme) (f : ℕ) (first : Source) (head : MpuHead) (before : List ℕ) (writer : Kept) → IsSource programme first → first.number ≡ f → head ≡ group_head first
    → writer ≡ record { start = length before; head = head; units = 0; bytes = 8 } → IsUnder programme f writer.head
under-begun programme f first head before writer is at same w = record { first = first; is = is; at = at; same = ap (λ (k : Kept). k.head) w ∙ same }

pub gathered-begun : (programme : Programme) (tells : Bool) (file : List ℕ → Option (List ℕ)) (f : ℕ) (head : MpuHead) (before now : List ℕ) (writer : Kept)
    → now ≡ begun before head → writer ≡ record { start = length before; head = head; units = 0; bytes = 8 } → length now ≡ writer.start + writer.bytes → IsGathered programme tells file f 0 writer.head before now writer
gathered-begun programme tells file f head before now writer e w p =
    subst (λ (h : MpuHead). IsGathered programme tells file f 0 h before now writer) (sym (ap (λ (k : Kept). k.head) w)) (gathered-none programme tells file f head before now writer e w p)

-- the next unit of a group may be written
pub record MayGo (writer : Kept) (u : UnitValue) : Type 0 where
  pub kind : FitsKind writer.head.timed u.head
  pub len : writer.bytes + unit_length writer.head.aggregated writer.head.timed u ≤ 65537

pub may-go : (programme : Programme) (tells : Bool) (file : List ℕ → Option (List ℕ)) (f c k : ℕ) (source : Source) (before now : List ℕ) (writer : Kept) (bytes : List ℕ) → IsRight programme → IsGroup programme f c → k < c
    → IsUnder programme f writer.head → IsGathered programme tells file f k writer.head before now writer → IsSource programme source → source.number ≡ f + k → length bytes ≡ source.unit.now.length → MayGo writer (next_unit source bytes)
may-go programme tells file f c k source before now writer bytes right group below under so_far is here l =
    let first : Source = under.first in
    let member : IsMember programme first source = is-member programme f c k first source right group below under.is under.at is here in
    let size : own_size (unit_at programme (f + k)) ≡ unit_length true first.timed (next_unit source bytes) = ap (λ (n : ℕ). own_size (unit_at programme n)) (sym here) ∙ member.size ∙ ap (λ (n : ℕ). 2 + head_length first.timed + n) (sym l) in
    let held : writer.bytes ≡ 8 + sizes programme f k = ap (λ (w : Kept). w.bytes) so_far.keeps ∙ so_far.long in
    let all : sizes programme f (k + 1) ≤ sizes programme f c = sizes-below programme f (k + 1) c (omega arith) in
    record {
      kind = subst (λ (h : MpuHead). FitsKind h.timed (head_of source.unit.now)) (sym under.same) member.kind;
      len = subst (λ (h : MpuHead). writer.bytes + unit_length h.aggregated h.timed (next_unit source bytes) ≤ 65537) (sym under.same) (omega (arith, held, size, sizes-more programme f k, all, group.short, right.limit));
    }

pub gathered-next : (programme : Programme) (tells : Bool) (file : List ℕ → Option (List ℕ)) (f c k : ℕ) (source : Source) (before now later : List ℕ) (writer next : Kept) (bytes : List ℕ) → IsRight programme → IsGroup programme f c → k < c
    → IsUnder programme f writer.head → IsGathered programme tells file f k writer.head before now writer → IsSource programme source → source.number ≡ f + k → length bytes ≡ source.unit.now.length
    → (IsTrue tells → bytes ≡ unit_bytes (files_on file programme) (unit_at programme source.number))
    → later ≡ now ++ written_unit writer.head.aggregated writer.head.timed (next_unit source bytes)
    → next ≡ record { start = writer.start; head = writer.head; units = writer.units + 1; bytes = writer.bytes + unit_length writer.head.aggregated writer.head.timed (next_unit source bytes) }
    → length later ≡ next.start + next.bytes → IsGathered programme tells file f (k + 1) next.head before later next
gathered-next programme tells file f c k source before now later writer next bytes right group below under so_far is here l read added kept place =
    let first : Source = under.first in
    let member : IsMember programme first source = is-member programme f c k first source right group below under.is under.at is here in
    let heads : next.head ≡ group_head first = ap (λ (w : Kept). w.head) kept ∙ under.same in
    subst (λ (h : MpuHead). IsGathered programme tells file f (k + 1) h before later next) (sym heads)
    (gathered-more programme tells file f k first source before now later writer next bytes (subst (λ (h : MpuHead). IsGathered programme tells file f k h before now writer) under.same so_far) member is here l read added kept place)

pub under-next : (programme : Programme) (f : ℕ) (writer next : Kept) (u : UnitValue) → IsUnder programme f writer.head
    → next ≡ record { start = writer.start; head = writer.head; units = writer.units + 1; bytes = writer.bytes + unit_length writer.head.aggregated writer.head.timed u } → IsUnder programme f next.head
under-next programme f writer next u under kept = subst (IsUnder programme f) (sym (ap (λ (w : Kept). w.head) kept)) under

-- ---- all of them

ended-long : (start bytes : ℕ) (out : List ℕ) → start + 2 ≤ length out → length (ended start bytes out) ≡ length out
unfolding ended
ended-long start bytes out l = simp (length-append, length_big_endian) (omega (arith, length-take start out, length-drop (start + 2) out))

pub group-out-long : (programme : Programme) (tells : Bool) (file : List ℕ → Option (List ℕ)) (f c : ℕ) (before now out : List ℕ) (writer : Kept) → IsRight programme → IsGroup programme f c
    → IsGathered programme tells file f c writer.head before now writer → out ≡ ended writer.start writer.bytes now → length out ≤ length before + 60022
group-out-long programme tells file f c before now out writer right group so_far e =
    let start : writer.start ≡ length before = ap (λ (w : Kept). w.start) so_far.keeps in
    omega (arith, ap (λ (xs : List ℕ). length xs) e, ended-long writer.start writer.bytes now (omega (arith, so_far.place)), so_far.place, group.short, right.limit)

pub group-out : (programme : Programme) (cast : Cast) (tells : Bool) (file : List ℕ → Option (List ℕ)) (f c : ℕ) (before now out : List ℕ) (writer : Kept) → CallsWriteThePayload → HasCast programme cast
    → IsUnder programme f writer.head → IsGathered programme tells file f c writer.head before now writer → out ≡ ended writer.start writer.bytes now → IsTrue tells
    → out ≡ before ++ bytes_of (written cast (contents_sent programme (files_on file programme)) (carries.Group f c))
unfolding written contents_of
group-out programme cast tells file f c before now out writer calls job under so_far e t =
    let files : ℕ → List ℕ = files_on file programme in
    let first : Source = under.first in
    let us : List UnitValue = so_far.units in
    let start : writer.start ≡ length before = ap (λ (w : Kept). w.start) so_far.keeps in
    let bytes : writer.bytes ≡ total_length writer.head us = ap (λ (w : Kept). w.bytes) so_far.keeps in
    let mpu : first.mpu ≡ (entry_of_unit cast (contents_sent programme files) f).mpu = source-mpu programme cast files first job.is under.is ∙ ap (λ (u : ℕ). (entry_of_unit cast (contents_sent programme files) u).mpu) under.at in
    let timed : first.timed ≡ (unit_at programme f).in_mpu.in_asset.timed = under.is.timed ∙ ap (λ (u : ℕ). (unit_at programme u).in_mpu.in_asset.timed) under.at in
    e ∙ ap (λ (n : ℕ). ended n writer.bytes now) start ∙ ap (λ (n : ℕ). ended (length before) n now) bytes ∙ ap (ended (length before) (total_length writer.head us)) so_far.out ∙ calls before writer.head us
    ∙ ap (λ (vs : List UnitValue). before ++ spelling (record { head = writer.head; units = vs })) (so_far.told t)
    ∙ ap (λ (h : MpuHead). before ++ spelling (record { head = h; units = members programme files f c })) under.same
    ∙ ap (λ (b : Bool). before ++ spelling (record { head = record { timed = b; part = parts.Whole; aggregated = true; counter = 0; mpu = first.mpu }; units = members programme files f c })) timed
    ∙ ap (λ (m : ℕ). before ++ spelling (record { head = record { timed = (unit_at programme f).in_mpu.in_asset.timed; part = parts.Whole; aggregated = true; counter = 0; mpu = m }; units = members programme files f c })) mpu

-- where all have been written
pub gathered-all : (programme : Programme) (tells : Bool) (file : List ℕ → Option (List ℕ)) (f k c : ℕ) (head : MpuHead) (before now : List ℕ) (writer : Kept) → k ≡ c → IsGathered programme tells file f k head before now writer → IsGathered programme tells file f c head before now writer
gathered-all programme tells file f k c head before now writer e g = subst (λ (n : ℕ). IsGathered programme tells file f n head before now writer) e g

-- ---- the bytes of a unit of a group

pub record Member (programme : Programme) (f k : ℕ) (source : Source) : Type 0 where
  pub place : f + k < 2 ^ 32
  pub some : 1 ≤ source.unit.now.length
  pub short : source.unit.now.length ≤ programme.limit

few-units : (programme : Programme) → IsRight programme → length (all_units programme) < 2 ^ 32
few-units programme right = omega (arith, right.few_units, all-counted programme)

pub place-fits : (programme : Programme) (f c k : ℕ) → IsRight programme → IsGroup programme f c → k < c → f + k < 2 ^ 32
place-fits programme f c k right group below = omega (arith, few-units programme right, group.known)

pub place-known : (programme : Programme) (f c k : ℕ) → IsGroup programme f c → k < c → f + k < length (all_units programme)
place-known programme f c k group below = omega (arith, group.known)

pub member-fits : (programme : Programme) (f c k : ℕ) (source : Source) → IsRight programme → IsGroup programme f c → k < c → IsSource programme source → source.number ≡ f + k → Member programme f k source
member-fits programme f c k source right group below is here =
    let size : source.unit.now.length ≡ (unit_at programme (f + k)).value.length = ap (λ (u : model.Unit). u.length) is.unit ∙ ap (λ (u : ℕ). (unit_at programme u).value.length) here in
    let fits : FitsUnit programme (unit_at programme source.number) = unit-fits programme source.number right is.known in
    record {
      place = place-fits programme f c k right group below;
      some = omega (arith, fits.some, ap (λ (u : model.Unit). u.length) is.unit);
      short = omega (arith, size, sizes-more programme f k, sizes-below programme f (k + 1) c (omega arith), group.short);
    }

-- the bytes of a unit that was read whole into the front of a buffer
pub whole-unit : (programme : Programme) (file : List ℕ → Option (List ℕ)) (source : Source) (old new : List ℕ) → IsSource programme source → source.unit.now.length ≤ length old → length new ≡ length (take source.unit.now.length old)
    → new ≡ take (length (take source.unit.now.length old)) (drop 0 (bytes_of_unit (bytes_in (file source.name.now)) source.unit.now))
    → take source.unit.now.length (new ++ drop source.unit.now.length old) ≡ unit_bytes (files_on file programme) (unit_at programme source.number)
whole-unit programme file source old new is fits l read =
    let n : ℕ = source.unit.now.length in
    let all : List ℕ = bytes_of_unit (bytes_in (file source.name.now)) source.unit.now in
    let count : length (take n old) ≡ n = front-long n old fits in
    let short : length all ≤ length (take n old) = omega (arith, count, length-take n (drop source.unit.now.from (bytes_in (file source.name.now)))) in
    read-front n old new l fits ∙ read ∙ take_all (length (take n old)) all short ∙ source-bytes programme file source is

-- a buffer keeps its length
pub front-kept : (n : ℕ) (old new : List ℕ) → n ≤ length old → length new ≡ length (take n old) → length (new ++ drop n old) ≡ length old
front-kept n old new fits l = omega (arith, length-append new (drop n old), length-drop n old, length-take n old, l)
