-- A part of a unit by itself: what it asks for, how long its payload is, and that the payload is the one of the definitions.
use Rattle.std.proofs.Common.{◌≡◌, ℕ, ◌+◌, ◌-◌, ◌*◌, ◌<◌, ◌≤◌, ◌^◌, Bool, true, false, min, Option, List, [], ◌∷◌, ◌++◌, length, take, drop, arith, refl, sym, ap, subst, ◌∙◌, ⊎_elim}
use Rattle.std.proofs.lemmas.Bool.{cases_lt}
use Rattle.std.proofs.lemmas.List.{length-append, length-drop, length-take, take_all, take_at}
use Rattle.mmt_cast.specs.FromRight.{FitsUnit}
use Rattle.mmt_cast.specs.Placing.{PlacedUnit, all_units, entry_of_mpu}
use Rattle.mmt_cast.specs.Right.{contents_of, unit_at, unit_bytes}
use Rattle.mmt_cast.proofs.FromRight.{right-programmes-fit}
use Rattle.mmt_cast.proofs.Reading.{entry-of-unit}
use Rattle.mmt_fields.proofs.Numbers.{length_big_endian}
use Rattle.mmt_frag.specs.Cuts.{part_bytes}
use Rattle.mmt_frag.specs.Fragments.{IsPlainItem, is_timed, part_payload}
use Rattle.mmt_frag.specs.declared.cutting.PartOf.{PartOf}
use Rattle.mmt_model.specs.Carrying.{entry_of_unit}
use Rattle.mmt_model.specs.Entries.{Entry}
use Rattle.mmt_model.specs.Right.{IsRight}
use Rattle.mmt_model.specs.declared.casts.Cast.{Cast}
use Rattle.mmt_model.specs.declared.keys.Part.{Part}
use Rattle.mmt_model.specs.declared.keys.UnitKey.{UnitKey}
use Rattle.mmt_model.specs.declared.keys.UnitKey.TheVariants as keys
use Rattle.mmt_model.specs.declared.programmes.Programme.{Programme}
use Rattle.mmt_model.specs.declared.programmes.Unit as model
use Rattle.mmt_mpu.specs.Spelling.{HeadFits, KeyFits, RanksFit, UnitHead, UnitValue, head_bytes, head_length, lone_bytes, spelling, units_bytes}
use Rattle.mmt_pace.proofs.Alike.{entry-alike}
use Rattle.mmt_pace.specs.Recast.{IsItsCast}
use Rattle.mmt_sent.specs.Messages.{message_bytes}
use Rattle.mmt_sent.specs.Payloads.{bytes_of}
use Rattle.mmt_sent.specs.Stream.{contents_sent}
use Rattle.mmt_send.specs.Carried.{HasCast, lone_written}
use Rattle.mmt_send.specs.Files.{IsSource, bytes_in, bytes_of_unit, files_on}
use Rattle.mmt_send.proofs.FileReads.{source-bytes}
use Rattle.mmt_send.specs.declared.sources.Source.{Source}

-- ---- what is asked

pub unit-fits : (programme : Programme) (u : ℕ) → IsRight programme → u < length (all_units programme) → FitsUnit programme (unit_at programme u)
unit-fits programme u right l = right-programmes-fit.units programme right u l

pub source-from : (programme : Programme) (source : Source) → IsRight programme → IsSource programme source → source.unit.now.from ≤ 2 ^ 40
source-from programme source right is = omega (arith, ap (λ (u : model.Unit). u.from) is.unit, (unit-fits programme source.number right is.known).from)

plain : (timed : Bool) (h : UnitHead) → HeadFits timed h → IsPlainItem h.key h.priority h.dependency
plain timed h fits = go timed h.key fits.key fits.ranks
  where
    go : (t : Bool) (key : UnitKey) → KeyFits t key → RanksFit t h → IsPlainItem key h.priority h.dependency
    go true (keys.Timed a b c) k r = tt
    go true (keys.Item i) k r = absurd k
    go false (keys.Timed a b c) k r = absurd k
    go false (keys.Item i) k r = r

pub source-plain : (programme : Programme) (source : Source) → IsRight programme → IsSource programme source → IsPlainItem source.unit.now.key source.unit.now.priority source.unit.now.dependency
source-plain programme source right is =
    let fits : FitsUnit programme (unit_at programme source.number) = unit-fits programme source.number right is.known in
    subst (λ (u : model.Unit). IsPlainItem u.key u.priority u.dependency) (sym is.unit) (plain _ _ fits.head)

timed-by : (timed : Bool) (h : UnitHead) → HeadFits timed h → is_timed h.key ≡ timed
timed-by timed h fits = go timed h.key fits.key
  where
    go : (t : Bool) (key : UnitKey) → KeyFits t key → is_timed key ≡ t
    go true (keys.Timed a b c) k = refl
    go true (keys.Item i) k = absurd k
    go false (keys.Timed a b c) k = absurd k
    go false (keys.Item i) k = refl

pub source-timed : (programme : Programme) (source : Source) → IsRight programme → IsSource programme source → is_timed source.unit.now.key ≡ (unit_at programme source.number).in_mpu.in_asset.timed
source-timed programme source right is =
    let fits : FitsUnit programme (unit_at programme source.number) = unit-fits programme source.number right is.known in
    ap (λ (u : model.Unit). is_timed u.key) is.unit ∙ timed-by _ _ fits.head

-- a part's first byte has a place of 32 bits
pub part-place : (programme : Programme) (u k : ℕ) → IsRight programme → u < length (all_units programme) → k * programme.limit < (unit_at programme u).value.length → k * programme.limit < 2 ^ 32
part-place programme u k right l begins = omega (arith, begins, (unit-fits programme u right l).bytes)

-- ---- how long it is

head-long : (timed : Bool) (h : UnitHead) → length (head_bytes timed h) ≤ 14
unfolding head_bytes
head-long true h = simp (length-append, length_big_endian) (omega arith)
head-long false h = simp (length-append, length_big_endian) (omega arith)

pub lone-long : (timed : Bool) (part : Part) (counter mpu : ℕ) (u : UnitValue) → length (spelling (record { head = record { timed = timed; part = part; aggregated = false; counter = counter; mpu = mpu }; units = u ∷ [] })) ≤ 22 + length u.bytes
unfolding spelling units_bytes lone_bytes
lone-long timed part counter mpu u = simp (length-append, length_big_endian) (omega (arith, head-long timed u.head))

pub added-long : (out old new : List ℕ) (n m : ℕ) → out ≡ old ++ new → length new ≤ n → n ≤ m → length out ≤ length old + m
added-long out old new n m e l more = omega (arith, ap (λ (xs : List ℕ). length xs) e, length-append old new, l, more)

-- ---- that it is the payload of the definitions

-- the place of a unit's bytes is no part of what is spelled
place-aside : (timed : Bool) (part : Part) (counter mpu : ℕ) (h : UnitHead) (bytes : List ℕ) (m n : ℕ)
    → spelling (record { head = record { timed = timed; part = part; aggregated = false; counter = counter; mpu = mpu }; units = record { head = h; from = m; bytes = bytes } ∷ [] })
    ≡ spelling (record { head = record { timed = timed; part = part; aggregated = false; counter = counter; mpu = mpu }; units = record { head = h; from = n; bytes = bytes } ∷ [] })
unfolding spelling units_bytes lone_bytes
place-aside timed part counter mpu h bytes m n = refl

-- the bytes of a part, read by their number
part-read : (limit k size n : ℕ) (bytes buf : List ℕ) → n ≡ min limit (size - k * limit) → length bytes ≤ size → buf ≡ take n (drop (k * limit) bytes) → buf ≡ part_bytes limit k bytes
unfolding part_bytes
part-read limit k size n bytes buf e l is =
    let rest : List ℕ = drop (k * limit) bytes in
    let short : length rest ≤ size - k * limit = omega (arith, length-drop (k * limit) bytes) in
    is ∙ ⊎_elim
    (λ (less : size - k * limit < limit). take_all n rest (omega arith) ∙ sym (take_all limit rest (omega arith)))
    (λ (more : limit ≤ size - k * limit). let same : n ≡ limit = omega arith in ap (λ (j : ℕ). take j rest) same)
    (cases_lt (size - k * limit) limit)

unit-short : (files : ℕ → List ℕ) (x : PlacedUnit) → length (unit_bytes files x) ≤ x.value.length
unfolding unit_bytes
unit-short files x = omega (arith, length-take x.value.length (drop x.value.from (files x.in_mpu.in_asset.file)))

-- the MPU number of a unit's packets
entry-mpu : (x : PlacedUnit) → (entry_of_mpu x.in_mpu).mpu ≡ x.in_mpu.value.number
unfolding entry_of_mpu
entry-mpu x = refl

pub source-mpu : (programme : Programme) (cast : Cast) (files : ℕ → List ℕ) (source : Source) → IsItsCast programme cast → IsSource programme source → source.mpu ≡ (entry_of_unit cast (contents_sent programme files) source.number).mpu
source-mpu programme cast files source c is =
    is.mpu ∙ sym (entry-mpu (unit_at programme source.number)) ∙ ap (λ (e : Entry). e.mpu) (sym (entry-of-unit programme files (message_bytes programme) source.number is.known))
    ∙ ap (λ (e : Entry). e.mpu) (sym (entry-alike programme cast (contents_sent programme files) c source.number))

-- what a part is written with
pub lone-is : (programme : Programme) (cast : Cast) (files : ℕ → List ℕ) (source : Source) (k : ℕ) (cut : PartOf) (buf : List ℕ) → IsRight programme → IsItsCast programme cast → IsSource programme source
    → cut.length ≡ min programme.limit (source.unit.now.length - k * programme.limit) → buf ≡ take cut.length (drop (k * programme.limit) (unit_bytes files (unit_at programme source.number)))
    → spelling (part_payload source.mpu source.unit.now cut buf) ≡ bytes_of (lone_written cast (contents_sent programme files) source.number k cut.part cut.left)
unfolding contents_of
lone-is programme cast files source k cut buf right c is e read =
    let x : PlacedUnit = unit_at programme source.number in
    let size : source.unit.now.length ≡ x.value.length = ap (λ (u : model.Unit). u.length) is.unit in
    let count : cut.length ≡ min programme.limit (x.value.length - k * programme.limit) = e ∙ ap (λ (n : ℕ). min programme.limit (n - k * programme.limit)) size in
    let bytes : buf ≡ part_bytes programme.limit k (unit_bytes files x) = part-read programme.limit k x.value.length cut.length (unit_bytes files x) buf count (unit-short files x) read in
    let timed : is_timed source.unit.now.key ≡ x.in_mpu.in_asset.timed = source-timed programme source right is in
    let mpu : source.mpu ≡ (entry_of_unit cast (contents_sent programme files) source.number).mpu = source-mpu programme cast files source c is in
    place-aside (is_timed source.unit.now.key) cut.part cut.left source.mpu (record { key = source.unit.now.key; priority = source.unit.now.priority; dependency = source.unit.now.dependency }) buf (8 + head_length (is_timed source.unit.now.key)) 0
    ∙ ap (λ (t : Bool). spelled t source.mpu source.unit.now buf) timed ∙ ap (λ (m : ℕ). spelled x.in_mpu.in_asset.timed m source.unit.now buf) mpu
    ∙ ap (λ (u : model.Unit). spelled x.in_mpu.in_asset.timed (entry_of_unit cast (contents_sent programme files) source.number).mpu u buf) is.unit
    ∙ ap (spelled x.in_mpu.in_asset.timed (entry_of_unit cast (contents_sent programme files) source.number).mpu x.value) bytes
  where
    spelled : Bool → ℕ → model.Unit → List ℕ → List ℕ
    spelled t m u b = spelling (record { head = record { timed = t; part = cut.part; aggregated = false; counter = cut.left; mpu = m }; units = record { head = record { key = u.key; priority = u.priority; dependency = u.dependency }; from = 0; bytes = b } ∷ [] })

-- what was read into the front of a buffer
pub read-front : (n : ℕ) (old new : List ℕ) → length new ≡ length (take n old) → n ≤ length old → take n (new ++ drop n old) ≡ new
read-front n old new e l = let same : length new ≡ n = omega (arith, length-take n old, e) in take_at new (drop n old) n same

pub front-long : (n : ℕ) (old : List ℕ) → n ≤ length old → length (take n old) ≡ n
front-long n old l = omega (arith, length-take n old)

pub payload-long : (mpu : ℕ) (unit : model.Unit) (cut : PartOf) (buf out old : List ℕ) → out ≡ old ++ spelling (part_payload mpu unit cut buf) → length buf ≤ 60000 → length out ≤ length old + 60022
payload-long mpu unit cut buf out old e l =
    added-long out old (spelling (part_payload mpu unit cut buf)) (22 + length buf) 60022 e
    (lone-long (is_timed unit.key) cut.part cut.left mpu (record { head = record { key = unit.key; priority = unit.priority; dependency = unit.dependency }; from = 8 + head_length (is_timed unit.key); bytes = buf })) (omega arith)

-- the payload that is appended
pub lone-out : (programme : Programme) (cast : Cast) (file : List ℕ → Option (List ℕ)) (source : Source) (k : ℕ) (cut : PartOf) (old_buf new_buf out old : List ℕ) → HasCast programme cast → IsSource programme source
    → cut.length ≡ min programme.limit (source.unit.now.length - k * programme.limit) → length old_buf ≡ programme.limit → length new_buf ≡ length (take cut.length old_buf)
    → new_buf ≡ take (length (take cut.length old_buf)) (drop (k * programme.limit) (bytes_of_unit (bytes_in (file source.name.now)) source.unit.now))
    → out ≡ old ++ spelling (part_payload source.mpu source.unit.now cut (take cut.length (new_buf ++ drop cut.length old_buf)))
    → out ≡ old ++ bytes_of (lone_written cast (contents_sent programme (files_on file programme)) source.number k cut.part cut.left)
lone-out programme cast file source k cut old_buf new_buf out old job is e room long read added =
    let fits : cut.length ≤ length old_buf = omega arith in
    let count : length (take cut.length old_buf) ≡ cut.length = front-long cut.length old_buf fits in
    let front : take cut.length (new_buf ++ drop cut.length old_buf) ≡ new_buf = read-front cut.length old_buf new_buf long fits in
    let bytes : new_buf ≡ take cut.length (drop (k * programme.limit) (unit_bytes (files_on file programme) (unit_at programme source.number))) =
    read ∙ ap (λ (n : ℕ). take n (drop (k * programme.limit) (bytes_of_unit (bytes_in (file source.name.now)) source.unit.now))) count ∙ ap (λ (b : List ℕ). take cut.length (drop (k * programme.limit) b)) (source-bytes programme file source is) in
    added ∙ ap (λ (b : List ℕ). old ++ spelling (part_payload source.mpu source.unit.now cut b)) front
    ∙ ap (λ (b : List ℕ). old ++ b) (lone-is programme cast (files_on file programme) source k cut new_buf job.right job.is is e bytes)
