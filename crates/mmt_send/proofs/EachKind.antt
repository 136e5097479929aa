-- The payload of a packet by what it carries, from those of its kinds.
use Rattle.std.proofs.Common.{◌≡◌, false, ℕ, ◌*◌, ◌<◌, ◌≤◌, List, [], ◌∷◌, length, drop, get_or, arith, refl, ap, subst, ◌∙◌}
use Rattle.std.proofs.lemmas.List.{get_or_default, length-take}
use Rattle.mmt_cast.specs.Placing.{all_units}
use Rattle.mmt_cast.specs.Right.{contents_of, unit_at, unit_bytes}
use Rattle.mmt_cast.proofs.Reading.{length-units}
use Rattle.mmt_frag.proofs.PartsJoined.{one-part}
use Rattle.mmt_model.specs.Carrying.{copy_place, entry_of_unit, no_sent_unit, role, sent_unit, table_copy}
use Rattle.mmt_model.specs.declared.casts.Carries.TheVariants as carries
use Rattle.mmt_model.specs.declared.casts.Cast.{Cast}
use Rattle.mmt_model.specs.declared.casts.SentUnit.{SentUnit}
use Rattle.mmt_model.specs.declared.keys.Part.TheVariants as parts
use Rattle.mmt_model.specs.declared.programmes.Programme.{Programme}
use Rattle.mmt_mpu.specs.Spelling.{spelling}
use Rattle.mmt_pace.proofs.Alike.{alike}
use Rattle.mmt_pace.specs.Recast.{IsItsCast}
use Rattle.mmt_sent.specs.Payloads.{Message, bytes_of, left, written}
use Rattle.mmt_sent.specs.Stream.{contents_sent}
use Rattle.mmt_model.specs.Right.{IsRight}
use Rattle.mmt_send.specs.Carried.{IsCarried, lone_written}
use Rattle.mmt_send.proofs.Lone.{unit-fits}
use Rattle.mmt_frag.specs.Cuts.{part_bytes}
use Rattle.mmt_model.specs.declared.casts.Carries.{Carries}
use Rattle.mmt_sent.specs.Messages.{message_bytes}

pub count-is : (cast : Cast) (slice : List SentUnit) (u : ℕ) (d : SentUnit) → slice ≡ cast.units → u < length cast.units → (get_or slice u d).count ≡ (sent_unit cast u).count
unfolding sent_unit
count-is cast slice u d e l = ap (λ (xs : List SentUnit). (get_or xs u d).count) e ∙ ap (λ (s : SentUnit). s.count) (get_or_default cast.units u d no_sent_unit l)

pub unit-listed : (programme : Programme) (cast : Cast) (u : ℕ) → IsItsCast programme cast → u < length (all_units programme) → u < length cast.units
unit-listed programme cast u is l = omega (arith, l, length-units programme, (alike programme cast is).units)

-- a unit of at most the limit has one part, which is the whole
pub whole-written : (programme : Programme) (cast : Cast) (files : ℕ → List ℕ) (u : ℕ) → (unit_at programme u).value.length ≤ programme.limit
    → bytes_of (lone_written cast (contents_sent programme files) u 0 parts.Whole 0) ≡ bytes_of (written cast (contents_sent programme files) (carries.Whole u))
unfolding written contents_of unit_bytes
whole-written programme cast files u l =
    let all : List ℕ = unit_bytes files (unit_at programme u) in
    ap (λ (bytes : List ℕ). spelled bytes) (one-part programme.limit all (omega (arith, length-take (unit_at programme u).value.length (drop (unit_at programme u).value.from (files (unit_at programme u).in_mpu.in_asset.file)), l)))
  where
    spelled : List ℕ → List ℕ
    spelled bytes =
        spelling
        (record {
          head = record { timed = (contents_sent programme files).timed u; part = parts.Whole; aggregated = false; counter = 0; mpu = (entry_of_unit cast (contents_sent programme files) u).mpu };
          units = record { head = record { key = (unit_at programme u).value.key; priority = (unit_at programme u).value.priority; dependency = (unit_at programme u).value.dependency }; from = 0; bytes = bytes } ∷ [];
        })

pub fragment-written : (programme : Programme) (cast : Cast) (files : ℕ → List ℕ) (u k count : ℕ) → count ≡ (sent_unit cast u).count
    → bytes_of (lone_written cast (contents_sent programme files) u k (role k count) (left k count)) ≡ bytes_of (written cast (contents_sent programme files) (carries.Fragment u k))
unfolding written
fragment-written programme cast files u k count e = ap (λ (n : ℕ). bytes_of (lone_written cast (contents_sent programme files) u k (role k n) (left k n))) e

-- a message that is not cut is sent as its first part
pub parameters-written : (programme : Programme) (cast : Cast) (files : ℕ → List ℕ) (s : ℕ)
    → bytes_of (Message parts.Whole 0 (part_bytes programme.limit 0 (message_bytes programme s))) ≡ bytes_of (written cast (contents_sent programme files) (carries.Parameters s))
unfolding written contents_of
parameters-written programme cast files s = refl

pub table-written : (programme : Programme) (cast : Cast) (files : ℕ → List ℕ) (s : ℕ)
    → bytes_of (Message parts.Whole 0 (part_bytes programme.limit 0 (message_bytes programme s))) ≡ bytes_of (written cast (contents_sent programme files) (carries.Table s))
unfolding written contents_of
table-written programme cast files s = refl

pub table-part-written : (programme : Programme) (cast : Cast) (files : ℕ → List ℕ) (s k count : ℕ) → count ≡ (table_copy cast (copy_place cast.copies s)).count
    → bytes_of (Message (role k count) (left k count) (part_bytes programme.limit k (message_bytes programme s))) ≡ bytes_of (written cast (contents_sent programme files) (carries.TablePart s k))
unfolding written contents_of
table-part-written programme cast files s k count e = ap (λ (n : ℕ). bytes_of (Message (role k n) (left k n) (part_bytes programme.limit k (message_bytes programme s)))) e

-- ---- what a packet carries is there

pub carried-as : (programme : Programme) (c v : Carries) → c ≡ v → IsCarried programme c → IsCarried programme v
carried-as programme c v e is = subst (IsCarried programme) e is

pub part-begins : (programme : Programme) (u : ℕ) → IsRight programme → u < length (all_units programme) → 0 * programme.limit < (unit_at programme u).value.length
part-begins programme u right l = omega (arith, (unit-fits programme u right l).some)
