-- The laws of cutting and gathering.
use Rattle.std.specs.Prelude.{◌≡◌, ℕ, ◌+◌, ◌^◌, ◌<◌, ◌≤◌, Bool, true, List, [], ◌∷◌, length, map, take}
use Rattle.std.specs.List.{sum_by}
use Rattle.mmt_frag.specs.Cuts.{gathered, part_bytes, part_length, parts}
use Rattle.mmt_frag.specs.Fragments.{part_at, part_role}
use Rattle.mmt_model.specs.Packets.{DataUnit, Heard, Payload}
use Rattle.mmt_model.specs.Carrying.{numbers}
use Rattle.mmt_model.specs.Units.{MediaUnit, joined, units_of}
use Rattle.mmt_model.specs.declared.keys.Part.TheVariants as part

-- where part k ends
abbrev pub part_end : ℕ → ℕ → ℕ → ℕ
part_end length limit k = (part_at length limit k).from + (part_at length limit k).length

-- the parts of a unit or message of a length, each of at most the limit
pub record FollowOn (length limit : ℕ) : Type 0 where
  -- the first begins at 0, each next one where the one before ends, and the last ends at the length
  pub first : (part_at length limit 0).from ≡ 0
  pub next : (k : ℕ) → k + 1 < parts length limit → (part_at length limit (k + 1)).from ≡ part_end length limit k
  pub last : (k : ℕ) → k + 1 ≡ parts length limit → part_end length limit k ≡ length
  -- each but the last has as many bytes as the limit, and the last at least one and no more
  pub full : (k : ℕ) → k + 1 < parts length limit → (part_at length limit k).length ≡ limit
  pub rest : (k : ℕ) → k + 1 ≡ parts length limit → (1 ≤ part_length length limit k) × (part_length length limit k ≤ limit)
  -- one part is the whole; of several the first is `First`, the last is `Last`, and no other is one of these
  pub whole : parts length limit ≡ 1 → (part_at length limit 0).part ≡ part.Whole
  pub begins : 1 < parts length limit → (part_at length limit 0).part ≡ part.First
  pub ends : (k : ℕ) → 1 < parts length limit → k + 1 ≡ parts length limit → (part_at length limit k).part ≡ part.Last
  pub inner : (k : ℕ) → 0 < k → k + 1 < parts length limit → (part_at length limit k).part ≡ part.Middle

-- the bytes of all parts, in order
abbrev pub all_parts : ℕ → List ℕ → List (List ℕ)
all_parts limit bytes = map (λ k. part_bytes limit k bytes) (numbers 0 (parts (length bytes) limit))

-- parts follow one another, and their bytes joined are those of the unit or message
abbrev pub CutsWithoutGap : Type 0
CutsWithoutGap =
    (limit : ℕ) → 1 ≤ limit → ((n : ℕ) → 1 ≤ n → FollowOn n limit) × ((bytes : List ℕ) → joined (all_parts limit bytes) ≡ bytes)

-- the bytes that so many of the first of these units take in a payload
abbrev pub gathered_bytes : ℕ → List ℕ → ℕ → ℕ
gathered_bytes header lengths n = sum_by (λ l. 2 + header + l) (take n lengths)

-- one unit is gathered, or the greatest number of which the bytes are no more than the limit
abbrev pub GathersMost : Type 0
GathersMost =
    (header limit : ℕ) (lengths : List ℕ) → 1 ≤ length lengths
    → (1 ≤ gathered header limit lengths) × (gathered header limit lengths ≤ length lengths)
    × (1 < gathered header limit lengths → gathered_bytes header lengths (gathered header limit lengths) ≤ limit)
    × ((n : ℕ) → gathered header limit lengths < n → n ≤ length lengths → limit < gathered_bytes header lengths n)

-- part k of n of a data unit as a packet spells it
abbrev pub spelled_part : Bool → ℕ → DataUnit → ℕ → ℕ → ℕ → Payload
spelled_part timed mpu d limit n k =
    Payload.Media (part_role k n) timed mpu
    (record { key = d.key; priority = d.priority; dependency = d.dependency; bytes = part_bytes limit k d.bytes } ∷ [])

-- the packet of part k of n of a data unit, as it is heard with this packet id and from this number on
abbrev pub heard_part : (ℕ → ℕ) → (ℕ → ℕ) → ℕ → ℕ → Bool → ℕ → DataUnit → ℕ → ℕ → ℕ → Heard
heard_part time size packet_id number timed mpu d limit n k =
    record {
      time = time k;
      packet_id = packet_id;
      number = number + k;
      length = size k;
      is_opened = true;
      payload = spelled_part timed mpu d limit n k;
    }

-- a data unit that was received whole
abbrev pub whole_unit : ℕ → ℕ → ℕ → DataUnit → MediaUnit
whole_unit packet_id number mpu d =
    record {
      packet_id = packet_id;
      mpu = mpu;
      key = d.key;
      priority = d.priority;
      dependency = d.dependency;
      number = number;
      place = 0;
      bytes = d.bytes;
    }

-- the packets of a unit's parts are one media unit with the unit's bytes
abbrev pub PartsAreOneUnit : Type 0
PartsAreOneUnit =
    (time size : ℕ → ℕ) (packet_id number : ℕ) (timed : Bool) (mpu : ℕ) (d : DataUnit) (limit : ℕ)
    → 1 ≤ limit → 1 ≤ length d.bytes → number + parts (length d.bytes) limit ≤ 2 ^ 32
    → (let n = parts (length d.bytes) limit in
    units_of (map (heard_part time size packet_id number timed mpu d limit n) (numbers 0 n)) ≡ whole_unit packet_id number mpu d ∷ [])
