-- A programme for the tests: an asset of two MPUs with access units, and one of 22 MPUs without.
use Rattle.std.specs.Prelude.{ℕ, List, [], ◌∷◌, true, false, map}
use Rattle.mmt_cast.specs.PlanOne.{plan_one}
use Rattle.mmt_model.specs.Carrying.{numbers}
use Rattle.mmt_model.specs.declared.programmes.Asset.{Asset}
use Rattle.mmt_model.specs.declared.programmes.Mpu.{Mpu}
use Rattle.mmt_model.specs.declared.programmes.Programme.{Programme}

-- an MPU without access units
abbrev pub plain_mpu : ℕ → Mpu
plain_mpu n = record { number = n; time = record { 0 = n }; decoding_offset = 0; aus = []; units = [] }

-- an MPU with one access unit
abbrev pub short_mpu : ℕ → Mpu
short_mpu n = record { number = n; time = record { 0 = n }; decoding_offset = 5; aus = record { dts_pts = 3; pts = 4 } ∷ []; units = [] }

-- the two assets
abbrev pub sample_assets : List Asset
sample_assets =
    record { packet_id = 256; id = 118 ∷ []; kind = 1751479857; timed = true; timescale = 60000; file = 0; mpus = short_mpu 7 ∷ short_mpu 8 ∷ [] }
    ∷ record { packet_id = 257; id = 100 ∷ []; kind = 1684108385; timed = false; timescale = 1; file = 0; mpus = map plain_mpu (numbers 0 22) } ∷ []

-- the programme
abbrev pub sample : Programme
sample = record plan_one { assets = sample_assets }

-- the names of the items
abbrev pub item_name : ℕ → ℕ × ℕ
item_name n = (1, n)

-- the names of all its MPUs
abbrev pub sample_names : List (ℕ × ℕ)
sample_names = (0, 0) ∷ (0, 1) ∷ map item_name (numbers 0 22)
