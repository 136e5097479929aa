-- Right programmes: those that a plan can give (this project's rules for a plan).
use Rattle.std.specs.Prelude.{◌≡◌, ℕ, ◌+◌, ◌/◌, ◌%◌, ◌<◌, ◌≤◌, ◌^◌, ◌⊎◌, Bool, true, false, List, [], ◌∷◌, length, map, get_or}
use Rattle.std.specs.List.{All, sum_by}
use Rattle.mmt_base.specs.declared.ticks.LongTick.{LongTick}
use Rattle.mmt_model.specs.declared.keys.UnitKey.{UnitKey}
use Rattle.mmt_model.specs.declared.keys.UnitKey.TheVariants as keys
use Rattle.mmt_model.specs.declared.programmes.Asset.{Asset}
use Rattle.mmt_model.specs.declared.programmes.Au.{Au}
use Rattle.mmt_model.specs.declared.programmes.Flow.{Flow}
use Rattle.mmt_model.specs.declared.programmes.Mpu.{Mpu}
use Rattle.mmt_model.specs.declared.programmes.Params.{Params}
use Rattle.mmt_model.specs.declared.programmes.Programme.{Programme}
use Rattle.mmt_model.specs.declared.programmes.Signal.{Signal}
use Rattle.mmt_model.specs.declared.programmes.Signal.TheVariants as signals
use Rattle.mmt_model.specs.declared.programmes.Unit.{Unit as PlannedUnit}

-- ---- lists

-- no two of these numbers are equal
abbrev pub AreDifferent : List ℕ → Type 0
AreDifferent [] = Unit {0}
AreDifferent (n ∷ ns) = All (λ m. m ≡ n → ⊥) ns × AreDifferent ns

-- a pair of places stands before another in the order of the plan: by its first, and then by its second
abbrev pub IsBefore : ℕ × ℕ → ℕ × ℕ → Type 0
IsBefore p q = (p.0 < q.0) ⊎ ((p.0 ≡ q.0) × (p.1 < q.1))

-- each of these pairs of places stands before all that follow it
abbrev pub AreRising : List (ℕ × ℕ) → Type 0
AreRising [] = Unit {0}
AreRising (p ∷ ps) = All (IsBefore p) ps × AreRising ps

-- ---- ranges

-- a flow has an IPv6 address of 128 bits and a UDP port from 1 to 65,535 that is not that of NTP (RFC 8200, RFC 768, RFC 5905)
pub record IsRightFlow (f : Flow) : Type 0 where
  pub address : f.address < 2 ^ 128
  pub port_some : 1 ≤ f.port
  pub port : f.port < 2 ^ 16
  pub no_ntp : f.port ≡ 123 → ⊥

-- the values of a buffer message have 32 bits each
pub record IsRightParams (p : Params) : Type 0 where
  pub bound : p.bound < 2 ^ 32
  pub window : p.window < 2 ^ 32
  pub delay : p.delay < 2 ^ 32

-- a tick is from the start on, and at most 2^47 ticks after it
abbrev pub IsFrom : ℕ → LongTick → Type 0
IsFrom start at = (start ≤ at.0) × (at.0 ≤ start + 2 ^ 47)

-- the offsets of an access unit have 16 bits each
pub record IsRightAu (a : Au) : Type 0 where
  pub dts_pts : a.dts_pts < 2 ^ 16
  pub pts : a.pts < 2 ^ 16

-- a unit of timed media has the key of one, with numbers of 32 bits; an item has that of an item, and neither priority nor dependency
abbrev pub HasKeyOf : Bool → ℕ → ℕ → UnitKey → Type 0
HasKeyOf true priority dependency (keys.Timed movie_fragment sample offset) = (movie_fragment < 2 ^ 32) × (sample < 2 ^ 32) × (offset < 2 ^ 32)
HasKeyOf true priority dependency (keys.Item item) = ⊥
HasKeyOf false priority dependency (keys.Timed movie_fragment sample offset) = ⊥
HasKeyOf false priority dependency (keys.Item item) = (item < 2 ^ 32) × (priority ≡ 0) × (dependency ≡ 0)

-- a unit has the ranges of a plan
pub record IsRightUnit (start : ℕ) (timed : Bool) (u : PlannedUnit) : Type 0 where
  pub at : IsFrom start u.at
  pub from : u.from ≤ 2 ^ 40
  pub some : 1 ≤ u.length
  pub length : u.length ≤ 16777216
  pub key : HasKeyOf timed u.priority u.dependency u.key
  pub priority : u.priority < 2 ^ 8
  pub dependency : u.dependency < 2 ^ 8

-- an MPU of timed media has at most 60 access units, and another one has none
abbrev pub FitsAus : Bool → ℕ → Type 0
FitsAus true n = n ≤ 60
FitsAus false n = n ≡ 0

-- an MPU has the ranges of a plan
pub record IsRightMpu (start : ℕ) (timed : Bool) (m : Mpu) : Type 0 where
  pub number : m.number < 2 ^ 32
  pub time : m.time.0 < 2 ^ 64
  pub decoding_offset : m.decoding_offset < 2 ^ 16
  pub few : FitsAus timed (length m.aus)
  pub aus : All IsRightAu m.aus
  pub some : 1 ≤ length m.units
  pub units : All (IsRightUnit start timed) m.units

-- a character is one that is printed
abbrev pub IsPrinted : ℕ → Type 0
IsPrinted c = (0x20 ≤ c) × (c ≤ 0x7E)

-- an asset's type is four such characters (ARIB STD-B60, the asset type)
abbrev pub IsKind : ℕ → Type 0
IsKind n = IsPrinted (n / 16777216) × IsPrinted (n / 65536 % 256) × IsPrinted (n / 256 % 256) × IsPrinted (n % 256)

-- an asset has the ranges of a plan, its file is one of so many, and no two of its MPUs have one number
pub record IsRightAsset (start : ℕ) (files : ℕ) (a : Asset) : Type 0 where
  pub id_some : 1 ≤ length a.id
  pub id : length a.id ≤ 255
  pub packet_id_some : 1 ≤ a.packet_id
  pub packet_id : a.packet_id < 2 ^ 16
  pub kind : IsKind a.kind
  pub timescale_some : 1 ≤ a.timescale
  pub timescale : a.timescale < 2 ^ 32
  pub file : a.file < files
  pub some : 1 ≤ length a.mpus
  pub mpus : All (IsRightMpu start a.timed) a.mpus
  pub numbers : AreDifferent (map (λ m. m.number) a.mpus)

-- an asset, for places outside a programme
abbrev pub no_asset : Asset
no_asset = record { packet_id = 0; id = []; kind = 0; timed = false; timescale = 0; file = 0; mpus = [] }

-- an MPU that a table may name, by the place of its asset and its place there
abbrev pub IsKnown : List Asset → ℕ × ℕ → Type 0
IsKnown assets name = (name.0 < length assets) × (name.1 < length (get_or assets name.0 no_asset).mpus)

-- a signalling message has the ranges of a plan, and the MPUs that a table names are there and rise
abbrev pub IsRightSignal : ℕ → List Asset → Signal → Type 0
IsRightSignal start assets (signals.Parameters at) = IsFrom start at
IsRightSignal start assets (signals.Table at names) = IsFrom start at × All (IsKnown assets) names × AreRising names

-- a file's name has 1 to 255 bytes
pub record IsFileName (name : List ℕ) : Type 0 where
  pub some : 1 ≤ length name
  pub short : length name ≤ 255

-- how many units an asset has
abbrev pub units_of_asset : Asset → ℕ
units_of_asset a = sum_by (λ m. length m.units) a.mpus

-- ---- programmes

-- a programme is one that a plan can give: each value has the range of a plan, no two assets have one packet id, and its signalling messages and units are counted in 32 bits
pub record IsRight (p : Programme) : Type 0 where
  pub flow : IsRightFlow p.flow
  pub source : IsRightFlow p.source
  pub context : p.context ≤ 4095
  pub full_every : p.full_every ≤ 65535
  pub limit_low : 64 ≤ p.limit
  pub limit : p.limit ≤ 60000
  pub spacing : p.spacing ≤ 65535
  pub package_some : 1 ≤ length p.«package»
  pub package_id : length p.«package» ≤ 255
  pub params : IsRightParams p.params
  -- the start of the plan, from which each tick is counted
  pub start : ℕ
  pub start_fits : start ≤ 2 ^ 47
  pub signals : All (IsRightSignal start p.assets) p.signals
  pub assets_some : 1 ≤ length p.assets
  pub assets_few : length p.assets ≤ 255
  pub assets : All (IsRightAsset start (length p.files)) p.assets
  pub ids : AreDifferent (map (λ a. a.packet_id) p.assets)
  pub files : All IsFileName p.files
  pub few_signals : length p.signals < 2 ^ 32
  pub few_units : sum_by units_of_asset p.assets < 2 ^ 32
