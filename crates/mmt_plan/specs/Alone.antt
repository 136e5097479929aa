-- What the objects of a plan have by themselves, before they are checked against each other (this project's rules).
use Rattle.std.specs.Prelude.{ℕ, ◌<◌, ◌≤◌, ◌^◌, length, map}
use Rattle.std.specs.List.{All, sum_by}
use Rattle.mmt_model.specs.Right.{AreDifferent, AreRising, IsFrom, IsRight, IsRightAsset, IsRightFlow, IsRightMpu, IsRightSignal, units_of_asset}
use Rattle.mmt_model.specs.declared.programmes.Asset.{Asset}
use Rattle.mmt_model.specs.declared.programmes.Programme.{Programme}
use Rattle.mmt_model.specs.declared.programmes.Signal.{Signal}
use Rattle.mmt_model.specs.declared.programmes.Signal.TheVariants as signals
use Rattle.mmt_plan.specs.declared.tops.SendingValues.{SendingValues}

-- how packets are sent has the ranges of a plan
pub record IsRightSending (s : SendingValues) : Type 0 where
  pub flow : IsRightFlow s.flow
  pub source : IsRightFlow s.source
  pub context : s.context ≤ 4095
  pub full_every : s.full_every ≤ 65535
  pub limit_low : 64 ≤ s.limit
  pub limit : s.limit ≤ 60000
  pub spacing : s.spacing ≤ 65535

-- a signalling message has the ranges of a plan, and its names rise
abbrev pub IsSignalAlone : ℕ → Signal → Type 0
IsSignalAlone start (signals.Parameters at) = IsFrom start at
IsSignalAlone start (signals.Table at names) = IsFrom start at × AreRising names

-- an asset is right if the numbers of its MPUs differ
pub record IsAssetAlone (start : ℕ) (files : ℕ) (a : Asset) : Type 0 where
  pub mpus : All (IsRightMpu start a.timed) a.mpus
  pub right : AreDifferent (map (λ m. m.number) a.mpus) → IsRightAsset start files a

-- a programme's signalling messages and units are few enough to be counted in 32 bits
pub record IsFew (p : Programme) : Type 0 where
  pub signals : length p.signals < 2 ^ 32
  pub units : sum_by units_of_asset p.assets < 2 ^ 32

-- a programme is right if its signalling messages and assets are, its packet ids differ and it is few
pub record IsAlone (p : Programme) : Type 0 where
  pub few : length p.assets ≤ 255
  pub start : ℕ
  pub signals : All (IsSignalAlone start) p.signals
  pub assets : All (IsAssetAlone start (length p.files)) p.assets
  pub right : All (IsRightSignal start p.assets) p.signals → All (IsRightAsset start (length p.files)) p.assets → AreDifferent (map (λ a. a.packet_id) p.assets) → IsFew p → IsRight p
