-- What a right programme says of its files.
use Rattle.std.proofs.Common.{◌≡◌, ℕ, suc, ◌+◌, ◌<◌, ◌≤◌, ◌^◌, Bool, List, [], ◌∷◌, ◌++◌, length, get_or, subst, sym, arith}
use Rattle.std.proofs.lemmas.List.Sums.{get_or-le-sum_by, sum_by-cons}
use Rattle.std.proofs.lemmas.List.Elements.{All-push, All-weaker}
use Rattle.std.specs.List.{All, sum_by}
use Rattle.mmt_model.specs.Right.{IsRight, IsRightAsset, IsRightMpu, units_of_asset}
use Rattle.mmt_model.specs.declared.programmes.Asset.{Asset}
use Rattle.mmt_model.specs.declared.programmes.Mpu.{Mpu}
use Rattle.mmt_model.specs.declared.programmes.Programme.{Programme}
use Rattle.mmt_plan.specs.Alone.{IsAlone, IsAssetAlone, IsFew}
use Rattle.mmt_plan.specs.Files.{IsUnitOfFile, IsMpuOfFile}

unit_of_file : (start : ℕ) (timed : Bool) (m : Mpu) → IsRightMpu start timed m → All IsUnitOfFile m.units
unit_of_file start timed m right = λ k d lt. let u = right.units k d lt in record { from = u.from; some = u.some }

-- the MPUs of an asset have their places in its file
mpus_of_file : (start : ℕ) (a : Asset) → All (IsRightMpu start a.timed) a.mpus → units_of_asset a < 2 ^ 32 → All IsMpuOfFile a.mpus
mpus_of_file start a right few = λ k d lt. record {
  few = let le = get_or-le-sum_by (λ (m : Mpu). length m.units) a.mpus k d lt in omega arith;
  units = unit_of_file start a.timed (get_or a.mpus k d) (right k d lt);
}

count : (ms : List Mpu) → All (λ m. 1 ≤ length m.units) ms → length ms ≤ sum_by (λ m. length m.units) ms
count [] some = omega arith
count (m ∷ ms) some =
    let one : 1 ≤ length m.units = some 0 m (omega arith) in
    let rest : length ms ≤ sum_by (λ m. length m.units) ms = count ms (λ k d lt. some (suc k) d (omega arith)) in
    let sum : sum_by (λ (x : Mpu). length x.units) (m ∷ ms) ≡ length m.units + sum_by (λ (x : Mpu). length x.units) ms = sum_by-cons (λ (x : Mpu). length x.units) m ms in
    omega arith

-- an asset has no more MPUs than units
few_mpus : (start : ℕ) (a : Asset) → All (IsRightMpu start a.timed) a.mpus → units_of_asset a < 2 ^ 32 → length a.mpus < 2 ^ 32
few_mpus start a right few = let le = count a.mpus (λ k d lt. (right k d lt).some) in omega arith

-- an asset of a right programme: its file is one of the programme, and it has few MPUs with their places in the file
pub record IsAssetOfFile (files : ℕ) (a : Asset) : Type 0 where
  pub file : a.file < files
  pub few : length a.mpus < 2 ^ 32
  pub mpus : All IsMpuOfFile a.mpus

few_units : (assets : List Asset) → sum_by units_of_asset assets < 2 ^ 32 → (k : ℕ) (d : Asset) → k < length assets → units_of_asset (get_or assets k d) < 2 ^ 32
few_units assets few k d lt = let le = get_or-le-sum_by units_of_asset assets k d lt in omega arith

-- each asset of a programme has few MPUs
pub all_few : (p : Programme) → IsAlone p → IsFew p → All (λ (a : Asset). length a.mpus < 2 ^ 32) p.assets
all_few p alone few = λ k d lt. few_mpus alone.start (get_or p.assets k d) (alone.assets k d lt).mpus (few_units p.assets few.units k d lt)

at_place : (p : Programme) → IsRight p → (k : ℕ) (d : Asset) → k < length p.assets → IsAssetOfFile (length p.files) (get_or p.assets k d)
at_place p right k d lt =
    let a = right.assets k d lt in
    let few : units_of_asset (get_or p.assets k d) < 2 ^ 32 = few_units p.assets right.few_units k d lt in
    record { file = a.file; few = few_mpus right.start (get_or p.assets k d) a.mpus few; mpus = mpus_of_file right.start (get_or p.assets k d) a.mpus few }

pub asset_of_file : (p : Programme) (k : ℕ) (a : Asset) → IsRight p → k < length p.assets → a ≡ get_or p.assets k a → IsAssetOfFile (length p.files) a
asset_of_file p k a right lt is = subst (λ x. IsAssetOfFile (length p.files) x) (sym is) (at_place p right k a lt)

within : (start n m : ℕ) (a : Asset) → n ≤ m → IsRightAsset start n a → IsRightAsset start m a
within start n m a le right = record {
  id_some = right.id_some;
  id = right.id;
  packet_id_some = right.packet_id_some;
  packet_id = right.packet_id;
  kind = right.kind;
  timescale_some = right.timescale_some;
  timescale = right.timescale;
  file = let f = right.file in omega arith;
  some = right.some;
  mpus = right.mpus;
  numbers = right.numbers;
}

more_files : (start n m : ℕ) (a : Asset) → n ≤ m → IsAssetAlone start n a → IsAssetAlone start m a
more_files start n m a le alone = record { mpus = alone.mpus; right = λ numbers. within start n m a le (alone.right numbers) }

-- with one more asset, and as many files or more
pub more_right : (start n m : ℕ) (assets : List Asset) (a : Asset) → n ≤ m → All (IsAssetAlone start n) assets → IsAssetAlone start m a → All (IsAssetAlone start m) (assets ++ a ∷ [])
more_right start n m assets a le all right = All-push (IsAssetAlone start m) assets a (All-weaker (IsAssetAlone start n) (IsAssetAlone start m) (λ x h. more_files start n m x le h) assets all) right
