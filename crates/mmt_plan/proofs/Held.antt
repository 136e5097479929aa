-- A file that has the byte where all units have ended has the bytes of each.
use Rattle.std.proofs.Common.{◌≡◌, ℕ, suc, ◌+◌, ◌<◌, ◌≤◌, true, List, [], ◌∷◌, ◌++◌, length, take, get_or, sym, subst, Option, Some, None, Result, Ok, refl, ap, ◌∙◌, arith}
use Rattle.std.proofs.lemmas.Bool.Decides.{nat_tests}
use Rattle.std.proofs.lemmas.List.{take_more}
use Rattle.std.proofs.lemmas.List.Elements.{All-push, All-weaker}
use Rattle.std.specs.List.{All}
use Rattle.mmt_model.specs.declared.programmes.Asset.{Asset}
use Rattle.mmt_model.specs.declared.programmes.Mpu.{Mpu}
use Rattle.mmt_model.specs.declared.programmes.Unit as model
use Rattle.mmt_plan.specs.Files.{EndsBy, MpuEndsBy, has_bytes, check_unit, check_mpu, is_there, check_asset_at}
use Rattle.mmt_plan.specs.Reading.{◌>>=◌}
use Rattle.mmt_plan.specs.Wholes.{each_checked}
use Rattle.mmt_plan.specs.declared.ends.Refusal.{Refusal}
use Rattle.mmt_plan.specs.declared.spots.Spot.{Spot}

tail : {A : Type 0} (P : A → Type 0) (x : A) (xs : List A) → All P (x ∷ xs) → All P xs
tail P x xs h = λ k d lt. h (suc k) d (omega arith)

head : {A : Type 0} (P : A → Type 0) (x : A) (xs : List A) → All P (x ∷ xs) → P x
head P x xs h = h 0 x (omega arith)

all_pass : {A : Type 0} (check : ℕ → A → Result (Unit {0}) Refusal) (P : A → Type 0) → ((n : ℕ) (x : A) → P x → check n x ≡ Ok tt) → (n : ℕ) (xs : List A) → All P xs → each_checked check n xs ≡ Ok tt
unfolding each_checked
all_pass check P h n [] all = refl
all_pass check P h n (x ∷ xs) all = ap (λ r. r >>= λ _. each_checked check (n + 1) xs) (h n x (head P x xs all)) ∙ all_pass check P h (n + 1) xs (tail P x xs all)

module _ (bytes : List ℕ) (end : ℕ) (has : end ≤ length bytes) where
  unit : (s : Spot) (n : ℕ) (u : model.Unit) → EndsBy end u → check_unit (Some bytes) s n u ≡ Ok tt
  unfolding check_unit
  unit s n u le = grind (arith, nat_tests)

  mpu : (s : Spot) (n : ℕ) (m : Mpu) → MpuEndsBy end m → check_mpu (Some bytes) s n m ≡ Ok tt
  unfolding check_mpu
  mpu s n m le = all_pass (check_unit (Some bytes) _) (EndsBy end) (λ k u h. unit _ k u h) 0 m.units le

  of_bytes : (s : Spot) (a : Asset) → All (MpuEndsBy end) a.mpus → check_asset_at (Some bytes) s a ≡ Ok tt
  unfolding check_asset_at is_there
  of_bytes s a le = all_pass (check_mpu (Some bytes) s) (MpuEndsBy end) (λ k m h. mpu s k m h) 0 a.mpus le

pub asset : (file : Option (List ℕ)) (s : Spot) (a : Asset) (end : ℕ) → All (MpuEndsBy end) a.mpus → true ≡ has_bytes file end → check_asset_at file s a ≡ Ok tt
asset None s a end le e = absurd (cc)
asset (Some bytes) s a end le e = of_bytes bytes end (grind (arith, nat_tests)) s a le

-- where N items end by a place, and the next one by one that isn't before it
pub next : {A : Type 0} (P : ℕ → A → Type 0) → ((m n : ℕ) (x : A) → m ≤ n → P m x → P n x) → (xs : List A) (i : ℕ) (x : A) (m n : ℕ) → i < length xs → x ≡ get_or xs i x → m ≤ n → All (P m) (take i xs) → P n x → All (P n) (take (i + 1) xs)
next P weaker xs i x m n lt is le all one =
    subst (All (P n)) (sym (take_more xs i x lt ∙ ap (λ y. take i xs ++ y ∷ []) (sym is)))
    (All-push (P n) (take i xs) x (All-weaker (P m) (P n) (λ y h. weaker m n y le h) (take i xs) all) one)

pub unit_later : (m n : ℕ) (u : model.Unit) → m ≤ n → EndsBy m u → EndsBy n u
unit_later m n u le h = omega arith

pub mpu_later : (m n : ℕ) (x : Mpu) → m ≤ n → MpuEndsBy m x → MpuEndsBy n x
mpu_later m n x le h = All-weaker (EndsBy m) (EndsBy n) (λ u e. unit_later m n u le e) x.units h
