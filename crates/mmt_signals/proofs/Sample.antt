-- The programme of the tests may have a table of all its MPUs.
use Rattle.std.proofs.Common.{◌≡◌, ℕ, ◌+◌, ◌≤◌, zero, suc, List, [], ◌∷◌, ◌++◌, map, length, arith, refl, ap, sym, ◌∙◌, inl, inr, subst}
use Rattle.std.specs.List.{AllByRecursion}
use Rattle.std.proofs.lemmas.List.Elements.{All-from_recursion}
use Rattle.mmt_cast.proofs.Listing.{each-map_numbers}
use Rattle.mmt_cast.specs.PlanOne.{plan_one}
use Rattle.mmt_cast.specs.Placing.{map_from, mpus_of}
use Rattle.mmt_cast.specs.Tables.{asset_length, descriptors_length, extended_length, is_named_by, named_of_asset, table_length}
use Rattle.mmt_model.specs.Carrying.{numbers}
use Rattle.mmt_model.specs.Right.{AreRising, IsBefore, IsKnown}
use Rattle.mmt_model.specs.declared.programmes.Asset.{Asset}
use Rattle.mmt_model.specs.declared.programmes.Mpu.{Mpu}
use Rattle.mmt_model.specs.declared.programmes.Programme.{Programme}
use Rattle.mmt_signals.specs.Named.{FitsIn, FitsTables, MayBeNamed}
use Rattle.mmt_signals.specs.Sample.{item_name, plain_mpu, sample, sample_assets, sample_names, short_mpu}

more-numbers : {X : Type 0} (f : ℕ → X) (j n : ℕ) → map f (numbers j (suc n)) ≡ map f (numbers j n) ++ f (j + n) ∷ []
unfolding numbers
more-numbers f j zero = let z : j ≡ j + 0 = omega arith in ap (λ k. f k ∷ []) z
more-numbers f j (suc n) = let s : j + 1 + n ≡ j + suc n = omega arith in ap (λ l. f j ∷ l) (more-numbers f (j + 1) n ∙ ap (λ k. map f (numbers (j + 1) n) ++ f k ∷ []) s)

pub more_items : (n : ℕ) → map plain_mpu (numbers 0 (n + 1)) ≡ map plain_mpu (numbers 0 n) ++ plain_mpu n ∷ []
more_items n = let s : n + 1 ≡ suc n = omega arith in let z : 0 + n ≡ n = omega arith in ap (λ k. map plain_mpu (numbers 0 k)) s ∙ (more-numbers plain_mpu 0 n ∙ ap (λ k. map plain_mpu (numbers 0 n) ++ plain_mpu k ∷ []) z)

pub more_names : (n : ℕ) → map item_name (numbers 0 (n + 1)) ≡ map item_name (numbers 0 n) ++ item_name n ∷ []
more_names n = let s : n + 1 ≡ suc n = omega arith in let z : 0 + n ≡ n = omega arith in ap (λ k. map item_name (numbers 0 k)) s ∙ (more-numbers item_name 0 n ∙ ap (λ k. map item_name (numbers 0 n) ++ item_name k ∷ []) z)

pub sample_fits : FitsTables sample
sample_fits =
    record {
      package_id = omega arith;
      assets = omega arith;
      each = All-from_recursion FitsIn sample_assets (
        record { id = omega arith; aus = All-from_recursion (λ (m : Mpu). length m.aus ≤ 60) (short_mpu 7 ∷ short_mpu 8 ∷ []) (omega arith, (omega arith, tt)) },
        (record { id = omega arith; aus = All-from_recursion (λ (m : Mpu). length m.aus ≤ 60) (map plain_mpu (numbers 0 22)) (each-map_numbers (λ (m : Mpu). length m.aus ≤ 60) plain_mpu 0 22 (λ k a b. omega arith)) }, tt),
      );
    }

rise : (j n : ℕ) → AreRising (map item_name (numbers j n))
unfolding numbers
rise j zero = tt
rise j (suc n) = (All-from_recursion (IsBefore (1, j)) (map item_name (numbers (j + 1) n)) (each-map_numbers (IsBefore (1, j)) item_name (j + 1) n (λ k a b. inr (refl, omega (arith, a)))), rise (j + 1) n)

items-long : length (map plain_mpu (numbers 0 22)) ≡ 22
unfolding numbers
items-long = refl

items-known : AllByRecursion (IsKnown sample_assets) (map item_name (numbers 0 22))
items-known = each-map_numbers (IsKnown sample_assets) item_name 0 22 (λ k a b. (omega arith, omega (arith, b, items-long)))

long : table_length sample sample_names ≡ 384
unfolding table_length map_from asset_length named_of_asset is_named_by mpus_of descriptors_length extended_length numbers
long = refl

pub sample_named : MayBeNamed sample sample_names
sample_named =
    record {
      known = ((omega arith, omega arith), ((omega arith, omega arith), items-known));
      rising = (
        All-from_recursion (IsBefore (0, 0)) ((0, 1) ∷ map item_name (numbers 0 22)) (inr (refl, omega arith), each-map_numbers (IsBefore (0, 0)) item_name 0 22 (λ k a b. inl (omega arith))),
        (All-from_recursion (IsBefore (0, 1)) (map item_name (numbers 0 22)) (each-map_numbers (IsBefore (0, 1)) item_name 0 22 (λ k a b. inl (omega arith))), rise 0 22),
      );
      short = omega (arith, long);
    }

-- the worked plan with these assets
pub fits_with : (programme : Programme) (assets : List Asset) → programme ≡ plan_one → assets ≡ sample_assets → FitsTables (record programme { assets = assets })
fits_with programme assets is these = subst (λ p. FitsTables (record p { assets = assets })) (sym is) (subst (λ a. FitsTables (record plan_one { assets = a })) (sym these) sample_fits)

pub names_with : (programme : Programme) (assets : List Asset) (names : List (ℕ × ℕ)) → programme ≡ plan_one → assets ≡ sample_assets → names ≡ sample_names → MayBeNamed (record programme { assets = assets }) names
names_with programme assets names is these named =
    subst (λ p. MayBeNamed (record p { assets = assets }) names) (sym is)
    (subst (λ a. MayBeNamed (record plan_one { assets = a }) names) (sym these) (subst (λ n. MayBeNamed (record plan_one { assets = sample_assets }) n) (sym named) sample_named))
