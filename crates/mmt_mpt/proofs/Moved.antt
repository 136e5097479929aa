-- Moving items one by one from an iterator into a list.
use Rattle.std.proofs.Common.{◌≡◌, ℕ, ◌+◌, List, [], ◌∷◌, ◌++◌, length, map, refl, sym, ap, ◌∙◌, append_assoc}
use Rattle.std.proofs.lemmas.List.{append-nil}
use Rattle.mmt_mpt.specs.Descriptor.{DescriptorValue, with_places, descriptor_bytes}
use Rattle.mmt_mpt.specs.Asset.{AssetValue, placed_assets, asset_bytes}
use Rattle.mmt_mpt.specs.Owned.{unplaced, placeless}

map-more : {A C : Type 0} (f : A → C) (xs : List A) (x : A) → map f (xs ++ x ∷ []) ≡ map f xs ++ (f x ∷ [])
map-more f [] x = refl
map-more {A} {C} f (y ∷ ys) x = ap (λ (zs : List C). f y ∷ zs) (map-more f ys x)

pub moved : {A C : Type 0} (f : A → C) (xs : List A) (x : A) (c : C) (rest all : List C) → map f xs ++ (c ∷ rest) ≡ all → f x ≡ c → map f (xs ++ x ∷ []) ++ rest ≡ all
moved {A} {C} f xs x c rest all e same =
    ap (λ (ys : List C). ys ++ rest) (map-more f xs x) ∙ append_assoc (map f xs) (f x ∷ []) rest ∙ ap (λ (d : C). map f xs ++ (d ∷ rest)) same ∙ e

pub finished : {A C : Type 0} (f : A → C) (xs : List A) (rest all : List C) → map f xs ++ rest ≡ all → rest ≡ [] → map f xs ≡ all
finished {A} {C} f xs rest all e none = sym (append-nil (map f xs)) ∙ ap (λ (ys : List C). map f xs ++ ys) (sym none) ∙ e

pub descriptors_again : (at : ℕ) (ds : List DescriptorValue) → map unplaced (with_places at ds) ≡ ds
descriptors_again at [] = refl
descriptors_again at (d ∷ ds) = ap (λ (xs : List DescriptorValue). d ∷ xs) (descriptors_again (at + length (descriptor_bytes d)) ds)

pub assets_again : (at : ℕ) (xs : List AssetValue) → map placeless (placed_assets at xs) ≡ xs
assets_again at [] = refl
assets_again at (a ∷ xs) = ap (λ (ys : List AssetValue). a ∷ ys) (assets_again (at + length (asset_bytes a)) xs)
