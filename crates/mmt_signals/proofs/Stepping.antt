-- One asset of a table after the other.
use Rattle.std.proofs.Common.{◌≡◌, ℕ, ◌+◌, ◌<◌, ◌≤◌, zero, suc, List, [], ◌∷◌, ◌++◌, length, get_or, take, drop, arith, refl, ap, sym, ◌∙◌, subst, drop-cons}
use Rattle.std.specs.List.{AllByRecursion, flat_map, prefix_len, sum_by}
use Rattle.std.proofs.lemmas.List.Sums.{sum_by-cons}
use Rattle.std.proofs.lemmas.List.{drop_all}
use Rattle.mmt_cast.specs.Placing.{map_from}
use Rattle.mmt_cast.specs.SentTables.{sent_asset}
use Rattle.mmt_cast.specs.Tables.{asset_length, descriptors_length}
use Rattle.mmt_model.specs.Right.{AreRising, IsKnown, no_asset}
use Rattle.mmt_model.specs.declared.programmes.Asset.{Asset}
use Rattle.mmt_mpt.specs.Asset.{asset_bytes}
use Rattle.mmt_signals.proofs.Mpus.{asset_is, has_all, size_is}
use Rattle.mmt_signals.proofs.Runs.{IsRest, rest_after, run_of}
use Rattle.mmt_signals.specs.Named.{HasAll, is_of, listed_asset, named, names_of}

-- what the asset at a place takes of the names that are left, and what it adds
pub record IsStep (assets : List Asset) (names : List (ℕ × ℕ)) (a : ℕ) (asset : Asset) (run later : List (ℕ × ℕ)) : Type 0 where
  pub known : HasAll asset run
  pub size : sum_by (λ n. n) (map_from (asset_length names) a (drop a assets)) ≡ 17 + length asset.id + descriptors_length (named asset run) + sum_by (λ n. n) (map_from (asset_length names) (a + 1) (drop (a + 1) assets))
  pub bytes : flat_map asset_bytes (map_from (sent_asset names) a (drop a assets)) ≡ asset_bytes (listed_asset asset (named asset run)) ++ flat_map asset_bytes (map_from (sent_asset names) (a + 1) (drop (a + 1) assets))
  pub rest : IsRest names (a + 1) later

same-default : {X : Type 0} (xs : List X) (i : ℕ) (d e : X) → i < length xs → get_or xs i d ≡ get_or xs i e
same-default [] i d e l = absurd (omega arith)
same-default (x ∷ xs) zero d e l = refl
same-default (x ∷ xs) (suc i) d e l = same-default xs i d e (omega arith)

own-step : (assets : List Asset) (names : List (ℕ × ℕ)) (a : ℕ) (later : List (ℕ × ℕ)) → AreRising names → AllByRecursion (IsKnown assets) names → IsRest names (a + 1) later → a < length assets
    → IsStep assets names a (get_or assets a no_asset) (names_of a names) later
unfolding map_from
own-step assets names a later r k is l =
    let s : suc a ≡ a + 1 = omega arith in
    record {
      known = has_all assets a names k;
      size =
          ap (λ (xs : List Asset). sum_by (λ n. n) (map_from (asset_length names) a xs)) (drop-cons assets a no_asset l)
          ∙ (sum_by-cons (λ n. n) (asset_length names a (get_or assets a no_asset)) (map_from (asset_length names) (a + 1) (drop (suc a) assets))
          ∙ (ap (λ n. n + sum_by (λ m. m) (map_from (asset_length names) (a + 1) (drop (suc a) assets))) (size_is assets a names r k)
          ∙ ap (λ n. 17 + length (get_or assets a no_asset).id + descriptors_length (named (get_or assets a no_asset) (names_of a names)) + sum_by (λ m. m) (map_from (asset_length names) (a + 1) (drop n assets))) s));
      bytes =
          ap (λ (xs : List Asset). flat_map asset_bytes (map_from (sent_asset names) a xs)) (drop-cons assets a no_asset l)
          ∙ (ap (λ v. asset_bytes v ++ flat_map asset_bytes (map_from (sent_asset names) (a + 1) (drop (suc a) assets))) (asset_is assets a names r k)
          ∙ ap (λ n. asset_bytes (listed_asset (get_or assets a no_asset) (named (get_or assets a no_asset) (names_of a names))) ++ flat_map asset_bytes (map_from (sent_asset names) (a + 1) (drop n assets))) s);
      rest = is;
    }

pub step : (assets : List Asset) (names : List (ℕ × ℕ)) (a : ℕ) (rest : List (ℕ × ℕ)) (asset : Asset) (run later : List (ℕ × ℕ)) (count : ℕ)
    → AreRising names → AllByRecursion (IsKnown assets) names → IsRest names a rest → a < length assets → asset ≡ get_or assets a asset
    → count ≡ prefix_len (is_of a) rest → run ≡ take count rest → later ≡ drop count rest → IsStep assets names a asset run later
step assets names a rest asset run later count r k is l own counted front back =
    let here : get_or assets a no_asset ≡ asset = same-default assets a no_asset asset l ∙ sym own in
    let these : names_of a names ≡ run = sym (front ∙ (ap (λ n. take n rest) counted ∙ run_of names a rest is)) in
    let after : IsRest names (a + 1) later = subst (IsRest names (a + 1)) (sym (back ∙ ap (λ n. drop n rest) counted)) (rest_after names a rest is) in
    subst (λ x. IsStep assets names a x run later) here (subst (λ ns. IsStep assets names a (get_or assets a no_asset) ns later) these (own-step assets names a later r k after l))

-- after the last asset nothing is left
pub none_left : (assets : List Asset) (names : List (ℕ × ℕ)) (a : ℕ) → length assets ≤ a → map_from (sent_asset names) a (drop a assets) ≡ []
unfolding map_from
none_left assets names a l = ap (λ (xs : List Asset). map_from (sent_asset names) a xs) (drop_all a assets l)

pub no_size_left : (assets : List Asset) (names : List (ℕ × ℕ)) (a : ℕ) → length assets ≤ a → sum_by (λ n. n) (map_from (asset_length names) a (drop a assets)) ≡ 0
unfolding map_from
no_size_left assets names a l = ap (λ (xs : List Asset). sum_by (λ n. n) (map_from (asset_length names) a xs)) (drop_all a assets l)
