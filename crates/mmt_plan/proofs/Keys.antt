-- The names of members and the sizes of arrays: as a function has them, and as the definitions have them.
use Rattle.std.proofs.Common.{◌≡◌, ◌≢◌, ℕ, None, length, List, [], ◌∷◌, map, Bool, ◌&&◌, ◌||◌, String, Global, string_bytes, Bor, refl, ap}
use Rattle.std.specs.List.{list_any, list_all}
use Rattle.std.specs.Map.{keys_of as keys_of_entries}
use Rattle.std.specs.Str.{bytes_eq}
use Rattle.serde_json.proofs.Views.{items_len-items_view}
use Rattle.serde_json.specs.View.{items_view, members_view}
use Rattle.serde_json.specs.declared.value.Value.{Value}
use Rattle.mmt_plan.specs.Aus.{two_numbers}
use Rattle.mmt_plan.specs.Members.{keys_of, is_name_of}

pub any_name : (key : List ℕ) (names : List (Bor (List ℕ))) → list_any (λ n. bytes_eq n.now key) names ≡ is_name_of (map (λ n. n.now) names) key
any_name key [] = refl
any_name key (n ∷ ns) = ap (λ b. bytes_eq n.now key || b) (any_name key ns)

pub all_keys : (test : List ℕ → Bool) (es : List (String Global × Value)) → list_all (λ k. test (string_bytes k)) (keys_of_entries es) ≡ list_all test (keys_of (members_view es))
all_keys test [] = refl
all_keys test (e ∷ es) = ap (λ b. test (string_bytes e.0) && b) (all_keys test es)

pub ruleset sizes = items_len-items_view

pub not_two : (most : ℕ) (vs : List Value) → length vs ≢ 2 → two_numbers most (items_view vs) ≡ None
not_two most [] h = refl
not_two most (v ∷ []) h = refl
not_two most (v ∷ w ∷ []) h = absurd (h refl)
not_two most (v ∷ w ∷ x ∷ vs) h = refl
