-- The names of files: as a set has them, and as the definitions have them.
use Rattle.std.proofs.Common.{◌≡◌, ℕ, suc, ◌+◌, ◌<◌, ◌≤◌, get_or, take, List, [], ◌∷◌, ◌++◌, length, length-append, map, Bool, true, false, ◌||◌, not, cond, if◌then◌else◌, String, Global, string_bytes, refl, sym, ap, ◌∙◌, arith}
use Rattle.std.proofs.lemmas.List.{take_more}
use Rattle.std.proofs.lemmas.List.Elements.{All-push}
use Rattle.mmt_model.specs.Right.{IsFileName}
use Rattle.std.specs.List.{All, list_any, position_or_len}
use Rattle.std.specs.Str.{bytes_eq}
use Rattle.std.specs.String.{string_eq}
use Rattle.indexmap.specs.IndexSet.{insert_key}
use Rattle.mmt_plan.specs.Names.{place_of, with_name}

abbrev pub texts : List (String Global) → List (List ℕ)
texts keys = map string_bytes keys

any_text : (name : String Global) (keys : List (String Global)) → list_any (string_eq name) keys ≡ list_any (bytes_eq (string_bytes name)) (texts keys)
any_text name [] = refl
any_text name (k ∷ ks) = ap (λ b. string_eq name k || b) (any_text name ks)

pub joined : (ks : List (String Global)) (name : String Global) → texts (ks ++ name ∷ []) ≡ texts ks ++ string_bytes name ∷ []
joined [] name = refl
joined (k ∷ ks) name = ap (λ xs. string_bytes k ∷ xs) (joined ks name)

by_test : (b : Bool) (name : String Global) (keys : List (String Global)) → texts (if b then keys else keys ++ name ∷ []) ≡ (if b then texts keys else texts keys ++ string_bytes name ∷ [])
by_test true name keys = refl
by_test false name keys = joined keys name

pub same_names : (name : String Global) (keys : List (String Global)) → texts (insert_key string_eq keys name) ≡ with_name (string_bytes name) (texts keys)
same_names name keys = by_test (list_any (string_eq name) keys) name keys ∙ ap (λ b. if b then texts keys else texts keys ++ string_bytes name ∷ []) (any_text name keys)

pub same_place : (name : String Global) (keys : List (String Global)) → position_or_len (string_eq name) keys ≡ place_of (string_bytes name) (texts keys)
same_place name [] = refl
same_place name (k ∷ ks) = ap (λ n. cond (not (string_eq name k)) (1 + n) 0) (same_place name ks)

at_most : (b : Bool) (n m : ℕ) → n ≤ m → cond (not b) (1 + n) 0 ≤ suc m
at_most true n m h = omega arith
at_most false n m h = omega arith

pub place_within : (name : List ℕ) (names : List (List ℕ)) → place_of name names ≤ length names
place_within name [] = omega arith
place_within name (n ∷ ns) = at_most (bytes_eq name n) (place_of name ns) (length ns) (place_within name ns)

pub one_more : (keys : List (String Global)) (i : ℕ) (name : String Global) (text : List ℕ) → i < length keys → name ≡ get_or keys i name → text ≡ string_bytes name → texts (take i keys) ++ text ∷ [] ≡ texts (take (i + 1) keys)
one_more keys i name text lt is e =
    ap (λ t. texts (take i keys) ++ t ∷ []) (e ∙ ap (λ k. string_bytes k) is) ∙ sym (ap (λ ks. texts ks) (take_more keys i name lt) ∙ joined (take i keys) (get_or keys i name))

grown_by : (b : Bool) (names : List (List ℕ)) (name : List ℕ) → length (if b then names else names ++ name ∷ []) ≤ length names + 1
grown_by true names name = omega arith
grown_by false names name = omega (arith, length-append names (name ∷ []))

pub grown : (name : List ℕ) (names : List (List ℕ)) → length (with_name name names) ≤ length names + 1
grown name names = grown_by (list_any (bytes_eq name) names) names name

found_at : (b : Bool) (n m : ℕ) (c : Bool) → (b || c) ≡ true → (c ≡ true → n < m) → cond (not b) (1 + n) 0 < suc m
found_at true n m c h rest = omega arith
found_at false n m c h rest = let lt = rest h in omega arith

found : (name : List ℕ) (names : List (List ℕ)) → list_any (bytes_eq name) names ≡ true → place_of name names < length names
found name [] h = cc
found name (n ∷ ns) h = found_at (bytes_eq name n) (place_of name ns) (length ns) (list_any (bytes_eq name) ns) h (found name ns)

placed_by : (b : Bool) (name : List ℕ) (names : List (List ℕ)) → list_any (bytes_eq name) names ≡ b → place_of name names < length (if b then names else names ++ name ∷ [])
placed_by true name names e = found name names e
placed_by false name names e = let le = place_within name names in omega (arith, length-append names (name ∷ []))

-- the number of a file is below the count of the names with its own
pub placed : (name : List ℕ) (names : List (List ℕ)) → place_of name names < length (with_name name names)
placed name names = placed_by (list_any (bytes_eq name) names) name names refl

kept_by : (b : Bool) (names : List (List ℕ)) (name : List ℕ) → length names ≤ length (if b then names else names ++ name ∷ [])
kept_by true names name = omega arith
kept_by false names name = omega (arith, length-append names (name ∷ []))

pub kept : (name : List ℕ) (names : List (List ℕ)) → length names ≤ length (with_name name names)
kept name names = kept_by (list_any (bytes_eq name) names) names name

named_by : (b : Bool) (name : List ℕ) (names : List (List ℕ)) → IsFileName name → All IsFileName names → All IsFileName (if b then names else names ++ name ∷ [])
named_by true name names one all = all
named_by false name names one all = All-push IsFileName names name all one

pub named : (name : List ℕ) (names : List (List ℕ)) → IsFileName name → All IsFileName names → All IsFileName (with_name name names)
named name names one all = named_by (list_any (bytes_eq name) names) name names one all
