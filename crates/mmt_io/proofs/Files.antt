-- The files of a shelf in memory: as a map has them, and as the definition has them.
use Rattle.std.proofs.Common.{◌≡◌, ℕ, Bool, true, false, cond, if◌then◌else◌, List, [], ◌∷◌, map, Option, Some, option_map, Ordering, Less, Equal, Greater, refl, sym, ap, ◌∙◌}
use Rattle.std.specs.Ordering.{nat_cmp, is_eq, match_ordering}
use Rattle.std.specs.Cmp.Lexicographic.{slice_cmp}
use Rattle.std.specs.Str.{bytes_eq}
use Rattle.std.specs.BTreeMap.{insert_entry}
use Rattle.std.specs.Map.{lookup}
use Rattle.std.proofs.lemmas.Map.Text.{is_eq-slice_cmp}
use Rattle.std.proofs.lemmas.Map.Lookups.{exact_bytes}
use Rattle.std.proofs.lemmas.Slice.Eq.{bytes_eq-Decides}
use Rattle.std.proofs.lemmas.Bool.{false≢true}
use Rattle.mmt_io.specs.Shelf.{file_in}

module _ {K X : Type 0} (name_of : K → List ℕ) (bytes_of : X → List ℕ) where
  abbrev pub shown : List (K × X) → List (List ℕ × List ℕ)
  shown es = map (λ e. (name_of e.0, bytes_of e.1)) es

  abbrev is_of : List ℕ → K → Bool
  is_of name k = is_eq (slice_cmp nat_cmp name (name_of k))

  by_test : (b c : Bool) → b ≡ c → (x : X) (r : Option X) (s : Option (List ℕ)) → option_map bytes_of r ≡ s → option_map bytes_of (cond b (Some x) r) ≡ (if c then Some (bytes_of x) else s)
  by_test true true e x r s h = refl
  by_test false false e x r s h = h
  by_test true false e x r s h = absurd (false≢true (sym e))
  by_test false true e x r s h = absurd (false≢true e)

  -- the file that a map has of a name
  pub looked_up : (name : List ℕ) (es : List (K × X)) → option_map bytes_of (lookup (is_of name) es) ≡ file_in (shown es) name
  looked_up name [] = refl
  looked_up name (e ∷ es) = by_test (is_of name e.0) (bytes_eq name (name_of e.0)) (is_eq-slice_cmp name (name_of e.0)) e.1 (lookup (is_of name) es) (file_in (shown es) name) (looked_up name es)

  abbrev order : K → K → Ordering
  order x y = slice_cmp nat_cmp (name_of x) (name_of y)

  replaced : (b : Bool) (v w : List ℕ) (s : Option (List ℕ)) → (if b then Some v else s) ≡ (if b then Some v else (if b then Some w else s))
  replaced true v w s = refl
  replaced false v w s = refl

  passed : (b c : Bool) (v w : List ℕ) (r s : Option (List ℕ)) → (b ≡ true → c ≡ true → ⊥) → r ≡ (if c then Some v else s) → (if b then Some w else r) ≡ (if c then Some v else (if b then Some w else s))
  passed true true v w r s apart h = absurd (apart refl refl)
  passed true false v w r s apart h = refl
  passed false c v w r s apart h = h

  is_greater : (o : Ordering) → o ≡ Greater → is_eq o ≡ false
  is_greater o e = ap is_eq e

  -- two names of one text aren't one above the other
  apart : (n a b : List ℕ) → slice_cmp nat_cmp a b ≡ Greater → bytes_eq n b ≡ true → bytes_eq n a ≡ true → ⊥
  apart n a b above same other =
      let one : a ≡ b = sym ((bytes_eq-Decides n a).0 other) ∙ (bytes_eq-Decides n b).0 same in
      let no : bytes_eq a b ≡ false = sym (is_eq-slice_cmp a b) ∙ is_greater _ above in
      false≢true (sym no ∙ (bytes_eq-Decides a b).1 one)

  in_order : (n : List ℕ) (k : K) (v : X) (e : K × X) (es : List (K × X)) (o : Ordering) → order k e.0 ≡ o
      → file_in (shown (insert_entry order es k v)) n ≡ (if bytes_eq n (name_of k) then Some (bytes_of v) else file_in (shown es) n)
      → file_in (shown (match_ordering o ((k, v) ∷ e ∷ es) ((e.0, v) ∷ es) (e ∷ insert_entry order es k v))) n
      ≡ (if bytes_eq n (name_of k) then Some (bytes_of v) else (if bytes_eq n (name_of e.0) then Some (bytes_of e.1) else file_in (shown es) n))
  in_order n k v e es Less is h = refl
  in_order n k v e es Equal is h =
      replaced (bytes_eq n (name_of e.0)) (bytes_of v) (bytes_of e.1) (file_in (shown es) n)
      ∙ ap (λ m. if bytes_eq n m then Some (bytes_of v) else (if bytes_eq n (name_of e.0) then Some (bytes_of e.1) else file_in (shown es) n)) (sym (exact_bytes (name_of k) (name_of e.0) is))
  in_order n k v e es Greater is h =
      passed (bytes_eq n (name_of e.0)) (bytes_eq n (name_of k)) (bytes_of v) (bytes_of e.1) (file_in (shown (insert_entry order es k v)) n) (file_in (shown es) n) (apart n (name_of k) (name_of e.0) is) h

  -- the files with one more, or with another of its name
  pub put_in : (n : List ℕ) (k : K) (v : X) (es : List (K × X)) → file_in (shown (insert_entry order es k v)) n ≡ (if bytes_eq n (name_of k) then Some (bytes_of v) else file_in (shown es) n)
  put_in n k v [] = refl
  put_in n k v (e ∷ es) = in_order n k v e es (order k e.0) refl (put_in n k v es)
