-- Lists of items that all take the same number of bytes.
use Rattle.std.proofs.Common.{◌≡◌, ℕ, zero, suc, ◌+◌, ◌-◌, ◌*◌, ◌<◌, ◌≤◌, List, length, drop, Some, None, Ok, Err, refl, ap, ◌∙◌, arith, length-drop}
use Rattle.std.proofs.Common.{inl, inr}
use Rattle.std.proofs.lemmas.Bool.{cases_lt}
use Rattle.std.proofs.lemmas.List.{drop-drop}
use Rattle.mmt_base.specs.declared.refused.Refused.{Refused}
use Rattle.mmt_fields.specs.Items.{all_items}
use Rattle.mmt_fields.proofs.Items.{Reader, Shortens}
use Rattle.mmt_lists.specs.Counted.{counted}
use Rattle.mmt_lists.proofs.ItemSteps.{stop_step, stop_none}
use Rattle.mmt_lists.proofs.CountedSteps.{stop_more, rest_more, stop_here, stop_zero, rest_zero}

-- a reader that takes so many bytes, and gives the refusal exactly where there are fewer
pub record IsFixed {A W : Type 0} (one : Reader A W) (size : ℕ) (d : Refused W) : Type 0 where
  pub reads : (at : ℕ) (bytes : List ℕ) → size ≤ length bytes → (x : A) × (one at bytes ≡ Ok (x, drop size bytes))
  pub refuses : (at : ℕ) (bytes : List ℕ) → length bytes < size → one at bytes ≡ Err d

pub fixed_rest : {A W : Type 0} (one : Reader A W) (size : ℕ) (d : Refused W) → IsFixed one size d → (n at total : ℕ) (bytes : List ℕ) → total ≡ n * size → total ≤ length bytes
    → ((counted n one at bytes).stop ≡ None) × ((counted n one at bytes).rest ≡ drop total bytes)
fixed_rest one size d fixed zero at total bytes is le =
    let none : total ≡ 0 = omega arith in
    (stop_zero one zero at bytes refl, rw none (rest_zero one zero at bytes refl))
fixed_rest one size d fixed (suc n) at total bytes is le =
    let here = fixed.reads at bytes (omega arith) in
    let place = at + (length bytes - length (drop size bytes)) in
    let later = fixed_rest one size d fixed n place (n * size) (drop size bytes) refl (omega (arith, length-drop size bytes)) in
    let less : suc n - 1 ≡ n = omega arith in
    let all : size + n * size ≡ total = omega arith in (
      stop_more one (suc n) at bytes (here.0, drop size bytes) (omega arith) here.1 ∙ rw less later.0,
      rest_more one (suc n) at bytes (here.0, drop size bytes) (omega arith) here.1 ∙ rw less (later.1 ∙ drop-drop (n * size) size bytes ∙ ap (λ (k : ℕ). drop k bytes) all),
    )

pub fixed_short : {A W : Type 0} (one : Reader A W) (size : ℕ) (d : Refused W) → IsFixed one size d → (n at : ℕ) (bytes : List ℕ) → length bytes < n * size
    → (counted n one at bytes).stop ≡ Some d
fixed_short one size d fixed zero at bytes lt = absurd (omega arith)
fixed_short one size d fixed (suc n) at bytes lt = elim (cases_lt (length bytes) size) [
  | inl less ↦ stop_here one (suc n) at bytes d (omega arith) (fixed.refuses at bytes less)
  | inr enough ↦
      let here = fixed.reads at bytes enough in
      let one_less : suc n - 1 ≡ n = omega arith in
      stop_more one (suc n) at bytes (here.0, drop size bytes) (omega arith) here.1
      ∙ rw one_less (fixed_short one size d fixed n (at + (length bytes - length (drop size bytes))) (drop size bytes) (omega (arith, length-drop size bytes)))
]

-- bytes of so many items are read up to their end
pub fixed_whole : {A W : Type 0} (one : Reader A W) (size : ℕ) (d : Refused W) → IsFixed one size d → Shortens one → (m at : ℕ) (bytes : List ℕ) → length bytes ≡ m * size
    → (all_items one at bytes).stop ≡ None
fixed_whole one size d fixed short zero at bytes is = stop_none one at bytes (omega arith)
fixed_whole one size d fixed short (suc m) at bytes is =
    let here = fixed.reads at bytes (omega arith) in
    stop_step one short at bytes (here.0, drop size bytes) here.1
    ∙ fixed_whole one size d fixed short m (at + (length bytes - length (drop size bytes))) (drop size bytes) (omega (arith, length-drop size bytes))
