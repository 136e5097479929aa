-- Going over the assets of a table, with their numbers.
use Rattle.std.proofs.Common.{◌≡◌, ℕ, ◌+◌, ◌-◌, ◌<◌, ◌≤◌, List, [], length, Some, None, Ok, Err, refl, sym, ap, ◌∙◌, arith}
use Rattle.mmt_base.specs.declared.refused.Refused.{Refused}
use Rattle.mmt_lists.specs.Counted.{counted, counted_of}
use Rattle.mmt_lists.proofs.CountedSteps as steps
use Rattle.mmt_mpt.specs.declared.part_why.PartWhy.{PartWhy}
use Rattle.mmt_mpt.specs.Refusals.{table_refusal}
use Rattle.mmt_mpt.specs.Asset.{AssetValue}
use Rattle.mmt_mpt.specs.AssetReading.{asset_at}
use Rattle.mmt_mpt.specs.TableReading.{assets_of}

abbrev pub Step : Type 0
Step = AssetValue × List ℕ

less : (count number : ℕ) → count - number - 1 ≡ count - (number + 1)
less count number = omega arith

pub assets_stop : (count number at : ℕ) (bytes : List ℕ) (x : Step) → number < count → asset_at at bytes ≡ Ok x
    → (counted (count - number) asset_at at bytes).stop ≡ (counted (count - (number + 1)) asset_at (at + (length bytes - length x.1)) x.1).stop
assets_stop count number at bytes x lt e = steps.stop_more asset_at (count - number) at bytes x (omega arith) e ∙ ap (λ (k : ℕ). (counted k asset_at (at + (length bytes - length x.1)) x.1).stop) (less count number)

pub assets_rest : (count number at : ℕ) (bytes : List ℕ) (x : Step) → number < count → asset_at at bytes ≡ Ok x
    → (counted (count - number) asset_at at bytes).rest ≡ (counted (count - (number + 1)) asset_at (at + (length bytes - length x.1)) x.1).rest
assets_rest count number at bytes x lt e = steps.rest_more asset_at (count - number) at bytes x (omega arith) e ∙ ap (λ (k : ℕ). (counted k asset_at (at + (length bytes - length x.1)) x.1).rest) (less count number)

pub assets_count : (count number at : ℕ) (bytes : List ℕ) (x : Step) → number < count → asset_at at bytes ≡ Ok x
    → length (counted (count - number) asset_at at bytes).items ≡ length (counted (count - (number + 1)) asset_at (at + (length bytes - length x.1)) x.1).items + 1
assets_count count number at bytes x lt e =
    let first : length (counted (count - number) asset_at at bytes).items ≡ length (counted (count - number - 1) asset_at (at + (length bytes - length x.1)) x.1).items + 1 = ap length (steps.first_item asset_at (count - number) at bytes x (omega arith) e) ∙ omega arith in
    first ∙ ap (λ (k : ℕ). length (counted k asset_at (at + (length bytes - length x.1)) x.1).items + 1) (less count number)

pub assets_refused : (count number at from : ℕ) (rest bytes : List ℕ) (d : Refused PartWhy) → number < count → asset_at at rest ≡ Err d
    → (counted (count - number) asset_at at rest).stop ≡ (counted count asset_at from bytes).stop
    → number + length (counted (count - number) asset_at at rest).items ≡ length (counted count asset_at from bytes).items
    → assets_of count from bytes ≡ Err (table_refusal number d)
unfolding assets_of counted_of
assets_refused count number at from rest bytes d lt e same counts =
    let stop : (counted count asset_at from bytes).stop ≡ Some d = sym same ∙ steps.stop_here asset_at (count - number) at rest d (omega arith) e in
    let none : length (counted (count - number) asset_at at rest).items ≡ 0 = ap length (steps.no_item asset_at (count - number) at rest d e) in
    let many : length (counted count asset_at from bytes).items ≡ number = omega arith in
    rw (stop, many) refl

pub assets_done : (count number at from : ℕ) (rest bytes : List ℕ) → count ≤ number
    → (counted (count - number) asset_at at rest).stop ≡ (counted count asset_at from bytes).stop
    → (counted (count - number) asset_at at rest).rest ≡ (counted count asset_at from bytes).rest
    → assets_of count from bytes ≡ Ok ((counted count asset_at from bytes).items, rest)
unfolding assets_of counted_of
assets_done count number at from rest bytes le same after =
    let stop : (counted count asset_at from bytes).stop ≡ None = sym same ∙ steps.stop_zero asset_at (count - number) at rest (omega arith) in
    let is : (counted count asset_at from bytes).rest ≡ rest = sym after ∙ steps.rest_zero asset_at (count - number) at rest (omega arith) in
    rw (stop, is) refl

pub assets_none : (n at : ℕ) (bytes : List ℕ) → n ≡ 0 → (counted n asset_at at bytes).items ≡ []
assets_none n at bytes e = steps.items_zero asset_at n at bytes e
