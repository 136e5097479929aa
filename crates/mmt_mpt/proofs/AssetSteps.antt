-- Going from location to location, and from asset to asset.
use Rattle.std.proofs.Common.{◌≡◌, ℕ, ◌<◌, List, Some, None, Err}
use Rattle.mmt_base.specs.declared.refused.Refused.{Refused}
use Rattle.mmt_lists.specs.Counted.{counted}
use Rattle.mmt_lists.proofs.CountedSteps as steps
use Rattle.mmt_mpt.specs.declared.part_why.PartWhy.{PartWhy}
use Rattle.mmt_mpt.specs.AssetReading.{place_at}

pub places_stop : (n at : ℕ) (bytes : List ℕ) → n ≡ 0 → (counted n place_at at bytes).stop ≡ None
places_stop n at bytes e = steps.stop_zero place_at n at bytes e

pub places_rest : (n at : ℕ) (bytes : List ℕ) → n ≡ 0 → (counted n place_at at bytes).rest ≡ bytes
places_rest n at bytes e = steps.rest_zero place_at n at bytes e

pub places_here : (n at : ℕ) (bytes : List ℕ) (d : Refused PartWhy) → 0 < n → place_at at bytes ≡ Err d → (counted n place_at at bytes).stop ≡ Some d
places_here n at bytes d some e = steps.stop_here place_at n at bytes d some e
