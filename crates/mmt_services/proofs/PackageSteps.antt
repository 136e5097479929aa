-- Going from package to package.
use Rattle.std.proofs.Common.{◌≡◌, ℕ, ◌<◌, List, Some, None, Err}
use Rattle.mmt_base.specs.declared.refused.Refused.{Refused}
use Rattle.mmt_lists.specs.Counted.{counted}
use Rattle.mmt_lists.proofs.CountedSteps as steps
use Rattle.mmt_services.specs.declared.plt_why.PltWhy.{PltWhy}
use Rattle.mmt_services.specs.PackageReading.{package_at}

pub packages_stop : (n at : ℕ) (bytes : List ℕ) → n ≡ 0 → (counted n package_at at bytes).stop ≡ None
packages_stop n at bytes e = steps.stop_zero package_at n at bytes e

pub packages_rest : (n at : ℕ) (bytes : List ℕ) → n ≡ 0 → (counted n package_at at bytes).rest ≡ bytes
packages_rest n at bytes e = steps.rest_zero package_at n at bytes e

pub packages_here : (n at : ℕ) (bytes : List ℕ) (d : Refused PltWhy) → 0 < n → package_at at bytes ≡ Err d → (counted n package_at at bytes).stop ≡ Some d
packages_here n at bytes d some e = steps.stop_here package_at n at bytes d some e
