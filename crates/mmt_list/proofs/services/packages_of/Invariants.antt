use Rattle.std.proofs.Common.{◌≡◌, ◌+◌, length}
use Rattle.mmt_services.specs.PackagesLeft.{packages_left}
use Rattle.mmt_services.specs.TableView.{view}
use Rattle.mmt_list.proofs.services.packages_of.Given as goal

abbrev pub invariant-loop-package : goal.invariant-loop-package
invariant-loop-package l = l.count + length (packages_left l._package-iterator) ≡ length (view l.plt).packages
