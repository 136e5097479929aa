use Rattle.std.proofs.Common.{◌≡◌, ◌++◌, take, vec_len}
use Rattle.std.specs.List.{flat_map}
use Rattle.mmt_services.specs.PackagesLeft.{packages_left}
use Rattle.mmt_services.specs.TableView.{view}
use Rattle.mmt_list.specs.Services.{package_text}
use Rattle.mmt_list.proofs.services.put_packages.Given as goal

abbrev pub invariant-loop-package : goal.invariant-loop-package
invariant-loop-package l = record {
  items : l.out.items ++ flat_map package_text (packages_left l.package-iterator) ≡ l.initial.out.items ++ flat_map package_text (view l.plt).packages;
  front : take (vec_len l.initial.out) l.out.items ≡ l.initial.out.items;
}
