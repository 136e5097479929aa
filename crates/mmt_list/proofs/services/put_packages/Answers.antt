use Rattle.std.proofs.Common.{arith}
use Rattle.mmt_services.specs.PackageView.{view_package}
use Rattle.mmt_services.specs.PackagesLeft.{packages_left}
use Rattle.mmt_list.specs.Services.{package_text}
use Rattle.mmt_list.proofs.Appended.{one_more, front_more}
use Rattle.mmt_list.proofs.services.put_packages.Goals as goal

pub loop-package-preserved : goal.loop-package-preserved
loop-package-preserved c =
    let text = c.in_ok-put_package.ensures.items in
    let before = c.loop-package.invariant in
    record {
      items = one_more package_text c.loop-package.out.items _ _ _ (view_package c.in-Some.package) (packages_left c.next.new.self) c.in-Some.ensures.steps text before.items;
      front = front_more c.args.out.now.len c.args.out.now.items c.loop-package.out.items _ _ (omega (arith, c.args.out.now.ok)) text before.front;
    }
