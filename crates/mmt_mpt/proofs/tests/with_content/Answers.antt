use Rattle.std.proofs.Common.{◌≡◌, ℕ, ◌<◌, List, [], ◌∷◌, length, map, arith}
use Rattle.std.proofs.lemmas.List.{length-append}
use Rattle.std.proofs.lemmas.List.Elements.{All-nil, All-cons}
use Rattle.mmt_mpt.specs.declared.owned.OwnedDescriptor.{OwnedDescriptor}
use Rattle.mmt_mpt.specs.Descriptor.{DescriptorValue, DescriptorFits, length_width, length_limit, descriptor_bytes}
use Rattle.mmt_mpt.specs.Asset.{DescriptorsFit, AssetFits}
use Rattle.mmt_mpt.specs.Owned.{owned_descriptor}
use Rattle.mmt_mpt.proofs.Sizes.{descriptor_long}
use Rattle.mmt_mpt.proofs.tests.with_content.Goals as goal

alone : (ds : List OwnedDescriptor) (bytes : List ℕ) → length bytes < 65532 → ds ≡ record { tag = 61440; bytes = bytes } ∷ [] → DescriptorsFit (map owned_descriptor ds)
unfolding length_width length_limit
alone ds bytes lt is =
    let d : DescriptorValue = record { tag = 61440; bytes = bytes } in
    let sum = length-append (descriptor_bytes d) [] in
    let long = descriptor_long d in
    rw is (record { len = omega (arith, sum, long); each = All-cons DescriptorFits d [] (record { tag = omega arith; len = omega arith }) (All-nil DescriptorFits) })

pub returns : goal.returns
returns c =
    let pushed = rw c.new-descriptors.ensures at c.in_ok-push.ensures.pushed in
    record {
      version = omega arith;
      mode = omega arith;
      reserved = omega arith;
      package_id = rw c.new.ensures (omega arith);
      descriptors = alone c.push.new.self c.from_vec.result (rw c.from_vec.ensures (omega (arith, c.in_ok-content.ensures.len, c.requires))) pushed;
      count = rw c.new-2.ensures (omega arith);
      assets = rw c.new-2.ensures (All-nil AssetFits);
    }
