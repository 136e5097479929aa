use Rattle.std.proofs.Common.{◌≡◌, ◌∙◌, ℕ, ◌+◌, ◌<◌, List, [], ◌∷◌, length, map, arith}
use Rattle.std.proofs.lemmas.List.{length-append}
use Rattle.std.proofs.lemmas.List.Elements.{All-cons, All-nil}
use Rattle.mmt_mpt.specs.Descriptor.{DescriptorFits, descriptor_bytes, length_limit, length_width}
use Rattle.mmt_mpt.specs.Asset.{DescriptorsFit}
use Rattle.mmt_mpt.specs.declared.owned.OwnedDescriptor.{OwnedDescriptor}
use Rattle.mmt_mpt.specs.Owned.{owned_descriptor}
use Rattle.mmt_mpt.proofs.DescriptorSteps.{length-descriptor}
use Rattle.mmt_cli.proofs.worked.both.Goals as goal

stamps_fit : (stamps : List ℕ) → length stamps < 256 → DescriptorFits (record { tag = 1; bytes = stamps })
unfolding length_limit
stamps_fit stamps short = record { tag = omega arith; len = short }

extended_fit : (extended : List ℕ) → length extended < 256 → DescriptorFits (record { tag = 32806; bytes = extended })
unfolding length_limit
extended_fit extended short = record { tag = omega arith; len = short }

stamps_length : (stamps : List ℕ) → length (descriptor_bytes (record { tag = 1; bytes = stamps })) ≡ 3 + length stamps
unfolding length_width
stamps_length stamps = length-descriptor (record { tag = 1; bytes = stamps })

extended_length : (extended : List ℕ) → length (descriptor_bytes (record { tag = 32806; bytes = extended })) ≡ 3 + length extended
unfolding length_width
extended_length extended = length-descriptor (record { tag = 32806; bytes = extended })

two_fit : (stamps extended : List ℕ) → length stamps < 256 → length extended < 256 → DescriptorsFit (record { tag = 1; bytes = stamps } ∷ record { tag = 32806; bytes = extended } ∷ [])
two_fit stamps extended s e = record {
  len = simp (length-append, stamps_length, extended_length) (omega arith);
  each = All-cons DescriptorFits (record { tag = 1; bytes = stamps }) (record { tag = 32806; bytes = extended } ∷ []) (stamps_fit stamps s) (All-cons DescriptorFits (record { tag = 32806; bytes = extended }) [] (extended_fit extended e) (All-nil DescriptorFits));
}

both_fit : (ds : List OwnedDescriptor) (stamps extended : List ℕ) → length stamps < 256 → length extended < 256 → ds ≡ record { tag = 1; bytes = stamps } ∷ record { tag = 32806; bytes = extended } ∷ [] → DescriptorsFit (map owned_descriptor ds)
both_fit ds stamps extended s e is = rw is (two_fit stamps extended s e)

pub returns : goal.returns
returns c = both_fit c.from_vec-3.result c.from_vec.result c.from_vec-2.result (rw c.from_vec.ensures c.requires.stamps) (rw c.from_vec-2.ensures c.requires.extended) (c.from_vec-3.ensures ∙ c.in_ok-vec.ensures.items)
