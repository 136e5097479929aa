-- What contracts see of the iterators over packet ids, refusals, pairs and the entries of extended descriptors.
use Rattle.std.specs.Prelude.{ℕ, ◌+◌, List, ◌++◌, length}
use Rattle.std.specs.List.{flat_map}
use Rattle.mmt_mpt.specs.DescriptorsLeft.{descriptors_left}
use Rattle.mmt_mpt.specs.LocationsLeft.{locations_left}
use Rattle.mmt_times.specs.declared.parts_left.Ids.{Ids}
use Rattle.mmt_times.specs.declared.parts_left.Refusals.{Refusals}
use Rattle.mmt_times.specs.declared.parts_left.Pairs.{Pairs}
use Rattle.mmt_times.specs.declared.parts_left.Candidates.{Candidates}
use Rattle.mmt_times.specs.Stamps.{PairValue, pairs_from}
use Rattle.mmt_times.specs.NamesOf.{NamedValue, here_id, refusal_of, pairs_of, ExtendedEntry, extended_entries}
use Rattle.mmt_times.specs.CandidateView.{content_left}

-- the packet ids that an iterator has yet to give
abbrev pub ids_left : Ids → List ℕ
ids_left s = flat_map here_id (locations_left s.locations)

-- the refusals that an iterator has yet to give
abbrev pub refusals_left : Refusals → List NamedValue
refusals_left s = flat_map refusal_of (descriptors_left s.descriptors)

-- the pairs that an iterator has yet to give
abbrev pub pairs_left : Pairs → List PairValue
pairs_left s = pairs_from s.rest.now ++ flat_map pairs_of (descriptors_left s.descriptors)

-- the entries that an iterator has yet to give
abbrev pub candidates_left : Candidates → List ExtendedEntry
candidates_left s = content_left s.content ++ flat_map (extended_entries s.configured) (descriptors_left s.descriptors)

-- how many entries and descriptors an iterator has yet to go over
abbrev pub size_of : Candidates → ℕ
size_of s = length (candidates_left s) + length (descriptors_left s.descriptors)
