-- Where the bytes come from that a kept packet has as its payload.
use Rattle.std.specs.Prelude.{◌≡◌, ℕ, ◌≤◌, List, length, replicate}
use Rattle.mmt_pool.specs.declared.pool.Source.{Source}
use Rattle.mmt_pool.specs.declared.pool.Source.TheVariants as sources
use Rattle.mmt_pool.specs.Holding.{LiesAt}

-- the source gives this payload: it stands in the TLV packet, or it is at most 65,536 zeros (this project's rule)
abbrev pub Gives : Source → List ℕ → Type 0
Gives (sources.Tlv bytes from) payload = LiesAt bytes.now from payload
Gives sources.Zeros payload = (length payload ≤ 65536) × (payload ≡ replicate (length payload) 0)
