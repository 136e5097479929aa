-- What the calls of a pool do.
use Rattle.std.specs.Prelude.{◌≡◌, ℕ, ◌+◌, ◌<◌, max, true, false, List, length, replicate, Option, Some, None, Result, Ok, Err}
use Rattle.std.specs.List.{AllByRecursion, list_any}
use Rattle.mmt_packet.specs.declared.packet.Kind.{Kind}
use Rattle.mmt_packet.specs.declared.packet.Packet.{Packet}
use Rattle.mmt_model.specs.Sorted.{insert_by}
use Rattle.mmt_model.specs.Keeping.{Outcome}
use Rattle.mmt_pool.specs.declared.types.Span.{Span}
use Rattle.mmt_pool.specs.declared.types.NotStored.{NotStored}
use Rattle.mmt_pool.specs.declared.types.NotStored.TheVariants as why
use Rattle.mmt_pool.specs.Holding.{Kept, Holding, HasRoom, held, is_at, is_before, is_in_window, packet_at, without}
use Rattle.mmt_pool.specs.Outcome.{pool_outcome}

-- an MMTP packet as a kept one (ISO/IEC 23008-1, the MMTP packet)
abbrev pub of_packet : Packet → Kept
of_packet p = record { packet_id = p.packet_id; number = p.number; time = p.time.0; kind = p.kind; payload = p.payload.now }

-- an MMTP packet as a kept one with zeros in place of its payload bytes (this project's rule)
abbrev pub blank : Packet → Kept
blank p = record (of_packet p) { payload = replicate (length p.payload.now) 0 }

-- a kept packet of this span, with its timestamp in ticks, kind and payload bytes (this project's rule)
abbrev pub kept_as : Span → ℕ → Kind → List ℕ → Kept
kept_as span time kind payload = record { packet_id = span.packet_id; number = span.number; time = time; kind = kind; payload = payload }

-- the packet id and number of a kept packet (ISO/IEC 23008-1, the MMTP packet)
abbrev pub span_of : Kept → Span
span_of p = record { packet_id = p.packet_id; number = p.number }

-- the pool with one more packet in its place; its peak is at least the sum of the payload lengths then (this project's rule)
abbrev pub with_packet : Holding → Kept → Holding
with_packet h p = record { kept = insert_by is_before p h.kept; bound = h.bound; peak = max h.peak (held h.kept + length p.payload) }

-- what becomes of a packet that is in time: Repeat where its packet id and number are kept, otherwise Full where the kept payload bytes and its own are more than the bound, with both sums, otherwise it is kept or there is no memory for it; a refusal leaves the pool as it was (this project's rule)
abbrev pub Keeps : Holding → Kept → Result Unit NotStored → Holding → Type 0
Keeps old p (Ok done) new = HasRoom old p × (new ≡ with_packet old p)
Keeps old p (Err (why.Late now)) new = ⊥
Keeps old p (Err why.Repeat) new = (list_any (is_at p.packet_id p.number) old.kept ≡ true) × (new ≡ old)
Keeps old p (Err (why.Full sum length')) new = (list_any (is_at p.packet_id p.number) old.kept ≡ false) × (old.bound < held old.kept + length p.payload) × (sum ≡ held old.kept) × (length' ≡ length p.payload) × (new ≡ old)
Keeps old p (Err why.OutOfMemory) new = HasRoom old p × (new ≡ old)

-- the answer tells of the packet's outcome; Ok with its span and the packet kept, a refusal with the pool as it was (this project's rule)
abbrev pub Stores : Holding → ℕ → ℕ → Kept → Result Span NotStored → Holding → Type 0
Stores old clock delay p (Ok span) new = (pool_outcome old clock delay p ≡ Outcome.Stored) × (span ≡ span_of p) × (new ≡ with_packet old p)
Stores old clock delay p (Err (why.Late now)) new = (pool_outcome old clock delay p ≡ Outcome.Late) × (now.0 ≡ clock) × (new ≡ old)
Stores old clock delay p (Err why.Repeat) new = (pool_outcome old clock delay p ≡ Outcome.Repeat) × (new ≡ old)
Stores old clock delay p (Err (why.Full sum length')) new = (pool_outcome old clock delay p ≡ Outcome.Full) × (sum ≡ held old.kept) × (length' ≡ length p.payload) × (new ≡ old)
Stores old clock delay p (Err why.OutOfMemory) new = (pool_outcome old clock delay p ≡ Outcome.Stored) × (new ≡ old)

-- the span is that of a kept packet whose timestamp plus the window is not after the clock (this project's rule)
pub record IsExpired (clock window : ℕ) (kept : List Kept) (span : Span) : Type 0 where
  pub packet : Kept
  pub found : packet_at kept span.packet_id span.number ≡ Some packet
  pub expired : is_in_window clock window packet ≡ false

-- the span of such a packet, or none where all are still in the window (this project's rule)
abbrev pub FindsExpired : ℕ → ℕ → List Kept → Option Span → Type 0
FindsExpired clock window kept (Some span) = IsExpired clock window kept span
FindsExpired clock window kept None = AllByRecursion (λ p. is_in_window clock window p ≡ true) kept

-- that packet alone is taken out; where there is none the pool is as it was (this project's rule)
abbrev pub Expires : Holding → ℕ → ℕ → Option Span → Holding → Type 0
Expires old clock window (Some span) new = IsExpired clock window old.kept span × (new ≡ record old { kept = without old.kept span.packet_id span.number })
Expires old clock window None new = AllByRecursion (λ p. is_in_window clock window p ≡ true) old.kept × (new ≡ old)
