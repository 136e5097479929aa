-- What a receiver's pool keeps of a packet, as the definition of keeping sees it.
use Rattle.std.specs.Prelude.{◌≡◌, ℕ, max, length, map, Result, Ok, Err}
use Rattle.mmt_model.specs.declared.programmes.Params.{Params}
use Rattle.mmt_model.specs.Keeping.{Outcome, outcome, kept_after}
use Rattle.mmt_pool.specs.declared.types.Span.{Span}
use Rattle.mmt_pool.specs.declared.types.NotStored.{NotStored}
use Rattle.mmt_pool.specs.declared.types.NotStored.TheVariants as why
use Rattle.mmt_pool.specs.Doing.{span_of}
use Rattle.mmt_pool.specs.Holding.{Kept, Holding, held}
use Rattle.mmt_runs.specs.Reading.{heard}

-- a packet's outcome at a clock, and what is kept then (this project's rule, after the HRBM of ISO/IEC 23008-1)
pub record KeptAs (r : Params) (clock : ℕ) (old : Holding) (p : Kept) (becomes : Outcome) (new : Holding) : Type 0 where
  pub is : outcome r clock (map heard old.kept) (heard p) ≡ becomes
  pub kept : map heard new.kept ≡ kept_after becomes (map heard old.kept) (heard p)
  pub bound : new.bound ≡ old.bound
  pub peak : new.peak ≡ max old.peak (held new.kept)

-- the answer tells of the packet's outcome, Late with the clock, Full with the bytes held and the packet's own; when out of memory nothing is said
abbrev pub Keeps : ℕ → ℕ → Holding → Kept → Result Span NotStored → Holding → Type 0
Keeps delay clock old p (Ok span) new = (span ≡ span_of p) × ((window : ℕ) → KeptAs (record { bound = old.bound; window = window; delay = delay }) clock old p Outcome.Stored new)
Keeps delay clock old p (Err (why.Late now)) new = (now.0 ≡ clock) × ((window : ℕ) → KeptAs (record { bound = old.bound; window = window; delay = delay }) clock old p Outcome.Late new)
Keeps delay clock old p (Err why.Repeat) new = (window : ℕ) → KeptAs (record { bound = old.bound; window = window; delay = delay }) clock old p Outcome.Repeat new
Keeps delay clock old p (Err (why.Full sum size)) new = (sum ≡ held old.kept) × (size ≡ length p.payload) × ((window : ℕ) → KeptAs (record { bound = old.bound; window = window; delay = delay }) clock old p Outcome.Full new)
Keeps delay clock old p (Err why.OutOfMemory) new = Unit {0}

-- a claim for every answer but out of memory
abbrev pub UnlessNoMemory : Result Span NotStored → Type 0 → Type 0
UnlessNoMemory (Ok span) claim = claim
UnlessNoMemory (Err (why.Late now)) claim = claim
UnlessNoMemory (Err why.Repeat) claim = claim
UnlessNoMemory (Err (why.Full sum size)) claim = claim
UnlessNoMemory (Err why.OutOfMemory) claim = Unit {0}
