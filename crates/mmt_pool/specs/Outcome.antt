-- What becomes of a packet that is offered to a pool, in the pool's words and in the model's.
use Rattle.std.specs.Prelude.{◌≡◌, ℕ, ◌+◌, true, nat_lt, List, length, Option, Some, None, Result, Ok, Err, if◌then◌else◌, map}
use Rattle.std.specs.List.{list_any}
use Rattle.mmt_base.specs.Ticks.{is_after, plus}
use Rattle.mmt_model.specs.Packets.{Heard}
use Rattle.mmt_model.specs.declared.programmes.Params.{Params}
use Rattle.mmt_model.specs.Keeping.{Outcome, outcome, kept_after}
use Rattle.mmt_pool.specs.declared.types.Span.{Span}
use Rattle.mmt_pool.specs.declared.types.NotStored.{NotStored}
use Rattle.mmt_pool.specs.declared.types.NotStored.TheVariants as why
use Rattle.mmt_pool.specs.Holding.{Kept, Holding, held, is_at}

-- Late where the clock is after its timestamp plus the delay, else Repeat where its packet id and number are kept, else Full where the kept payload bytes and its own are more than the bound, else Stored (this project's rule, after the hypothetical receiver buffer model of ISO/IEC 23008-1)
unfoldable pub pool_outcome : Holding → ℕ → ℕ → Kept → Outcome
pool_outcome h clock delay p =
    if is_after clock (plus p.time delay) then Outcome.Late
    else (if list_any (is_at p.packet_id p.number) h.kept then Outcome.Repeat
    else (if nat_lt h.bound (held h.kept + length p.payload) then Outcome.Full
    else Outcome.Stored))

-- a way to see kept packets as the model's packets, which have their timestamps, packet ids, numbers and payload lengths
pub record Shows (heard : Kept → Heard) : Type 0 where
  pub time : (p : Kept) → (heard p).time ≡ p.time
  pub packet_id : (p : Kept) → (heard p).packet_id ≡ p.packet_id
  pub number : (p : Kept) → (heard p).number ≡ p.number
  pub length : (p : Kept) → (heard p).length ≡ length p.payload

-- the model's outcome that an answer tells of; out of memory tells of none
abbrev pub answer_outcome : Result Span NotStored → Option Outcome
answer_outcome (Ok span) = Some Outcome.Stored
answer_outcome (Err (why.Late now)) = Some Outcome.Late
answer_outcome (Err why.Repeat) = Some Outcome.Repeat
answer_outcome (Err (why.Full sum length')) = Some Outcome.Full
answer_outcome (Err why.OutOfMemory) = None

-- the answer tells of the model's outcome and what is kept is what the model keeps then; where there was no memory, the model stores the packet and what is kept is as it was
abbrev pub Agrees : Params → ℕ → List Heard → Heard → Option Outcome → List Heard → Type 0
Agrees r clock rest h (Some f) next = (outcome r clock rest h ≡ f) × (next ≡ kept_after (outcome r clock rest h) rest h)
Agrees r clock rest h None next = (outcome r clock rest h ≡ Outcome.Stored) × (next ≡ rest)

-- however kept packets are seen as the model's packets, where the model opens the offered one, the answer and the kept packets are the model's
abbrev pub Follows : Holding → ℕ → ℕ → Kept → Result Span NotStored → Holding → Type 0
Follows old clock delay p result new =
    (heard : Kept → Heard) → Shows heard → (heard p).is_opened ≡ true → (window : ℕ)
    → Agrees (record { window = window; delay = delay; bound = old.bound }) clock (map heard old.kept) (heard p) (answer_outcome result) (map heard new.kept)
