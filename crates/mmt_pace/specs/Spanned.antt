-- The first and the last timestamp of packets.
use Rattle.std.specs.Prelude.{◌≡◌, ℕ, ◌+◌, ◌<◌, ◌&&◌, nat_le, nat_lt, min, max, List, [], ◌∷◌, Bool, length, map, get_or, Option, Some, None}
use Rattle.mmt_cast.specs.Casting.{greatest, has_table, has_unit, least}
use Rattle.mmt_model.specs.Carrying.{no_table_copy, table_copy}
use Rattle.mmt_model.specs.declared.casts.Carries.{Carries}
use Rattle.mmt_model.specs.declared.casts.Cast.{Cast}
use Rattle.mmt_model.specs.declared.casts.Sent.{Sent}
use Rattle.mmt_model.specs.declared.casts.TableCopy.{TableCopy}
use Rattle.mmt_pace.specs.Deadlines.{name_limit}
use Rattle.mmt_pace.specs.Recast.{ticks_with}
use Rattle.mmt_pace.specs.declared.spans.Run.{Run}
use Rattle.mmt_pace.specs.declared.spans.Span.{Span}
use Rattle.mmt_pace.specs.declared.spans.Things.{Things}
use Rattle.mmt_pace.specs.declared.spans.Things.TheVariants as things

-- the least of these numbers, where there is one
abbrev pub least_of : List ℕ → Option ℕ
least_of [] = None
least_of (n ∷ ns) = Some (least (n ∷ ns))

-- the least and the greatest of these ticks, where there is one
abbrev pub span_of_ticks : List ℕ → Option Span
span_of_ticks [] = None
span_of_ticks (t ∷ ts) = Some (record { first = record { 0 = least (t ∷ ts) }; last = record { 0 = greatest (t ∷ ts) } })

-- the spans of N things in these packets, by which packets have each
pub record AreSpans (count : ℕ) (has : ℕ → Carries → Bool) (packets : List Sent) (spans : List (Option Span)) : Type 0 where
  pub long : length spans ≡ count
  pub each : (n : ℕ) → n < count → get_or spans n None ≡ span_of_ticks (ticks_with (has n) packets)

-- what is sent in packets of a cast: its units, or its table copies
abbrev pub has_thing : Cast → Things → ℕ → Carries → Bool
has_thing cast things.Units n = has_unit n
has_thing cast things.Copies n = has_table (table_copy cast n).signal

-- how many of them the cast has
abbrev pub count_of : Cast → Things → ℕ
count_of cast things.Units = length cast.units
count_of cast things.Copies = length cast.copies

-- N numbers from one on, and a number is among them
abbrev pub is_among : Run → ℕ → Bool
is_among run n = nat_le run.first n && nat_lt n (run.first + run.count)

-- a span with one tick more
abbrev pub with_tick : ℕ → Option Span → Span
with_tick tick None = record { first = record { 0 = tick }; last = record { 0 = tick } }
with_tick tick (Some span) = record { first = record { 0 = min tick span.first.0 }; last = record { 0 = max tick span.last.0 } }

-- the first and the last tick of a span, 0 where there is none
abbrev pub first_in : Option Span → ℕ
first_in None = 0
first_in (Some span) = span.first.0

abbrev pub last_in : Option Span → ℕ
last_in None = 0
last_in (Some span) = span.last.0

-- the least limit of the MPUs that a table copy names, where it names one, and that of each copy of a cast
abbrev pub least_limit : Cast → TableCopy → Option ℕ
least_limit cast c = least_of (map (name_limit cast c.last.0) c.names)

abbrev pub least_limits : Cast → List (Option ℕ)
least_limits cast = map (least_limit cast) cast.copies

-- the spans of these table copies in these packets
abbrev pub AreCopySpans : List TableCopy → List Sent → List (Option Span) → Type 0
AreCopySpans copies packets spans = AreSpans (length copies) (λ n. has_table (get_or copies n no_table_copy).signal) packets spans
