-- The times of access units, exactly (this project's extended timestamp descriptor, after that of ARIB STD-B60).
use Rattle.std.specs.Prelude.{◌≡◌, ℕ, ◌+◌, ◌-◌, ◌*◌, ◌/◌, ◌^◌, ◌<◌, List, [], ◌∷◌, length, get_or, take, Option, Some, None, nat_lt, nat_le, if◌then◌else◌}
use Rattle.std.specs.Int.{div_ceil}
use Rattle.std.specs.List.{sum_by}

-- the offsets of an access unit: of its presentation time after its decoding time, and of the next access unit's after its own, where it has one (this project's extended timestamp descriptor)
pub record AuValue : Type 0 where
  pub dts_pts : ℕ
  pub pts : Option ℕ

-- a time of 64 bits, or none where it is greater (this project's rule)
abbrev pub below_the_end : ℕ → Option ℕ
below_the_end time = if nat_lt time (2 ^ 64) then Some time else None

-- the time so much earlier, or none where that is before 0 (this project's rule)
abbrev pub earlier : ℕ → ℕ → Option ℕ
earlier time by = if nat_le by time then Some (time - by) else None

-- T + floor((before + dts_pts - o) * 2^32 / S) for a presentation time T, a decoding offset o and a timescale S, or none outside 0 to 2^64 - 1; the floor of a negative number -x is -ceiling(x) (this project's rule)
unfoldable pub time_at : ℕ → ℕ → ℕ → ℕ → ℕ → Option ℕ
time_at time offset before dts_pts timescale =
    if nat_le offset (before + dts_pts)
    then below_the_end (time + (before + dts_pts - offset) * 2 ^ 32 / timescale)
    else earlier time (div_ceil ((offset - (before + dts_pts)) * 2 ^ 32) timescale)

-- an access unit's own pts_offset, or else the one that holds without it (this project's extended timestamp descriptor)
abbrev pub pts_or : ℕ → Option ℕ → ℕ
pts_or default None = default
pts_or default (Some pts) = pts

-- the times of access units one after the other, each from the sum of the pts_offsets before it (this project's rule)
unfoldable pub unit_times : ℕ → ℕ → ℕ → ℕ → ℕ → List AuValue → List (Option ℕ)
unit_times time offset timescale default before [] = []
unit_times time offset timescale default before (a ∷ as') = time_at time offset before a.dts_pts timescale ∷ unit_times time offset timescale default (before + pts_or default a.pts) as'

-- the time of access unit n is time_at of the sum of the pts_offsets before it and of its own dts_pts_offset (this project's extended timestamp descriptor)
abbrev pub TimesFollowTheFormula : Type 0
TimesFollowTheFormula = (time offset timescale default : ℕ) (aus : List AuValue) (n : ℕ) (a : AuValue) → n < length aus
    → get_or (unit_times time offset timescale default 0 aus) n None ≡ time_at time offset (sum_by (λ b. pts_or default b.pts) (take n aus)) (get_or aus n a).dts_pts timescale

-- the times before the first that is out of range (this project's rule)
unfoldable pub in_range : List (Option ℕ) → List ℕ
in_range [] = []
in_range (Some time ∷ times) = time ∷ in_range times
in_range (None ∷ times) = []

-- a time before others, where these are all there (this project's rule)
abbrev pub with_first : ℕ → Option (List ℕ) → Option (List ℕ)
with_first time None = None
with_first time (Some times) = Some (time ∷ times)

-- all the times, or none where one of them is out of range (this project's rule)
unfoldable pub all_in_range : List (Option ℕ) → Option (List ℕ)
all_in_range [] = Some []
all_in_range (None ∷ times) = None
all_in_range (Some time ∷ times) = with_first time (all_in_range times)
