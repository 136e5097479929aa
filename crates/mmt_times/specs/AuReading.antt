-- Reading the offsets of access units. Every refusal of a descriptor's content is at the content's first byte.
use Rattle.std.specs.Prelude.{ℕ, Bool, true, false, List, Result, Ok}
use Rattle.std.specs.Int.{w16}
use Rattle.mmt_base.specs.declared.refused.Refused.{Refused}
use Rattle.mmt_fields.specs.Reading.{◌>>=◌, number_at, optional_at}
use Rattle.mmt_lists.specs.Counted.{counted}
use Rattle.mmt_times.specs.declared.times_why.TimesWhy.{TimesWhy}
use Rattle.mmt_times.specs.declared.times_why.TimesWhy.TheVariants as why
use Rattle.mmt_times.specs.Times.{AuValue}

-- a number of 16 bits (this project's extended timestamp descriptor)
unfoldable pub offset_at : List ℕ → Result (ℕ × List ℕ) (Refused TimesWhy)
offset_at bytes = number_at w16 bytes 0 why.Length

-- the offsets of one access unit, the second where each has its own (this project's extended timestamp descriptor)
unfoldable pub au_at : Bool → ℕ → List ℕ → Result (AuValue × List ℕ) (Refused TimesWhy)
au_at each at bytes = do
  dts_pts ← offset_at bytes
  pts ← optional_at each offset_at dts_pts.1
  Ok (record { dts_pts = dts_pts.0; pts = pts.0 }, pts.1)

-- the offsets of so many access units (this project's extended timestamp descriptor)
abbrev pub aus_from : Bool → ℕ → List ℕ → List AuValue
aus_from each n bytes = (counted n (au_at each) 0 bytes).items

-- how many bytes the offsets of an access unit take (this project's extended timestamp descriptor)
abbrev pub au_size : Bool → ℕ
au_size true = 4
au_size false = 2
