-- Which media units are handed out when.
use Rattle.std.specs.Prelude.{ℕ, ◌-◌, Bool, false, ◌&&◌, ◌||◌, nat_lt, nat_le, ◌==◌, List, [], ◌∷◌, ◌++◌, length, get_or, if◌then◌else◌}
use Rattle.std.specs.List.{filter, flat_map}
use Rattle.mmt_base.specs.Ticks.{due_of, is_after, is_passed, low}
use Rattle.mmt_model.specs.Entries.{Entry, entries}
use Rattle.mmt_model.specs.Keeping.{clock, kept}
use Rattle.mmt_model.specs.Packets.{Heard}
use Rattle.mmt_model.specs.Sorted.{sort_by}
use Rattle.mmt_model.specs.Units.{MediaUnit}
use Rattle.mmt_model.specs.declared.keys.UnitKey.{UnitKey}
use Rattle.mmt_model.specs.declared.programmes.Params.{Params}
use Rattle.mmt_model.specs.declared.keys.UnitKey.TheVariants as keys

-- a media unit with its time, in units of 2^-32 second
pub record Presentation : Type 0 where
  pub unit : MediaUnit
  pub time : ℕ

-- the time that an entry gives a key: that of the access unit at place `sample - sample_base` where there is one, and else the MPU's (ARIB STD-B60, the MPU timestamp descriptors; how samples and access units go together is this project's rule)
unfoldable pub time_for : ℕ → Entry → UnitKey → ℕ
time_for sample_base e (keys.Item item) = e.time
time_for sample_base e (keys.Timed movie_fragment sample offset) =
    if nat_le sample_base sample && nat_lt (sample - sample_base) (length e.aus) then get_or e.aus (sample - sample_base) e.time else e.time

-- the time of a unit by its entry
unfoldable pub time_of : ℕ → Entry → MediaUnit → ℕ
time_of sample_base e u = time_for sample_base e u.key

-- a key as numbers: items come before timed units, and these go by movie fragment, sample and offset (this project's rule)
unfoldable pub key_numbers : UnitKey → List ℕ
key_numbers (keys.Item item) = 0 ∷ item ∷ 0 ∷ 0 ∷ []
key_numbers (keys.Timed movie_fragment sample offset) = 1 ∷ movie_fragment ∷ sample ∷ offset ∷ []

-- the first number in which two lists differ is the lesser in the first list
unfoldable pub precedes : List ℕ → List ℕ → Bool
precedes [] ys = false
precedes (x ∷ xs) [] = false
precedes (x ∷ xs) (y ∷ ys) = nat_lt x y || ((x == y) && precedes xs ys)

-- what units are put in order by: time, packet id, MPU number, key, number of the first packet, place in it
unfoldable pub order_numbers : Presentation → List ℕ
order_numbers d = d.time ∷ d.unit.packet_id ∷ d.unit.mpu ∷ (key_numbers d.unit.key ++ d.unit.number ∷ d.unit.place ∷ [])

-- the order in which units are handed out (this project's rule)
unfoldable pub is_presented_before : Presentation → Presentation → Bool
is_presented_before s t = precedes (order_numbers s) (order_numbers t)

-- a unit with the time that the first entry of its MPU gives it
unfoldable pub presentations_by : ℕ → List Entry → MediaUnit → List Presentation
presentations_by sample_base [] u = []
presentations_by sample_base (e ∷ es) u = if (e.packet_id == u.packet_id) && (e.mpu == u.mpu) then record { unit = u; time = time_of sample_base e u } ∷ [] else presentations_by sample_base es u

-- the units that have an entry, with their times
unfoldable pub named_units : ℕ → List Entry → List MediaUnit → List Presentation
named_units sample_base es us = flat_map (presentations_by sample_base es) us

-- what a receiver goes by: how names and units are found in kept packets, and which sample is the first access unit's
pub record Reading : Type 0 where
  pub names_by : List Heard → Heard → List Entry
  pub units : List Heard → List MediaUnit
  pub sample_base : ℕ

-- the named units whose due tick the clock passes on its way from one tick to another, in order
abbrev pub due_units : ℕ → List Entry → List MediaUnit → ℕ → ℕ → List Presentation
due_units sample_base es us before now = sort_by is_presented_before (filter (λ d. is_passed (low (due_of d.time)) before now) (named_units sample_base es us))

-- what the newest packet makes the receiver hand out, before it is stored itself (this project's rule)
unfoldable pub handed : Reading → Params → ℕ → Heard → List Heard → List Presentation
handed g r start h older =
    due_units g.sample_base (entries g.names_by r start older) (g.units (kept r start older)) (clock start older) (clock start (h ∷ older))

-- what was handed out over a history, in the order of the stream
unfoldable pub out : Reading → Params → ℕ → List Heard → List Presentation
out g r start [] = []
out g r start (h ∷ older) = out g r start older ++ handed g r start h older

-- what is handed out at the end: the named units that are still to be due, in order (this project's rule)
unfoldable pub final : Reading → Params → ℕ → List Heard → List Presentation
final g r start hist =
    sort_by is_presented_before
    (filter (λ d. is_after (low (due_of d.time)) (clock start hist))
    (named_units g.sample_base (entries g.names_by r start hist) (g.units (kept r start hist))))
