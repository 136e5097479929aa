-- A programme of 60 seconds, its files and a delivery of it, made from a number N of 16 bits (this project's rules). Ticks are 1/65536 second.
use Rattle.std.specs.Prelude.{ℕ, ◌+◌, ◌-◌, ◌*◌, ◌/◌, ◌%◌, Bool, true, false, ◌==◌, nat_lt, List, [], ◌∷◌, ◌++◌, map, codes, Option, Some, None, if◌then◌else◌}
use Rattle.std.specs.List.{flat_map}
use Rattle.std.specs.Str.{bytes_eq}
use Rattle.mmt_base.specs.declared.ticks.LongTick.{LongTick}
use Rattle.mmt_model.specs.Carrying.{numbers}
use Rattle.mmt_model.specs.declared.keys.UnitKey.TheVariants as keys
use Rattle.mmt_model.specs.declared.programmes.Asset.{Asset}
use Rattle.mmt_model.specs.declared.programmes.Au.{Au}
use Rattle.mmt_model.specs.declared.programmes.Mpu.{Mpu}
use Rattle.mmt_model.specs.declared.programmes.Programme.{Programme}
use Rattle.mmt_model.specs.declared.programmes.Signal.{Signal}
use Rattle.mmt_model.specs.declared.programmes.Signal.TheVariants as signals
use Rattle.mmt_model.specs.declared.programmes.Unit.{Unit as PlannedUnit}
use Rattle.mmt_made.specs.declared.tracks.Track.{Track}

-- the programme has 120 blocks of half a second
abbrev pub blocks : ℕ
blocks = 120

-- a tick of the programme: it starts 1,000 seconds after the epoch
abbrev pub tick_at : ℕ → LongTick
tick_at t = record { 0 = 65536000 + t }

-- ---- media

-- video of 60 access units a second, and audio of 16: how many units an MPU has, how many bytes a unit has, how many units of the timescale lie between two access units, and in how many ticks 15 units are sent
abbrev pub video_track : Track
video_track = record { per_mpu = 30; length = 3000; period = 1000; ticks = 16384 }

abbrev pub audio_track : Track
audio_track = record { per_mpu = 8; length = 300; period = 3000; ticks = 61440 }

-- unit k of a track
abbrev pub unit_of : Track → ℕ → PlannedUnit
unit_of t k = record { at = tick_at (k * t.ticks / 15); from = t.length * k; length = t.length; key = keys.Timed 1 (k % t.per_mpu + 1) 0; priority = 0; dependency = 0 }

-- an access unit of a track is presented when it is decoded
abbrev pub au_of : Track → ℕ → Au
au_of t n = record { dts_pts = 0; pts = t.period }

-- MPU b of a track is presented from 1,001 seconds and b half seconds after the epoch on
abbrev pub mpu_of : Track → ℕ → Mpu
mpu_of t b = record {
  number = b;
  time = record { 0 = 4299262263296 + b * 2147483648 };
  decoding_offset = 0;
  aus = map (au_of t) (numbers 0 t.per_mpu);
  units = map (unit_of t) (numbers (b * t.per_mpu) t.per_mpu);
}

abbrev pub mpus_of : Track → List Mpu
mpus_of t = map (mpu_of t) (numbers 0 blocks)

-- the item: one unit of 5,000 bytes, presented 1,061 seconds after the epoch
abbrev pub item_unit : PlannedUnit
item_unit = record { at = tick_at 3932160; from = 0; length = 5000; key = keys.Item 1; priority = 0; dependency = 0 }

abbrev pub item_mpu : Mpu
item_mpu = record { number = 0; time = record { 0 = 4556960301056 }; decoding_offset = 0; aus = []; units = item_unit ∷ [] }

abbrev pub video : Asset
video = record { packet_id = 256; id = codes "video"; kind = 1751479857; timed = true; timescale = 60000; file = 0; mpus = mpus_of video_track }

abbrev pub audio : Asset
audio = record { packet_id = 272; id = codes "audio"; kind = 1836069985; timed = true; timescale = 48000; file = 1; mpus = mpus_of audio_track }

abbrev pub item : Asset
item = record { packet_id = 288; id = codes "item"; kind = 1633775728; timed = false; timescale = 1; file = 2; mpus = item_mpu ∷ [] }

abbrev pub assets : List Asset
assets = video ∷ audio ∷ item ∷ []

-- ---- signalling

-- a block is the last one
abbrev pub is_last : ℕ → Bool
is_last b = b + 1 == blocks

-- the MPUs of an asset that the table of block b names: b and b + 1, as far as they exist
abbrev pub names_of_asset : ℕ → ℕ → List (ℕ × ℕ)
names_of_asset b a = if is_last b then (a, b) ∷ [] else (a, b) ∷ (a, b + 1) ∷ []

-- all that it names: the last table names the item's MPU too
unfoldable pub names_at : ℕ → List (ℕ × ℕ)
names_at b = names_of_asset b 0 ++ (names_of_asset b 1 ++ (if is_last b then (2, 0) ∷ [] else []))

-- each block begins with a buffer message and a table
abbrev pub block : ℕ → List Signal
block b = signals.Parameters (tick_at (32768 * b)) ∷ signals.Table (tick_at (32768 * b)) (names_at b) ∷ []

abbrev pub all_signals : List Signal
all_signals = flat_map block (numbers 0 blocks)

-- ---- the programme, which is the same for each N

unfoldable pub made_programme : Programme
made_programme =
    record {
      flow = record { address = 339025831081173035177270227320096948481; port = 51300 };
      source = record { address = 42540766411282592856903984951653826561; port = 51300 };
      context = 1;
      full_every = 16;
      limit = 1400;
      spacing = 100;
      «package» = codes "make";
      params = record { bound = 400000; window = 131072; delay = 6554 };
      signals = all_signals;
      assets = assets;
      files = codes "video" ∷ codes "audio" ∷ codes "item" ∷ [];
    }

-- ---- the files

-- byte p of file a
abbrev pub byte_at : ℕ → ℕ → ℕ → ℕ
byte_at n a p = (n + 31 * p + 7 * a + p / 256) % 256

-- the first bytes of file a
unfoldable pub file_bytes : ℕ → ℕ → ℕ → List ℕ
file_bytes n a size = map (byte_at n a) (numbers 0 size)

-- the files by their names
abbrev pub made_file : ℕ → List ℕ → Option (List ℕ)
made_file n name =
    if bytes_eq name (codes "video") then Some (file_bytes n 0 10800000)
    else (if bytes_eq name (codes "audio") then Some (file_bytes n 1 288000)
    else (if bytes_eq name (codes "item") then Some (file_bytes n 2 5000) else None))

-- ---- the delivery

-- packet 0, then the packets of the cast in pairs, the later one first, up to the end; a last packet without a partner comes alone
abbrev pub swapped : ℕ → ℕ → ℕ
swapped count i = if i % 2 == 1 then (if nat_lt (i + 1) count then i + 1 else i) else i - 1

-- how often a packet comes: not at all where its place is 7 N modulo 50, and otherwise twice where it is 10 modulo 20
abbrev pub copies : ℕ → ℕ → List ℕ
copies n place = if place % 50 == (7 * n) % 50 then [] else (if place % 20 == 10 then place ∷ place ∷ [] else place ∷ [])

-- the delivery of a cast of N packets
unfoldable pub delivery : ℕ → ℕ → List ℕ
delivery n count = flat_map (λ i. copies n (swapped count i)) (numbers 0 count)
