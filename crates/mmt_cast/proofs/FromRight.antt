-- What a right programme has, by the places of its MPUs and units.
use Rattle.std.proofs.Common.{◌≡◌, ℕ, ◌+◌, ◌/◌, ◌<◌, ◌≤◌, ◌^◌, zero, suc, Bool, true, false, List, [], ◌∷◌, ◌++◌, map, length, get_or, arith, refl, ap, sym, ◌∙◌, None}
use Rattle.std.specs.List.{All, AllByRecursion, sum_by}
use Rattle.std.proofs.lemmas.List.{length-append}
use Rattle.std.proofs.lemmas.List.Elements.{All-weaker, recursion_from_All}
use Rattle.std.proofs.lemmas.List.Sums.{sum_by-append, sum_by-cons}
use Rattle.mmt_cast.proofs.Listing.{each-append, each-at, each-weaker, length-map_from}
use Rattle.mmt_cast.proofs.Placed.{placed_in}
use Rattle.mmt_cast.proofs.Refusals.{HasTimes, all-timed}
use Rattle.mmt_cast.specs.FromRight.{FitsUnit, NamesRise, RightProgrammesFit}
use Rattle.mmt_cast.specs.Placing.{PlacedMpu, PlacedUnit, all_mpus, all_units, flat_map_from, map_from, mpus_of, units_of}
use Rattle.mmt_cast.specs.Readable.{FitsTicks, tick_of_signal}
use Rattle.mmt_cast.specs.Refusing.{refusal}
use Rattle.mmt_cast.specs.Right.{IsRight as CastIsRightFor, NamesKnown, mpu_at, no_mpu, no_placed_mpu, no_placed_unit, no_signal, signal_at, unit_at}
use Rattle.mmt_cast.specs.TablesRead.{FitsFields, FitsTable}
use Rattle.mmt_model.specs.Right.{AreDifferent, FitsAus, HasKeyOf, IsFrom, IsKind, IsKnown, IsRight, IsRightAsset, IsRightAu, IsRightMpu, IsRightSignal, IsRightUnit, no_asset, units_of_asset}
use Rattle.mmt_model.specs.declared.keys.UnitKey.{UnitKey}
use Rattle.mmt_model.specs.declared.programmes.Asset.{Asset}
use Rattle.mmt_model.specs.declared.programmes.Au.{Au}
use Rattle.mmt_model.specs.declared.programmes.Mpu.{Mpu}
use Rattle.mmt_model.specs.declared.programmes.Programme.{Programme}
use Rattle.mmt_model.specs.declared.programmes.Signal.{Signal}
use Rattle.mmt_model.specs.declared.programmes.Unit.{Unit as PlannedUnit}
use Rattle.mmt_mpu.specs.Spelling.{HeadFits}
use Rattle.mmt_model.specs.declared.keys.UnitKey.TheVariants as keys
use Rattle.mmt_model.specs.declared.programmes.Signal.TheVariants as signals

-- ---- what all items of nested lists have, each item of the flat list has

each-mapped : {X Y : Type 0} (P : X → Type 0) (Q : Y → Type 0) (f : ℕ → X → Y) → ((i : ℕ) (x : X) → P x → Q (f i x)) → (n : ℕ) (xs : List X) → AllByRecursion P xs → AllByRecursion Q (map_from f n xs)
unfolding map_from
each-mapped P Q f h n [] e = tt
each-mapped P Q f h n (x ∷ xs) e = (h n x e.0, each-mapped P Q f h (n + 1) xs e.1)

each-flat : {X Y : Type 0} (P : X → Type 0) (Q : Y → Type 0) (f : ℕ → X → List Y) → ((i : ℕ) (x : X) → P x → AllByRecursion Q (f i x)) → (n : ℕ) (xs : List X) → AllByRecursion P xs → AllByRecursion Q (flat_map_from f n xs)
unfolding flat_map_from
each-flat P Q f h n [] e = tt
each-flat P Q f h n (x ∷ xs) e = each-append Q (f n x) (flat_map_from f (n + 1) xs) (h n x e.0) (each-flat P Q f h (n + 1) xs e.1)

-- ---- numbers that differ stand at one place

at-map : {X : Type 0} (P : ℕ → Type 0) (f : X → ℕ) (xs : List X) (d : X) (i : ℕ) → AllByRecursion P (map f xs) → i < length xs → P (f (get_or xs i d))
at-map P f [] d i e l = absurd (omega arith)
at-map P f (x ∷ xs) d zero e l = e.0
at-map P f (x ∷ xs) d (suc i) e l = at-map P f xs d i e.1 (omega arith)

later-differs : {X : Type 0} (f : X → ℕ) (x : X) (xs : List X) (d : X) (i : ℕ) → All (λ m. m ≡ f x → ⊥) (map f xs) → i < length xs → f (get_or xs i d) ≡ f x → ⊥
later-differs f x xs d i h l = at-map (λ m. m ≡ f x → ⊥) f xs d i (recursion_from_All (λ m. m ≡ f x → ⊥) (map f xs) h) l

one-place : {X : Type 0} (f : X → ℕ) (xs : List X) (d : X) → AreDifferent (map f xs) → (a b : ℕ) → a < length xs → b < length xs → f (get_or xs a d) ≡ f (get_or xs b d) → a ≡ b
one-place f [] d h a b la lb e = absurd (omega arith)
one-place f (x ∷ xs) d h zero zero la lb e = refl
one-place f (x ∷ xs) d h zero (suc b) la lb e = absurd (later-differs f x xs d b h.0 (omega arith) (sym e))
one-place f (x ∷ xs) d h (suc a) zero la lb e = absurd (later-differs f x xs d a h.0 (omega arith) e)
one-place f (x ∷ xs) d h (suc a) (suc b) la lb e = ap suc (one-place f xs d h.1 a b (omega arith) (omega arith) e)

-- ---- each MPU and each unit with its asset

abbrev pub IsRightPlaced : ℕ → ℕ → PlacedMpu → Type 0
IsRightPlaced start files m = IsRightAsset start files m.in_asset × IsRightMpu start m.in_asset.timed m.value

abbrev pub IsRightPlacedUnit : ℕ → ℕ → PlacedUnit → Type 0
IsRightPlacedUnit start files u = IsRightPlaced start files u.in_mpu × IsRightUnit start u.in_mpu.in_asset.timed u.value

mpus-in : (start files a : ℕ) (asset : Asset) → IsRightAsset start files asset → AllByRecursion (IsRightPlaced start files) (mpus_of a asset)
unfolding mpus_of
mpus-in start files a asset r =
    each-mapped (IsRightMpu start asset.timed) (IsRightPlaced start files) (placed_in a asset) (λ b mpu m. (r, m)) 0 asset.mpus
    (recursion_from_All (IsRightMpu start asset.timed) asset.mpus r.mpus)

pub right-mpus : (programme : Programme) (right : IsRight programme) → AllByRecursion (IsRightPlaced right.start (length programme.files)) (all_mpus programme)
unfolding all_mpus
right-mpus programme right =
    let files : ℕ = length programme.files in
    each-flat (IsRightAsset right.start files) (IsRightPlaced right.start files) mpus_of (mpus-in right.start files) 0 programme.assets
    (recursion_from_All (IsRightAsset right.start files) programme.assets right.assets)

units-in : (start files m : ℕ) (x : PlacedMpu) → IsRightPlaced start files x → AllByRecursion (IsRightPlacedUnit start files) (units_of m x)
unfolding units_of
units-in start files m x r =
    each-mapped (IsRightUnit start x.in_asset.timed) (IsRightPlacedUnit start files) (λ c unit. record { mpu_place = m; in_mpu = x; unit = c; value = unit }) (λ c unit u. (r, u)) 0 x.value.units
    (recursion_from_All (IsRightUnit start x.in_asset.timed) x.value.units r.1.units)

pub right-units : (programme : Programme) (right : IsRight programme) → AllByRecursion (IsRightPlacedUnit right.start (length programme.files)) (all_units programme)
unfolding all_units
right-units programme right =
    let files : ℕ = length programme.files in
    each-flat (IsRightPlaced right.start files) (IsRightPlacedUnit right.start files) units_of (units-in right.start files) 0 (all_mpus programme) (right-mpus programme right)

pub right-unit : (programme : Programme) (right : IsRight programme) (u : ℕ) → u < length (all_units programme) → IsRightPlacedUnit right.start (length programme.files) (unit_at programme u)
unfolding unit_at
right-unit programme right u l = each-at (IsRightPlacedUnit right.start (length programme.files)) (all_units programme) u no_placed_unit (right-units programme right) l

pub right-mpu : (programme : Programme) (right : IsRight programme) (m : ℕ) → m < length (all_mpus programme) → IsRightPlaced right.start (length programme.files) (mpu_at programme m)
unfolding mpu_at
right-mpu programme right m l = each-at (IsRightPlaced right.start (length programme.files)) (all_mpus programme) m no_placed_mpu (right-mpus programme right) l

-- ---- how many there are

-- how many units an MPU has
abbrev units_in : PlacedMpu → ℕ
units_in m = length m.value.units

units-counted : (n : ℕ) (ms : List PlacedMpu) → length (flat_map_from units_of n ms) ≡ sum_by units_in ms
unfolding flat_map_from units_of
units-counted n [] = refl
units-counted n (m ∷ ms) =
    let block : List PlacedUnit = units_of n m in
    let long : length block ≡ units_in m = length-map_from (λ c unit. record { mpu_place = n; in_mpu = m; unit = c; value = unit }) 0 m.value.units in
    omega (arith, length-append block (flat_map_from units_of (n + 1) ms), long, units-counted (n + 1) ms, sum_by-cons units_in m ms)

block-counted : (a : ℕ) (asset : Asset) (n : ℕ) (mpus : List Mpu) → sum_by units_in (map_from (placed_in a asset) n mpus) ≡ sum_by (λ (m : Mpu). length m.units) mpus
unfolding map_from
block-counted a asset n [] = refl
block-counted a asset n (m ∷ ms) =
    omega (arith, sum_by-cons units_in (placed_in a asset n m) (map_from (placed_in a asset) (n + 1) ms), sum_by-cons (λ (x : Mpu). length x.units) m ms, block-counted a asset (n + 1) ms)

mpus-counted : (n : ℕ) (assets : List Asset) → sum_by units_in (flat_map_from mpus_of n assets) ≡ sum_by units_of_asset assets
unfolding flat_map_from mpus_of
mpus-counted n [] = refl
mpus-counted n (a ∷ later) =
    omega (arith, sum_by-append units_in (mpus_of n a) (flat_map_from mpus_of (n + 1) later), block-counted n a 0 a.mpus, sum_by-cons units_of_asset a later, mpus-counted (n + 1) later)

pub all-counted : (programme : Programme) → length (all_units programme) ≡ sum_by units_of_asset programme.assets
unfolding all_units all_mpus
all-counted programme = units-counted 0 (all_mpus programme) ∙ mpus-counted 0 programme.assets

few-mpus : (ms : List PlacedMpu) → AllByRecursion (λ (m : PlacedMpu). 1 ≤ length m.value.units) ms → length ms ≤ sum_by units_in ms
few-mpus [] e = omega arith
few-mpus (m ∷ ms) e = omega (arith, e.0, few-mpus ms e.1, sum_by-cons units_in m ms)

mpus-few : (programme : Programme) → IsRight programme → length (all_mpus programme) ≤ length (all_units programme)
unfolding all_units
mpus-few programme right =
    omega (
      arith,
      units-counted 0 (all_mpus programme),
      few-mpus (all_mpus programme) (each-weaker (IsRightPlaced right.start (length programme.files)) (λ (m : PlacedMpu). 1 ≤ length m.value.units) (all_mpus programme) (λ m r. r.1.some) (right-mpus programme right)),
    )

-- ---- what the cast hangs on

signal-known : (programme : Programme) (start : ℕ) (signal : Signal) → IsRightSignal start programme.assets signal → NamesKnown programme signal
signal-known programme start (signals.Parameters at) r = tt
signal-known programme start (signals.Table at names) r = recursion_from_All (IsKnown programme.assets) names r.1

names-rise : (start : ℕ) (assets : List Asset) (signal : Signal) → IsRightSignal start assets signal → NamesRise signal
names-rise start assets (signals.Parameters at) r = tt
names-rise start assets (signals.Table at names) r = r.2

right-signal : (programme : Programme) (right : IsRight programme) (s : ℕ) → s < length programme.signals → IsRightSignal right.start programme.assets (signal_at programme s)
unfolding signal_at
right-signal programme right s l = right.signals s no_signal l

pub cast-right : (programme : Programme) → IsRight programme → CastIsRightFor programme
cast-right programme right =
    record {
      limit = right.limit_low;
      ids = λ a l. (right.assets a no_asset l).packet_id_some;
      one_id = λ a b la lb e. one-place (λ (x : Asset). x.packet_id) programme.assets no_asset right.ids a b la lb e;
      one_number = λ a b c l lb lc e. one-place (λ (x : Mpu). x.number) (get_or programme.assets a no_asset).mpus no_mpu (right.assets a no_asset l).numbers b c lb lc e;
      some = λ u l. (right-unit programme right u l).1.some;
      known = λ s l. signal-known programme right.start (signal_at programme s) (right-signal programme right s l);
    }

-- ---- ticks and counts

signal-tick : (start : ℕ) (assets : List Asset) (signal : Signal) → start ≤ 2 ^ 47 → IsRightSignal start assets signal → tick_of_signal signal ≤ 2 ^ 48
signal-tick start assets (signals.Parameters at) low r = omega (arith, r.1)
signal-tick start assets (signals.Table at names) low r = omega (arith, r.0.1)

pub ticks-fit : (programme : Programme) → IsRight programme → FitsTicks programme
ticks-fit programme right =
    record {
      spacing = omega (arith, right.spacing);
      signals = λ s l. signal-tick right.start programme.assets (signal_at programme s) right.start_fits (right-signal programme right s l);
      units = λ u l. omega (arith, right.start_fits, (right-unit programme right u l).1.at.1);
      times = λ m l. (right-mpu programme right m l).1.time;
      few_signals = right.few_signals;
      few_units = omega (arith, right.few_units, all-counted programme);
      few_mpus = omega (arith, right.few_units, all-counted programme, mpus-few programme right);
    }

-- ---- units

head-fits : (timed : Bool) (key : UnitKey) (priority dependency : ℕ) → HasKeyOf timed priority dependency key → priority < 2 ^ 8 → dependency < 2 ^ 8 → HeadFits timed (record { key = key; priority = priority; dependency = dependency })
head-fits true (keys.Timed a b c) priority dependency k p d = record { key = k; ranks = (p, d) }
head-fits true (keys.Item i) priority dependency k p d = absurd k
head-fits false (keys.Timed a b c) priority dependency k p d = absurd k
head-fits false (keys.Item i) priority dependency k p d = record { key = k.0; ranks = (k.1, k.2) }

unit-fits : (programme : Programme) (start : ℕ) (x : PlacedUnit) → start ≤ 2 ^ 47 → IsRightPlacedUnit start (length programme.files) x → FitsUnit programme x
unit-fits programme start x low r =
    record {
      head = head-fits x.in_mpu.in_asset.timed x.value.key x.value.priority x.value.dependency r.1.key r.1.priority r.1.dependency;
      mpu = r.0.1.number;
      some = r.1.some;
      bytes = r.1.length;
      from = r.1.from;
      at = omega (arith, low, r.1.at.1);
      packet_id = r.0.0.packet_id;
      file = r.0.0.file;
    }

-- ---- tables

few-aus : (timed : Bool) (n : ℕ) → FitsAus timed n → n ≤ 60
few-aus true n f = f
few-aus false n f = omega (arith, f)

table-fits : (start files : ℕ) (m : PlacedMpu) → IsRightPlaced start files m → HasTimes m → FitsTable m
table-fits start files m r times =
    record {
      number = r.1.number;
      time = r.1.time;
      offset = r.1.decoding_offset;
      timescale = (r.0.timescale_some, r.0.timescale);
      few = few-aus m.in_asset.timed (length m.value.aus) r.1.few;
      aus = All-weaker IsRightAu (λ (a : Au). (a.dts_pts < 2 ^ 16) × (a.pts < 2 ^ 16)) (λ a i. (i.dts_pts, i.pts)) m.value.aus r.1.aus;
      times = times;
    }

kind-fits : (kind : ℕ) → IsKind kind → kind < 2 ^ 32
kind-fits kind k = omega (arith, k.0.1)

pub fields-fit : (programme : Programme) → IsRight programme → refusal programme ≡ None → FitsFields programme
unfolding mpu_at
fields-fit programme right none =
    record {
      package_id = omega (arith, right.package_id);
      assets = omega (arith, right.assets_few);
      each = All-weaker (IsRightAsset right.start (length programme.files)) (λ (a : Asset). (length a.id < 2 ^ 8) × (a.kind < 2 ^ 32) × (a.packet_id < 2 ^ 16)) (λ a r. (omega (arith, r.id), kind-fits a.kind r.kind, r.packet_id)) programme.assets right.assets;
      mpus = λ m l. table-fits right.start (length programme.files) (mpu_at programme m) (right-mpu programme right m l) (each-at HasTimes (all_mpus programme) m no_placed_mpu (all-timed programme none) l);
    }

pub right-programmes-fit : RightProgrammesFit
right-programmes-fit =
    record {
      right = cast-right;
      ticks = ticks-fit;
      units = λ programme right u l. unit-fits programme right.start (unit_at programme u) right.start_fits (right-unit programme right u l);
      rise = λ programme right s l. names-rise right.start programme.assets (signal_at programme s) (right-signal programme right s l);
      fields = fields-fit;
    }
