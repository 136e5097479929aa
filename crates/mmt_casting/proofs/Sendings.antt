-- What is sent from a unit on, and how many packets there are.
use Rattle.std.proofs.Common.{◌≡◌, ℕ, ◌+◌, ◌-◌, ◌<◌, ◌≤◌, suc, zero, Bool, true, false, List, [], ◌∷◌, ◌++◌, length, get_or, drop, arith, refl, ap, ap₂, sym, ◌∙◌}
use Rattle.std.specs.List.{sum_by}
use Rattle.std.proofs.lemmas.List.{at_drop_more, drop_all, drop-drop, length-append, length-map}
use Rattle.std.proofs.lemmas.List.Elements.{recursion_from_All}
use Rattle.std.proofs.lemmas.List.Sums.{sum_by-append, sum_by-cons}
use Rattle.mmt_cast.proofs.FromRight.{ticks-fit}
use Rattle.mmt_cast.proofs.Grouping.{group-some}
use Rattle.mmt_cast.proofs.Listing.{length-map_from}
use Rattle.mmt_cast.proofs.Numbering.{flat, length-numbered}
use Rattle.mmt_cast.specs.Casting.{planned}
use Rattle.mmt_cast.specs.Placing.{PlacedUnit, all_mpus, all_units, flat_map_from, map_from, mpus_of, units_of}
use Rattle.mmt_cast.specs.Right.{no_mpu, no_placed_unit, unit_at}
use Rattle.mmt_cast.specs.Sending.{Sending, group_size, packet_count, packet_of, packets_of, sending_of_signal, sending_of_units, sendings, sendings_of_units}
use Rattle.mmt_casting.proofs.Spots.{beyond, flat-long}
use Rattle.mmt_casting.specs.Ends.{AssetFits, FewAus, ProgrammeFits}
use Rattle.mmt_casting.specs.Places.{IsGroup, IsSpot, mpu_in, mpus_from, placed_in, sending_at, sendings_from, size_at, unit_in, units_from}
use Rattle.mmt_casting.specs.declared.groups.Group.{Group}
use Rattle.mmt_casting.specs.declared.places.Spot.{Spot}
use Rattle.mmt_frag.proofs.PartsJoined.{length-numbers}
use Rattle.mmt_model.specs.Carrying.{numbers}
use Rattle.mmt_model.specs.Right.{FitsAus, IsRight, no_asset}
use Rattle.mmt_model.specs.declared.programmes.Asset.{Asset}
use Rattle.mmt_model.specs.declared.programmes.Programme.{Programme}
use Rattle.mmt_model.specs.declared.programmes.Signal.{Signal}

-- ---- from a unit on

skip : (programme : Programme) (k u : ℕ) (xs : List PlacedUnit) → sendings_of_units programme k u xs ≡ sendings_of_units programme 0 (u + k) (drop k xs)
unfolding sendings_of_units
skip programme zero u [] = refl
skip programme (suc k) u [] = refl
skip programme zero u (x ∷ xs) = let z : u ≡ u + 0 = omega arith in ap (λ v. sendings_of_units programme 0 v (x ∷ xs)) z
skip programme (suc k) u (x ∷ xs) = let s : u + 1 + k ≡ u + suc k = omega arith in skip programme k (u + 1) xs ∙ ap (λ v. sendings_of_units programme 0 v (drop k xs)) s

pub sendings-step : (programme : Programme) (u : ℕ) → u < length (all_units programme) → sendings_from programme u ≡ sending_at programme u ∷ sendings_from programme (u + size_at programme u)
unfolding sendings_from sending_at size_at sendings_of_units unit_at
sendings-step programme u l =
    let x : PlacedUnit = get_or (all_units programme) u no_placed_unit in
    let rest : List PlacedUnit = drop (u + 1) (all_units programme) in
    let n : ℕ = group_size programme x rest in
    let s : u + 1 + (n - 1) ≡ u + n = omega (arith, group-some programme x rest) in
    at_drop_more (sendings_of_units programme 0 u) (all_units programme) u no_placed_unit l
    ∙ ap (λ ys. sending_of_units u n x rest ∷ ys)
    (skip programme (n - 1) (u + 1) rest ∙ (ap (sendings_of_units programme 0 (u + 1 + (n - 1))) (drop-drop (n - 1) (u + 1) (all_units programme)) ∙ ap (λ v. sendings_of_units programme 0 v (drop v (all_units programme))) s))

-- after the last asset there are no units
pub end-spot : (programme : Programme) (s : Spot) → IsSpot programme s → length programme.assets ≤ s.asset → drop s.unit_place (all_units programme) ≡ []
unfolding units_from mpus_from flat_map_from map_from
end-spot programme s is ge =
    is.left
    ∙ (ap₂ (λ (x : Asset) (xs : List Asset). map_from (unit_in s.mpu_place (placed_in s.asset x s.mpu (mpu_in x s.mpu))) s.unit (drop s.unit (mpu_in x s.mpu).units) ++ flat_map_from units_of (s.mpu_place + 1) (map_from (placed_in s.asset x) (s.mpu + 1) (drop (s.mpu + 1) x.mpus) ++ flat_map_from mpus_of (s.asset + 1) xs))
    (beyond programme.assets s.asset no_asset ge) (drop_all (s.asset + 1) programme.assets (omega arith))
    ∙ ap₂ (λ us ms. map_from (unit_in s.mpu_place (placed_in s.asset no_asset s.mpu no_mpu)) s.unit us ++ flat_map_from units_of (s.mpu_place + 1) (map_from (placed_in s.asset no_asset) (s.mpu + 1) ms ++ []))
    (drop_all s.unit [] (omega arith)) (drop_all (s.mpu + 1) [] (omega arith)))

pub sendings-end : (programme : Programme) (s : Spot) → IsSpot programme s → length programme.assets ≤ s.asset → sendings_from programme s.unit_place ≡ []
unfolding sendings_from sendings_of_units
sendings-end programme s is ge = ap (sendings_of_units programme 0 s.unit_place) (end-spot programme s is ge)

-- ---- counting

-- the packets of several sendings
abbrev pub packets_in : Programme → List Sending → ℕ
packets_in programme xs = sum_by (packet_count programme) xs

flat-counted : (programme : Programme) (xs : List Sending) → length (flat programme xs) ≡ packets_in programme xs
unfolding packets_of
flat-counted programme [] = refl
flat-counted programme (x ∷ xs) =
    omega (arith, length-append (packets_of programme x) (flat programme xs), length-map (numbers 0 (packet_count programme x)) (packet_of programme x), length-numbers 0 (packet_count programme x), flat-counted programme xs, sum_by-cons (packet_count programme) x xs)

-- the sendings of the signalling messages
abbrev pub sendings_of_signals : Programme → List Sending
sendings_of_signals programme = map_from (sending_of_signal programme) 0 programme.signals

pub all-counted : (programme : Programme) (a b : ℕ) → a ≡ packets_in programme (sendings_of_signals programme) → b ≡ packets_in programme (sendings_from programme 0) → a + b ≡ length (planned programme)
unfolding planned sendings sendings_from
all-counted programme a b ea eb =
    omega (arith, ea, eb, length-numbered [] (flat programme (sendings programme)), flat-counted programme (sendings programme), sum_by-append (packet_count programme) (sendings_of_signals programme) (sendings_of_units programme 0 0 (all_units programme)))

pub units-counted : (programme : Programme) (s : Spot) (g : Group) (k : ℕ) → s.unit_place < length (all_units programme) → IsGroup programme s g → k ≡ packet_count programme (sending_at programme s.unit_place)
    → packets_in programme (sendings_from programme s.unit_place) ≡ k + packets_in programme (sendings_from programme (s.unit_place + g.size))
units-counted programme s g k l is e =
    ap (packets_in programme) (sendings-step programme s.unit_place l)
    ∙ (sum_by-cons (packet_count programme) (sending_at programme s.unit_place) (sendings_from programme (s.unit_place + size_at programme s.unit_place))
    ∙ ap₂ (λ m n. m + packets_in programme (sendings_from programme (s.unit_place + n))) (sym e) (sym is.size))

pub signals-counted : (programme : Programme) (s : ℕ) (xs : List Signal) (d : Signal) → s < length xs
    → packets_in programme (map_from (sending_of_signal programme) s (drop s xs)) ≡ packet_count programme (sending_of_signal programme s (get_or xs s d)) + packets_in programme (map_from (sending_of_signal programme) (s + 1) (drop (s + 1) xs))
unfolding map_from
signals-counted programme s xs d l =
    at_drop_more (λ ys. packets_in programme (map_from (sending_of_signal programme) s ys)) xs s d l
    ∙ sum_by-cons (packet_count programme) (sending_of_signal programme s (get_or xs s d)) (map_from (sending_of_signal programme) (s + 1) (drop (s + 1) xs))

pub signals-done : (programme : Programme) (s : ℕ) (xs : List Signal) → length xs ≤ s → packets_in programme (map_from (sending_of_signal programme) s (drop s xs)) ≡ 0
unfolding map_from
signals-done programme s xs l = ap (λ ys. packets_in programme (map_from (sending_of_signal programme) s ys)) (drop_all s xs l)

-- ---- what a right programme has

pub few-aus : (t : Bool) (n : ℕ) → FitsAus t n → n ≤ 60
few-aus true n f = f
few-aus false n f = omega arith

pub programme-fits : (programme : Programme) → IsRight programme → ProgrammeFits programme
unfolding all_mpus mpus_of
programme-fits programme right =
    record {
      package_id = omega (arith, right.package_id);
      assets = omega (arith, right.assets_few);
      each = recursion_from_All AssetFits programme.assets (λ i d l. (let r = right.assets i d l in let x : Asset = get_or programme.assets i d in record {
        id = omega (arith, r.id);
        timescale = r.timescale_some;
        mpus = omega (arith, (ticks-fit programme right).few_mpus, flat-long mpus_of 0 programme.assets i d l, length-map_from (placed_in (0 + i) x) 0 x.mpus);
        aus = recursion_from_All FewAus x.mpus (λ j e k. few-aus x.timed (length (get_or x.mpus j e).aus) (r.mpus j e k).few);
      }));
    }
