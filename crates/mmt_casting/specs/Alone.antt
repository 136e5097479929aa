-- The packets of a unit that is sent by itself, by what they hang on.
use Rattle.std.specs.Prelude.{ℕ, ◌+◌, ◌*◌, ◌&&◌, ◌==◌, List, map, if◌then◌else◌}
use Rattle.mmt_frag.specs.Cuts.{part_length, parts}
use Rattle.mmt_casting.specs.declared.alone.Place.{Place}
use Rattle.mmt_model.specs.Carrying.{numbers}
use Rattle.mmt_model.specs.declared.casts.Carries.TheVariants as carries
use Rattle.mmt_model.specs.declared.casts.Sent.{Sent}
use Rattle.mmt_model.specs.declared.programmes.Asset.{Asset}
use Rattle.mmt_model.specs.declared.programmes.Programme.{Programme}
use Rattle.mmt_model.specs.declared.programmes.Unit.{Unit as PlannedUnit}

-- packet number k of a unit that is sent by itself
unfoldable pub alone_packet : Programme → Asset → PlannedUnit → Place → ℕ → Sent
alone_packet programme asset unit place k =
    record {
      at = record { 0 = unit.at.0 + k * programme.spacing };
      packet_id = asset.packet_id;
      number = place.number + k;
      rap = (place.unit == 0) && (k == 0);
      length = 8 + (if asset.timed then 14 else 4) + part_length unit.length programme.limit k;
      carries = if parts unit.length programme.limit == 1 then carries.Whole place.u else carries.Fragment place.u k;
    }

-- all packets of a unit that is sent by itself
abbrev pub alone_packets : Programme → Asset → PlannedUnit → Place → List Sent
alone_packets programme asset unit place = map (alone_packet programme asset unit place) (numbers 0 (parts unit.length programme.limit))
