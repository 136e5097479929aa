-- The definition of a plan, computed on the text of one: a small programme of one asset with one MPU of two units.
use Rattle.std.proofs.Common.{◌≡◌, ℕ, true, List, [], ◌∷◌, codes, Some, Ok, refl}
use Rattle.std.specs.Prelude.{⊤}
use Rattle.std.specs.Fmt.{digits}
use Rattle.std.specs.Str.{is_utf8, chars}
use Rattle.mmt_command.specs.Flows.{hex_text}
use Rattle.mmt_model.specs.declared.keys.UnitKey.TheVariants.{Timed}
use Rattle.mmt_model.specs.declared.programmes.Programme.{Programme}
use Rattle.mmt_model.specs.declared.programmes.Signal.TheVariants.{Parameters, Table}
use Rattle.serde_json.proofs.OnLiterals.{serde_json_on_literals}
use Rattle.mmt_plan.specs.Assets.{kind_at, asset_of}
use Rattle.mmt_plan.specs.Aus.{as_pair_in, au_at}
use Rattle.mmt_plan.specs.Flows.{flow_in, flow_at}
use Rattle.mmt_plan.specs.Members.{is_object_at, member_at, number_at, text_at, boolean_at, array_at, array_from_at, list_at, list_from_at, no_other_at}
use Rattle.mmt_plan.specs.Mpus.{mpu_of}
use Rattle.mmt_plan.specs.Plan.{bytes_of, json_in, json_of, programme_in, plan}
use Rattle.mmt_plan.specs.Reading.{each, each_with}
use Rattle.mmt_plan.specs.Signals.{pair_at, names_at, is_table_at, parameters_of, table_of, signal_of}
use Rattle.mmt_plan.specs.Tops.{sending_at, params_at, assets_at, programme_at}
use Rattle.mmt_plan.specs.Twice.{first_twice}
use Rattle.mmt_plan.specs.Units.{timed_at, item_at, unit_at}
use Rattle.mmt_plan.specs.Wholes.{are_ids_once, are_numbers_once, are_named, each_checked, agreeing}

-- what an answer unfolds to compute a plan from its text
unfoldable pub plan_on_literals : ⊤
unfolding serde_json_on_literals digits is_utf8 chars hex_text kind_at asset_of as_pair_in au_at flow_in flow_at is_object_at member_at number_at text_at boolean_at array_at array_from_at list_at list_from_at no_other_at mpu_of bytes_of json_in json_of programme_in plan each each_with pair_at names_at is_table_at parameters_of table_of signal_of sending_at params_at assets_at programme_at first_twice timed_at item_at unit_at are_ids_once are_numbers_once are_named each_checked agreeing
plan_on_literals = tt

abbrev pub text : List ℕ
text = codes "{\"flow\":\"ff0e0000000000000000000000000101:51300\",\"source\":\"20010db8000000000000000000000001:51300\",\"context\":1,\"full_every\":3,\"limit\":1400,\"spacing\":10,\"package\":\"p1\",\"bound\":4000,\"window\":65536,\"delay\":1000,\"start\":65536000,\"signalling\":[{\"at\":0,\"kind\":\"parameters\"},{\"at\":100,\"kind\":\"table\",\"names\":[[0,0]]}],\"assets\":[{\"packet_id\":256,\"id\":\"v\",\"type\":\"hev1\",\"timed\":true,\"timescale\":60000,\"file\":\"v.bin\",\"mpus\":[{\"number\":7,\"time\":4297114779648,\"decoding_offset\":1001,\"aus\":[[1001,1001],[2002,0]],\"units\":[{\"at\":200,\"from\":0,\"length\":3000,\"movie_fragment\":1,\"sample\":1,\"offset\":0,\"priority\":0,\"dependency\":0},{\"at\":300,\"from\":3000,\"length\":500,\"movie_fragment\":1,\"sample\":2,\"offset\":0,\"priority\":0,\"dependency\":0}]}]}]}"

abbrev pub programme : Programme
programme = record {
  flow = record { address = 0xff0e0000000000000000000000000101; port = 51300 };
  source = record { address = 0x20010db8000000000000000000000001; port = 51300 };
  context = 1;
  full_every = 3;
  limit = 1400;
  spacing = 10;
  «package» = codes "p1";
  params = record { bound = 4000; window = 65536; delay = 1000 };
  signals = Parameters (record { 0 = 65536000 }) ∷ Table (record { 0 = 65536100 }) ((0, 0) ∷ []) ∷ [];
  assets = record {
    packet_id = 256;
    id = codes "v";
    kind = 0x68657631;
    timed = true;
    timescale = 60000;
    file = 0;
    mpus = record {
      number = 7;
      time = record { 0 = 4297114779648 };
      decoding_offset = 1001;
      aus = record { dts_pts = 1001; pts = 1001 } ∷ record { dts_pts = 2002; pts = 0 } ∷ [];
      units = record { at = record { 0 = 65536200 }; from = 0; length = 3000; key = Timed 1 1 0; priority = 0; dependency = 0 }
          ∷ record { at = record { 0 = 65536300 }; from = 3000; length = 500; key = Timed 1 2 0; priority = 0; dependency = 0 } ∷ [];
    } ∷ [];
  } ∷ [];
  files = codes "v.bin" ∷ [];
}

pub reads : plan (Some text) ≡ Ok programme
unfolding plan_on_literals
reads = refl
