-- What a programme that can be sent has, where the bytes of its packets ask for it.
use Rattle.std.proofs.Common.{◌≡◌, ℕ, ◌+◌, ◌^◌, ◌<◌, ◌≤◌, List, length, None, arith, subst}
use Rattle.std.proofs.lemmas.List.Elements.{recursion_from_All}
use Rattle.mmt_cast.proofs.FromRight.{right-programmes-fit}
use Rattle.mmt_cast.proofs.Listing.{each-at}
use Rattle.mmt_cast.specs.FromRight.{FitsUnit}
use Rattle.mmt_cast.specs.Placing.{PlacedUnit, all_units}
use Rattle.mmt_cast.specs.Refusing.{refusal}
use Rattle.mmt_cast.specs.Right.{IsMessage, IsRight, no_placed_unit, signal_at, unit_at}
use Rattle.mmt_messages.proofs.Fitting.{right-bytes}
use Rattle.mmt_messages.proofs.Found.{messages-found}
use Rattle.mmt_messages.proofs.Headline.{cast-values}
use Rattle.mmt_messages.proofs.Messages.{messages-right, values-right}
use Rattle.mmt_messages.specs.Found.{IsFound}
use Rattle.mmt_messages.specs.Sent.{FitsBytes}
use Rattle.mmt_model.specs.Admission.{fault_of_params}
use Rattle.mmt_model.specs.Carrying.{IsCastOf}
use Rattle.mmt_model.specs.Right.{IsRight as IsRightProgramme}
use Rattle.mmt_model.specs.declared.casts.Cast.{Cast}
use Rattle.mmt_model.specs.declared.programmes.Params.{Params}
use Rattle.mmt_model.specs.declared.programmes.Programme.{Programme}
use Rattle.mmt_mpu.specs.Spelling.{HeadFits}
use Rattle.mmt_naming.specs.Findings.{names_in}
use Rattle.mmt_pace.proofs.Alike.{params-alike}
use Rattle.mmt_pace.proofs.Delivered.{its-right}
use Rattle.mmt_sent.specs.Messages.{message_bytes}
use Rattle.mmt_sent.specs.Stream.{addressing_of, contents_sent}
use Rattle.mmt_sig.specs.Message.{AreRight}
use Rattle.mmt_headline.specs.Heard.{AddressFits}
use Rattle.mmt_headline.specs.Programmes.{HoldUnits, IsSendable}

-- a unit's header has a spelling, its packet id and its MPU's number fit their bits, and its bytes are in its file
pub record UnitIsSound (files : ℕ → List ℕ) (x : PlacedUnit) : Type 0 where
  pub head : HeadFits x.in_mpu.in_asset.timed (record { key = x.value.key; priority = x.value.priority; dependency = x.value.dependency })
  pub packet_id : x.in_mpu.in_asset.packet_id < 2 ^ 16
  pub mpu : x.in_mpu.value.number < 2 ^ 32
  pub there : x.value.from + x.value.length ≤ length (files x.in_mpu.in_asset.file)

-- a packet has at most 60,000 bytes of a unit or a message, the units are sound, and the addresses fit
pub record CanBeSent (programme : Programme) (files : ℕ → List ℕ) : Type 0 where
  pub limit : programme.limit ≤ 60000
  pub units : (u : ℕ) → u < length (all_units programme) → UnitIsSound files (unit_at programme u)
  pub address : AddressFits (addressing_of programme)

-- all that is asked of a programme
pub record IsSound (programme : Programme) (files : ℕ → List ℕ) : Type 0 where
  pub right : IsRight programme
  pub fits : FitsBytes programme
  pub can : CanBeSent programme files
  pub params : fault_of_params programme.params ≡ None
  pub values : AreRight programme.params

in-file : (programme : Programme) (files : ℕ → List ℕ) → HoldUnits files programme → (u : ℕ) → u < length (all_units programme) → (unit_at programme u).value.from + (unit_at programme u).value.length ≤ length (files (unit_at programme u).in_mpu.in_asset.file)
unfolding unit_at
in-file programme files held u l =
    each-at (λ (x : PlacedUnit). x.value.from + x.value.length ≤ length (files x.in_mpu.in_asset.file)) (all_units programme) u no_placed_unit (recursion_from_All (λ (x : PlacedUnit). x.value.from + x.value.length ≤ length (files x.in_mpu.in_asset.file)) (all_units programme) held) l

-- what can be sent of a programme but for its cast
pub record IsPlanned (programme : Programme) (files : ℕ → List ℕ) : Type 0 where
  pub right : IsRightProgramme programme
  pub none : refusal programme ≡ None
  pub params : fault_of_params programme.params ≡ None
  pub held : HoldUnits files programme

pub planned : (programme : Programme) (cast : Cast) (files : ℕ → List ℕ) → IsSendable programme cast files → IsPlanned programme files
planned programme cast files ok = record { right = ok.right; none = ok.none; params = subst (λ (p : Params). fault_of_params p ≡ None) (params-alike programme cast ok.of) (cast-values cast ok.admitted); held = ok.held }

pub planned-sound : (programme : Programme) (files : ℕ → List ℕ) → IsPlanned programme files → IsSound programme files
planned-sound programme files ok =
    let right = ok.right in
    let flow = right.flow in
    let source = right.source in
    record {
      right = right-programmes-fit.right programme right;
      fits = right-bytes programme right ok.none;
      can = record {
        limit = right.limit;
        units = λ u l. (
            let f : FitsUnit programme (unit_at programme u) = right-programmes-fit.units programme right u l in
            record { head = f.head; packet_id = f.packet_id; mpu = f.mpu; there = in-file programme files ok.held u l });
        address = record {
          header = record {
            traffic_class = omega arith;
            flow_label = omega arith;
            hop_limit = omega arith;
            source = source.address;
            destination = flow.address;
            source_port = source.port;
            destination_port = flow.port;
          };
          context = omega (arith, right.context);
        };
      };
      params = ok.params;
      values = values-right programme.params ok.params;
    }

-- its messages are such as its cast asks for, and all that is found in them are their names
pub planned-messages : (timescale : ℕ) (programme : Programme) (files : ℕ → List ℕ) → IsPlanned programme files → (s : ℕ) → s < length programme.signals → IsMessage programme (names_in timescale) (signal_at programme s) (message_bytes programme s)
planned-messages timescale programme files ok s l = let is = planned-sound programme files ok in messages-right programme timescale is.right is.fits ok.none is.params s l

pub planned-found : (timescale : ℕ) (programme : Programme) (files : ℕ → List ℕ) → IsPlanned programme files → (s : ℕ) → s < length programme.signals → IsFound programme timescale s
planned-found timescale programme files ok s l = let is = planned-sound programme files ok in messages-found programme timescale is.right is.fits ok.none is.params s l

-- so it is of one that can be sent
pub sound : (programme : Programme) (cast : Cast) (files : ℕ → List ℕ) → IsSendable programme cast files → IsSound programme files
sound programme cast files ok = planned-sound programme files (planned programme cast files ok)

pub messages-sent : (timescale : ℕ) (programme : Programme) (cast : Cast) (files : ℕ → List ℕ) → IsSendable programme cast files → (s : ℕ) → s < length programme.signals → IsMessage programme (names_in timescale) (signal_at programme s) (message_bytes programme s)
messages-sent timescale programme cast files ok s l = planned-messages timescale programme files (planned programme cast files ok) s l

pub found-sent : (timescale : ℕ) (programme : Programme) (cast : Cast) (files : ℕ → List ℕ) → IsSendable programme cast files → (s : ℕ) → s < length programme.signals → IsFound programme timescale s
found-sent timescale programme cast files ok s l = planned-found timescale programme files (planned programme cast files ok) s l

-- a cast of it goes with what it carries
pub casts-carry : (timescale : ℕ) (programme : Programme) (cast : Cast) (files : ℕ → List ℕ) → IsSendable programme cast files → IsCastOf cast (contents_sent programme files) (names_in timescale)
casts-carry timescale programme cast files ok = let is = sound programme cast files ok in its-right programme cast files (message_bytes programme) (names_in timescale) ok.of is.right (messages-sent timescale programme cast files ok) ok.none
