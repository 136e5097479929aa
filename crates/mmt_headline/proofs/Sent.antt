-- Each packet of the cast of a sendable programme is sent as the cast says.
use Rattle.mmt_headline.proofs.Alike.{written-alike}
use Rattle.mmt_headline.proofs.Sound.{CanBeSent, IsPlanned, UnitIsSound, planned, planned-messages, planned-sound}
use Rattle.std.proofs.Common.{◌≡◌, ℕ, ◌+◌, ◌-◌, ◌*◌, ◌<◌, ◌≤◌, ◌^◌, Bool, true, false, ◌==◌, cond, min, List, get_or, map, length, arith, refl, sym, ap, subst, ◌∙◌}
use Rattle.std.specs.List.{AllByRecursion, sum_by}
use Rattle.std.proofs.lemmas.Bool.{eqb-true}
use Rattle.mmt_cast.specs.Casting.{cast_of, with_number}
use Rattle.mmt_frag.specs.Cuts.{part_bytes, part_length, parts}
use Rattle.mmt_cast.specs.Placing.{PlacedUnit, all_units, entry_of_mpu}
use Rattle.mmt_cast.specs.Right.{IsMessage, contents_of, signal_at, unit_at, unit_bytes}
use Rattle.mmt_cast.specs.Sending.{Sending, carried, header_length, id_of, packet_count, packet_of, payload_length}
use Rattle.mmt_cast.proofs.Found.{each-sent, numbers-fit}
use Rattle.mmt_cast.proofs.Listing.{each-at}
use Rattle.mmt_frag.proofs.PartsJoined.{parts-enough}
use Rattle.mmt_cast.proofs.Reading.{entry-of-unit}
use Rattle.mmt_cast.proofs.Refusals.{few-packets}
use Rattle.mmt_cast.proofs.Rightness.{IsRightSending}
use Rattle.mmt_cast.proofs.SentIn.{right-sending}
use Rattle.mmt_sent.specs.Messages.{message_bytes}
use Rattle.mmt_model.specs.Carrying.{copy_place, entry_of_unit, numbers, role, sent_unit, table_copy}
use Rattle.mmt_model.specs.Entries.{Entry}
use Rattle.mmt_model.specs.Packets.{DataUnit}
use Rattle.mmt_model.specs.Survival.{no_packet}
use Rattle.mmt_model.specs.declared.casts.Carries.{Carries}
use Rattle.mmt_model.specs.declared.casts.Sent.{Sent}
use Rattle.mmt_model.specs.declared.programmes.Programme.{Programme}
use Rattle.mmt_mpu.specs.Spelling.{head_length}
use Rattle.mmt_naming.specs.Findings.{names_in}
use Rattle.mmt_pace.proofs.Alike.{each-alike}
use Rattle.mmt_sent.specs.Payloads.{CanBeWritten, Written, left, length_of, written}
use Rattle.mmt_headline.specs.Heard.{HasItsId}
use Rattle.mmt_sent.specs.Stream.{contents_sent}
use Rattle.mmt_headline.specs.Programmes.{CastsAreSent}
use Rattle.mmt_headline.proofs.Units.{own_size, units_from, data-long, group-can, group-data, group-heads, group-long, group-sizes, head-fits, head-small, header-same, one-can, part-long, size_of, sound-at, timed-is}
use Rattle.mmt_model.specs.declared.casts.Carries.TheVariants as carries
use Rattle.mmt_model.specs.declared.programmes.Signal.TheVariants as signals

-- a payload can be written, goes with a packet id, and has a length
pub record Goes (w : Written) (packet_id len : ℕ) : Type 0 where
  pub can : CanBeWritten w
  pub id : HasItsId w packet_id
  pub long : len ≡ length_of w
  pub short : len < 65000

-- a packet goes with what it carries
abbrev pub GoesAs : Programme → (ℕ → List ℕ) → Carries → ℕ → ℕ → Type 0
GoesAs programme files c packet_id len = Goes (written (cast_of programme) (contents_sent programme files) c) packet_id len

left-small : (k count : ℕ) → left k count < 2 ^ 8
left-small k count = omega arith

part-small : (l limit k : ℕ) → part_length l limit k ≤ limit
unfolding part_length
part-small l limit k = omega arith

-- the one part of a message or unit
only-part : (l limit k : ℕ) → 1 ≤ limit → (parts l limit == 1) ≡ true → k < parts l limit → part_length l limit k ≡ l
unfolding part_length
only-part l limit k some one below =
    let is : parts l limit ≡ 1 = eqb-true (parts l limit) 1 one in
    let enough : l ≤ parts l limit * limit = parts-enough l limit some in
    let all : l ≤ 1 * limit = subst (λ (n : ℕ). l ≤ n * limit) is enough in
    let first : k ≡ 0 = omega arith in
    let z : k * limit ≡ 0 = ap (λ (n : ℕ). n * limit) first ∙ omega arith in
    ap (λ (n : ℕ). min limit (l - n)) z ∙ omega arith

-- ---- messages

message-goes : (programme : Programme) (files : ℕ → List ℕ) (s k : ℕ) (l : ℕ) → length (message_bytes programme s) ≡ l → length ((contents_sent programme files).message_part s k) ≡ part_length l programme.limit k
unfolding contents_of
message-goes programme files s k l e = part-long programme.limit k (message_bytes programme s) ∙ ap (λ (n : ℕ). part_length n programme.limit k) e

parameters-go : (programme : Programme) (files : ℕ → List ℕ) (s : ℕ) → 64 ≤ programme.limit → length (message_bytes programme s) ≡ 17 → GoesAs programme files (carries.Parameters s) 0 19
unfolding written part_length
parameters-go programme files s limit l =
    let long : length ((contents_sent programme files).message_part s 0) ≡ part_length 17 programme.limit 0 = message-goes programme files s 0 17 l in
    record { can = omega arith; id = refl; long = omega (arith, long); short = omega arith }

whole-table : (programme : Programme) (files : ℕ → List ℕ) (s k bytes : ℕ) → 64 ≤ programme.limit → programme.limit ≤ 60000 → length (message_bytes programme s) ≡ bytes → k < parts bytes programme.limit → (parts bytes programme.limit == 1) ≡ true
    → GoesAs programme files (carries.Table s) 0 (2 + part_length bytes programme.limit k)
unfolding written
whole-table programme files s k bytes some most l below one =
    let here : part_length bytes programme.limit k ≡ bytes = only-part bytes programme.limit k (omega arith) one below in
    let is : parts bytes programme.limit ≡ 1 = eqb-true (parts bytes programme.limit) 1 one in
    let first : part_length bytes programme.limit 0 ≡ bytes = only-part bytes programme.limit 0 (omega arith) one (omega arith) in
    let long : length ((contents_sent programme files).message_part s 0) ≡ part_length bytes programme.limit 0 = message-goes programme files s 0 bytes l in
    record { can = omega arith; id = refl; long = omega (arith, here, first, long); short = omega (arith, part-small bytes programme.limit k) }

part-table : (programme : Programme) (files : ℕ → List ℕ) (s k bytes : ℕ) → programme.limit ≤ 60000 → length (message_bytes programme s) ≡ bytes
    → GoesAs programme files (carries.TablePart s k) 0 (2 + part_length bytes programme.limit k)
unfolding written
part-table programme files s k bytes most l =
    let long : length ((contents_sent programme files).message_part s k) ≡ part_length bytes programme.limit k = message-goes programme files s k bytes l in
    record {
      can = left-small k (table_copy (cast_of programme) (copy_place (cast_of programme).copies s)).count;
      id = refl;
      long = omega (arith, long);
      short = omega (arith, part-small bytes programme.limit k);
    }

table-goes : (programme : Programme) (files : ℕ → List ℕ) (s k bytes : ℕ) → 64 ≤ programme.limit → programme.limit ≤ 60000 → length (message_bytes programme s) ≡ bytes → k < parts bytes programme.limit
    → GoesAs programme files (cond (parts bytes programme.limit == 1) (carries.Table s) (carries.TablePart s k)) 0 (2 + part_length bytes programme.limit k)
table-goes programme files s k bytes some most l below = go (parts bytes programme.limit == 1) refl
  where
    go : (t : Bool) → (parts bytes programme.limit == 1) ≡ t → GoesAs programme files (cond t (carries.Table s) (carries.TablePart s k)) 0 (2 + part_length bytes programme.limit k)
    go true one = whole-table programme files s k bytes some most l below one
    go false more = part-table programme files s k bytes most l

-- ---- units

number-is : (x : PlacedUnit) → x.in_mpu.value.number < 2 ^ 32 → (entry_of_mpu x.in_mpu).mpu < 2 ^ 32
unfolding entry_of_mpu
number-is x lt = lt

entry-number : (programme : Programme) (files : ℕ → List ℕ) (u : ℕ) → u < length (all_units programme) → UnitIsSound files (unit_at programme u) → (entry_of_unit (cast_of programme) (contents_sent programme files) u).mpu < 2 ^ 32
entry-number programme files u l s = subst (λ (e : Entry). e.mpu < 2 ^ 32) (sym (entry-of-unit programme files (message_bytes programme) u l)) (number-is (unit_at programme u) s.mpu)

whole-unit : (programme : Programme) (files : ℕ → List ℕ) (u k : ℕ) → CanBeSent programme files → 64 ≤ programme.limit → u < length (all_units programme) → k < parts (unit_at programme u).value.length programme.limit
    → (parts (unit_at programme u).value.length programme.limit == 1) ≡ true
    → GoesAs programme files (carries.Whole u) (unit_at programme u).in_mpu.in_asset.packet_id (8 + header_length (unit_at programme u) + part_length (unit_at programme u).value.length programme.limit k)
unfolding written
whole-unit programme files u k can some l below one =
    let x : PlacedUnit = unit_at programme u in
    let limit : ℕ = programme.limit in
    let s : UnitIsSound files x = sound-at programme files can u l in
    let here : part_length x.value.length limit k ≡ x.value.length = only-part x.value.length limit k (omega arith) one below in
    let small : part_length x.value.length limit k ≤ limit = part-small x.value.length limit k in
    let most : limit ≤ 60000 = can.limit in
    let long : length ((contents_sent programme files).data_unit u).bytes ≡ x.value.length = data-long programme files u s in
    let head : header_length x ≡ head_length ((contents_sent programme files).timed u) = header-same x ∙ ap head_length (sym (timed-is programme files u)) in
    let least : head_length ((contents_sent programme files).timed u) ≤ 14 = head-small ((contents_sent programme files).timed u) in
    record {
      can = one-can ((contents_sent programme files).timed u) _ 0 (entry_of_unit (cast_of programme) (contents_sent programme files) u).mpu ((contents_sent programme files).data_unit u) (head-fits programme files u s) (omega arith) (entry-number programme files u l s) (omega (arith, long, here, small, most));
      id = s.packet_id;
      long = omega (arith, head, here, long);
      short = omega (arith, head, least, small, most);
    }

part-unit : (programme : Programme) (files : ℕ → List ℕ) (u k : ℕ) → CanBeSent programme files → u < length (all_units programme)
    → GoesAs programme files (carries.Fragment u k) (unit_at programme u).in_mpu.in_asset.packet_id (8 + header_length (unit_at programme u) + part_length (unit_at programme u).value.length programme.limit k)
unfolding written contents_of
part-unit programme files u k can l =
    let x : PlacedUnit = unit_at programme u in
    let limit : ℕ = programme.limit in
    let s : UnitIsSound files x = sound-at programme files can u l in
    let small : part_length x.value.length limit k ≤ limit = part-small x.value.length limit k in
    let most : limit ≤ 60000 = can.limit in
    let whole : length (unit_bytes files x) ≡ x.value.length = data-long programme files u s in
    let long : length (part_bytes limit k (unit_bytes files x)) ≡ part_length x.value.length limit k = part-long limit k (unit_bytes files x) ∙ ap (λ (n : ℕ). part_length n limit k) whole in
    let head : header_length x ≡ head_length x.in_mpu.in_asset.timed = header-same x in
    let least : head_length x.in_mpu.in_asset.timed ≤ 14 = head-small x.in_mpu.in_asset.timed in
    let part : DataUnit = record { key = x.value.key; priority = x.value.priority; dependency = x.value.dependency; bytes = part_bytes limit k (unit_bytes files x) } in
    record {
      can = one-can x.in_mpu.in_asset.timed (role k (sent_unit (cast_of programme) u).count) (left k (sent_unit (cast_of programme) u).count) (entry_of_unit (cast_of programme) (contents_sent programme files) u).mpu part
          s.head (left-small k (sent_unit (cast_of programme) u).count) (entry-number programme files u l s) (omega (arith, long, small, most));
      id = s.packet_id;
      long = omega (arith, head, long);
      short = omega (arith, head, least, small, most);
    }

unit-goes : (programme : Programme) (files : ℕ → List ℕ) (u k : ℕ) → CanBeSent programme files → 64 ≤ programme.limit → u < length (all_units programme) → k < parts (unit_at programme u).value.length programme.limit
    → GoesAs programme files (cond (parts (unit_at programme u).value.length programme.limit == 1) (carries.Whole u) (carries.Fragment u k)) (unit_at programme u).in_mpu.in_asset.packet_id
    (8 + header_length (unit_at programme u) + part_length (unit_at programme u).value.length programme.limit k)
unit-goes programme files u k can some l below = go (parts (unit_at programme u).value.length programme.limit == 1) refl
  where
    go : (t : Bool) → (parts (unit_at programme u).value.length programme.limit == 1) ≡ t → GoesAs programme files (cond t (carries.Whole u) (carries.Fragment u k)) (unit_at programme u).in_mpu.in_asset.packet_id
        (8 + header_length (unit_at programme u) + part_length (unit_at programme u).value.length programme.limit k)
    go true one = whole-unit programme files u k can some l below one
    go false more = part-unit programme files u k can l

group-goes : (programme : Programme) (files : ℕ → List ℕ) (f c : ℕ) (x : PlacedUnit) (bytes : ℕ) → CanBeSent programme files → IsRightSending programme (Sending.Group f c x bytes)
    → GoesAs programme files (carries.Group f c) x.in_mpu.in_asset.packet_id (8 + bytes)
unfolding written
group-goes programme files f c x bytes can is =
    let timed : Bool = (contents_sent programme files).timed f in
    let ds : List DataUnit = map (contents_sent programme files).data_unit (numbers f c) in
    let l : f < length (all_units programme) = omega (arith, is.0, is.1) in
    let s : UnitIsSound files (unit_at programme f) = sound-at programme files can f l in
    let whole : sum_by (size_of timed) ds ≡ sum_by own_size (units_from programme f c) = group-data programme files f c x can is.0 is.1 is.2 is.3 in
    let within : bytes ≤ programme.limit = omega (arith, is.4, group-sizes programme f c x is.0 is.1 is.2 is.3, is.5) in
    let most : programme.limit ≤ 60000 = can.limit in
    let mpu : ℕ = (entry_of_unit (cast_of programme) (contents_sent programme files) f).mpu in
    record {
      can = group-can timed mpu ds (group-heads programme files f c x can is.0 is.1 is.2 is.3) (entry-number programme files f l s) (omega (arith, whole, is.4, within, most));
      id = subst (λ (y : PlacedUnit). y.in_mpu.in_asset.packet_id < 2 ^ 16) is.2 s.packet_id;
      long = omega (arith, group-long timed mpu ds, whole, is.4);
      short = omega (arith, within, most);
    }

-- ---- each sending

is-message : (programme : Programme) (files : ℕ → List ℕ) → IsPlanned programme files → (s : ℕ) → s < length programme.signals → IsMessage programme (names_in 1) (signal_at programme s) (message_bytes programme s)
is-message programme files ok s l = planned-messages 1 programme files ok s l

goes : (programme : Programme) (files : ℕ → List ℕ) → IsPlanned programme files → (x : Sending) (k : ℕ) → IsRightSending programme x → k < packet_count programme x
    → GoesAs programme files (carried programme x k) (id_of x) (payload_length programme x k)
unfolding carried id_of payload_length packet_count
goes programme files ok (Sending.Parameters s at) k is l =
    let m : IsMessage programme (names_in 1) (signals.Parameters (record { 0 = at })) (message_bytes programme s) = subst (λ signal. IsMessage programme (names_in 1) signal (message_bytes programme s)) is.1 (is-message programme files ok s is.0) in
    parameters-go programme files s (planned-sound programme files ok).right.limit m.0
goes programme files ok (Sending.Table s at bytes) k is l =
    let m : IsMessage programme (names_in 1) (signals.Table (record { 0 = at }) is.1) (message_bytes programme s) = subst (λ signal. IsMessage programme (names_in 1) signal (message_bytes programme s)) is.2 (is-message programme files ok s is.0) in
    table-goes programme files s k bytes (planned-sound programme files ok).right.limit (planned-sound programme files ok).can.limit (m.0 ∙ sym is.3) l
goes programme files ok (Sending.Alone u x) k is l =
    subst (λ (y : PlacedUnit). k < parts y.value.length programme.limit → GoesAs programme files (cond (parts y.value.length programme.limit == 1) (carries.Whole u) (carries.Fragment u k)) y.in_mpu.in_asset.packet_id (8 + header_length y + part_length y.value.length programme.limit k))
    is.1 (λ below. unit-goes programme files u k (planned-sound programme files ok).can (planned-sound programme files ok).right.limit is.0 below) l
goes programme files ok (Sending.Group f c x bytes) k is l = group-goes programme files f c x bytes (planned-sound programme files ok).can is

-- ---- each packet

abbrev IsSentAs : Programme → (ℕ → List ℕ) → Sent → Type 0
IsSentAs programme files p = GoesAs programme files p.carries p.packet_id p.length × (p.number < 2 ^ 32)

each-packet : (programme : Programme) (files : ℕ → List ℕ) → IsPlanned programme files → AllByRecursion (IsSentAs programme files) (cast_of programme).packets
unfolding with_number packet_of
each-packet programme files ok =
    each-sent programme (IsSentAs programme files)
    (λ a b x k e below. (
      goes programme files ok x k (right-sending programme a b x e) below,
      omega (arith, numbers-fit programme a b x e, few-packets programme ok.none, below),
    ))

pub casts-sent : CastsAreSent
casts-sent programme cast files ok n l =
    let all : AllByRecursion (IsSentAs programme files) cast.packets = each-alike programme cast ok.of (IsSentAs programme files) (λ tick p h. h) (each-packet programme files (planned programme cast files ok)) in
    let p : Sent = get_or cast.packets n no_packet in
    let is = each-at (IsSentAs programme files) cast.packets n no_packet all l in
    let goes : Goes (written cast (contents_sent programme files) p.carries) p.packet_id p.length = subst (λ (w : Written). Goes w p.packet_id p.length) (sym (written-alike programme cast (contents_sent programme files) ok.of p.carries)) is.0 in
    record { can = goes.can; id = goes.id; number = is.1; long = goes.long; short = goes.short }
