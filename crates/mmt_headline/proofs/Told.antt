-- What the packets of the cast of a programme say of themselves.
use Rattle.mmt_headline.proofs.Sound.{IsPlanned, planned, planned-found, planned-messages, planned-sound}
use Rattle.std.proofs.Common.{◌≡◌, ℕ, ◌<◌, ◌≤◌, Bool, true, false, ◌==◌, cond, List, [], map, length, Ok, arith, refl, sym, ap, subst, ◌∙◌}
use Rattle.std.specs.List.{AllByRecursion}
use Rattle.mmt_cast.specs.Casting.{cast_of, with_number}
use Rattle.mmt_frag.specs.Cuts.{parts}
use Rattle.mmt_cast.specs.Right.{IsMessage, signal_at}
use Rattle.mmt_cast.specs.Sending.{Sending, carried, id_of, packet_of}
use Rattle.mmt_cast.proofs.Found.{each-sent}
use Rattle.mmt_cast.proofs.Rightness.{IsRightSending}
use Rattle.mmt_cast.proofs.SentIn.{right-sending}
use Rattle.mmt_sent.specs.Messages.{message_bytes}
use Rattle.mmt_model.specs.declared.casts.Carries.{Carries}
use Rattle.mmt_model.specs.declared.casts.Cast.{Cast}
use Rattle.mmt_model.specs.declared.casts.Sent.{Sent}
use Rattle.mmt_model.specs.declared.programmes.Programme.{Programme}
use Rattle.mmt_pace.proofs.Alike.{each-alike}
use Rattle.mmt_naming.specs.Findings.{Naming, findings_in, names_in}
use Rattle.mmt_sent.specs.Messages.{message_bytes}
use Rattle.mmt_sig.specs.MessageReading.{message_of}
use Rattle.mmt_sent.specs.Stream.{contents_sent}
use Rattle.mmt_headline.specs.Programmes.{IsSendable}
use Rattle.mmt_headline.proofs.CastTuning.{one-limit, table-value, table_value, whole-message}
use Rattle.mmt_model.specs.declared.casts.Carries.TheVariants as carries
use Rattle.mmt_model.specs.declared.programmes.Signal.TheVariants as signals

-- a packet carries a table or a part of one
abbrev pub has_table : Carries → Bool
has_table (carries.Table s) = true
has_table (carries.TablePart s k) = true
has_table (carries.Parameters s) = false
has_table (carries.Whole u) = false
has_table (carries.Fragment u k) = false
has_table (carries.Group f c) = false

-- what a packet of signalling says: it has packet id 0, nothing is found in a buffer message, and a whole message that is none is a table
abbrev pub Says : Programme → (ℕ → List ℕ) → Carries → ℕ → Type 0
Says programme files (carries.Parameters s) packet_id = (packet_id ≡ 0) × ((timescale : ℕ) → findings_in timescale programme.params 0 ((contents_sent programme files).message_part s 0) ≡ [])
Says programme files (carries.Table s) packet_id = (packet_id ≡ 0) × (bytes : List ℕ) × (message_of ((contents_sent programme files).message_part s 0) ≡ Ok (table_value bytes))
Says programme files (carries.TablePart s k) packet_id = packet_id ≡ 0
Says programme files (carries.Whole u) packet_id = Unit {0}
Says programme files (carries.Fragment u k) packet_id = Unit {0}
Says programme files (carries.Group f c) packet_id = Unit {0}

parameters-say : (programme : Programme) (files : ℕ → List ℕ) (s at : ℕ) → IsPlanned programme files → s < length programme.signals → signal_at programme s ≡ signals.Parameters (record { 0 = at }) → Says programme files (carries.Parameters s) 0
parameters-say programme files s at ok l is =
    let message : (timescale : ℕ) → IsMessage programme (names_in timescale) (signals.Parameters (record { 0 = at })) (message_bytes programme s) =
    λ timescale. subst (λ signal. IsMessage programme (names_in timescale) signal (message_bytes programme s)) is (planned-messages timescale programme files ok s l) in
    let whole : (contents_sent programme files).message_part s 0 ≡ message_bytes programme s = whole-message programme files s (let long = (message 1).0 in omega (arith, long, (planned-sound programme files ok).right.limit)) in
    (refl, λ timescale. ap (findings_in timescale programme.params 0) whole ∙ ((planned-found timescale programme files ok s l).findings 0 ∙ ap (map (Naming 0)) (message timescale).1))

table-says : (programme : Programme) (files : ℕ → List ℕ) (s at : ℕ) (names : List (ℕ × ℕ)) → IsPlanned programme files → s < length programme.signals → signal_at programme s ≡ signals.Table (record { 0 = at }) names
    → length (message_bytes programme s) ≤ programme.limit → Says programme files (carries.Table s) 0
table-says programme files s at names ok l is le =
    let read = table-value programme files s at names ok l is in
    (refl, read.0, ap message_of (whole-message programme files s le) ∙ read.1)

says : (programme : Programme) (files : ℕ → List ℕ) → IsPlanned programme files → (x : Sending) (k : ℕ) → IsRightSending programme x → Says programme files (carried programme x k) (id_of x)
unfolding carried id_of
says programme files ok (Sending.Parameters s at) k is =
    parameters-say programme files s at ok is.0 is.1
says programme files ok (Sending.Table s at bytes) k is =
    let m : IsMessage programme (names_in 1) (signals.Table (record { 0 = at }) is.1) (message_bytes programme s) =
    subst (λ signal. IsMessage programme (names_in 1) signal (message_bytes programme s)) is.2 (planned-messages 1 programme files ok s is.0) in
    let some : 64 ≤ programme.limit = (planned-sound programme files ok).right.limit in
    go (parts bytes programme.limit == 1) refl is (m.0 ∙ sym is.3) some
  where
    go : (t : Bool) → (parts bytes programme.limit == 1) ≡ t → IsRightSending programme (Sending.Table s at bytes) → length (message_bytes programme s) ≡ bytes → 64 ≤ programme.limit → Says programme files (cond t (carries.Table s) (carries.TablePart s k)) 0
    go true one is long some =
        let whole : bytes ≤ programme.limit = one-limit bytes programme.limit (omega arith) one in
        table-says programme files s at is.1 ok is.0 is.2 (omega (arith, long, whole))
    go false more is long some = refl
says programme files ok (Sending.Alone u x) k is = go (parts x.value.length programme.limit == 1)
  where
    go : (t : Bool) → Says programme files (cond t (carries.Whole u) (carries.Fragment u k)) x.in_mpu.in_asset.packet_id
    go true = tt
    go false = tt
says programme files ok (Sending.Group f c x bytes) k is = tt

planned-says : (programme : Programme) (files : ℕ → List ℕ) → IsPlanned programme files → AllByRecursion (λ p. Says programme files p.carries p.packet_id) (cast_of programme).packets
unfolding with_number packet_of
planned-says programme files ok = each-sent programme (λ (p : Sent). Says programme files p.carries p.packet_id) (λ a b x k e below. says programme files ok x k (right-sending programme a b x e))

pub each-says : (programme : Programme) (cast : Cast) (files : ℕ → List ℕ) → IsSendable programme cast files → AllByRecursion (λ p. Says programme files p.carries p.packet_id) cast.packets
each-says programme cast files ok = each-alike programme cast ok.of (λ (p : Sent). Says programme files p.carries p.packet_id) (λ tick p h. h) (planned-says programme files (planned programme cast files ok))
