-- The numbers of a trial, and that all expected units come out of a near delivery.
use Rattle.std.proofs.Common.{◌≡◌, ℕ, ◌+◌, ◌-◌, ◌^◌, ◌<◌, ◌≤◌, List, [], ◌∷◌, length, map, min, None, refl, ap, sym, ◌∙◌, subst, arith}
use Rattle.std.specs.List.{All}
use Rattle.mmt_cast.specs.Casting.{cast_of}
use Rattle.mmt_headline.proofs.Framed.{streams-framed}
use Rattle.mmt_headline.proofs.Sound.{casts-carry}
use Rattle.mmt_headline.proofs.Taken.{placed-packets, units-are}
use Rattle.mmt_headline.specs.Peaks.{HasRoom, ReceiversHaveRoom}
use Rattle.mmt_headline.specs.Programmes.{IsSendable, ProgrammesAreReceived}
use Rattle.mmt_headline.specs.Taken.{expected_of, placed_of}
use Rattle.mmt_model.specs.Carrying.{Contents, IsCastOf}
use Rattle.mmt_model.specs.Counts.{counted}
use Rattle.mmt_model.specs.Delivery.{newest_first}
use Rattle.mmt_model.specs.Entries.{Entry}
use Rattle.mmt_model.specs.Handing.{Presentation}
use Rattle.mmt_model.specs.Received.{IsNear, expected_in}
use Rattle.mmt_model.specs.Survival.{AreOf}
use Rattle.mmt_model.specs.declared.casts.Cast.{Cast}
use Rattle.mmt_model.specs.declared.programmes.Programme.{Programme}
use Rattle.mmt_naming.specs.Findings.{names_in}
use Rattle.mmt_output.specs.Records.{amount_of}
use Rattle.mmt_output.specs.declared.handed.Handed.{Handed}
use Rattle.mmt_recv.specs.Receiving.{all_units, summary_of}
use Rattle.mmt_recv.specs.declared.summary.Summary.{Summary}
use Rattle.mmt_sent.specs.Stream.{contents_sent, stream, stream_of}
use Rattle.mmt_take.specs.Taking.{placed}
use Rattle.mmt_tlv.specs.Framing.{Fits, Packet, spelling}
use Rattle.mmt_trial.proofs.Taken.{given, receives}
use Rattle.mmt_trial.specs.Given.{AreGiven}
use Rattle.mmt_trial.specs.Trials.{KeepsBound, counts_of, put_together, receiver_of, tried}
use Rattle.mmt_trial.specs.declared.trying.Tried.{Tried}

-- the packets of a delivery of a programme that can be sent are packets
pub all-fit : (programme : Programme) (files : ℕ → List ℕ) (list : List ℕ) → IsSendable programme (cast_of programme) files → AreOf (cast_of programme).packets list → All Fits (stream_of programme (cast_of programme) files list)
all-fit programme files list ok of = (streams-framed programme (cast_of programme) files list ok of).each

-- what a receiver counts that was given them
pub counted-so : (programme : Programme) (files : ℕ → List ℕ) (list : List ℕ) (pieces : List (List ℕ)) (s : Summary) → IsSendable programme (cast_of programme) files → AreOf (cast_of programme).packets list → pieces ≡ map spelling (stream programme (cast_of programme) files)
    → ((packets : List Packet) → All Fits packets → AreGiven pieces list packets → s ≡ summary_of (receiver_of programme) (placed (newest_first packets))) → s ≡ counts_of programme files list
unfolding placed_of
counted-so programme files list pieces s ok of is h =
    h (stream_of programme (cast_of programme) files list) (all-fit programme files list ok of) (subst (λ (ps : List (List ℕ)). AreGiven ps list (stream_of programme (cast_of programme) files list)) (sym is) (given programme files list of))

-- how many units are expected
pub expected-so : (programme : Programme) (files : ℕ → List ℕ) (list : List ℕ) (cast : Cast) (n : ℕ) → IsSendable programme (cast_of programme) files → cast ≡ cast_of programme
    → ((contents : Contents) (names : List ℕ → List Entry) → IsCastOf cast contents names → n ≡ length (expected_in cast contents programme.full_every list)) → n ≡ length (expected_of programme (cast_of programme) files list)
expected-so programme files list cast n ok is h =
    h (contents_sent programme files) (names_in 90000) (subst (λ (c : Cast). IsCastOf c (contents_sent programme files) (names_in 90000)) (sym is) (casts-carry 90000 programme (cast_of programme) files ok))
    ∙ ap (λ (c : Cast). length (expected_in c (contents_sent programme files) programme.full_every list)) is

pub tried-is : (programme : Programme) (files : ℕ → List ℕ) (list : List ℕ) (sent delivered expected : ℕ) (s : Summary) → sent ≡ length (cast_of programme).packets → delivered ≡ length list → expected ≡ length (expected_of programme (cast_of programme) files list) → s ≡ counts_of programme files list
    → put_together programme sent delivered expected s ≡ tried programme files list
tried-is programme files list sent delivered expected s e1 e2 e3 e4 = λ i. put_together programme (e1 i) (e2 i) (e3 i) (e4 i)

-- ---- near deliveries

amount-units : (ps : List Presentation) → (amount_of ps).units ≡ counted (length ps)
unfolding amount_of
amount-units ps = refl

low-counted : (n : ℕ) → n < 2 ^ 64 → counted n ≡ n
low-counted n l = omega (arith, l)

pub keeps : ProgrammesAreReceived → ReceiversHaveRoom → (programme : Programme) (files : ℕ → List ℕ) (list : List ℕ) → IsSendable programme (cast_of programme) files → AreOf (cast_of programme).packets list → IsNear (cast_of programme) programme.full_every list
    → length (expected_of programme (cast_of programme) files list) < 2 ^ 64 → KeepsBound (tried programme files list)
unfolding placed_of
keeps received room programme files list ok of near few =
    let r = receives programme ok.right in
    let units : all_units (receiver_of programme) (placed_of programme (cast_of programme) files list) ≡ expected_of programme (cast_of programme) files list = units-are (receiver_of programme) programme (cast_of programme) files list received ok r of near in
    let has : HasRoom (receiver_of programme) programme (placed_of programme (cast_of programme) files list) = room (receiver_of programme) programme (cast_of programme) files list (placed_of programme (cast_of programme) files list) ok r of near (placed-packets (newest_first (stream_of programme (cast_of programme) files list))) in
    record {
      units = ap (λ (ps : List Presentation). (amount_of ps).units) units ∙ (amount-units (expected_of programme (cast_of programme) files list) ∙ low-counted (length (expected_of programme (cast_of programme) files list)) few);
      peak = has.peak;
      full = has.full;
    }

pub keeps-so : ProgrammesAreReceived → ReceiversHaveRoom → (programme : Programme) (files : ℕ → List ℕ) (list : List ℕ) (cast : Cast) (t : Tried) → IsSendable programme (cast_of programme) files → cast ≡ cast_of programme → AreOf cast.packets list → IsNear cast programme.full_every list
    → t.expected < 2 ^ 64 → t ≡ tried programme files list → KeepsBound t
keeps-so received room programme files list cast t ok is of near few e =
    let low : length (expected_of programme (cast_of programme) files list) < 2 ^ 64 = omega (arith, few, ap (λ (x : Tried). x.expected) e) in
    subst KeepsBound (sym e)
    (keeps received room programme files list ok (subst (λ (c : Cast). AreOf c.packets list) is of) (subst (λ (c : Cast). IsNear c programme.full_every list) is near) low)
