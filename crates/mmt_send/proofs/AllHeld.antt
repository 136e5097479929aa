-- Where all packets have been sent, no unit is short.
use Rattle.std.proofs.Common.{◌≡◌, ℕ, ◌+◌, ◌-◌, ◌*◌, ◌<◌, ◌≤◌, true, ◌&&◌, ◌==◌, nat_le, nat_lt, min, List, ◌∙◌, Option, Result, Ok, Err, OnOk, length, take, get_or, arith, sym, ap, subst}
use Rattle.std.proofs.lemmas.Bool.{and_parts, eqb-true, leb-true, ltb-true, true≢false}
use Rattle.mmt_cast.specs.Sending.{Sending, carried, packet_count, packet_of}
use Rattle.mmt_cast.specs.Casting.{with_number}
use Rattle.mmt_cast.proofs.Found.{found}
use Rattle.mmt_cast.proofs.FromRight.{right-programmes-fit}
use Rattle.mmt_cast.proofs.SentIn.{IsSentIn, sent-in}
use Rattle.mmt_model.specs.Carrying.{has_part}
use Rattle.mmt_model.specs.Right.{IsRight}
use Rattle.mmt_model.specs.Survival.{no_packet}
use Rattle.mmt_model.specs.declared.casts.Carries.{Carries}
use Rattle.mmt_model.specs.declared.casts.Carries.TheVariants as carries
use Rattle.mmt_model.specs.declared.casts.Cast.{Cast}
use Rattle.mmt_model.specs.declared.casts.Sent.{Sent}
use Rattle.mmt_model.specs.declared.programmes.Programme.{Programme}
use Rattle.mmt_model.specs.declared.programmes.Unit as model
use Rattle.mmt_pace.proofs.Alike.{sent-alike}
use Rattle.mmt_pace.specs.Recast.{IsItsCast}
use Rattle.mmt_send.specs.Files.{IsSource, bytes_in, bytes_of_unit, files_on}
use Rattle.mmt_send.specs.Held.{AreHeld, AreWhole, HasPart}
use Rattle.mmt_send.specs.declared.sources.Source.{Source}
use Rattle.mmt_send.proofs.FileReads.{source-bytes}
use Rattle.mmt_send.proofs.Lone.{front-long}

-- ---- what was read

pub part-held : (programme : Programme) (file : List ℕ → Option (List ℕ)) (source : Source) (u k n : ℕ) (buf : List ℕ) → IsSource programme source → source.number ≡ u
    → n ≡ min programme.limit (source.unit.now.length - k * programme.limit) → n ≤ length buf
    → k * programme.limit + length (take n buf) ≤ length (bytes_of_unit (bytes_in (file source.name.now)) source.unit.now) → HasPart programme (files_on file programme) u k
part-held programme file source u k n buf is at e room there =
    subst (λ (v : ℕ). HasPart programme (files_on file programme) v k) at
    (omega (arith, e, front-long n buf room, there, ap (λ (xs : List ℕ). length xs) (source-bytes programme file source is), ap (λ (x : model.Unit). x.length) is.unit))

pub first-held : (programme : Programme) (file : List ℕ → Option (List ℕ)) (source : Source) (u n : ℕ) (buf : List ℕ) → IsSource programme source → source.number ≡ u
    → n ≡ source.unit.now.length → n ≤ length buf → 0 + length (take n buf) ≤ length (bytes_of_unit (bytes_in (file source.name.now)) source.unit.now) → HasPart programme (files_on file programme) u 0
first-held programme file source u n buf is at e room there =
    subst (λ (v : ℕ). HasPart programme (files_on file programme) v 0) at
    (omega (arith, e, front-long n buf room, there, ap (λ (xs : List ℕ). length xs) (source-bytes programme file source is), ap (λ (x : model.Unit). x.length) is.unit))

-- ---- what a packet carries

pub whole-held : (programme : Programme) (files : ℕ → List ℕ) (v : ℕ) → HasPart programme files v 0 → AreHeld programme files (carries.Whole v)
unfolding has_part
whole-held programme files v h u k t =
    let p = and_parts (v == u) (k == 0) t in
    subst (λ (j : ℕ). HasPart programme files u j) (sym (eqb-true k 0 p.1)) (subst (λ (w : ℕ). HasPart programme files w 0) (eqb-true v u p.0) h)

pub fragment-held : (programme : Programme) (files : ℕ → List ℕ) (v j : ℕ) → HasPart programme files v j → AreHeld programme files (carries.Fragment v j)
unfolding has_part
fragment-held programme files v j h u k t =
    let p = and_parts (v == u) (k == j) t in
    subst (λ (i : ℕ). HasPart programme files u i) (sym (eqb-true k j p.1)) (subst (λ (w : ℕ). HasPart programme files w j) (eqb-true v u p.0) h)

pub group-held : (programme : Programme) (files : ℕ → List ℕ) (f c : ℕ) → ((u : ℕ) → f ≤ u → u < f + c → HasPart programme files u 0) → AreHeld programme files (carries.Group f c)
unfolding has_part
group-held programme files f c h u k t =
    let p = and_parts (nat_le f u && nat_lt u (f + c)) (k == 0) t in
    let q = and_parts (nat_le f u) (nat_lt u (f + c)) p.0 in
    subst (λ (i : ℕ). HasPart programme files u i) (sym (eqb-true k 0 p.1)) (h u (leb-true f u q.0) (ltb-true u (f + c) q.1))

pub parameters-held : (programme : Programme) (files : ℕ → List ℕ) (s : ℕ) → AreHeld programme files (carries.Parameters s)
unfolding has_part
parameters-held programme files s u k t = absurd (true≢false (sym t))

pub table-held : (programme : Programme) (files : ℕ → List ℕ) (s : ℕ) → AreHeld programme files (carries.Table s)
unfolding has_part
table-held programme files s u k t = absurd (true≢false (sym t))

pub table-part-held : (programme : Programme) (files : ℕ → List ℕ) (s j : ℕ) → AreHeld programme files (carries.TablePart s j)
unfolding has_part
table-part-held programme files s j u k t = absurd (true≢false (sym t))

pub held-as : (programme : Programme) (files : ℕ → List ℕ) (c v : Carries) → c ≡ v → AreHeld programme files v → AreHeld programme files c
held-as programme files c v e h = subst (AreHeld programme files) (sym e) h

-- ---- all packets

after-carries : (programme : Programme) (x : Sending) (c k : ℕ) (p : Sent) → p ≡ with_number (packet_of programme x k) (c + k) → p.carries ≡ carried programme x k
unfolding with_number packet_of
after-carries programme x c k p e = ap (λ (q : Sent). q.carries) e

-- a unit's last part is in some packet, so that all of it is there
pub all-whole : (programme : Programme) (cast : Cast) (files : ℕ → List ℕ) → IsRight programme → IsItsCast programme cast → ((n : ℕ) → n < length cast.packets → AreHeld programme files (get_or cast.packets n no_packet).carries) → AreWhole programme files
all-whole programme cast files right its held u size got short =
    let sent : IsSentIn programme u = sent-in programme (right-programmes-fit.right programme right) u short.known in
    let x : Sending = sent.sending in
    let count : ℕ = packet_count programme x in
    let k : ℕ = count - 1 in
    let some : 1 ≤ count = sent.of.some in
    let at = found programme sent.front sent.back x k sent.is (omega arith) in
    let there = sent-alike programme cast its _ at.of in
    let carries_it : (get_or cast.packets there.0 no_packet).carries ≡ carried programme x k = there.2 ∙ after-carries programme x _ k _ at.at in
    let has : has_part u k (carried programme x k) ≡ true = sent.of.part k (omega arith) in
    let part : HasPart programme files u k = held there.0 there.1 u k (subst (λ (c : Carries). has_part u k c ≡ true) (sym carries_it) has) in
    let last : k + 1 ≡ count = omega arith in
    let end : (k + 1) * programme.limit ≡ count * programme.limit = ap (λ (j : ℕ). j * programme.limit) last in
    omega (arith, part, end, sent.of.enough, short.len, short.got, short.short)

-- ---- answers

pub on-ok : {T E : Type 0} {P : Type 0} (Q : Type 0) (r : Result T E) → OnOk r P → (P → Q) → OnOk r Q
on-ok Q (Ok x) h f = f h
on-ok Q (Err e) h f = tt
