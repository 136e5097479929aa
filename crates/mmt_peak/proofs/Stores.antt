-- What storing an offered packet does, in the words of the definition of keeping.
use Rattle.std.proofs.Common.{◌≡◌, ℕ, true, map, length, Option, Some, Result, Ok, Err, refl, sym, ap, subst, ◌∙◌}
use Rattle.std.proofs.lemmas.List.{length-replicate}
use Rattle.mmt_model.specs.declared.programmes.Params.{Params}
use Rattle.mmt_model.specs.Keeping.{Outcome, outcome, kept_after}
use Rattle.mmt_packet.specs.declared.packet.Packet.{Packet}
use Rattle.mmt_packet.specs.Spelling.{view}
use Rattle.mmt_pool.specs.declared.types.Span.{Span}
use Rattle.mmt_pool.specs.declared.types.NotStored.{NotStored}
use Rattle.mmt_pool.specs.declared.types.NotStored.TheVariants as why
use Rattle.mmt_pool.specs.Holding.{Kept, Holding}
use Rattle.mmt_pool.specs.Outcome.{Follows, Agrees, answer_outcome}
use Rattle.mmt_pool.specs.Doing.{blank, Stores}
use Rattle.mmt_peak.specs.Peaking.{offered, is_offered}
use Rattle.mmt_peak.specs.Buffers.{shown}
use Rattle.mmt_peak.proofs.Steps.{shows}

pub bound_stays : (old : Holding) (clock delay : ℕ) (p : Kept) (result : Result Span NotStored) (new : Holding) → Stores old clock delay p result new → new.bound ≡ old.bound
bound_stays old clock delay p (Ok span) new s = ap (λ (h : Holding). h.bound) s.2
bound_stays old clock delay p (Err (why.Late now)) new s = ap (λ (h : Holding). h.bound) s.2
bound_stays old clock delay p (Err why.Repeat) new s = ap (λ (h : Holding). h.bound) s.1
bound_stays old clock delay p (Err (why.Full sum length)) new s = ap (λ (h : Holding). h.bound) s.3
bound_stays old clock delay p (Err why.OutOfMemory) new s = ap (λ (h : Holding). h.bound) s.1

-- an offered packet is seen as it is kept, with zeros in place of its payload bytes
offered_is : (p : Packet) → is_offered (view p) ≡ true → offered (view p) ≡ shown (blank p)
offered_is p offers = rw (offers, length-replicate {A = ℕ} (length p.payload.now) 0) refl

-- the outcome that the answer tells of is the definition's, and so is what is kept then
pub becomes : (r : Params) (old : Holding) (clock : ℕ) (p : Packet) (answer : Result Span NotStored) (new : Holding) (f : Outcome)
    → old.bound ≡ r.bound → is_offered (view p) ≡ true → Follows old clock r.delay (blank p) answer new → answer_outcome answer ≡ Some f
    → (outcome r clock (map shown old.kept) (offered (view p)) ≡ f) × (map shown new.kept ≡ kept_after f (map shown old.kept) (offered (view p)))
becomes r old clock p answer new f bound offers follows tells =
    let P : ℕ → Option Outcome → Type 0 = λ b o. Agrees (record { window = r.window; delay = r.delay; bound = b }) clock (map shown old.kept) (shown (blank p)) o (map shown new.kept) in
    let agrees : P r.bound (Some f) = subst (P r.bound) tells (subst (λ b. P b (answer_outcome answer)) bound (follows shown shows refl r.window)) in
    let same : offered (view p) ≡ shown (blank p) = offered_is p offers in
    let is : outcome r clock (map shown old.kept) (offered (view p)) ≡ f = ap (λ h. outcome r clock (map shown old.kept) h) same ∙ agrees.0 in
    (is, agrees.1 ∙ (λ i. kept_after (agrees.0 i) (map shown old.kept) (sym same i)))
