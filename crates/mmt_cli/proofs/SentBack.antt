-- What is sent is a programme that can be sent, and `take` gives it back.
use Rattle.std.proofs.Common.{◌≡◌, ◌⊎◌, inl, ◌≤◌, ℕ, ◌+◌, true, List, ◌++◌, length, Option, Some, None, Result, Ok, Err, refl, ap, sym, subst, ◌∙◌}
use Rattle.std.proofs.lemmas.Bool.{leb-true}
use Rattle.std.proofs.lemmas.List.{append_cancel_left}
use Rattle.std.proofs.lemmas.List.Elements.{All-from_recursion, All-weaker}
use Rattle.mmt_cast.specs.Casting.{cast_of}
use Rattle.mmt_cast.specs.Placing.{PlacedUnit, all_units}
use Rattle.mmt_cast.specs.Refusing.{Refusal as NoCast, refusal}
use Rattle.mmt_io.specs.History.{Event, bytes_written}
use Rattle.mmt_model.specs.Admission.{Fault, fault}
use Rattle.mmt_model.specs.declared.programmes.Programme.{Programme}
use Rattle.mmt_mux.proofs.Holding.{UnitHeld, units-held}
use Rattle.mmt_mux.specs.Ending.{IsMuxAnswer, Muxes as Sends}
use Rattle.mmt_mux.specs.Sendable.{Why, ◌>>=◌, checked, has_cast, is_admitted, sendable, sent_bytes}
use Rattle.mmt_mux.specs.declared.ends.MuxEnd.{MuxEnd}
use Rattle.mmt_mux.specs.declared.ends.MuxEnd.TheVariants as muxes
use Rattle.mmt_plan.specs.Files.{files_of, file_of, has_bytes}
use Rattle.mmt_plan.specs.Plan.{plan}
use Rattle.mmt_plan.specs.declared.ends.Refusal.{Refusal}
use Rattle.mmt_send.specs.Files.{bytes_in, files_on}
use Rattle.mmt_sent.specs.Stream.{stream}
use Rattle.mmt_stream.specs.Streaming.{Does}
use Rattle.mmt_take.specs.Taking.{taking}
use Rattle.mmt_tlv.specs.Framing.{joined}
use Rattle.mmt_headline.specs.Programmes.{HoldUnits}
use Rattle.mmt_headline.specs.WholeCasts.{TakeGivesAllBack}
use Rattle.mmt_cli.proofs.GivenBack.{done_end, status_done}
use Rattle.mmt_cli.proofs.RightPlans.{plans_are_right}
use Rattle.mmt_cli.specs.SentBack.{SentProgrammesAreReached, SentProgrammesAreSendable, TakeGivesBackWhatMuxSent}
use Rattle.mmt_cli.specs.Statuses.{status_of_run}
use Rattle.mmt_cli.specs.declared.status.Status.{Status}
use Rattle.mmt_cli.specs.declared.status.Status.TheVariants as status

-- ---- what the checks passed

bind_ok : {A B : Type 0} (r : Result A Why) (f : A → Result B Why) (y : B) → (r >>= f) ≡ Ok y → (x : A) × (r ≡ Ok x) × (f x ≡ Ok y)
bind_ok (Ok x) f y e = (x, refl, e)
bind_ok (Err why) f y e = absurd cc

checked_ok : {A : Type 0} (r : Result A Refusal) (x : A) → checked r ≡ Ok x → r ≡ Ok x
checked_ok (Ok y) x e = let same : y ≡ x = cc in ap (λ z. Ok z) same
checked_ok (Err r) x e = absurd cc

cast_ok : (o : Option NoCast) (u : Unit {0}) → has_cast o ≡ Ok u → o ≡ None
cast_ok None u e = refl
cast_ok (Some r) u e = absurd cc

admitted_ok : (o : Option Fault) (u : Unit {0}) → is_admitted o ≡ Ok u → o ≡ None
admitted_ok None u e = refl
admitted_ok (Some f) u e = absurd cc

-- all checks of `mux` passed
record HasPassed (file : List ℕ → Option (List ℕ)) (name : List ℕ) (p : Programme) : Type 0 where
  plan : plan (file name) ≡ Ok p
  cast : refusal p ≡ None
  files : files_of file p ≡ Ok tt
  admitted : fault (cast_of p) ≡ None

passed : (file : List ℕ → Option (List ℕ)) (name : List ℕ) (p : Programme) → sendable file name ≡ Ok p → HasPassed file name p
unfolding sendable
passed file name p e =
    let a = bind_ok (checked (plan (file name))) _ p e in
    let b = bind_ok (has_cast (refusal a.0)) _ p a.2 in
    let c = bind_ok (checked (files_of file a.0)) _ p b.2 in
    let d = bind_ok (is_admitted (fault (cast_of a.0))) _ p c.2 in
    let same : a.0 ≡ p = let last = d.2 in cc in
    subst (HasPassed file name) same
    (record { plan = checked_ok (plan (file name)) a.0 a.1; cast = cast_ok (refusal a.0) b.0 b.1; files = checked_ok (files_of file a.0) c.0 c.1; admitted = admitted_ok (fault (cast_of a.0)) d.0 d.1 })

-- ---- the files

held_in : (file : Option (List ℕ)) (end : ℕ) → has_bytes file end ≡ true → end ≤ length (bytes_in file)
held_in None end e = absurd cc
held_in (Some bytes) end e = leb-true end (length bytes) e

pub hold : (file : List ℕ → Option (List ℕ)) (p : Programme) → files_of file p ≡ Ok tt → HoldUnits (files_on file p) p
hold file p e =
    All-weaker (UnitHeld file p.files) (λ (x : PlacedUnit). x.value.from + x.value.length ≤ length (files_on file p x.in_mpu.in_asset.file))
    (λ x h. held_in (file_of file p.files x.in_mpu.in_asset) (x.value.from + x.value.length) h) (all_units p) (All-from_recursion (UnitHeld file p.files) (all_units p) (units-held file p e))

pub can_be_sent : SentProgrammesAreSendable
can_be_sent file name p e =
    let h = passed file name p e in
    record { right = plans_are_right (file name) p h.plan; none = h.cast; of = inl refl; admitted = h.admitted; held = hold file p h.files }

pub reached : SentProgrammesAreSendable → SentProgrammesAreReached
reached law file name p config delivery e r of near = record { sendable = law file name p e; receives = r; of = of; near = near }

-- ---- `mux`, and then `take`

-- a run that is done sent the stream of its programme
record HasSent (file : List ℕ → Option (List ℕ)) (name : List ℕ) (old new : List Event) : Type 0 where
  programme : Programme
  is : sendable file name ≡ Ok programme
  events : List Event
  history : new ≡ old ++ events
  written : bytes_written events ≡ joined (stream programme (cast_of programme) (files_on file programme))

done_sent : (file : List ℕ → Option (List ℕ)) (name : List ℕ) (end : Result (Unit {0}) MuxEnd) (old new : List Event) → status.Done ≡ status_of_run end → IsMuxAnswer (sendable file name) end → Sends (sent_bytes file (sendable file name)) end old new → HasSent file name old new
done_sent file name (Ok u) old new told answer sent =
    record { programme = answer.0; is = answer.1; events = sent.events; history = sent.history; written = sent.written ∙ ap (sent_bytes file) answer.1 }
done_sent file name (Err (muxes.Refused reason place)) old new told answer sent = absurd cc
done_sent file name (Err (muxes.NotAdmitted refusal)) old new told answer sent = absurd cc
done_sent file name (Err muxes.ReadFault) old new told answer sent = absurd cc
done_sent file name (Err muxes.WriteFault) old new told answer sent = absurd cc
done_sent file name (Err muxes.OutOfMemory) old new told answer sent = absurd cc

pub given_all_back : SentProgrammesAreSendable → TakeGivesAllBack → TakeGivesBackWhatMuxSent
given_all_back can law file name config limit outcome before after old new run =
    let sent : HasSent file name before.history after.history = done_sent file name run.muxed.end before.history after.history run.muxed.told run.muxed.answer run.muxed.sent in
    let p : Programme = sent.programme in
    let files : ℕ → List ℕ = files_on file p in
    let same : run.events ≡ sent.events = append_cancel_left before.history run.events sent.events (sym run.sent ∙ sent.history) in
    let input : old.left ≡ joined (stream p (cast_of p) files) = run.input ∙ ap bytes_written same ∙ sent.written in (
      p,
      sent.is,
      λ hears.
          let does = subst (λ (l : List ℕ). Does (taking config) limit run.taken.end old.history new.history l new.left old.reads new.reads old.writes new.writes) input run.taken.does in
          let g = law config p files limit run.taken.end old.history new.history new.left old.reads new.reads old.writes new.writes (can file name p sent.is) hears does in
          record {
            events = g.0;
            history = g.1;
            written = λ e. g.2 (done_end run.taken.end (sym run.taken.told ∙ e));
            writing = g.3;
            done = λ short none. subst (λ (s : Status). (s ≡ status.Done) ⊎ (s ≡ status.OutOfMemory)) (sym run.taken.told)
                (status_done run.taken.end (g.4 (subst (λ (l : List ℕ). length l ≤ limit) input short) none.0 none.1));
          },
    )
