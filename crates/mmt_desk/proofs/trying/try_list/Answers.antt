use Rattle.std.proofs.Common.{◌≡◌, ◌<◌, ℕ, List, length, Option, Err, arith, ap, sym, ◌∙◌, subst}
use Rattle.std.specs.List.{AllByRecursion}
use Rattle.mmt_admit.specs.Faults.{fault_value}
use Rattle.mmt_cast.specs.Casting.{cast_of}
use Rattle.mmt_desk.proofs.Ended.{list-refused, trial-ended}
use Rattle.mmt_desk.proofs.Places.{of-each}
use Rattle.mmt_desk.specs.Answers.{IsTrialAnswer}
use Rattle.mmt_desk.specs.Lists.{IsListAnswer, IsListIn}
use Rattle.mmt_expect.proofs.Premises.{readable}
use Rattle.mmt_made.proofs.Few.{packets-few}
use Rattle.mmt_model.specs.Admission.{fault}
use Rattle.mmt_model.specs.Received.{IsNear}
use Rattle.mmt_model.specs.Survival.{AreOf}
use Rattle.mmt_model.specs.declared.casts.Cast.{Cast}
use Rattle.mmt_mux.proofs.Checks.{is_sendable, not_admitted}
use Rattle.mmt_mux.specs.declared.ends.MuxEnd.{MuxEnd}
use Rattle.mmt_plan.proofs.Fronts.{stays_on}
use Rattle.mmt_send.specs.Files.{files_on}
use Rattle.mmt_trial.specs.Trials.{tried}
use Rattle.mmt_desk.proofs.trying.try_list.Goals as goal

pub admit-requires : goal.admit-requires
admit-requires g c = readable c.in-Ok.both.0 c.in-Ok.both.1 c.in-Ok.ensures.right c.in-Ok.ensures.none c.in-Ok.ensures.cast

pub returns-in-Err-admit-clause-answer : goal.returns-in-Err-admit-clause-answer
returns-in-Err-admit-clause-answer g c = λ t.
    not_admitted (g.H.Shelf.file c.args.shelf.now) c.args.plan.now c.in-Ok.both.0 (fault_value c.in-Err-admit.refusal) (c.in-Ok.ensures.read t) c.in-Ok.ensures.none (ap fault (sym c.in-Ok.ensures.cast) ∙ c.in-Err-admit.ensures.refused)

pub overflow_cast-sent : goal.overflow_cast-sent
overflow_cast-sent g c = omega (arith, packets-few c.in-Ok.both.0 c.in-Ok.both.1 c.in-Ok.ensures.right c.in-Ok.ensures.none c.in-Ok.ensures.cast, c.len-sent.ensures)

pub returns-in-Err-read_list-clause-answer : goal.returns-in-Err-read_list-clause-answer
returns-in-Err-read_list-clause-answer g c = λ t.
    let file = g.H.Shelf.file c.args.shelf.now in
    let is = is_sendable file c.args.plan.now c.in-Ok.both.0 (c.in-Ok.ensures.read t) c.in-Ok.ensures.none (ap fault (sym c.in-Ok.ensures.cast) ∙ c.in-Ok-admit.ensures.none) in
    let many : c.len-sent.result ≡ length (cast_of c.in-Ok.both.0).packets = c.len-sent.ensures ∙ ap (λ (k : Cast). length k.packets) c.in-Ok.ensures.cast in
    list-refused file c.args.plan.now c.args.list.now c.in-Ok.both.0 c.in-Err-read_list.end is
    (subst (λ (n : ℕ). IsListAnswer (file c.args.list.now) n (Err c.in-Err-read_list.end)) many
    (subst (λ (f : List ℕ → Option (List ℕ)). IsListAnswer (f c.args.list.now) c.len-sent.result (Err c.in-Err-read_list.end)) (c.in-Ok.ensures.shelf.files t) (c.in-Err-read_list.ensures.answer (c.in-Ok.ensures.shelf.tells ∙ t))))

pub trial-requires-clause-of : goal.trial-requires-clause-of
trial-requires-clause-of g c =
    subst (λ (k : Cast). AreOf k.packets c.in-Ok-read_list.deliveries) (sym c.in-Ok-admit.ensures.admitted)
    (of-each c.in-Ok.both.1.packets c.in-Ok-read_list.deliveries (subst (λ (n : ℕ). AllByRecursion (λ (d : ℕ). d < n) c.in-Ok-read_list.deliveries) c.len-sent.ensures c.in-Ok-read_list.ensures.places))

pub returns-in-Ok-trial-clause-answer : goal.returns-in-Ok-trial-clause-answer
returns-in-Ok-trial-clause-answer g c = λ t.
    let file = g.H.Shelf.file c.args.shelf.now in
    let p = c.in-Ok.both.0 in
    let chain = stays_on c.in-Ok.ensures.shelf c.in-Ok-read_list.ensures.shelf.tells c.in-Ok-read_list.ensures.shelf.files c.in-Ok-read_list.ensures.shelf.later in
    let many : c.len-sent.result ≡ length (cast_of p).packets = c.len-sent.ensures ∙ ap (λ (k : Cast). length k.packets) c.in-Ok.ensures.cast in
    let cast : c.in-Ok-admit.admitted ≡ cast_of p = c.in-Ok-admit.ensures.admitted ∙ c.in-Ok.ensures.cast in
    record {
      programme = p;
      places = c.in-Ok-read_list.deliveries;
      sendable = is_sendable file c.args.plan.now p (c.in-Ok.ensures.read t) c.in-Ok.ensures.none (ap fault (sym c.in-Ok.ensures.cast) ∙ c.in-Ok-admit.ensures.none);
      listed = subst (λ (n : ℕ). IsListIn (file c.args.list.now) n c.in-Ok-read_list.deliveries) many
          (subst (λ (f : List ℕ → Option (List ℕ)). IsListIn (f c.args.list.now) c.len-sent.result c.in-Ok-read_list.deliveries) (c.in-Ok.ensures.shelf.files t) (c.in-Ok-read_list.ensures.answer (c.in-Ok.ensures.shelf.tells ∙ t)));
      numbers = subst (λ (f : List ℕ → Option (List ℕ)). c.in-Ok-trial.tried ≡ tried p (files_on f p) c.in-Ok-read_list.deliveries) (chain.files t) (c.in-Ok-trial.ensures.tried (chain.tells ∙ t));
      keeps = λ near. c.in-Ok-trial.ensures.bound (chain.tells ∙ t) (subst (λ (k : Cast). IsNear k p.full_every c.in-Ok-read_list.deliveries) (sym cast) near);
    }

pub returns-clause-answer : goal.returns-clause-answer
returns-clause-answer g c = λ t.
    let file = g.H.Shelf.file c.args.shelf.now in
    let chain = stays_on c.in-Ok.ensures.shelf c.in-Ok-read_list.ensures.shelf.tells c.in-Ok-read_list.ensures.shelf.files c.in-Ok-read_list.ensures.shelf.later in
    subst (λ (e : MuxEnd). IsTrialAnswer file c.args.plan.now c.args.list.now (Err e)) (sym c.end_of_trial.ensures)
    (trial-ended file (g.H.Shelf.file c.read_list.new.shelf) c.args.plan.now c.args.list.now c.in-Ok.both.0 c.in-Ok.both.1 _ _ _ c.in-Err-trial.end (chain.files t) (c.in-Ok.ensures.read t).files (chain.tells ∙ t) c.in-Err-trial.ensures.cause)
