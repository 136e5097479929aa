-- A cast that is paced with a step.
use Rattle.std.proofs.Common.{◌≡◌, ℕ, ◌+◌, ◌<◌, ◌≤◌, ◌^◌, suc, max, List, [], ◌∷◌, ◌++◌, map, length, get_or, take, inr, arith, refl, ap, sym, ◌∙◌}
use Rattle.std.proofs.lemmas.List.{map-append, take_all, take_more}
use Rattle.mmt_cast.specs.Casting.{cast_of, greatest}
use Rattle.mmt_model.specs.Survival.{sent_at}
use Rattle.mmt_model.specs.declared.casts.Cast.{Cast}
use Rattle.mmt_model.specs.declared.casts.Sent.{Sent}
use Rattle.mmt_model.specs.declared.programmes.Programme.{Programme}
use Rattle.mmt_pace.specs.Asked.{AreGiven}
use Rattle.mmt_pace.specs.Deadlines.{jobs_by, jobs_from}
use Rattle.mmt_pace.specs.Pacing.{deadline_by, slots_by, slots_to}
use Rattle.mmt_pace.specs.Laws.{PacedCastsAreOne}
use Rattle.mmt_pace.specs.Recast.{IsItsCast, paced_by, recast, ticks_of}
use Rattle.mmt_slots.specs.Schedule.{IsSchedule, SchedulesAreOne}
use Rattle.mmt_slots.specs.declared.row.Job.{Job}
use Rattle.mmt_slots.specs.declared.row.Slots.{Slots}

greatest-push : (ns : List ℕ) (x : ℕ) → greatest (ns ++ x ∷ []) ≡ max x (greatest ns)
unfolding greatest
greatest-push [] x = refl
greatest-push (n ∷ ns) x = omega (arith, greatest-push ns x)

pub none-latest : (jobs : List Job) → 0 ≡ greatest (map deadline_by (take 0 jobs))
unfolding greatest
none-latest jobs = refl

pub one-later : (jobs : List Job) (i : ℕ) (d : Job) (latest x : ℕ) → i < length jobs → latest ≡ greatest (map deadline_by (take i jobs)) → x ≡ max (get_or jobs i d).deadline latest → x ≡ greatest (map deadline_by (take (i + 1) jobs))
one-later jobs i d latest x l e ex =
    let all : map deadline_by (take (i + 1) jobs) ≡ map deadline_by (take i jobs) ++ (get_or jobs i d).deadline ∷ [] = ap (map deadline_by) (take_more jobs i d l) ∙ map-append deadline_by (take i jobs) (get_or jobs i d ∷ []) in
    let p = greatest-push (map deadline_by (take i jobs)) (get_or jobs i d).deadline in
    omega (arith, ex, e, p, ap greatest all)

pub all-latest : (jobs : List Job) (i latest : ℕ) → length jobs ≤ i → latest ≡ greatest (map deadline_by (take i jobs)) → latest ≡ greatest (map deadline_by jobs)
all-latest jobs i latest l e = e ∙ ap (λ (js : List Job). greatest (map deadline_by js)) (take_all i jobs l)

length-from : (cast : Cast) (ps : List Sent) → length (jobs_from cast ps) ≡ length ps
unfolding jobs_from
length-from cast [] = refl
length-from cast (p ∷ ps) = ap suc (length-from cast ps)

pub length-jobs : (cast : Cast) → length (jobs_by cast) ≡ length cast.packets
unfolding jobs_by
length-jobs cast = length-from cast cast.packets

-- the slots of a schedule are one for each packet
pub slots-given : (cast : Cast) (slots : Slots) (given : List ℕ) → IsSchedule (jobs_by cast) slots given → AreGiven (length cast.packets) slots given
slots-given cast slots given is =
    let n = length-jobs cast in
    record {
      one_each = is.one_each ∙ n;
      in_row = λ k l. is.in_row k (omega (arith, l, n));
      own = λ k j lk lj e. is.own k j (omega (arith, lk, n)) (omega (arith, lj, n)) e;
    }

few-slots : (start step to : ℕ) → slots_to start step to ≤ 2 ^ 24
unfolding slots_to
few-slots start step to = grind arith

pub slots-few : (cast : Cast) (step : ℕ) → (slots_by cast step).count ≤ 2 ^ 24
unfolding slots_by
slots-few cast step = few-slots _ step _

pub slots-start : (cast : Cast) (step : ℕ) → (slots_by cast step).start ≡ sent_at cast.packets 0
unfolding slots_by
slots-start cast step = refl

pub slots-step : (cast : Cast) (step : ℕ) → (slots_by cast step).step ≡ step
unfolding slots_by
slots-step cast step = refl

-- a paced cast is one of the same programme
pub paced-its : (slots : Slots) (given : List ℕ) (cast new : Cast) (programme : Programme) → new ≡ paced_by slots given cast → cast ≡ cast_of programme → IsItsCast programme new
unfolding paced_by
paced-its slots given cast new programme e is = inr (ticks_of slots given, e ∙ ap (recast (ticks_of slots given)) is)

-- and it is the only one
pub paced-one : SchedulesAreOne → PacedCastsAreOne
paced-one law cast step new other a b =
    a.2 ∙ (ap (λ (given : List ℕ). paced_by (slots_by cast step) given cast) (law (jobs_by cast) (slots_by cast step) a.0 b.0 a.1.0 a.1.1 b.1.0 b.1.1) ∙ sym b.2)
