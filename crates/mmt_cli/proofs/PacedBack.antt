-- A paced cast that is admitted is one of a programme that can be sent.
use Rattle.std.proofs.Common.{◌≡◌, ℕ, List, Option, Some, None, Result, Ok, Err, refl, ap, subst}
use Rattle.mmt_cast.specs.Casting.{cast_of}
use Rattle.mmt_cast.specs.Refusing.{Refusal as NoCast, refusal}
use Rattle.mmt_model.specs.declared.programmes.Programme.{Programme}
use Rattle.mmt_mux.specs.Pacing.{castable, has_cast}
use Rattle.mmt_pace.proofs.Stepping.{paced-its}
use Rattle.mmt_pace.specs.Pacing.{slots_by}
use Rattle.mmt_plan.specs.Files.{files_of}
use Rattle.mmt_plan.specs.Plan.{plan}
use Rattle.mmt_plan.specs.Reading.{◌>>=◌}
use Rattle.mmt_plan.specs.declared.ends.Refusal.{Refusal}
use Rattle.mmt_send.specs.Files.{files_on}
use Rattle.mmt_cli.proofs.RightPlans.{plans_are_right}
use Rattle.mmt_cli.proofs.SentBack.{hold}
use Rattle.mmt_cli.specs.PacedBack.{PacedProgrammesAreReached, PacedProgrammesAreSendable}

bind_ok : {A B : Type 0} (r : Result A Refusal) (f : A → Result B Refusal) (y : B) → (r >>= f) ≡ Ok y → (x : A) × (r ≡ Ok x) × (f x ≡ Ok y)
bind_ok (Ok x) f y e = (x, refl, e)
bind_ok (Err why) f y e = absurd cc

cast_ok : (o : Option NoCast) (u : Unit {0}) → has_cast o ≡ Ok u → o ≡ None
cast_ok None u e = refl
cast_ok (Some r) u e = absurd cc

-- the checks passed
record HasPassed (file : List ℕ → Option (List ℕ)) (name : List ℕ) (p : Programme) : Type 0 where
  plan : plan (file name) ≡ Ok p
  cast : refusal p ≡ None
  files : files_of file p ≡ Ok tt

passed : (file : List ℕ → Option (List ℕ)) (name : List ℕ) (p : Programme) → castable file name ≡ Ok p → HasPassed file name p
unfolding castable
passed file name p e =
    let a = bind_ok (plan (file name)) _ p e in
    let b = bind_ok (has_cast (refusal a.0)) _ p a.2 in
    let c = bind_ok (files_of file a.0) _ p b.2 in
    let same : a.0 ≡ p = let last = c.2 in cc in
    subst (HasPassed file name) same (record { plan = a.1; cast = cast_ok (refusal a.0) b.0 b.1; files = c.1 })

pub paced_sendable : PacedProgrammesAreSendable
paced_sendable file name step p cast is =
    let h = passed file name p is.is.plan in
    let paced = is.is.paced in
    record {
      right = plans_are_right (file name) p h.plan;
      none = h.cast;
      of = paced-its (slots_by (cast_of p) step) paced.0 (cast_of p) cast p paced.2 refl;
      admitted = is.admitted;
      held = hold file p h.files;
    }

pub paced_reached : PacedProgrammesAreSendable → PacedProgrammesAreReached
paced_reached law file name step p cast config delivery is r of near = record { sendable = law file name step p cast is; receives = r; of = of; near = near }
