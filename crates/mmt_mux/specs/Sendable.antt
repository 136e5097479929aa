-- Whether the stream of a plan is sent: the programme, or the first reason why nothing is sent (this project's rules).
use Rattle.std.specs.Prelude.{ℕ, List, [], Option, Some, None, Result, Ok, Err}
use Rattle.mmt_cast.specs.Casting.{cast_of}
use Rattle.mmt_cast.specs.Refusing.{Refusal as NoCast, refusal}
use Rattle.mmt_model.specs.Admission.{Fault, fault}
use Rattle.mmt_model.specs.declared.programmes.Programme.{Programme}
use Rattle.mmt_plan.specs.Files.{files_of}
use Rattle.mmt_plan.specs.Plan.{plan}
use Rattle.mmt_plan.specs.declared.ends.PlanPart.TheVariants as parts
use Rattle.mmt_plan.specs.declared.ends.PlanPlace.{PlanPlace}
use Rattle.mmt_plan.specs.declared.ends.Reason.TheVariants as reasons
use Rattle.mmt_plan.specs.declared.ends.Refusal.{Refusal}
use Rattle.mmt_send.specs.Files.{files_on}
use Rattle.mmt_sent.specs.Stream.{stream}
use Rattle.mmt_tlv.specs.Framing.{joined}

-- why nothing is sent: the plan or its files are refused, or the cast is not admitted
pub data Why : Type 0 where
  Refused : Refusal → Why
  Faulty : Fault → Why

-- the next check, where the one before it passed
infixl 10 ◌>>=◌
abbrev pub ◌>>=◌ : {A B : Type 0} → Result A Why → (A → Result B Why) → Result B Why
(Ok x) >>= f = f x
(Err why) >>= f = Err why

-- a check of a plan or of its files
abbrev pub checked : {A : Type 0} → Result A Refusal → Result A Why
checked (Ok x) = Ok x
checked (Err r) = Err (Refused r)

-- the place of an object of the plan, by its part, its numbers and a member
abbrev pub place_of_au : ℕ → ℕ → ℕ → PlanPlace
place_of_au asset mpu au = record { part = parts.Au; a = asset; b = mpu; c = au; field = 0 }

-- why a programme has no cast, with its place in the plan: at the access unit, at the names of the table, which are its member 3, or at the plan's assets, its member 13
abbrev pub cast_refusal : NoCast → Refusal
cast_refusal (NoCast.TimeRange asset mpu au) = record { reason = reasons.TimeRange; place = place_of_au asset mpu au }
cast_refusal (NoCast.TableLong signal) = record { reason = reasons.TableLong; place = record { part = parts.Signal; a = signal; b = 0; c = 0; field = 3 } }
cast_refusal (NoCast.CastLong packets) = record { reason = reasons.CastLong; place = record { part = parts.Top; a = 0; b = 0; c = 0; field = 13 } }

-- a programme has a cast
abbrev pub has_cast : Option NoCast → Result (Unit {0}) Why
has_cast None = Ok tt
has_cast (Some r) = Err (Refused (cast_refusal r))

-- a cast is admitted
abbrev pub is_admitted : Option Fault → Result (Unit {0}) Why
is_admitted None = Ok tt
is_admitted (Some f) = Err (Faulty f)

-- the programme whose stream is sent: the plan is one, it has a cast, its files are there and long enough, and the cast is admitted, checked in this order
unfoldable pub sendable : (List ℕ → Option (List ℕ)) → List ℕ → Result Programme Why
sendable file name = do
  p ← checked (plan (file name))
  _ ← has_cast (refusal p)
  _ ← checked (files_of file p)
  _ ← is_admitted (fault (cast_of p))
  Ok p

-- the bytes that are sent: the stream of the programme, and none where there is a reason against it
abbrev pub sent_bytes : (List ℕ → Option (List ℕ)) → Result Programme Why → List ℕ
sent_bytes file (Ok p) = joined (stream p (cast_of p) (files_on file p))
sent_bytes file (Err why) = []
