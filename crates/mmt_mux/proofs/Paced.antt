-- How a run of `pace` ends, and what passed.
use Rattle.std.proofs.Common.{◌≡◌, ℕ, inl, inr, List, [], ◌∷◌, ◌++◌, Option, Some, None, Result, Ok, Err, refl, ap, sym, ◌∙◌, subst}
use Rattle.std.proofs.lemmas.List.{append-nil}
use Rattle.mmt_admit.specs.Faults.{fault_value}
use Rattle.mmt_cast.specs.Casting.{cast_of}
use Rattle.mmt_io.specs.History.{Event}
use Rattle.mmt_model.specs.Admission.{Fault, fault}
use Rattle.mmt_model.specs.declared.casts.Cast.{Cast}
use Rattle.mmt_model.specs.declared.programmes.Programme.{Programme}
use Rattle.mmt_mux.specs.Casts.{IsCastAnswer, bytes_if}
use Rattle.mmt_mux.specs.Ending.{Muxes, Passes}
use Rattle.mmt_mux.specs.Pacing.{HasBegun, IsAdmitted, IsNotCast, IsPaceAnswer, IsPaced, PaceSends, castable, no_schedule_end}
use Rattle.mmt_mux.specs.declared.ends.MuxEnd.{MuxEnd}
use Rattle.mmt_mux.specs.declared.ends.MuxEnd.TheVariants as ends
use Rattle.mmt_mux.specs.declared.ends.PaceEnd.{PaceEnd}
use Rattle.mmt_mux.specs.declared.ends.PaceEnd.TheVariants as paces
use Rattle.mmt_pace.specs.Pacing.{Paces}
use Rattle.mmt_send.specs.Files.{files_on}
use Rattle.mmt_sent.specs.Stream.{stream}
use Rattle.mmt_slots.specs.declared.row.NoSchedule.{NoSchedule}
use Rattle.mmt_slots.specs.declared.row.NoSchedule.TheVariants as schedules
use Rattle.mmt_tlv.specs.Framing.{joined}

pub nothing : (h : List Event) → Passes [] h h
nothing h = record { events = []; history = sym (append-nil h); written = refl; unread = refl; quiet = refl }

-- ---- before the cast is paced

pub refused_answer : (file : List ℕ → Option (List ℕ)) (name : List ℕ) (step : ℕ) (end : MuxEnd) → IsNotCast (castable file name) end → IsPaceAnswer file name step (Err (paces.Ended end))
refused_answer file name step (ends.Refused reason place) e = e
refused_answer file name step (ends.NotAdmitted r) e = absurd e
refused_answer file name step ends.ReadFault e = tt
refused_answer file name step ends.WriteFault e = tt
refused_answer file name step ends.OutOfMemory e = tt

pub nothing_sent : (file : List ℕ → Option (List ℕ)) (name : List ℕ) (step : ℕ) (end : PaceEnd) (h : List Event) → PaceSends file name step (Err end) h h
nothing_sent file name step (paces.NotPaced from to jobs slots) h = nothing h
nothing_sent file name step (paces.Ended (ends.Refused reason place)) h = nothing h
nothing_sent file name step (paces.Ended (ends.NotAdmitted r)) h = nothing h
nothing_sent file name step (paces.Ended ends.ReadFault) h = inl (nothing h)
nothing_sent file name step (paces.Ended ends.WriteFault) h = inl (nothing h)
nothing_sent file name step (paces.Ended ends.OutOfMemory) h = inl (nothing h)

-- ---- where it is not paced

pub overfull_answer : (file : List ℕ → Option (List ℕ)) (name : List ℕ) (step : ℕ) (p : Programme) (cast : Cast) (end : NoSchedule) → castable file name ≡ Ok p → cast ≡ cast_of p → Paces cast step (Err end)
    → IsPaceAnswer file name step (Err (no_schedule_end end))
overfull_answer file name step p cast (schedules.Overfull from to jobs slots) is e a = (p, is, subst (λ (c : Cast). Paces c step (Err (schedules.Overfull from to jobs slots))) e a)
overfull_answer file name step p cast schedules.OutOfMemory is e a = tt

pub no_fault_of_schedules : (end : NoSchedule) (fault : MuxEnd) → no_schedule_end end ≡ paces.Ended fault → fault ≡ ends.OutOfMemory
no_fault_of_schedules (schedules.Overfull from to jobs slots) fault e = absurd cc
no_fault_of_schedules schedules.OutOfMemory fault e = cc

-- ---- where it is paced

pub is_paced : (file : List ℕ → Option (List ℕ)) (name : List ℕ) (step : ℕ) (p : Programme) (cast new : Cast) → castable file name ≡ Ok p → cast ≡ cast_of p → Paces cast step (Ok new) → IsPaced file name step p new
is_paced file name step p cast new is e a = record { plan = is; paced = subst (λ (c : Cast). Paces c step (Ok new)) e a }

-- the answer of a run from that of sending the paced cast
pub paced_answer : (file : List ℕ → Option (List ℕ)) (name : List ℕ) (step : ℕ) (p : Programme) (new : Cast) (end : MuxEnd) → IsPaced file name step p new → IsCastAnswer (fault new) (Err end) → IsPaceAnswer file name step (Err (paces.Ended end))
paced_answer file name step p new (ends.Refused reason place) is a = absurd a
paced_answer file name step p new (ends.NotAdmitted r) is a = (p, new, is, a)
paced_answer file name step p new ends.ReadFault is a = tt
paced_answer file name step p new ends.WriteFault is a = tt
paced_answer file name step p new ends.OutOfMemory is a = tt

pub paced_sent : (file now : List ℕ → Option (List ℕ)) (name : List ℕ) (step : ℕ) (p : Programme) (new : Cast) (old later : List Event) → now ≡ file → IsPaced file name step p new → fault new ≡ None
    → Muxes (bytes_if (fault new) (joined (stream p new (files_on now p)))) (Ok tt) old later → PaceSends file name step (Ok tt) old later
paced_sent file now name step p new old later same is ok m =
    (p, new, record { is = is; admitted = ok }, subst (λ (f : List ℕ → Option (List ℕ)). Passes (joined (stream p new (files_on f p))) old later) same (subst (λ (o : Option Fault). Passes (bytes_if o (joined (stream p new (files_on now p)))) old later) ok m))

none-before : (front rest : List ℕ) → [] ≡ front ++ rest → front ≡ []
none-before [] rest e = refl
none-before (x ∷ xs) rest e = absurd cc

-- of what was begun of the bytes of a cast: nothing where it has a fault
begun : (file : List ℕ → Option (List ℕ)) (name : List ℕ) (step : ℕ) (p : Programme) (new : Cast) (old later : List Event) → IsPaced file name step p new → (o : Option Fault) → fault new ≡ o → (end : MuxEnd) → IsCastAnswer o (Err end)
    → Muxes (bytes_if o (joined (stream p new (files_on file p)))) (Err end) old later → PaceSends file name step (Err (paces.Ended end)) old later
begun file name step p new old later is o e (ends.Refused reason place) a m = absurd a
begun file name step p new old later is None e (ends.NotAdmitted r) a m = absurd cc
begun file name step p new old later is (Some f) e (ends.NotAdmitted r) a (front, rest, all, passes) = subst (λ (bs : List ℕ). Passes bs old later) (none-before front rest all) passes
begun file name step p new old later is None e ends.ReadFault a (front, rest, all, passes) = inr (record { programme = p; cast = new; is = record { is = is; admitted = e }; front = front; rest = rest; all = all; passes = passes })
begun file name step p new old later is None e ends.WriteFault a (front, rest, all, passes) = inr (record { programme = p; cast = new; is = record { is = is; admitted = e }; front = front; rest = rest; all = all; passes = passes })
begun file name step p new old later is None e ends.OutOfMemory a (front, rest, all, passes) = inr (record { programme = p; cast = new; is = record { is = is; admitted = e }; front = front; rest = rest; all = all; passes = passes })
begun file name step p new old later is (Some f) e ends.ReadFault a (front, rest, all, passes) = inl (subst (λ (bs : List ℕ). Passes bs old later) (none-before front rest all) passes)
begun file name step p new old later is (Some f) e ends.WriteFault a (front, rest, all, passes) = inl (subst (λ (bs : List ℕ). Passes bs old later) (none-before front rest all) passes)
begun file name step p new old later is (Some f) e ends.OutOfMemory a (front, rest, all, passes) = inl (subst (λ (bs : List ℕ). Passes bs old later) (none-before front rest all) passes)

pub paced_begun : (file now : List ℕ → Option (List ℕ)) (name : List ℕ) (step : ℕ) (p : Programme) (new : Cast) (end : MuxEnd) (old later : List Event) → now ≡ file → IsPaced file name step p new → IsCastAnswer (fault new) (Err end)
    → Muxes (bytes_if (fault new) (joined (stream p new (files_on now p)))) (Err end) old later → PaceSends file name step (Err (paces.Ended end)) old later
paced_begun file now name step p new end old later same is a m =
    begun file name step p new old later is (fault new) refl end a (subst (λ (f : List ℕ → Option (List ℕ)). Muxes (bytes_if (fault new) (joined (stream p new (files_on f p)))) (Err end) old later) same m)
