-- What becomes of an entry, case by case.
use Rattle.std.proofs.Common.{◌≡◌, ◌≢◌, ℕ, Bool, true, false, not, ◌&&◌, ◌||◌, ◌==◌, nat_lt, cond, List, [], ◌∷◌, ◌++◌, length, Option, Some, None, refl, ap, ◌∙◌, sym}
use Rattle.std.specs.List.{list_any}
use Rattle.mmt_base.specs.Ticks.{is_after, low}
use Rattle.mmt_model.specs.Entries.{Entry, last_due, is_of_same_mpu, learn_one}
use Rattle.mmt_times.specs.declared.learned.Learned.{Learned}
use Rattle.mmt_times.specs.declared.learned.Learned.TheVariants as learned
use Rattle.mmt_times.specs.Known.{Known, entry_of}
use Rattle.mmt_times.specs.LearnedView.{view_learned, ChangesNothing}
use Rattle.mmt_times.specs.Learning.{Verdict, verdict, verdict_beside, has_same_times}

-- whether there is a value
abbrev pub some : {A : Type 0} → Option A → Bool
some None = false
some (Some a) = true

pub is_named : (e : Entry) (es : List Entry) → list_any (is_of_same_mpu e) es ≡ some (entry_of es e.packet_id e.mpu)
unfolding is_of_same_mpu
is_named e [] = refl
is_named e (f ∷ es) = go ((f.packet_id == e.packet_id) && (f.mpu == e.mpu)) (is_named e es)
  where
    go : (b : Bool) → list_any (is_of_same_mpu e) es ≡ some (entry_of es e.packet_id e.mpu) → (b || list_any (is_of_same_mpu e) es) ≡ some (cond b (Some f) (entry_of es e.packet_id e.mpu))
    go true ih = refl
    go false ih = ih

-- an entry whose last due tick is not after the clock is past
pub past : (now : ℕ) (es : List Entry) (e : Entry) → not (is_after (low (last_due e)) now) ≡ true → verdict now es e ≡ Verdict.Past
past now es e p = rw p refl

-- one whose MPU has an entry with the same times is known
pub known : (now : ℕ) (es : List Entry) (e k : Entry) → not (is_after (low (last_due e)) now) ≡ false → entry_of es e.packet_id e.mpu ≡ Some k → has_same_times k e ≡ true → verdict now es e ≡ Verdict.Known
known now es e k a n same = rw (a, n, same) refl

-- one whose MPU has another entry differs
pub differs : (now : ℕ) (es : List Entry) (e k : Entry) → not (is_after (low (last_due e)) now) ≡ false → entry_of es e.packet_id e.mpu ≡ Some k → has_same_times k e ≡ false → verdict now es e ≡ Verdict.Differs k.time
differs now es e k a n same = rw (a, n, same) refl

-- one whose MPU has no entry finds no room beside 1,024 entries, and else it is new
pub crowded : (now : ℕ) (es : List Entry) (e : Entry) → not (is_after (low (last_due e)) now) ≡ false → entry_of es e.packet_id e.mpu ≡ None → nat_lt (length es) 1024 ≡ false → verdict now es e ≡ Verdict.EntriesFull
crowded now es e a n full = rw (a, n, full) refl

pub fresh : (now : ℕ) (es : List Entry) (e : Entry) → not (is_after (low (last_due e)) now) ≡ false → entry_of es e.packet_id e.mpu ≡ None → nat_lt (length es) 1024 ≡ true → verdict now es e ≡ Verdict.New
fresh now es e a n room = rw (a, n, room) refl

-- the entries after an answer
abbrev pub learn_by : Verdict → List Entry → Entry → List Entry
learn_by Verdict.New es e = es ++ e ∷ []
learn_by Verdict.Known es e = es
learn_by (Verdict.Differs t) es e = es
learn_by Verdict.Past es e = es
learn_by Verdict.EntriesFull es e = es

-- the answer tells whether an entry is added
pub learns : (now : ℕ) (es : List Entry) (e : Entry) → learn_one now es e ≡ learn_by (verdict now es e) es e
unfolding learn_one
learns now es e = rw (is_named e es) (go (is_after (low (last_due e)) now) (entry_of es e.packet_id e.mpu))
  where
    both : (k : Entry) (b : Bool) → es ≡ learn_by (cond b Verdict.Known (Verdict.Differs k.time)) es e
    both k true = refl
    both k false = refl

    room : (b : Bool) → cond b (es ++ e ∷ []) es ≡ learn_by (cond b Verdict.New Verdict.EntriesFull) es e
    room true = refl
    room false = refl

    go : (after : Bool) (k : Option Entry) → cond (after && (not (some k) && nat_lt (length es) 1024)) (es ++ e ∷ []) es ≡ learn_by (cond (not after) Verdict.Past (verdict_beside es e k)) es e
    go false k = refl
    go true (Some k) = both k (has_same_times k e)
    go true None = room (nat_lt (length es) 1024)

-- a new entry is added at the end
pub added : (now : ℕ) (es : List Entry) (e : Entry) → verdict now es e ≡ Verdict.New → learn_one now es e ≡ es ++ e ∷ []
added now es e new = learns now es e ∙ ap (λ v. learn_by v es e) new

-- an answer other than New adds nothing
pub stays : (l : Learned) (es : List Entry) (e : Entry) → l ≢ learned.New → learn_by (view_learned l) es e ≡ es
stays learned.New es e other = absurd (other refl)
stays learned.Known es e other = refl
stays (learned.Differs kept) es e other = refl
stays learned.Past es e other = refl
stays learned.EntriesFull es e other = refl

-- after an answer other than New the entries are as they were
pub kept : (now : ℕ) (es : List Entry) (e : Entry) (l : Learned) → view_learned l ≡ verdict now es e → l ≢ learned.New → es ≡ learn_one now es e
kept now es e l is other = sym (learns now es e ∙ ap (λ v. learn_by v es e) (sym is) ∙ stays l es e other)

-- nothing has changed
pub the_same : (l : Learned) (k : Known) → ChangesNothing l k k
the_same learned.New k = tt
the_same learned.Known k = refl
the_same (learned.Differs kept) k = refl
the_same learned.Past k = refl
the_same learned.EntriesFull k = refl
