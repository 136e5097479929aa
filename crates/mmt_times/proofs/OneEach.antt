-- No two live entries are of the same MPU.
use Rattle.std.proofs.Common.{◌≡◌, ℕ, ◌<◌, Bool, true, false, not, nat_lt, length, ◌&&◌, ◌||◌, ◌==◌, cond, List, [], ◌∷◌, ◌++◌, filter, refl, ap, ap₂, sym, ◌∙◌, arith, Option, Some, None, option_map}
use Rattle.std.specs.List.{list_any}
use Rattle.std.proofs.lemmas.Bool.Decides.{nat_tests}
use Rattle.std.proofs.lemmas.Bool.{eqb-true, ltb-true, and_parts}
use Rattle.mmt_model.specs.Entries.{Entry, is_of_same_mpu, forget, last_due}
use Rattle.mmt_times.specs.Known.{entry_of, time_in, HasOneEach}
use Rattle.mmt_base.specs.Ticks.{is_after, is_passed, low}
use Rattle.mmt_model.specs.declared.keys.UnitKey.{UnitKey}
use Rattle.mmt_model.specs.Handing.{time_for}
use Rattle.mmt_times.specs.Learning.{Verdict, verdict, verdict_beside, has_same_times}
use Rattle.mmt_times.proofs.Learning.{some, is_named}

none-filter : (q p : Entry → Bool) (es : List Entry) → list_any q es ≡ false → list_any q (filter p es) ≡ false
none-filter q p [] n = refl
none-filter q p (e ∷ es) n = go (q e) (p e) refl (none-filter q p es) n
  where
    go : (a b : Bool) → q e ≡ a → (list_any q es ≡ false → list_any q (filter p es) ≡ false) → (a || list_any q es) ≡ false → list_any q (cond b (e ∷ filter p es) (filter p es)) ≡ false
    go true b i f n = absurd cc
    go false true i f n = rw i (f n)
    go false false i f n = f n

-- where some entries are forgotten
pub one-filter : (p : Entry → Bool) (es : List Entry) → HasOneEach es → HasOneEach (filter p es)
unfolding HasOneEach
one-filter p [] h = tt
one-filter p (e ∷ es) h = go (p e) (one-filter p es h.1)
  where
    go : (b : Bool) → HasOneEach (filter p es) → HasOneEach (cond b (e ∷ filter p es) (filter p es))
    go true ih = (none-filter (is_of_same_mpu e) p es h.0, ih)
    go false ih = ih

either_way : (e f : Entry) → is_of_same_mpu e f ≡ false → is_of_same_mpu f e ≡ false
unfolding is_of_same_mpu
either_way e f n = grind (arith, nat_tests)

none-push : (e f : Entry) (es : List Entry) → list_any (is_of_same_mpu f) es ≡ false → is_of_same_mpu e f ≡ false → list_any (is_of_same_mpu f) (es ++ e ∷ []) ≡ false
none-push e f [] n m = rw (either_way e f m) refl
none-push e f (g ∷ es) n m = go (is_of_same_mpu f g) (λ k. none-push e f es k m) n
  where
    go : (b : Bool) → (list_any (is_of_same_mpu f) es ≡ false → list_any (is_of_same_mpu f) (es ++ e ∷ []) ≡ false) → (b || list_any (is_of_same_mpu f) es) ≡ false → (b || list_any (is_of_same_mpu f) (es ++ e ∷ [])) ≡ false
    go true ih n = absurd cc
    go false ih n = ih n

-- where one of another MPU is added
pub one-push : (e : Entry) (es : List Entry) → HasOneEach es → list_any (is_of_same_mpu e) es ≡ false → HasOneEach (es ++ e ∷ [])
unfolding HasOneEach
one-push e [] h n = (refl, tt)
one-push e (f ∷ es) h n = go (is_of_same_mpu e f) refl n (λ k. one-push e es h.1 k)
  where
    go : (b : Bool) → is_of_same_mpu e f ≡ b → (b || list_any (is_of_same_mpu e) es) ≡ false → (list_any (is_of_same_mpu e) es ≡ false → HasOneEach (es ++ e ∷ [])) → HasOneEach ((f ∷ es) ++ e ∷ [])
    go true i n ih = absurd cc
    go false i n ih = (none-push e f es h.0 i, ih n)

-- a new entry is of an MPU that has none
pub new-other : (now : ℕ) (es : List Entry) (e : Entry) → verdict now es e ≡ Verdict.New → list_any (is_of_same_mpu e) es ≡ false
new-other now es e v = is_named e es ∙ go (not (is_after (low (last_due e)) now)) (entry_of es e.packet_id e.mpu) v
  where
    known_or : (k : Entry) (b : Bool) → cond b Verdict.Known (Verdict.Differs k.time) ≡ Verdict.New → ⊥
    known_or k true v = cc
    known_or k false v = cc

    go : (a : Bool) (o : Option Entry) → cond a Verdict.Past (verdict_beside es e o) ≡ Verdict.New → some o ≡ false
    go true o v = absurd cc
    go false None v = refl
    go false (Some k) v = absurd (known_or k (has_same_times k e) v)

-- and finds room
pub new-room : (now : ℕ) (es : List Entry) (e : Entry) → verdict now es e ≡ Verdict.New → length es < 1024
new-room now es e v = go (not (is_after (low (last_due e)) now)) (entry_of es e.packet_id e.mpu) (nat_lt (length es) 1024) refl v
  where
    known_or : (k : Entry) (b : Bool) → cond b Verdict.Known (Verdict.Differs k.time) ≡ Verdict.New → ⊥
    known_or k true v = cc
    known_or k false v = cc

    beside : Bool → Option Entry → Verdict
    beside t (Some k) = cond (has_same_times k e) Verdict.Known (Verdict.Differs k.time)
    beside t None = cond t Verdict.New Verdict.EntriesFull

    go : (a : Bool) (o : Option Entry) (t : Bool) → nat_lt (length es) 1024 ≡ t → cond a Verdict.Past (beside t o) ≡ Verdict.New → length es < 1024
    go true o t i v = absurd cc
    go false (Some k) t i v = absurd (known_or k (has_same_times k e) v)
    go false None true i v = ltb-true (length es) 1024 i
    go false None false i v = absurd cc

-- where the first entry of an MPU after others were forgotten was its first before
pub entry-filter : (p : Entry → Bool) (es : List Entry) (id mpu : ℕ) (e : Entry) → HasOneEach es → entry_of (filter p es) id mpu ≡ Some e → entry_of es id mpu ≡ Some e
unfolding HasOneEach
entry-filter p [] id mpu e h f = f
entry-filter p (g ∷ es) id mpu e h f = go ((g.packet_id == id) && (g.mpu == mpu)) (p g) refl (λ k. entry-filter p es id mpu e h.1 k) f
  where
    same_key : (o : Option Entry) → ((g.packet_id == id) && (g.mpu == mpu)) ≡ true → entry_of es id mpu ≡ o → list_any (is_of_same_mpu g) es ≡ some o
    same_key o t i =
        let a : g.packet_id ≡ id = eqb-true g.packet_id id (and_parts (g.packet_id == id) (g.mpu == mpu) t).0 in
        let b : g.mpu ≡ mpu = eqb-true g.mpu mpu (and_parts (g.packet_id == id) (g.mpu == mpu) t).1 in
        is_named g es ∙ ap some (ap₂ (λ x y. entry_of es x y) a b ∙ i)

    go : (a b : Bool) → ((g.packet_id == id) && (g.mpu == mpu)) ≡ a → (entry_of (filter p es) id mpu ≡ Some e → entry_of es id mpu ≡ Some e) → entry_of (cond b (g ∷ filter p es) (filter p es)) id mpu ≡ Some e
        → cond a (Some g) (entry_of es id mpu) ≡ Some e
    go true true i ih f = rw i at f
    go true false i ih f = absurd (let t : list_any (is_of_same_mpu g) es ≡ true = same_key (Some e) i (ih f) in let n = h.0 in cc)
    go false true i ih f = ih (rw i at f)
    go false false i ih f = ih f

-- the time that is known after others were forgotten was known before
pub time-forgotten : (from to base : ℕ) (es : List Entry) (id mpu : ℕ) (key : UnitKey) (t : ℕ) → HasOneEach es
    → time_in (record { entries = forget from to es; sample_base = base }) id mpu key ≡ Some t → time_in (record { entries = es; sample_base = base }) id mpu key ≡ Some t
unfolding forget
time-forgotten from to base es id mpu key t h f = go (entry_of (forget from to es) id mpu) refl f
  where
    go : (o : Option Entry) → entry_of (forget from to es) id mpu ≡ o → option_map (λ e. time_for base e key) o ≡ Some t → time_in (record { entries = es; sample_base = base }) id mpu key ≡ Some t
    go None i f = absurd cc
    go (Some e) i f = ap (option_map (λ e. time_for base e key)) (entry-filter (λ e. not (is_passed (low (last_due e)) from to)) es id mpu e h i) ∙ f

pub one-forget : (from to : ℕ) (es : List Entry) → HasOneEach es → HasOneEach (forget from to es)
unfolding forget
one-forget from to es h = one-filter (λ e. not (is_passed (low (last_due e)) from to)) es h

-- the first entry beside one that was added behind
pub time-added : (base : ℕ) (es : List Entry) (e : Entry) (id mpu : ℕ) (key : UnitKey) (t : ℕ) → ((e.packet_id == id) && (e.mpu == mpu)) ≡ false
    → time_in (record { entries = es ++ e ∷ []; sample_base = base }) id mpu key ≡ Some t → time_in (record { entries = es; sample_base = base }) id mpu key ≡ Some t
time-added base es e id mpu key t n f = ap (option_map (λ e. time_for base e key)) (sym (behind es)) ∙ f
  where
    behind : (es : List Entry) → entry_of (es ++ e ∷ []) id mpu ≡ entry_of es id mpu
    behind [] = rw n refl
    behind (g ∷ es) = ap (λ o. cond ((g.packet_id == id) && (g.mpu == mpu)) (Some g) o) (behind es)
