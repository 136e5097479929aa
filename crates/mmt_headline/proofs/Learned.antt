-- What the names of a table leave to be noted: nothing, where the entries that are learned are those that they name.
use Rattle.std.proofs.Common.{◌≡◌, ℕ, Bool, true, false, not, ◌&&◌, ◌||◌, ◌==◌, nat_lt, cond, List, [], ◌∷◌, ◌++◌, map, length, Option, Some, None, append_assoc, refl, sym, ap, subst, ◌∙◌}
use Rattle.std.specs.List.{AllByRecursion, list_any}
use Rattle.std.proofs.lemmas.List.{append-nil}
use Rattle.mmt_base.specs.Ticks.{is_after, low}
use Rattle.mmt_model.specs.Entries.{Entry, is_of_same_mpu, last_due, learn, learn_one}
use Rattle.mmt_naming.specs.Findings.{Naming, notes_of, notes_of_name}
use Rattle.mmt_output.specs.declared.notes.Note.{Note}
use Rattle.mmt_times.specs.Known.{entry_of}
use Rattle.mmt_times.specs.Learning.{Verdict, has_same_times, verdict, verdict_beside}

-- an entry of the same MPU has the same times
abbrev pub Agrees : Entry → Entry → Type 0
Agrees e f = is_of_same_mpu e f ≡ true → has_same_times f e ≡ true

-- in what is learned in the end, an entry of the same MPU has the same times, and where the name's last due tick is after the clock there is one
pub record IsLearned (now : ℕ) (all : List Entry) (e : Entry) : Type 0 where
  pub agrees : AllByRecursion (Agrees e) all
  pub there : is_after (low (last_due e)) now ≡ true → list_any (is_of_same_mpu e) all ≡ true

-- ---- what is learned stands after what was there

learned-one : (now : ℕ) (xs : List Entry) (e : Entry) → (added : List Entry) × (learn_one now xs e ≡ xs ++ added)
unfolding learn_one
learned-one now xs e = go (is_after (low (last_due e)) now && (not (list_any (is_of_same_mpu e) xs) && nat_lt (length xs) 1024))
  where
    go : (b : Bool) → (added : List Entry) × (cond b (xs ++ e ∷ []) xs ≡ xs ++ added)
    go true = (e ∷ [], refl)
    go false = ([], sym (append-nil xs))

learned : (now : ℕ) (xs es : List Entry) → (added : List Entry) × (learn now xs es ≡ xs ++ added)
unfolding learn
learned now xs [] = ([], sym (append-nil xs))
learned now xs (e ∷ es) =
    let one = learned-one now xs e in
    let rest = learned now (learn_one now xs e) es in
    (one.0 ++ rest.0, rest.1 ∙ ap (λ (ys : List Entry). ys ++ rest.0) one.1 ∙ append_assoc xs one.0 rest.0)

each-front : {X : Type 0} (P : X → Type 0) (xs ys : List X) → AllByRecursion P (xs ++ ys) → AllByRecursion P xs
each-front P [] ys h = tt
each-front P (x ∷ xs) ys h = (h.0, each-front P xs ys h.1)

-- ---- where 1,024 are kept, none is added

full-one : (now : ℕ) (xs : List Entry) (e : Entry) → nat_lt (length xs) 1024 ≡ false → learn_one now xs e ≡ xs
unfolding learn_one
full-one now xs e full = go (is_after (low (last_due e)) now) (list_any (is_of_same_mpu e) xs) (nat_lt (length xs) 1024) full
  where
    go : (a b c : Bool) → c ≡ false → cond (a && (not b && c)) (xs ++ e ∷ []) xs ≡ xs
    go true true c f = refl
    go true false true f = absurd cc
    go true false false f = refl
    go false b c f = refl

full : (now : ℕ) (xs es : List Entry) → nat_lt (length xs) 1024 ≡ false → learn now xs es ≡ xs
unfolding learn
full now xs [] f = refl
full now xs (e ∷ es) f = ap (λ (ys : List Entry). learn now ys es) (full-one now xs e f) ∙ full now xs es f

-- ---- the first entry of an MPU

found-agrees : (e : Entry) (xs : List Entry) (kept : Entry) → AllByRecursion (Agrees e) xs → entry_of xs e.packet_id e.mpu ≡ Some kept → has_same_times kept e ≡ true
unfolding is_of_same_mpu
found-agrees e [] kept h is = absurd cc
found-agrees e (f ∷ xs) kept h is = go ((f.packet_id == e.packet_id) && (f.mpu == e.mpu)) h.0 is (found-agrees e xs kept h.1)
  where
    go : (b : Bool) → (b ≡ true → has_same_times f e ≡ true) → cond b (Some f) (entry_of xs e.packet_id e.mpu) ≡ Some kept → (entry_of xs e.packet_id e.mpu ≡ Some kept → has_same_times kept e ≡ true) → has_same_times kept e ≡ true
    go true same is later = let own : f ≡ kept = cc in subst (λ (x : Entry). has_same_times x e ≡ true) own (same refl)
    go false same is later = later is

none-of : (e : Entry) (xs : List Entry) → entry_of xs e.packet_id e.mpu ≡ None → list_any (is_of_same_mpu e) xs ≡ false
unfolding is_of_same_mpu
none-of e [] is = refl
none-of e (f ∷ xs) is = go ((f.packet_id == e.packet_id) && (f.mpu == e.mpu)) is (none-of e xs)
  where
    go : (b : Bool) → cond b (Some f) (entry_of xs e.packet_id e.mpu) ≡ None → (entry_of xs e.packet_id e.mpu ≡ None → list_any (is_of_same_mpu e) xs ≡ false) → (b || list_any (is_of_same_mpu e) xs) ≡ false
    go true is later = absurd cc
    go false is later = later is

-- ---- one name

one-quiet : (now m : ℕ) (live es : List Entry) (e : Entry) → IsLearned now (learn now live (e ∷ es)) e → notes_of_name m e (verdict now live e) ≡ []
one-quiet now m live es e l = alive (is_after (low (last_due e)) now) refl
  where
    beside : is_after (low (last_due e)) now ≡ true → (o : Option Entry) → entry_of live e.packet_id e.mpu ≡ o → notes_of_name m e (verdict_beside live e o) ≡ []
    beside a (Some kept) is =
        let split = learned now live (e ∷ es) in
        let own : has_same_times kept e ≡ true = found-agrees e live kept (each-front (Agrees e) live split.0 (subst (AllByRecursion (Agrees e)) split.1 l.agrees)) is in
        ap (λ (b : Bool). notes_of_name m e (cond b Verdict.Known (Verdict.Differs kept.time))) own
    beside a None is = room (nat_lt (length live) 1024) refl
      where
        room : (b : Bool) → nat_lt (length live) 1024 ≡ b → notes_of_name m e (cond b Verdict.New Verdict.EntriesFull) ≡ []
        room true f = refl
        room false f =
            let same : learn now live (e ∷ es) ≡ live = full now live (e ∷ es) f in
            let some : list_any (is_of_same_mpu e) live ≡ true = subst (λ (xs : List Entry). list_any (is_of_same_mpu e) xs ≡ true) same (l.there a) in
            let none : list_any (is_of_same_mpu e) live ≡ false = none-of e live is in
            absurd cc

    alive : (b : Bool) → is_after (low (last_due e)) now ≡ b → notes_of_name m e (cond (not b) Verdict.Past (verdict_beside live e (entry_of live e.packet_id e.mpu))) ≡ []
    alive true a = beside a (entry_of live e.packet_id e.mpu) refl
    alive false a = refl

-- ---- all names of a message

-- names of which each is so learned leave nothing to be noted
pub names-quiet : (now m : ℕ) (live es : List Entry) → AllByRecursion (IsLearned now (learn now live es)) es → notes_of now live (map (Naming m) es) ≡ []
unfolding notes_of learn
names-quiet now m live [] l = refl
names-quiet now m live (e ∷ es) l =
    ap (λ (ns : List Note). ns ++ notes_of now (learn_one now live e) (map (Naming m) es)) (one-quiet now m live es e l.0) ∙ names-quiet now m (learn_one now live e) es l.1
