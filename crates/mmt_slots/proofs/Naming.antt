-- The jobs with their places.
use Rattle.std.proofs.Common.{◌≡◌, ℕ, suc, ◌+◌, ◌-◌, ◌<◌, ◌≤◌, Bool, ◌&&◌, ◌==◌, nat_lt, nat_le, cond, List, [], ◌∷◌, ◌++◌, take, length, get_or, refl, ap, arith, ◌∙◌}
use Rattle.std.specs.List.{All, count_by}
use Rattle.std.proofs.lemmas.List.{take_more, length-take}
use Rattle.std.proofs.lemmas.List.Elements.{All-cons, All-nil}
use Rattle.std.proofs.lemmas.Bool.Decides.{nat_tests}
use Rattle.mmt_model.specs.Counts.{as_number}
use Rattle.mmt_slots.specs.declared.row.Job.{Job}
use Rattle.mmt_slots.specs.declared.line.Waiting.{Waiting}
use Rattle.mmt_slots.specs.Schedule.{release_of, deadline_of}
use Rattle.mmt_slots.specs.Lines.{named}
use Rattle.mmt_slots.proofs.Counting.{count-cons}

-- a waiting job is the job at its place, the places from n on
pub record IsJobFrom (n : ℕ) (jobs : List Job) (w : Waiting) : Type 0 where
  pub low : n ≤ w.place
  pub high : w.place < n + length jobs
  pub release : release_of jobs (w.place - n) ≡ w.release
  pub deadline : deadline_of jobs (w.place - n) ≡ w.deadline

one_later : (n : ℕ) (job : Job) (jobs : List Job) (w : Waiting) → IsJobFrom (n + 1) jobs w → IsJobFrom n (job ∷ jobs) w
one_later n job jobs w h =
    let e : w.place - n ≡ suc (w.place - (n + 1)) = omega (arith, h.low) in
    record { low = omega (arith, h.low); high = omega (arith, h.high); release = rw e h.release; deadline = rw e h.deadline }

pub named-are : (n : ℕ) (jobs : List Job) → All (IsJobFrom n jobs) (named n jobs)
named-are n [] = All-nil (IsJobFrom n [])
named-are n (job ∷ jobs) =
    let z : n - n ≡ 0 = omega arith in
    All-cons (IsJobFrom n (job ∷ jobs)) (record { deadline = job.deadline; place = n; release = job.release }) (named (n + 1) jobs)
    (record { low = omega arith; high = omega arith; release = rw z refl; deadline = rw z refl })
    (λ k d l. one_later n job jobs (get_or (named (n + 1) jobs) k d) (named-are (n + 1) jobs k d l))

-- one job more
pub named-push : (n : ℕ) (jobs : List Job) (job : Job) → named n (jobs ++ job ∷ []) ≡ named n jobs ++ record { deadline = job.deadline; place = n + length jobs; release = job.release } ∷ []
named-push n [] job = let e : n ≡ n + 0 = omega arith in ap (λ (k : ℕ). let w : Waiting = record { deadline = job.deadline; place = k; release = job.release } in w ∷ []) e
named-push n (j ∷ jobs) job =
    let e : n + 1 + length jobs ≡ n + suc (length jobs) = omega arith in
    let f : named (n + 1) (jobs ++ job ∷ []) ≡ named (n + 1) jobs ++ record { deadline = job.deadline; place = n + suc (length jobs); release = job.release } ∷ [] =
    named-push (n + 1) jobs job ∙ ap (λ (k : ℕ). let w : Waiting = record { deadline = job.deadline; place = k; release = job.release } in named (n + 1) jobs ++ w ∷ []) e in
    ap (λ (ws : List Waiting). let w : Waiting = record { deadline = j.deadline; place = n; release = j.release } in w ∷ ws) f

-- the first jobs with their places, and one more
pub named-more : (jobs : List Job) (i : ℕ) (d : Job) → i < length jobs → named 0 (take (i + 1) jobs) ≡ named 0 (take i jobs) ++ record { deadline = (get_or jobs i d).deadline; place = i; release = (get_or jobs i d).release } ∷ []
named-more jobs i d l =
    let e : 0 + length (take i jobs) ≡ i = omega (arith, length-take i jobs) in
    ap (named 0) (take_more jobs i d l) ∙ named-push 0 (take i jobs) (get_or jobs i d) ∙ ap (λ (k : ℕ). let w : Waiting = record { deadline = (get_or jobs i d).deadline; place = k; release = (get_or jobs i d).release } in named 0 (take i jobs) ++ w ∷ []) e

-- a test of release and deadline counts the same
pub named-count : (p : ℕ → ℕ → Bool) (n : ℕ) (jobs : List Job) → count_by (λ w. p w.release w.deadline) (named n jobs) ≡ count_by (λ job. p job.release job.deadline) jobs
named-count p n [] = refl
named-count p n (job ∷ jobs) =
    let e = count-cons (λ (w : Waiting). p w.release w.deadline) (record { deadline = job.deadline; place = n; release = job.release }) (named (n + 1) jobs) in
    let f = count-cons (λ (j : Job). p j.release j.deadline) job jobs in
    let g = named-count p (n + 1) jobs in
    omega arith

-- each place stands there once
pub named-places : (i n : ℕ) (jobs : List Job) → count_by (λ w. w.place == i) (named n jobs) ≡ as_number (nat_le n i && nat_lt i (n + length jobs))
named-places i n [] = grind (arith, nat_tests)
named-places i n (job ∷ jobs) =
    go (count_by (λ (w : Waiting). w.place == i) (named n (job ∷ jobs))) (count_by (λ (w : Waiting). w.place == i) (named (n + 1) jobs)) (length jobs) (count-cons (λ (w : Waiting). w.place == i) (record { deadline = job.deadline; place = n; release = job.release }) (named (n + 1) jobs)) (named-places i (n + 1) jobs)
  where
    go : (all rest len : ℕ) → all ≡ cond (n == i) 1 0 + rest → rest ≡ as_number (nat_le (n + 1) i && nat_lt i (n + 1 + len)) → all ≡ as_number (nat_le n i && nat_lt i (n + suc len))
    go all rest len e f = grind (arith, nat_tests)
