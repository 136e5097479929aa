-- The jobs of a cast, packet by packet from the last to the first.
use Rattle.std.proofs.Common.{◌≡◌, ℕ, ◌+◌, ◌-◌, ◌<◌, ◌≤◌, suc, zero, Bool, ◌==◌, cond, List, [], ◌∷◌, map, length, get_or, drop, set, replicate, arith, refl, ap, ap₂, sym, ◌∙◌, subst, Option, Some, None, ⊎_elim, get_or-set_other, get_or-set_same}
use Rattle.std.specs.List.{filter}
use Rattle.std.proofs.Math.ListN.{length-set}
use Rattle.std.proofs.lemmas.Bool.{cases_eq, eq-eqb, ne_eqb}
use Rattle.std.proofs.lemmas.List.{at_drop_more, drop-set, drop_all, length-replicate}
use Rattle.mmt_cast.specs.Casting.{least}
use Rattle.mmt_model.specs.Carrying.{least_with}
use Rattle.mmt_model.specs.declared.casts.Cast.{Cast}
use Rattle.mmt_model.specs.declared.casts.Sent.{Sent}
use Rattle.mmt_pace.specs.Deadlines.{jobs_by, jobs_from, limits_of_id, own_limit}
use Rattle.mmt_pace.specs.Spanned.{least_of}
use Rattle.mmt_slots.specs.declared.row.Job.{Job}

-- the jobs from a place on are made, and the least limits of their packets are those of each packet id
pub record AreMade (cast : Cast) (packets : List Sent) (from : ℕ) (jobs : List Job) (table : List (Option ℕ)) : Type 0 where
  pub long : length table ≡ 65536
  pub all : length jobs ≡ length packets
  pub each : (id : ℕ) → id < 65536 → get_or table id None ≡ least_of (limits_of_id cast id (drop from packets))
  pub done : drop from jobs ≡ jobs_from cast (drop from packets)

replicate-at : (n m : ℕ) (d : Option ℕ) → get_or (replicate n d) m d ≡ d
replicate-at zero m d = refl
replicate-at (suc n) zero d = refl
replicate-at (suc n) (suc m) d = replicate-at n m d

pub none-made : (cast : Cast) (packets : List Sent) (count : ℕ) (jobs : List Job) (blank : Job) (table : List (Option ℕ)) → count ≡ length packets → jobs ≡ replicate count blank → table ≡ replicate 65536 None → AreMade cast packets (count - 0) jobs table
unfolding limits_of_id jobs_from
none-made cast packets count jobs blank table ec ej et =
    let nothing : Option ℕ = None in
    let none : drop (count - 0) packets ≡ [] = drop_all (count - 0) packets (omega (arith, ec)) in
    let long : length jobs ≡ count = ap (λ (js : List Job). length js) ej ∙ length-replicate count blank in
    record {
      long = ap (λ (ts : List (Option ℕ)). length ts) et ∙ length-replicate 65536 nothing;
      all = long ∙ ec;
      each = λ id l. ap (λ (ts : List (Option ℕ)). get_or ts id None) et ∙ (replicate-at 65536 id None ∙ ap (λ (ps : List Sent). least_of (limits_of_id cast id ps)) (sym none));
      done = drop_all (count - 0) jobs (omega (arith, long)) ∙ ap (jobs_from cast) (sym none);
    }

-- the limits with one packet more
own-first : (cast : Cast) (p : Sent) (ps : List Sent) (id : ℕ) → p.packet_id ≡ id → limits_of_id cast id (p ∷ ps) ≡ own_limit cast p ∷ limits_of_id cast id ps
unfolding limits_of_id
own-first cast p ps id e = ap (λ (t : Bool). map (own_limit cast) (cond t (p ∷ filter (λ q. q.packet_id == id) ps) (filter (λ q. q.packet_id == id) ps))) (eq-eqb p.packet_id id e)

not-first : (cast : Cast) (p : Sent) (ps : List Sent) (id : ℕ) → (p.packet_id ≡ id → ⊥) → limits_of_id cast id (p ∷ ps) ≡ limits_of_id cast id ps
unfolding limits_of_id
not-first cast p ps id ne = ap (λ (t : Bool). map (own_limit cast) (cond t (p ∷ filter (λ q. q.packet_id == id) ps) (filter (λ q. q.packet_id == id) ps))) (ne_eqb p.packet_id id ne)

least-one : (x : ℕ) (ns : List ℕ) → least_with x (least_of ns) ≡ least (x ∷ ns)
unfolding least
least-one x [] = refl
least-one x (n ∷ ns) = refl

-- a list from a place on, by its item there
pub at-drop : {X Y : Type 0} (f : List X → Y) (xs : List X) (k : ℕ) (x : X) → k < length xs → x ≡ get_or xs k x → f (x ∷ drop (k + 1) xs) ≡ f (drop k xs)
at-drop f xs k x l e = ap (λ y. f (y ∷ drop (k + 1) xs)) e ∙ sym (at_drop_more f xs k x l)

pub one-made : (cast : Cast) (packets : List Sent) (count i : ℕ) (p : Sent) (jobs : List Job) (table : List (Option ℕ)) (limit deadline : ℕ) (d : Option ℕ) → count ≡ length packets → i < count → p.packet_id < 65536
    → p ≡ get_or packets (count - 1 - i) p → limit ≡ own_limit cast p → deadline ≡ least_with limit (get_or table p.packet_id d) → AreMade cast packets (count - i) jobs table
    → AreMade cast packets (count - (i + 1)) (set jobs (count - 1 - i) (record { release = p.at.0; deadline = deadline })) (set table p.packet_id (Some deadline))
unfolding jobs_from
one-made cast packets count i p jobs table limit deadline d ec l low is el ed made =
    let k : ℕ = count - 1 - i in
    let a : count - (i + 1) ≡ k = omega arith in
    let b : count - i ≡ k + 1 = omega (arith, l) in
    let lk : k < length packets = omega (arith, l, ec) in
    let rest : List Sent = drop (k + 1) packets in
    let id : ℕ = p.packet_id in
    let here : get_or table id d ≡ least_of (limits_of_id cast id rest) = get-any table id d (omega (arith, low, made.long)) ∙ (made.each id low ∙ ap (λ (n : ℕ). least_of (limits_of_id cast id (drop n packets))) b) in
    let is-least : deadline ≡ least (limits_of_id cast id (p ∷ rest)) =
    ed ∙ (ap (least_with limit) here ∙ (ap (λ (x : ℕ). least_with x (least_of (limits_of_id cast id rest))) el ∙ (least-one (own_limit cast p) (limits_of_id cast id rest) ∙ ap least (sym (own-first cast p rest id refl))))) in
    let now : Some deadline ≡ least_of (limits_of_id cast id (p ∷ rest)) = ap Some is-least ∙ sym (ap least_of (own-first cast p rest id refl) ∙ ap (λ (ns : List ℕ). Some (least ns)) (sym (own-first cast p rest id refl))) in
    subst (λ (n : ℕ). AreMade cast packets n (set jobs k (record { release = p.at.0; deadline = deadline })) (set table id (Some deadline))) (sym a)
    record {
      long = length-set table id (Some deadline) ∙ made.long;
      all = length-set jobs k (record { release = p.at.0; deadline = deadline }) ∙ made.all;
      each = λ j lj.
          ⊎_elim
          (λ (e : id ≡ j).
          subst (λ (n : ℕ). get_or (set table id (Some deadline)) n None ≡ least_of (limits_of_id cast n (drop k packets))) e
          (get_or-set_same table id (Some deadline) None (omega (arith, low, made.long)) ∙ (now ∙ at-drop (λ (ps : List Sent). least_of (limits_of_id cast id ps)) packets k p lk is)))
          (λ (ne : id ≡ j → ⊥).
          get_or-set_other table id j (Some deadline) None (λ e. ne (sym e))
          ∙ (made.each j lj ∙ (ap (λ (n : ℕ). least_of (limits_of_id cast j (drop n packets))) b ∙ (ap least_of (sym (not-first cast p rest j ne)) ∙ at-drop (λ (ps : List Sent). least_of (limits_of_id cast j ps)) packets k p lk is))))
          (cases_eq id j);
      done =
          drop-set jobs k (record { release = p.at.0; deadline = deadline }) (omega (arith, lk, made.all))
          ∙ (ap₂ (λ (x : ℕ) (js : List Job). let job : Job = record { release = p.at.0; deadline = x } in job ∷ js) is-least (ap (λ (n : ℕ). drop n jobs) (sym b) ∙ (made.done ∙ ap (λ (n : ℕ). jobs_from cast (drop n packets)) b))
          ∙ at-drop (jobs_from cast) packets k p lk is);
    }
  where
    get-any : (xs : List (Option ℕ)) (k : ℕ) (d : Option ℕ) → k < length xs → get_or xs k d ≡ get_or xs k None
    get-any [] k d l = absurd (omega arith)
    get-any (x ∷ xs) zero d l = refl
    get-any (x ∷ xs) (suc k) d l = get-any xs k d (omega arith)

pub all-made : (cast : Cast) (count i : ℕ) (jobs : List Job) (table : List (Option ℕ)) → count ≤ i → AreMade cast cast.packets (count - i) jobs table → jobs ≡ jobs_by cast
unfolding jobs_by
all-made cast count i jobs table l made = let z : count - i ≡ 0 = omega (arith, l) in ap (λ (n : ℕ). drop n jobs) (sym z) ∙ (made.done ∙ ap (λ (n : ℕ). jobs_from cast (drop n cast.packets)) z)
