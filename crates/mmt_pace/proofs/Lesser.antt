-- Until when the packets of a cast may be sent, step by step.
use Rattle.std.proofs.Common.{◌≡◌, ℕ, ◌+◌, ◌<◌, ◌≤◌, suc, zero, min, Bool, true, false, ◌==◌, cond, ltb, List, [], ◌∷◌, ◌++◌, map, length, get_or, take, arith, refl, ap, sym, ◌∙◌, Option, Some, None, ⊎_elim, subst}
use Rattle.std.specs.List.Sorted.{IsNonDecreasingBy, IsPartitionPoint}
use Rattle.std.proofs.lemmas.Bool.{cases_lt, eqb-true, ltb-false, ltb-true}
use Rattle.std.proofs.lemmas.List.{get_or_default, length-map, map-append, take_all, take_more}
use Rattle.mmt_admit.specs.Faults.{CopyFits}
use Rattle.mmt_cast.proofs.Listing.{each-at}
use Rattle.mmt_cast.specs.Casting.{least}
use Rattle.mmt_casting.proofs.Adding.{numbers-add, one-number}
use Rattle.mmt_frag.proofs.PartsJoined.{length-numbers}
use Rattle.mmt_model.specs.Carrying.{copy_place, least_with, no_table_copy, numbers, table_copy}
use Rattle.mmt_model.specs.declared.casts.Cast.{Cast}
use Rattle.mmt_model.specs.declared.casts.TableCopy.{TableCopy}
use Rattle.mmt_pace.proofs.Minima.{least-push}
use Rattle.mmt_pace.specs.Asked.{AreListed}
use Rattle.mmt_pace.specs.Deadlines.{copy_limit, name_limit, names_limit, window_limit}
use Rattle.mmt_pace.specs.Spanned.{least_limit, least_limits, least_of}

-- ---- several units

pub group-first : (f : ℕ → ℕ) (first x : ℕ) → x ≡ f first → x ≡ least (map f (numbers first 1))
unfolding least numbers
group-first f first x e = e

pub group-more : (f : ℕ → ℕ) (first k more limit x : ℕ) → 1 ≤ k → limit ≡ least (map f (numbers first k)) → more ≡ f (first + k) → x ≡ min more limit → x ≡ least (map f (numbers first (k + 1)))
group-more f first k more limit x some e em ex =
    let last : map f (numbers first (k + 1)) ≡ map f (numbers first k) ++ f (first + k) ∷ [] = ap (map f) (numbers-add first k 1 ∙ ap (λ l. numbers first k ++ l) (one-number (first + k))) ∙ map-append f (numbers first k) ((first + k) ∷ []) in
    let p = least-push (map f (numbers first k)) (f (first + k)) (omega (arith, some, length-map (numbers first k) f, length-numbers first k)) in
    omega (arith, ex, e, em, p, ap least last)

-- ---- names

least-of-more : (ns : List ℕ) (x y : ℕ) → y ≡ least_with x (least_of ns) → Some y ≡ least_of (ns ++ x ∷ [])
unfolding least
least-of-more [] x y e = ap Some e
least-of-more (n ∷ ns) x y e = let p = least-push (n ∷ ns) x (omega arith) in let q : y ≡ least ((n ∷ ns) ++ x ∷ []) = omega (arith, e, p) in ap Some q

pub names-more : (f : ℕ → ℕ) (names : List ℕ) (i d own y : ℕ) (limit : Option ℕ) → i < length names → limit ≡ least_of (map f (take i names)) → own ≡ f (get_or names i d) → y ≡ least_with own limit → Some y ≡ least_of (map f (take (i + 1) names))
names-more f names i d own y limit l e eo ey =
    least-of-more (map f (take i names)) own y (ey ∙ ap (least_with own) e)
    ∙ ap least_of (ap (λ x. map f (take i names) ++ x ∷ []) eo ∙ sym (ap (map f) (take_more names i d l) ∙ map-append f (take i names) (get_or names i d ∷ [])))

pub names-all : (f : ℕ → ℕ) (names : List ℕ) (i : ℕ) (limit : Option ℕ) → length names ≤ i → limit ≡ least_of (map f (take i names)) → limit ≡ least_of (map f names)
names-all f names i limit l e = e ∙ ap (λ ns. least_of (map f ns)) (take_all i names l)

-- ---- each table copy

pub limits-more : (cast : Cast) (copies : List TableCopy) (i : ℕ) (d : TableCopy) (limits limits' : List (Option ℕ)) (x : Option ℕ) → i < length copies → limits ≡ map (least_limit cast) (take i copies) → limits' ≡ limits ++ x ∷ [] → x ≡ least_limit cast (get_or copies i d)
    → limits' ≡ map (least_limit cast) (take (i + 1) copies)
limits-more cast copies i d limits limits' x l e push is =
    push ∙ (ap (λ ls. ls ++ x ∷ []) e ∙ (ap (λ y. map (least_limit cast) (take i copies) ++ y ∷ []) is ∙ sym (ap (map (least_limit cast)) (take_more copies i d l) ∙ map-append (least_limit cast) (take i copies) (get_or copies i d ∷ []))))

pub limits-all : (cast : Cast) (copies : List TableCopy) (i : ℕ) (limits : List (Option ℕ)) → length copies ≤ i → limits ≡ map (least_limit cast) (take i copies) → limits ≡ map (least_limit cast) copies
limits-all cast copies i limits l e = e ∙ ap (map (least_limit cast)) (take_all i copies l)

-- ---- the place of a copy

listed-at : (cs : List TableCopy) (i j : ℕ) (d : TableCopy) → AreListed cs → i < j → j < length cs → (get_or cs i d).signal < (get_or cs j d).signal
listed-at [] i j d r l b = absurd (omega arith)
listed-at (x ∷ xs) i zero d r l b = absurd (omega arith)
listed-at (x ∷ xs) zero (suc j) d r l b = each-at (λ (y : TableCopy). x.signal < y.signal) xs j d r.0 (omega arith)
listed-at (x ∷ xs) (suc i) (suc j) d r l b = listed-at xs i j d r.1 (omega arith) (omega arith)

pub listed-rise : (cs : List TableCopy) → AreListed cs → IsNonDecreasingBy (λ (c : TableCopy). c.signal) cs
listed-rise cs listed i j d l b =
    ⊎_elim
    (λ (lt : i < j). (let h = listed-at cs i j d listed lt b in omega (arith, h)))
    (λ (ge : j ≤ i). (let e : i ≡ j = omega arith in omega (arith, ap (λ (k : ℕ). (get_or cs k d).signal) e)))
    (cases_lt i j)

-- where a copy of this signal is, it is the first with it
pub has-signal : (cs : List TableCopy) (s : ℕ) → copy_place cs s < length cs → (get_or cs (copy_place cs s) no_table_copy).signal ≡ s
unfolding copy_place
has-signal [] s l = absurd (omega arith)
has-signal (c ∷ cs) s l = go (c.signal == s) refl l (has-signal cs s)
  where
    go : (t : Bool) → (c.signal == s) ≡ t → cond t 0 (suc (copy_place cs s)) < suc (length cs) → (copy_place cs s < length cs → (get_or cs (copy_place cs s) no_table_copy).signal ≡ s) → (get_or (c ∷ cs) (cond t 0 (suc (copy_place cs s))) no_table_copy).signal ≡ s
    go true e l ih = eqb-true c.signal s e
    go false e l ih = ih (omega (arith, l))

pub point-is : (cs : List TableCopy) (s i : ℕ) → AreListed cs → copy_place cs s < length cs → IsPartitionPoint (λ (c : TableCopy). ltb c.signal s ≡ true) (λ (c : TableCopy). ltb c.signal s ≡ false) cs i → i ≡ copy_place cs s
point-is cs s i listed l point =
    let j : ℕ = copy_place cs s in
    let is = has-signal cs s l in
    ⊎_elim
    (λ (lt : j < i). (let h = ltb-true (get_or cs j no_table_copy).signal s (point.0 j no_table_copy (omega arith) lt) in absurd (omega (arith, h, is))))
    (λ (ge : i ≤ j).
    ⊎_elim (λ (gt : i < j). (let h = ltb-false (get_or cs i no_table_copy).signal s (point.1 i no_table_copy (omega arith) (omega (arith, gt, l))) in let r = listed-at cs i j no_table_copy listed gt l in absurd (omega (arith, h, r, is))))
    (λ (le : j ≤ i). omega (arith, ge, le)) (cases_lt i j))
    (cases_lt j i)

-- ---- the limit of a packet of a copy

limit-at : (cast : Cast) (place : ℕ) (d : Option ℕ) → place < length cast.copies → get_or (least_limits cast) place d ≡ least_limit cast (table_copy cast place)
unfolding table_copy
limit-at cast place d l = go cast.copies place l
  where
    go : (cs : List TableCopy) (k : ℕ) → k < length cs → get_or (map (least_limit cast) cs) k d ≡ least_limit cast (get_or cs k no_table_copy)
    go [] k l = absurd (omega arith)
    go (c ∷ cs) zero l = refl
    go (c ∷ cs) (suc k) l = go cs k (omega arith)

limit-some : (cast : Cast) (at last : ℕ) (names : List ℕ) (limit : ℕ) → Some limit ≡ least_of (map (name_limit cast last) names) → limit ≡ names_limit cast at last names
unfolding names_limit
limit-some cast at last [] limit e = absurd cc
limit-some cast at last (m ∷ ms) limit e = cc

limit-none : (cast : Cast) (at last : ℕ) (names : List ℕ) → None ≡ least_of (map (name_limit cast last) names) → window_limit cast at ≡ names_limit cast at last names
unfolding names_limit
limit-none cast at last [] e = refl
limit-none cast at last (m ∷ ms) e = absurd cc

pub copy-limit-some : (cast : Cast) (at signal place limit : ℕ) (limits : List (Option ℕ)) (d : Option ℕ) → limits ≡ least_limits cast → place ≡ copy_place cast.copies signal → place < length cast.copies → Some limit ≡ get_or limits place d → limit ≡ copy_limit cast at signal
unfolding copy_limit
copy-limit-some cast at signal place limit limits d el ep l e =
    let c : TableCopy = table_copy cast place in
    limit-some cast at c.last.0 c.names limit (e ∙ (ap (λ (ls : List (Option ℕ)). get_or ls place d) el ∙ limit-at cast place d l))
    ∙ ap (λ (k : ℕ). names_limit cast at (table_copy cast k).last.0 (table_copy cast k).names) ep

pub copy-limit-none : (cast : Cast) (at signal place x : ℕ) (limits : List (Option ℕ)) (d : Option ℕ) → limits ≡ least_limits cast → place ≡ copy_place cast.copies signal → place < length cast.copies → None ≡ get_or limits place d → x ≡ window_limit cast at → x ≡ copy_limit cast at signal
unfolding copy_limit
copy-limit-none cast at signal place x limits d el ep l e ex =
    let c : TableCopy = table_copy cast place in
    ex ∙ (limit-none cast at c.last.0 c.names (e ∙ (ap (λ (ls : List (Option ℕ)). get_or ls place d) el ∙ limit-at cast place d l))
    ∙ ap (λ (k : ℕ). names_limit cast at (table_copy cast k).last.0 (table_copy cast k).names) ep)

-- the ticks and the names of a copy
pub copy-fits : (cast : Cast) (slice : List TableCopy) (i : ℕ) (c : TableCopy) → ((j : ℕ) → j < length cast.copies → CopyFits (length cast.mpus) (table_copy cast j)) → slice ≡ cast.copies → i < length slice → c ≡ get_or slice i c → CopyFits (length cast.mpus) c
unfolding table_copy
copy-fits cast slice i c fits e l is =
    let at : c ≡ get_or cast.copies i no_table_copy = is ∙ (get_or_default slice i c no_table_copy l ∙ ap (λ (cs : List TableCopy). get_or cs i no_table_copy) e) in
    subst (CopyFits (length cast.mpus)) (sym at) (fits i (omega (arith, l, ap (λ (cs : List TableCopy). length cs) e)))
