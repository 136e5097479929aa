-- The file of a list of deliveries.
use Rattle.std.proofs.Common.{◌≡◌, ℕ, ◌≤◌, Bool, true, false, cond, nat_lt, List, [], ◌∷◌, length, Option, Some, None, Ok, Err, arith, refl, ap, sym, ◌∙◌, subst}
use Rattle.std.specs.List.{flat_map}
use Rattle.std.proofs.lemmas.Bool.{ltb-true, ltb-false}
use Rattle.std.proofs.lemmas.List.{length-append}
use Rattle.mmt_channel.specs.Lists.{IsListText, IsRefusedAt, line_of}
use Rattle.mmt_desk.specs.Lists.{IsListIn, IsNoList, line_place}
use Rattle.mmt_plan.specs.Plan.{bytes_of}
use Rattle.mmt_plan.specs.declared.ends.PlanPlace.{PlanPlace}
use Rattle.mmt_plan.specs.declared.ends.Reason.{Reason}
use Rattle.mmt_plan.specs.declared.ends.Reason.TheVariants as reasons
use Rattle.mmt_plan.specs.declared.ends.Refusal.{Refusal}
use Rattle.mmt_plan.specs.Places.{refused}
use Rattle.mmt_plan.specs.Tops.{top_spot}

-- what the bytes of a file are, where they are read
pub record IsFile (file : Option (List ℕ)) (bytes : List ℕ) : Type 0 where
  pub is : file ≡ Some bytes
  pub short : length bytes ≤ 16777216

pub read-file : (file : Option (List ℕ)) (bytes : List ℕ) → bytes_of file ≡ Ok bytes → IsFile file bytes
unfolding bytes_of
read-file None bytes e = absurd cc
read-file (Some all) bytes e = go (nat_lt 16777216 (length all)) refl e
  where
    go : (long : Bool) → nat_lt 16777216 (length all) ≡ long → cond long (Err (refused reasons.PlanLong 0 top_spot)) (Ok all) ≡ Ok bytes → IsFile (Some all) bytes
    go true l e = absurd cc
    go false l e = let same : all ≡ bytes = cc in record { is = ap (λ (b : List ℕ). Some b) same; short = omega (arith, ltb-false 16777216 (length all) l, ap (λ (b : List ℕ). length b) same) }

pub list-absent : (file : Option (List ℕ)) (sent : ℕ) (reason : Reason) (place : PlanPlace) → reason ≡ reasons.PlanAbsent → bytes_of file ≡ Err (record { reason = reason; place = place }) → IsNoList file sent reasons.ListAbsent (line_place 0)
unfolding bytes_of
list-absent None sent reason place is e = (refl, refl)
list-absent (Some all) sent reason place is e = go (nat_lt 16777216 (length all)) e
  where
    go : (long : Bool) → cond long (Err (refused reasons.PlanLong 0 top_spot)) (Ok all) ≡ Err (record { reason = reason; place = place }) → IsNoList (Some all) sent reasons.ListAbsent (line_place 0)
    go true e =
        let same : refused reasons.PlanLong 0 top_spot ≡ record { reason = reason; place = place } = cc in
        let clash : reasons.PlanLong ≡ reasons.PlanAbsent = ap (λ (r : Refusal). r.reason) same ∙ is in
        absurd cc
    go false e = absurd cc

pub list-long : (file : Option (List ℕ)) (sent : ℕ) (reason : Reason) (place : PlanPlace) → (reason ≡ reasons.PlanAbsent → ⊥) → bytes_of file ≡ Err (record { reason = reason; place = place }) → IsNoList file sent reasons.ListLong (line_place 0)
unfolding bytes_of
list-long None sent reason place other e = let same : refused reasons.PlanAbsent 0 top_spot ≡ record { reason = reason; place = place } = cc in absurd (other (sym (ap (λ (r : Refusal). r.reason) same)))
list-long (Some all) sent reason place other e = go (nat_lt 16777216 (length all)) refl e
  where
    go : (long : Bool) → nat_lt 16777216 (length all) ≡ long → cond long (Err (refused reasons.PlanLong 0 top_spot)) (Ok all) ≡ Err (record { reason = reason; place = place }) → IsNoList (Some all) sent reasons.ListLong (line_place 0)
    go true l e = ((all, refl, ltb-true 16777216 (length all) l), refl)
    go false l e = absurd cc

pub list-in : (file : Option (List ℕ)) (bytes list : List ℕ) (sent : ℕ) → bytes_of file ≡ Ok bytes → IsListText sent bytes list → IsListIn file sent list
list-in file bytes list sent e is =
    let f = read-file file bytes e in
    subst (λ (o : Option (List ℕ)). IsListIn o sent list) (sym f.is) (f.short, is)

pub list-line : (file : Option (List ℕ)) (bytes : List ℕ) (sent line : ℕ) → bytes_of file ≡ Ok bytes → IsRefusedAt sent line bytes → IsNoList file sent reasons.ListLine (line_place line)
list-line file bytes sent line e at = let f = read-file file bytes e in (bytes, line, f.is, f.short, at, refl)

-- a list has no more places than its text has bytes
lines-long : (list : List ℕ) → length list ≤ length (flat_map line_of list)
lines-long [] = omega arith
lines-long (d ∷ list) = omega (arith, lines-long list, length-append (line_of d) (flat_map line_of list), line-long d)
  where
    line-long : (d : ℕ) → 1 ≤ length (line_of d)
    line-long d = simp length-append (omega arith)

pub list-few : (sent : ℕ) (bytes list : List ℕ) → IsListText sent bytes list → length list ≤ length bytes
list-few sent bytes list is = omega (arith, lines-long list, ap (λ (b : List ℕ). length b) is.lines)
