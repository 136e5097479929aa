-- A cast, from its lists.
use Rattle.std.proofs.Common.{◌≡◌, ℕ, ◌+◌, ◌<◌, ◌≤◌, List, [], ◌∷◌, ◌++◌, map, length, take, drop, arith, refl, ap, ap₂, sym, ◌∙◌, subst, inr, Option, Some, None, option_map}
use Rattle.std.specs.List.{AllByRecursion, sum_by}
use Rattle.std.proofs.lemmas.List.{append-nil, drop_all, length-append, take_all}
use Rattle.std.proofs.lemmas.List.Sums.{sum_by-cons}
use Rattle.mmt_cast.proofs.Copies.{IsCopy, are-copies}
use Rattle.mmt_cast.proofs.FromRight.{cast-right}
use Rattle.mmt_cast.proofs.Listing.{each-weaker, length-map_from}
use Rattle.mmt_cast.proofs.Placed.{known-place}
use Rattle.mmt_cast.specs.Casting.{cast_of, copies_as_sent, place_of_mpu}
use Rattle.mmt_cast.specs.Placing.{all_mpus, flat_map_from, map_from, mpus_of}
use Rattle.mmt_cast.specs.Refusing.{Refusal, refusal}
use Rattle.mmt_cast.specs.Right.{NamesKnown}
use Rattle.mmt_casting.specs.Ends.{IsEndOf, end_of}
use Rattle.mmt_casting.specs.Named.{NamesPlaces}
use Rattle.mmt_casting.specs.Places.{placed_in}
use Rattle.mmt_casting.specs.Spans.{start_of}
use Rattle.mmt_casting.specs.declared.ends.CastEnd.{CastEnd}
use Rattle.mmt_model.specs.Right.{IsKnown, IsRight}
use Rattle.mmt_model.specs.declared.casts.Sent.{Sent}
use Rattle.mmt_model.specs.declared.casts.SentMpu.{SentMpu}
use Rattle.mmt_model.specs.declared.casts.SentUnit.{SentUnit}
use Rattle.mmt_model.specs.declared.casts.TableCopy.{TableCopy}
use Rattle.mmt_model.specs.declared.programmes.Asset.{Asset}
use Rattle.mmt_model.specs.declared.programmes.Programme.{Programme}

-- ---- how many MPUs

whole-sum : (n : ℕ) (xs : List Asset) → sum_by (λ (x : Asset). length x.mpus) xs ≡ length (flat_map_from mpus_of n xs)
unfolding flat_map_from mpus_of
whole-sum n [] = refl
whole-sum n (x ∷ xs) =
    omega (arith, sum_by-cons (λ (y : Asset). length y.mpus) x xs, whole-sum (n + 1) xs, length-append (map_from (placed_in n x) 0 x.mpus) (flat_map_from mpus_of (n + 1) xs), length-map_from (placed_in n x) 0 x.mpus)

pub all-mpus-counted : (programme : Programme) (a : ℕ) → length programme.assets ≤ a → start_of programme a ≡ length (all_mpus programme)
unfolding all_mpus
all-mpus-counted programme a ge = ap (sum_by (λ (x : Asset). length x.mpus)) (take_all a programme.assets ge) ∙ whole-sum 0 programme.assets

-- ---- the names of copies

places-known : (programme : Programme) (names : List (ℕ × ℕ)) → AllByRecursion (IsKnown programme.assets) names → AllByRecursion (λ p. p < length (all_mpus programme)) (map (place_of_mpu (all_mpus programme)) names)
places-known programme [] e = tt
places-known programme (name ∷ names) e = (known-place programme name e.0, places-known programme names e.1)

copy-known : (programme : Programme) → IsRight programme → (y : TableCopy) → IsCopy programme y → NamesPlaces (length (all_mpus programme)) y
copy-known programme right y copy =
    let known : AllByRecursion (IsKnown programme.assets) copy.names = subst (NamesKnown programme) copy.table ((cast-right programme right).known y.signal copy.of) in
    subst (NamesPlaces (length (all_mpus programme))) (sym copy.is) (places-known programme copy.names known)

pub copies-known : (programme : Programme) → IsRight programme → (n : ℕ) (copies : List TableCopy) → n ≡ length (all_mpus programme) → copies ≡ copies_as_sent programme → AllByRecursion (NamesPlaces n) copies
copies-known programme right n copies en ec =
    subst (λ m. AllByRecursion (NamesPlaces m) copies) (sym en)
    (subst (AllByRecursion (NamesPlaces (length (all_mpus programme)))) (sym ec) (each-weaker (IsCopy programme) (NamesPlaces (length (all_mpus programme))) (copies_as_sent programme) (copy-known programme right) (are-copies programme)))

-- ---- the cast

pub packets-back : (n : ℕ) (xs ys : List Sent) → n ≡ length ys → length xs ≡ length ys → take n (xs ++ drop (length xs) ys) ≡ xs
packets-back n xs ys en e = ap (λ r. take n (xs ++ r)) (drop_all (length xs) ys (omega arith)) ∙ (ap (take n) (append-nil xs) ∙ take_all n xs (omega arith))

pub put-together : (programme : Programme) (packets : List Sent) (units : List SentUnit) (mpus : List SentMpu) (copies : List TableCopy) → packets ≡ (cast_of programme).packets → units ≡ (cast_of programme).units → mpus ≡ (cast_of programme).mpus
    → copies ≡ copies_as_sent programme → record { params = programme.params; packets = packets; units = units; mpus = mpus; copies = copies } ≡ cast_of programme
unfolding cast_of
put-together programme packets units mpus copies ep eu em ec =
    ap₂ (λ ps us. record { params = programme.params; packets = ps; units = us; mpus = mpus; copies = copies }) ep eu
    ∙ ap₂ (λ ms cs. record { params = programme.params; packets = (cast_of programme).packets; units = (cast_of programme).units; mpus = ms; copies = cs }) em ec

-- ---- the end

pub ended : (programme : Programme) (end : CastEnd) → Some end ≡ option_map end_of (refusal programme) → IsEndOf programme end
ended programme end e = go (refusal programme) refl e
  where
    go : (o : Option Refusal) → refusal programme ≡ o → Some end ≡ option_map end_of o → IsEndOf programme end
    go None is e = absurd cc
    go (Some r) is e = inr (r, is, (let h : end ≡ end_of r = cc in h))

pub no-refusal : (programme : Programme) → None ≡ option_map end_of (refusal programme) → refusal programme ≡ None
no-refusal programme e = go (refusal programme) refl e
  where
    go : (o : Option Refusal) → refusal programme ≡ o → None ≡ option_map end_of o → refusal programme ≡ None
    go None is e = is
    go (Some r) is e = absurd cc
