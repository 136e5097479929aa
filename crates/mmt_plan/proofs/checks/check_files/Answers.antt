use Rattle.std.proofs.Common.{◌≡◌, ◌<◌, ◌∙◌, Ok, Err, IsTrue, List, [], ℕ, Option, Result, get_or, length, subst, ap, arith}
use Rattle.std.proofs.lemmas.List.{get_or_read}
use Rattle.mmt_model.specs.declared.programmes.Asset.{Asset}
use Rattle.mmt_plan.specs.Files.{check_asset, check_asset_at, files_of, IsFilesAnswer}
use Rattle.mmt_plan.specs.Places.{spot_of}
use Rattle.mmt_plan.specs.Tops.{top_spot}
use Rattle.mmt_plan.specs.declared.ends.FilesEnd.{FilesEnd}
use Rattle.mmt_plan.specs.declared.ends.PlanPart.TheVariants as parts
use Rattle.mmt_plan.specs.declared.spots.Spot.{Spot}
use Rattle.mmt_plan.proofs.Fronts.{stays_on}
use Rattle.mmt_plan.proofs.Passes.{files_go_on, files_stop, files_end, before}
use Rattle.mmt_plan.proofs.RightFiles.{asset_of_file}
use Rattle.mmt_plan.proofs.checks.check_files.Goals as goal

-- the name and the spot of an asset are those of the definition
at_its_place : (told : Type 0) (file : List ℕ → Option (List ℕ)) (names : List (List ℕ)) (a : Asset) (n : ℕ) (name : List ℕ) (spot : Spot) (r : Result (Unit {0}) FilesEnd)
    → name ≡ get_or names a.file [] → spot ≡ spot_of parts.Asset n top_spot → (told → IsFilesAnswer (check_asset_at (file name) spot a) r) → told → IsFilesAnswer (check_asset file names n a) r
at_its_place told file names a n name spot r e f h t =
    subst (λ s. IsFilesAnswer (check_asset_at (file (get_or names a.file [])) s a) r) f (subst (λ m. IsFilesAnswer (check_asset_at (file m) spot a) r) e (h t))

named : (names : List (List ℕ)) (i : ℕ) (name item : List ℕ) (slice : List (List ℕ)) → i < length names → slice ≡ names → name ≡ item → item ≡ get_or slice i item → name ≡ get_or names i []
named names i name item slice lt e f is = f ∙ get_or_read names i item lt (subst (λ s. item ≡ get_or s i item) e is) []

spotted : (n m : ℕ) (spot top : Spot) → spot ≡ spot_of parts.Asset n top → top ≡ top_spot → n ≡ m → spot ≡ spot_of parts.Asset m top_spot
spotted n m spot top e f g = e ∙ ap (λ s. spot_of parts.Asset n s) f ∙ ap (λ k. spot_of parts.Asset k top_spot) g

pub asset-requires-clause-few : goal.asset-requires-clause-few
asset-requires-clause-few g c =
    (asset_of_file c.args.programme.now c.loop-item.item-index c.item-item.result c.requires (rw (← c.as_slice-item-items.ensures) c.loop-item-test.true) (rw (← c.as_slice-item-items.ensures) c.item-item.is)).few

pub returns-in-Err-clause-files : goal.returns-in-Err-clause-files
unfolding files_of
returns-in-Err-clause-files g c =
    let lt : c.loop-item.item-index < length c.args.programme.now.assets = rw (← c.as_slice-item-items.ensures) c.loop-item-test.true in
    let is : c.item-item.result ≡ get_or c.args.programme.now.assets c.loop-item.item-index c.item-item.result = rw (← c.as_slice-item-items.ensures) c.item-item.is in
    let right = asset_of_file c.args.programme.now c.loop-item.item-index c.item-item.result c.requires lt is in
    files_stop (g.H.Shelf.tells c.args.shelf.now) (check_asset (g.H.Shelf.file c.args.shelf.now) c.args.programme.now.files) c.args.programme.now.assets c.loop-item.item-index c.item-item.result c.in-Err.end c.loop-item.invariant.passed lt is
    (before (λ (file : List ℕ → Option (List ℕ)). IsFilesAnswer (check_asset file c.args.programme.now.files c.loop-item.item-index c.item-item.result) (Err c.in-Err.end)) c.loop-item.invariant.shelf
    (at_its_place (IsTrue (g.H.Shelf.tells c.loop-item.shelf)) (g.H.Shelf.file c.loop-item.shelf) c.args.programme.now.files c.item-item.result c.loop-item.item-index c.as_str-name.result.now c.inner-spot.result (Err c.in-Err.end)
    (named c.args.programme.now.files c.item-item.result.file c.as_str-name.result.now c.index-files-item.result c.as_slice-files.result.now right.file c.as_slice-files.ensures c.as_str-name.ensures c.index-files-item.is)
    (spotted c.loop-item.number c.loop-item.item-index c.inner-spot.result c.top_spot.result c.inner-spot.ensures c.top_spot.ensures c.loop-item.invariant.counted) c.in-Err.ensures.asset))

pub loop-item-preserved : goal.loop-item-preserved
loop-item-preserved g c = record {
  shelf = stays_on c.loop-item.invariant.shelf c.in-Ok.ensures.shelf.tells c.in-Ok.ensures.shelf.files c.in-Ok.ensures.shelf.later;
  passed =
      let lt : c.loop-item.item-index < length c.args.programme.now.assets = rw (← c.as_slice-item-items.ensures) c.loop-item-test.true in
      let is : c.item-item.result ≡ get_or c.args.programme.now.assets c.loop-item.item-index c.item-item.result = rw (← c.as_slice-item-items.ensures) c.item-item.is in
      let right = asset_of_file c.args.programme.now c.loop-item.item-index c.item-item.result c.requires lt is in
      files_go_on (g.H.Shelf.tells c.args.shelf.now) (check_asset (g.H.Shelf.file c.args.shelf.now) c.args.programme.now.files) c.args.programme.now.assets c.loop-item.item-index c.item-item.result c.loop-item.invariant.passed lt is
      (before (λ (file : List ℕ → Option (List ℕ)). check_asset file c.args.programme.now.files c.loop-item.item-index c.item-item.result ≡ Ok tt) c.loop-item.invariant.shelf
      (at_its_place (IsTrue (g.H.Shelf.tells c.loop-item.shelf)) (g.H.Shelf.file c.loop-item.shelf) c.args.programme.now.files c.item-item.result c.loop-item.item-index c.as_str-name.result.now c.inner-spot.result (Ok tt)
      (named c.args.programme.now.files c.item-item.result.file c.as_str-name.result.now c.index-files-item.result c.as_slice-files.result.now right.file c.as_slice-files.ensures c.as_str-name.ensures c.index-files-item.is)
      (spotted c.loop-item.number c.loop-item.item-index c.inner-spot.result c.top_spot.result c.inner-spot.ensures c.top_spot.ensures c.loop-item.invariant.counted) c.in-Ok.ensures.asset));
  counted = omega arith;
}

pub returns-clause-files : goal.returns-clause-files
unfolding files_of
returns-clause-files g c =
    files_end (g.H.Shelf.tells c.args.shelf.now) (check_asset (g.H.Shelf.file c.args.shelf.now) c.args.programme.now.files) c.args.programme.now.assets c.loop-item.item-index c.loop-item.invariant.passed (rw (← c.as_slice-item-items.ensures) c.loop-item-test.false)
