-- What is read as a package was spelled so, and what is spelled so is read.
use Rattle.std.proofs.Common.{◌≡◌, ℕ, ◌+◌, List, ◌++◌, length, drop, Result, Ok, Err, refl, sym, ap, subst, ◌∙◌, append_assoc}
use Rattle.std.proofs.lemmas.List.{drop_at, take-append-drop}
use Rattle.mmt_base.specs.declared.refused.Refused.{Refused}
use Rattle.std.specs.Int.{w8}
use Rattle.mmt_fields.specs.Reading.{big_endian, Gives}
use Rattle.mmt_fields.proofs.Codec.{Stage, Field, Always, field, made, field_of}
use Rattle.mmt_fields.proofs.Numbers.{u8_field, bytes_field}
use Rattle.mmt_mpt.specs.declared.location.LocationWhy.{LocationWhy}
use Rattle.mmt_mpt.specs.Location.{LocationValue, LocationFits, location_bytes}
use Rattle.mmt_mpt.specs.LocationReading.{location_of, read_as}
use Rattle.mmt_mpt.proofs.LocationLaw.{first_found, first_only}
use Rattle.mmt_services.specs.declared.plt_why.PltWhy.TheVariants as why
use Rattle.mmt_services.specs.Package.{PackageValue, PackageFits, package_bytes}
use Rattle.mmt_services.specs.PackageReading.{in_table, place_at, package_at}

abbrev Found : Type 0
Found = LocationValue × ℕ

itself : {A E : Type 0} (r : Result A E) → Gives (λ x. x) r r
itself (Ok x) = refl
itself (Err e) = refl

given : {A E : Type 0} (r read : Result A E) → Gives (λ x. x) r read → r ≡ read
given (Ok x) read is = sym is
given (Err e) read is = sym is

table_ok : (at : ℕ) (bytes : List ℕ) (r : Result Found (Refused LocationWhy)) (x : LocationValue × List ℕ) → in_table at bytes r ≡ Ok x → (f : Found) × (r ≡ Ok f) × ((f.0, drop f.1 bytes) ≡ x)
table_ok at bytes (Ok f) x e = (f, refl, cc)
table_ok at bytes (Err d) x e = absurd cc

place_field : (at : ℕ) → Field (place_at at) location_bytes LocationFits
unfolding place_at
place_field at = record {
  takes = λ bytes v rest are e.
      let t = table_ok at bytes (location_of bytes) (v, rest) e in
      let f = first_found (λ (x : Found). x) bytes (Ok t.0) are t.1 in
      let same : bytes ≡ location_bytes t.0.0 ++ drop t.0.1 bytes = sym (take-append-drop t.0.1 bytes) ∙ ap (λ (front : List ℕ). front ++ drop t.0.1 bytes) f.1 in
      subst (λ (p : LocationValue × List ℕ). (bytes ≡ location_bytes p.0 ++ p.1) × LocationFits p.0) t.2 (same, f.0);
  again = λ v rest fits.
      let bytes = location_bytes v ++ rest in
      let read = given (location_of bytes) (read_as v) (first_only (λ (x : Found). x) bytes (location_of bytes) (itself (location_of bytes)) v rest fits refl) in
      rw read (ap (λ (after : List ℕ). Ok (v, after)) (drop_at (location_bytes v) rest (length (location_bytes v)) refl));
}

abbrev PackageRest : Type 0
PackageRest = PackageValue × List ℕ

package_stage : (at : ℕ) → Stage {V = PackageRest} (λ p. PackageFits p.0) Always Always (package_at at) (λ p. big_endian w8 (length p.0.id) ++ (p.0.id ++ (location_bytes p.0.location ++ p.1)))
unfolding package_at
package_stage at =
    field _ (λ p. length p.0.id) (u8_field at why.Short) (λ v c f. f.id) (λ len len_lt.
    field _ (λ p. p.0.id) (bytes_field len (at + 1) why.Short) (λ v c f. c.0) (λ id id_is.
    field _ (λ p. p.0.location) (place_field (at + 1 + len)) (λ v c f. f.location) (λ location location_fits.
    made (λ p. p.1) (λ rest. (record { id = id; location = location }, rest))
    (λ rest are known. (refl, (refl, (refl, (id_is, tt))), record { id = rw id_is len_lt; location = location_fits }))
    (λ v c f. rw (← c.0, ← c.1.0) refl))))

pub package_field : (at : ℕ) → Field (package_at at) package_bytes PackageFits
unfolding package_bytes
package_field at = field_of package_bytes (package_stage at) (λ v. simp append_assoc)
