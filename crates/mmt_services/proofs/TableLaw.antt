-- What is read as a PLT was spelled so, and what is spelled so is read.
use Rattle.std.proofs.Common.{◌≡◌, ℕ, ◌+◌, ◌%◌, ◌^◌, ◌<◌, eqb, List, ◌++◌, length, get_or, Ok, None, refl, sym, ap, ◌∙◌, append_assoc, arith, eq-eqb}
use Rattle.std.specs.List.{flat_map, All}
use Rattle.std.specs.Int.{w8, w16}
use Rattle.std.proofs.lemmas.Bool.{eqb-true}
use Rattle.std.proofs.lemmas.List.{length-append}
use Rattle.mmt_fields.specs.Reading.{big_endian}
use Rattle.mmt_fields.proofs.Codec.{IsBytes, Stage, Always, field, checked_rest, made, spelled}
use Rattle.mmt_fields.proofs.Numbers.{u8_field, u16_field, length_big_endian}
use Rattle.mmt_lists.specs.Counted.{counted, counted_of}
use Rattle.mmt_lists.proofs.CountedItems.{counted_all}
use Rattle.mmt_services.specs.declared.plt_why.PltWhy.TheVariants as why
use Rattle.mmt_services.specs.Package.{PackageFits, package_bytes}
use Rattle.mmt_services.specs.PackageReading.{package_at}
use Rattle.mmt_services.specs.Table.{PltValue, plt_id, plt_inner, plt_spelling, PltFits}
use Rattle.mmt_services.specs.TableReading.{plt_of}
use Rattle.mmt_services.specs.TableView.{table_of}
use Rattle.mmt_services.proofs.PackageLaw.{package_field}

-- a table begins with the id of a PLT
abbrev pub Begins : List ℕ → Type 0
Begins bytes = get_or bytes 0 0 ≡ plt_id

first_is : (id : ℕ) (rest : List ℕ) → id < 2 ^ 8 → get_or (big_endian w8 id ++ rest) 0 0 ≡ 128 → 128 ≡ id
unfolding big_endian
first_is id rest lt e = let is : id % 256 ≡ 128 = e in omega arith

plt_stage : Stage PltFits Always Begins plt_of (λ v. big_endian w8 128 ++ (big_endian w8 v.version ++ (big_endian w16 (length (plt_inner v)) ++ (big_endian w8 (length v.packages) ++ (flat_map package_bytes v.packages ++ v.rest)))))
unfolding plt_of plt_inner
plt_stage =
    field _ (λ v. 128) (u8_field 0 why.Short) (λ v c f. omega arith) (λ id id_lt.
    field _ (λ v. v.version) (u8_field 1 why.Short) (λ v c f. f.version) (λ version version_lt.
    field _ (λ v. length (plt_inner v)) (u16_field 2 why.Short) (λ v c f. f.len) (λ len len_lt.
    checked_rest (λ rest. eqb (length rest) len) 2 why.Length _ (λ v c f. let is_len : length (plt_inner v) ≡ len = c.0 in eq-eqb _ _ is_len) (
    field _ (λ v. length v.packages) (u8_field 4 why.Short) (λ v c f. f.count) (λ count count_lt.
    field _ (λ v. v.packages) (counted_all package_at package_bytes PackageFits package_field count 5) (λ v c f. (c.0, f.packages)) (λ packages packages_fit.
    made (λ v. v.rest) (λ rest. record { version = version; packages = packages; rest = rest })
    (λ rest are known.
    let all = eqb-true _ _ known.0 in
    let is_len : length (plt_inner (record { version = version; packages = packages; rest = rest })) ≡ len = rw packages_fit.0 all in (
      refl,
      (refl, (packages_fit.0, (is_len, (refl, (first_is id _ id_lt known.1, tt))))),
      record { version = version_lt; count = rw packages_fit.0 count_lt; packages = packages_fit.1; len = rw is_len len_lt },
    ))
    (λ v c f. rw (← c.0, ← c.1.1.1.0) refl)))))))

pub plt_format : Stage PltFits Always Begins plt_of plt_spelling
unfolding plt_spelling plt_inner
plt_format = spelled _ (λ v c f. refl) plt_stage

-- what was written is read back
pub read_back : (v : PltValue) → PltFits v → plt_of (plt_spelling v) ≡ Ok v
read_back v fits = plt_format.again v tt fits

-- what was read of the packages
packages_are : (n : ℕ) (bytes : List ℕ) → IsBytes bytes → (counted n package_at 5 bytes).stop ≡ None
    → (bytes ≡ flat_map package_bytes (counted n package_at 5 bytes).items ++ (counted n package_at 5 bytes).rest) × ((length (counted n package_at 5 bytes).items ≡ n) × All PackageFits (counted n package_at 5 bytes).items)
unfolding counted_of
packages_are n bytes are stop =
    let c = counted n package_at 5 bytes in
    let packages = counted_all package_at package_bytes PackageFits package_field n 5 in
    packages.takes bytes c.items c.rest are (rw stop refl)

-- ---- a table over the bytes that it was read from

pub inner_is : (version n : ℕ) (bytes : List ℕ) → IsBytes bytes → (counted n package_at 5 bytes).stop ≡ None → plt_inner (table_of version n bytes) ≡ big_endian w8 n ++ bytes
unfolding plt_inner
inner_is version n bytes are stop = let p = packages_are n bytes are stop in ap (λ (k : ℕ). big_endian w8 k ++ (flat_map package_bytes (counted n package_at 5 bytes).items ++ (counted n package_at 5 bytes).rest)) p.1.0 ∙ ap (λ (xs : List ℕ). big_endian w8 n ++ xs) (sym p.0)

pub inner_long : (version n : ℕ) (bytes : List ℕ) → IsBytes bytes → (counted n package_at 5 bytes).stop ≡ None → length (plt_inner (table_of version n bytes)) ≡ 1 + length bytes
inner_long version n bytes are stop = ap length (inner_is version n bytes are stop) ∙ simp (length-append, length_big_endian) (omega arith)

pub read_fits : (version n : ℕ) (bytes : List ℕ) → version < 2 ^ 8 → n < 2 ^ 8 → 1 + length bytes < 2 ^ 16 → IsBytes bytes → (counted n package_at 5 bytes).stop ≡ None → PltFits (table_of version n bytes)
read_fits version n bytes version_lt n_lt lt are stop =
    let p = packages_are n bytes are stop in
    record { version = version_lt; count = rw p.1.0 n_lt; packages = p.1.1; len = rw (inner_long version n bytes are stop) lt }

-- the fields put one after the other are the table's bytes
pub appended : (version n : ℕ) (bytes o a b c d e : List ℕ) → IsBytes bytes → (counted n package_at 5 bytes).stop ≡ None
    → a ≡ o ++ big_endian w8 plt_id → b ≡ a ++ big_endian w8 version → c ≡ b ++ big_endian w16 (1 + length bytes) → d ≡ c ++ big_endian w8 n → e ≡ d ++ bytes
    → e ≡ o ++ plt_spelling (table_of version n bytes)
unfolding plt_spelling
appended version n bytes o a b c d e are stop h1 h2 h3 h4 h5 =
    rw (inner_long version n bytes are stop, inner_is version n bytes are stop, h5, h4, h3, h2, h1) (simp append_assoc)
