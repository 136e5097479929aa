-- Going from table to table.
use Rattle.std.proofs.Common.{◌≡◌, ℕ, suc, ◌+◌, ◌-◌, ◌<◌, List, [], ◌∷◌, length, Some, None, Ok, Err, refl, sym, ap, ◌∙◌, arith}
use Rattle.mmt_base.specs.declared.refused.Refused.{Refused}
use Rattle.mmt_lists.specs.Counted.{counted}
use Rattle.mmt_lists.proofs.CountedItems.{length_counted}
use Rattle.mmt_lists.proofs.CountedSteps as steps
use Rattle.mmt_sig.specs.declared.message.MessageWhy.{MessageWhy}
use Rattle.mmt_sig.specs.Tables.{OwnTable, listed_tables}
use Rattle.mmt_sig.specs.MessageReading.{listed_at, table_at}
use Rattle.mmt_sig.specs.TablesLeft.{tables_by}

abbrev pub Entry : Type 0
Entry = ℕ × List ℕ

abbrev pub Step : Type 0
Step = OwnTable × List ℕ

pub tables_first : (n entry : ℕ) (directory : List ℕ) (at : ℕ) (bytes : List ℕ) (l : Entry) (t : Step) → 0 < n → listed_at entry directory ≡ Ok l → table_at at bytes ≡ Ok t
    → tables_by n entry directory at bytes ≡ record { id = t.0.id; version = t.0.version; listed = l.0; bytes = t.0.bytes } ∷ tables_by (n - 1) (entry + (length directory - length l.1)) l.1 (at + (length bytes - length t.1)) t.1
tables_first n entry directory at bytes l t some e f =
    ap (λ (ns : List ℕ). listed_tables ns (counted n table_at at bytes).items) (steps.first_item listed_at n entry directory l some e)
    ∙ ap (λ (ts : List OwnTable). listed_tables (l.0 ∷ (counted (n - 1) listed_at (entry + (length directory - length l.1)) l.1).items) ts) (steps.first_item table_at n at bytes t some f)

listed-nil : (ns : List ℕ) → listed_tables ns [] ≡ []
listed-nil [] = refl
listed-nil (n ∷ ns) = refl

pub no_entry : (n entry : ℕ) (directory : List ℕ) (at : ℕ) (bytes : List ℕ) (d : Refused MessageWhy) → listed_at entry directory ≡ Err d → tables_by n entry directory at bytes ≡ []
no_entry n entry directory at bytes d e = ap (λ (ns : List ℕ). listed_tables ns (counted n table_at at bytes).items) (steps.no_item listed_at n entry directory d e)

pub no_table : (n entry : ℕ) (directory : List ℕ) (at : ℕ) (bytes : List ℕ) (d : Refused MessageWhy) → table_at at bytes ≡ Err d → tables_by n entry directory at bytes ≡ []
no_table n entry directory at bytes d e = ap (listed_tables (counted n listed_at entry directory).items) (steps.no_item table_at n at bytes d e) ∙ listed-nil (counted n listed_at entry directory).items

pub tables_zero : (n entry : ℕ) (directory : List ℕ) (at : ℕ) (bytes : List ℕ) → n ≡ 0 → tables_by n entry directory at bytes ≡ []
tables_zero n entry directory at bytes e = ap (λ (ns : List ℕ). listed_tables ns (counted n table_at at bytes).items) (steps.items_zero listed_at n entry directory e)

length-listed : (ns : List ℕ) (ts : List OwnTable) → length ns ≡ length ts → length (listed_tables ns ts) ≡ length ts
length-listed [] [] e = refl
length-listed [] (t ∷ ts) e = absurd (omega arith)
length-listed (n ∷ ns) [] e = refl
length-listed (n ∷ ns) (t ∷ ts) e = let less : length ns ≡ length ts = omega arith in ap suc (length-listed ns ts less)

pub length_tables : (n entry : ℕ) (directory : List ℕ) (at : ℕ) (bytes : List ℕ) → (counted n listed_at entry directory).stop ≡ None → (counted n table_at at bytes).stop ≡ None → length (tables_by n entry directory at bytes) ≡ n
length_tables n entry directory at bytes e f =
    let ns = length_counted listed_at n entry directory e in
    let ts = length_counted table_at n at bytes f in
    length-listed (counted n listed_at entry directory).items (counted n table_at at bytes).items (ns ∙ sym ts) ∙ ts

-- ---- as the two loops go

pub directory_stop : (n at : ℕ) (bytes : List ℕ) → n ≡ 0 → (counted n listed_at at bytes).stop ≡ None
directory_stop n at bytes e = steps.stop_zero listed_at n at bytes e

pub directory_rest : (n at : ℕ) (bytes : List ℕ) → n ≡ 0 → (counted n listed_at at bytes).rest ≡ bytes
directory_rest n at bytes e = steps.rest_zero listed_at n at bytes e

pub directory_here : (n at : ℕ) (bytes : List ℕ) (d : Refused MessageWhy) → 0 < n → listed_at at bytes ≡ Err d → (counted n listed_at at bytes).stop ≡ Some d
directory_here n at bytes d some e = steps.stop_here listed_at n at bytes d some e

pub tables_stop : (n at : ℕ) (bytes : List ℕ) → n ≡ 0 → (counted n table_at at bytes).stop ≡ None
tables_stop n at bytes e = steps.stop_zero table_at n at bytes e

pub tables_rest : (n at : ℕ) (bytes : List ℕ) → n ≡ 0 → (counted n table_at at bytes).rest ≡ bytes
tables_rest n at bytes e = steps.rest_zero table_at n at bytes e

pub tables_here : (n at : ℕ) (bytes : List ℕ) (d : Refused MessageWhy) → 0 < n → table_at at bytes ≡ Err d → (counted n table_at at bytes).stop ≡ Some d
tables_here n at bytes d some e = steps.stop_here table_at n at bytes d some e
