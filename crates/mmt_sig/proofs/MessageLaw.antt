-- What is read as a message was spelled so, and what is spelled so is read.
use Rattle.std.proofs.Common.{◌≡◌, ℕ, zero, suc, ◌+◌, ◌-◌, ◌*◌, ◌^◌, ◌<◌, ◌≤◌, true, false, ◌&&◌, eqb, leb, ltb, List, [], ◌∷◌, ◌++◌, length, take, drop, map, Ok, refl, sym, ap, subst, ◌∙◌, append_assoc, arith, eq-eqb}
use Rattle.std.specs.List.{flat_map}
use Rattle.std.specs.Int.{w8, w16, w32}
use Rattle.std.proofs.lemmas.Bool.{eqb-true, leb-true, le-leb, ltb-true, lt-ltb, and_parts}
use Rattle.std.proofs.lemmas.List.{length-append, append-nil, take_at, take-append-drop}
use Rattle.mmt_fields.specs.Reading.{number_at, bytes_at, big_endian}
use Rattle.mmt_fields.proofs.Codec.{IsBytes, IsBytes-rest, bind_ok, ok_is, Stage, Field, Format, Always, field, checked, checked_rest, made, spelled}
use Rattle.mmt_fields.proofs.Numbers.{u8_field, u16_field, u32_field, bytes_field, length_big_endian}
use Rattle.mmt_lists.proofs.CountedItems.{counted_all}
use Rattle.mmt_lists.proofs.Variants.{chosen, variant, checked_left}
use Rattle.mmt_model.specs.declared.programmes.Params.{Params}
use Rattle.mmt_sig.specs.declared.message.MessageWhy.TheVariants as why
use Rattle.mmt_sig.specs.Tables.{OwnTable, ListedTable, own, IsTable, listed_tables}
use Rattle.mmt_sig.specs.Message.{PaValue, HrbmValue, MessageValue, PaMessage, HrbmMessage, OtherMessage, hrbm_id, pa_inner, pa_bytes, hrbm_bytes, id_of, body_of, message_spelling, PaFits, AreRight, HrbmFits, MessageIsRight}
use Rattle.mmt_sig.specs.MessageReading.{listed_at, table_at, pa_of, are_right, hrbm_of, body_by, message_of}

-- ---- a directory entry

listed_field : (at : ℕ) → Field (listed_at at) (big_endian w32) (λ n. n < 2 ^ 32)
unfolding listed_at
listed_field at = u32_field at why.Short

-- ---- a table by its own header

header : ℕ → ℕ → ℕ → List ℕ → List ℕ
header id version len rest = big_endian w8 id ++ (big_endian w8 version ++ (big_endian w16 len ++ rest))

four : (id version len : ℕ) → length (big_endian w8 id ++ (big_endian w8 version ++ big_endian w16 len)) ≡ 4
four id version len = simp (length-append, length_big_endian) refl

in_two : (id version len : ℕ) (rest : List ℕ) → big_endian w8 id ++ (big_endian w8 version ++ (big_endian w16 len ++ rest)) ≡ (big_endian w8 id ++ (big_endian w8 version ++ big_endian w16 len)) ++ rest
in_two id version len rest = simp append_assoc refl

-- the first bytes of a table are its header and what its length counts
cut : (id version len : ℕ) (rest table after : List ℕ) → big_endian w8 id ++ (big_endian w8 version ++ (big_endian w16 len ++ rest)) ≡ table ++ after → length table ≡ 4 + len
    → table ≡ big_endian w8 id ++ (big_endian w8 version ++ (big_endian w16 (length table - 4) ++ drop 4 table))
cut id version len rest table after e long =
    let front = big_endian w8 id ++ (big_endian w8 version ++ big_endian w16 len) in
    let is_len : length table - 4 ≡ len = omega arith in
    let joined : table ++ after ≡ front ++ rest = sym e ∙ in_two id version len rest in
    let first : take 4 (table ++ after) ≡ front = ap (take 4) joined ∙ take_at front rest 4 (four id version len) in
    let inner : take 4 (table ++ after) ≡ take 4 table = take-append-short 4 table after (omega arith) in
    let halves : take 4 table ++ drop 4 table ≡ table = take-append-drop 4 table in
    sym halves ∙ ap (λ (x : List ℕ). x ++ drop 4 table) (sym inner ∙ first) ∙ sym (in_two id version len (drop 4 table)) ∙ ap (λ (k : ℕ). big_endian w8 id ++ (big_endian w8 version ++ (big_endian w16 k ++ drop 4 table))) (sym is_len)
  where
    take-append-short : (n : ℕ) (xs ys : List ℕ) → n ≤ length xs → take n (xs ++ ys) ≡ take n xs
    take-append-short zero xs ys le = refl
    take-append-short (suc n) [] ys le = absurd (omega arith)
    take-append-short (suc n) (x ∷ xs) ys le = ap (λ (zs : List ℕ). x ∷ zs) (take-append-short n xs ys (omega arith))

abbrev TableRest : Type 0
TableRest = OwnTable × List ℕ

pub table_takes : (at : ℕ) (bytes : List ℕ) (t : OwnTable) (rest : List ℕ) → IsBytes bytes → table_at at bytes ≡ Ok (t, rest) → (bytes ≡ t.bytes ++ rest) × IsTable t
unfolding table_at
table_takes at bytes t rest are e =
    let byte : (at : ℕ) → Field (λ bytes. number_at w8 bytes at why.Short) (big_endian w8) (λ n. n < 2 ^ 8) = λ at. u8_field at why.Short in
    let id_field = u8_field at why.Short in
    let len_field = u16_field at why.Short in
    let i = bind_ok (number_at w8 bytes at why.Short) _ (t, rest) e in
    let ih = id_field.takes bytes i.0.0 i.0.1 are i.1 in
    let i_are : IsBytes i.0.1 = IsBytes-rest (big_endian w8 i.0.0) i.0.1 (subst IsBytes ih.0 are) in
    let v = bind_ok (number_at w8 i.0.1 at why.Short) _ (t, rest) i.2 in
    let vh = id_field.takes i.0.1 v.0.0 v.0.1 i_are v.1 in
    let v_are : IsBytes v.0.1 = IsBytes-rest (big_endian w8 v.0.0) v.0.1 (subst IsBytes vh.0 i_are) in
    let l = bind_ok (number_at w16 v.0.1 at why.Short) _ (t, rest) v.2 in
    let lh = len_field.takes v.0.1 l.0.0 l.0.1 v_are l.1 in
    let w = bind_ok (bytes_at (4 + l.0.0) bytes at why.Short) _ (t, rest) l.2 in
    let whole_field = bytes_field (4 + l.0.0) at why.Short in
    let wh = whole_field.takes bytes w.0.0 w.0.1 are w.1 in
    let all : bytes ≡ big_endian w8 i.0.0 ++ (big_endian w8 v.0.0 ++ (big_endian w16 l.0.0 ++ l.0.1)) =
    ih.0 ∙ ap (λ (x : List ℕ). big_endian w8 i.0.0 ++ x) vh.0 ∙ ap (λ (x : List ℕ). big_endian w8 i.0.0 ++ (big_endian w8 v.0.0 ++ x)) lh.0 in
    let table : IsTable (record { id = i.0.0; version = v.0.0; bytes = w.0.0 }) = record {
      id = ih.1;
      version = vh.1;
      len = omega (arith, wh.1, lh.1);
      header = cut i.0.0 v.0.0 l.0.0 l.0.1 w.0.0 w.0.1 (sym all ∙ wh.0) wh.1;
    } in
    subst (λ (p : TableRest). (bytes ≡ p.0.bytes ++ p.1) × IsTable p.0) (ok_is (record { id = i.0.0; version = v.0.0; bytes = w.0.0 }, w.0.1) (t, rest) w.2) (wh.0, table)

table_again : (at : ℕ) (t : OwnTable) (rest : List ℕ) → IsTable t → table_at at (t.bytes ++ rest) ≡ Ok (t, rest)
unfolding table_at
table_again at t rest f =
    let content = drop 4 t.bytes in
    let len = length t.bytes - 4 in
    let long : length t.bytes ≡ 4 + length content = ap length f.header ∙ simp (length-append, length_big_endian) (omega arith) in
    let byte = u8_field at why.Short in
    let two = u16_field at why.Short in
    let whole = bytes_field (4 + len) at why.Short in
    let joined : t.bytes ++ rest ≡ big_endian w8 t.id ++ (big_endian w8 t.version ++ (big_endian w16 len ++ (content ++ rest))) = ap (λ (x : List ℕ). x ++ rest) f.header ∙ simp append_assoc refl in
    let w : bytes_at (4 + len) (t.bytes ++ rest) at why.Short ≡ Ok (t.bytes, rest) = whole.again t.bytes rest (omega arith) in
    let i : number_at w8 (t.bytes ++ rest) at why.Short ≡ Ok (t.id, big_endian w8 t.version ++ (big_endian w16 len ++ (content ++ rest))) = ap (λ (x : List ℕ). number_at w8 x at why.Short) joined ∙ byte.again t.id _ f.id in
    let v = byte.again t.version (big_endian w16 len ++ (content ++ rest)) f.version in
    let l = two.again len (content ++ rest) (omega (arith, f.len)) in
    rw (i, v, l, w) refl

table_field : (at : ℕ) → Field (table_at at) (λ t. t.bytes) IsTable
table_field at = record { takes = table_takes at; again = table_again at }

-- ---- a PA message

listed-again : (ts : List ListedTable) → listed_tables (map (λ t. t.listed) ts) (map own ts) ≡ ts
listed-again [] = refl
listed-again (t ∷ ts) = ap (λ (xs : List ListedTable). t ∷ xs) (listed-again ts)

entries-again : (ns : List ℕ) (ts : List OwnTable) → length ns ≡ length ts → map (λ t. t.listed) (listed_tables ns ts) ≡ ns
entries-again [] ts e = refl
entries-again (n ∷ ns) [] e = absurd (omega arith)
entries-again (n ∷ ns) (t ∷ ts) e = let less : length ns ≡ length ts = omega arith in ap (λ (xs : List ℕ). n ∷ xs) (entries-again ns ts less)

tables-again : (ns : List ℕ) (ts : List OwnTable) → length ns ≡ length ts → map own (listed_tables ns ts) ≡ ts
tables-again [] [] e = refl
tables-again [] (t ∷ ts) e = absurd (omega arith)
tables-again (n ∷ ns) [] e = absurd (omega arith)
tables-again (n ∷ ns) (t ∷ ts) e = let less : length ns ≡ length ts = omega arith in ap (λ (xs : List OwnTable). t ∷ xs) (tables-again ns ts less)

length-map : {A B : Type 0} (f : A → B) (xs : List A) → length (map f xs) ≡ length xs
length-map f [] = refl
length-map f (x ∷ xs) = ap suc (length-map f xs)

length-listed : (ns : List ℕ) (ts : List OwnTable) → length ns ≡ length ts → length (listed_tables ns ts) ≡ length ts
length-listed ns ts e = sym (length-map own (listed_tables ns ts)) ∙ ap length (tables-again ns ts e)

none_left : (bytes : List ℕ) → eqb (length bytes) 0 ≡ true → bytes ≡ []
none_left [] e = refl
none_left (b ∷ bytes) e = absurd (let long : suc (length bytes) ≡ 0 = eqb-true _ _ e in omega arith)

abbrev listed_of : PaValue → List ℕ
listed_of v = map (λ t. t.listed) v.tables

abbrev tables_of : PaValue → List OwnTable
tables_of v = map own v.tables

pa_stage : Stage PaFits Always Always pa_of (λ v. big_endian w8 v.version ++ (big_endian w32 (length (pa_inner v.tables)) ++ (big_endian w8 (length v.tables) ++ (flat_map (big_endian w32) (listed_of v) ++ (flat_map (λ t. t.bytes) (tables_of v) ++ [])))))
unfolding pa_of pa_inner
pa_stage =
    field _ (λ v. v.version) (u8_field 2 why.Short) (λ v c f. f.version) (λ version version_lt.
    field _ (λ v. length (pa_inner v.tables)) (u32_field 3 why.Short) (λ v c f. f.len) (λ len len_lt.
    checked_rest (λ rest. eqb (length rest) len) 3 why.Length _ (λ v c f. let is_len : length (pa_inner v.tables) ≡ len = c.0 in eq-eqb _ _ (simp append-nil is_len)) (
    field _ (λ v. length v.tables) (u8_field 7 why.Short) (λ v c f. f.count) (λ count count_lt.
    field _ listed_of (counted_all listed_at (big_endian w32) (λ n. n < 2 ^ 32) listed_field count 8) (λ v c f. (length-map (λ t. t.listed) v.tables ∙ c.0, f.listed)) (λ listed listed_fit.
    field _ tables_of (counted_all table_at (λ t. t.bytes) IsTable table_field count (8 + 4 * count)) (λ v c f. (length-map own v.tables ∙ c.1.0, f.tables)) (λ tables tables_fit.
    checked_left (λ rest. eqb (length rest) 0) (λ rest. 7 + len - length rest) why.Length _ (λ v c f. refl) (
    made (λ v. []) (λ rest. record { version = version; tables = listed_tables listed tables })
    (λ rest are known.
    let empty : rest ≡ [] = none_left rest known.0 in
    let same : length listed ≡ length tables = listed_fit.0 ∙ sym tables_fit.0 in
    let ns = entries-again listed tables same in
    let ts = tables-again listed tables same in
    let count_is : length (listed_tables listed tables) ≡ count = length-listed listed tables same ∙ tables_fit.0 in
    let all = eqb-true _ _ known.1.0 in
    let is_len : length (pa_inner (listed_tables listed tables)) ≡ len = rw (ns, ts, count_is) (ap length (rw (empty, append-nil) refl) ∙ all) in
    (empty, (ts, (ns, (count_is, (is_len, (refl, tt))))), record { version = version_lt; count = rw count_is count_lt; len = rw is_len len_lt; listed = rw ns listed_fit.1; tables = rw ts tables_fit.1 }))
    (λ v c f. rw (← c.0, ← c.1.0, listed-again v.tables, ← c.1.1.1.1.0) refl))))))))

pa_format : Format PaFits pa_of pa_bytes
unfolding pa_bytes pa_inner
pa_format = spelled _ (λ v c f. simp append-nil refl) pa_stage

-- ---- a buffer message

right_true : (bound window delay : ℕ) → are_right bound window delay ≡ true → AreRight (record { bound = bound; window = window; delay = delay })
right_true bound window delay e =
    let a = and_parts (leb 1 bound) _ e in
    let b = and_parts (leb 1 delay) _ a.1 in
    let c = and_parts (ltb delay window) _ b.1 in
    record { bound = leb-true _ _ a.0; delay = leb-true _ _ b.0; window = ltb-true _ _ c.0; widest = leb-true _ _ c.1 }

true_right : (p : Params) → AreRight p → are_right p.bound p.window p.delay ≡ true
true_right p f =
    let b = le-leb _ _ f.bound in
    let d = le-leb _ _ f.delay in
    let w = lt-ltb _ _ f.window in
    let m = le-leb _ _ f.widest in
    rw (b, d, w, m) refl

hrbm_format : Format HrbmFits hrbm_of hrbm_bytes
unfolding hrbm_of hrbm_bytes
hrbm_format =
    spelled (λ v. big_endian w8 v.version ++ (big_endian w16 12 ++ (big_endian w32 v.params.bound ++ (big_endian w32 v.params.window ++ (big_endian w32 v.params.delay ++ []))))) (λ v c f. simp append-nil refl) (
    field _ (λ v. v.version) (u8_field 2 why.Short) (λ v c f. f.version) (λ version version_lt.
    field _ (λ v. 12) (u16_field 3 why.Short) (λ v c f. omega arith) (λ len len_lt.
    checked_rest (λ rest. eqb len 12 && eqb (length rest) len) 3 why.Length _
    (λ v c f. let is_len : 12 ≡ len = c.0 in rw (← is_len) (simp (length-append, length_big_endian) refl)) (
    field _ (λ v. v.params.bound) (u32_field 5 why.Short) (λ v c f. f.bound) (λ bound bound_lt.
    field _ (λ v. v.params.window) (u32_field 9 why.Short) (λ v c f. let r = f.right in omega (arith, r.widest)) (λ window window_lt.
    field _ (λ v. v.params.delay) (u32_field 13 why.Short) (λ v c f. let r = f.right in omega (arith, r.widest, r.window)) (λ delay delay_lt.
    checked (are_right bound window delay) 5 why.HrbmValues _ (λ v c f. rw (← c.0, ← c.1.0, ← c.1.1.0) (true_right v.params f.right)) (λ right.
    made (λ v. []) (λ rest. record { version = version; params = record { bound = bound; window = window; delay = delay } })
    (λ rest are known.
    let parts = and_parts (eqb len 12) _ known.0 in
    let is_len : len ≡ 12 = eqb-true _ _ parts.0 in
    let long = eqb-true _ _ parts.1 in
    let empty : rest ≡ [] = none_left rest (eq-eqb _ _ (omega (arith, simp (length-append, length_big_endian) at long))) in
    (empty, (refl, (refl, (refl, (sym is_len, (refl, tt))))), record { version = version_lt; bound = bound_lt; right = right_true bound window delay right }))
    (λ v c f. rw (← c.0, ← c.1.0, ← c.1.1.0, ← c.1.1.1.1.0) refl)))))))))

-- ---- a message

abbrev HasId : ℕ → MessageValue → Type 0
HasId id v = (id_of v ≡ id) × Always v

as_pa : (id : ℕ) → id ≡ 0 → (v : MessageValue) → HasId id v → MessageIsRight v → (x : PaValue) × (PaMessage x ≡ v) × PaFits x
as_pa id z (PaMessage p) c f = (p, refl, f)
as_pa id z (HrbmMessage h) c f = absurd (let e : 61696 ≡ id = c.0 in omega arith)
as_pa id z (OtherMessage other bytes) c f = absurd (f.not_pa (c.0 ∙ z))

as_hrbm : (id : ℕ) → id ≡ hrbm_id → (v : MessageValue) → HasId id v → MessageIsRight v → (x : HrbmValue) × (HrbmMessage x ≡ v) × HrbmFits x
as_hrbm id z (PaMessage p) c f = absurd (let e : 0 ≡ id = c.0 in omega arith)
as_hrbm id z (HrbmMessage h) c f = (h, refl, f)
as_hrbm id z (OtherMessage other bytes) c f = absurd (f.not_hrbm (c.0 ∙ z))

as_other : (id : ℕ) → (id ≡ 0 → ⊥) → (id ≡ hrbm_id → ⊥) → (v : MessageValue) → HasId id v → OtherMessage id (body_of v) ≡ v
as_other id not_pa not_hrbm (PaMessage p) c = absurd (not_pa (sym c.0))
as_other id not_pa not_hrbm (HrbmMessage h) c = absurd (not_hrbm (sym c.0))
as_other id not_pa not_hrbm (OtherMessage other bytes) c = ap (λ (n : ℕ). OtherMessage n bytes) (sym c.0)

not_same : (m n : ℕ) → eqb m n ≡ false → m ≡ n → ⊥
not_same m n e same = absurd (let t : eqb m n ≡ true = eq-eqb _ _ same in cc)

body_stage : (id : ℕ) → id < 2 ^ 16 → Stage MessageIsRight (HasId id) (λ rest. Always (big_endian w16 id ++ rest)) (body_by id) body_of
unfolding body_by
body_stage id id_lt =
    chosen (eqb id 0)
    (λ is. let zero : id ≡ 0 = eqb-true _ _ is in variant PaMessage pa_format (as_pa id zero) (λ p f. (refl, (sym zero, tt), f)))
    (λ not_pa. chosen (eqb id hrbm_id)
    (λ is. let same : id ≡ hrbm_id = eqb-true _ _ is in variant HrbmMessage hrbm_format (as_hrbm id same) (λ h f. (refl, (sym same, tt), f)))
    (λ not_hrbm. made body_of (OtherMessage id)
    (λ rest are known. (refl, (refl, tt), record { id = id_lt; not_pa = not_same id 0 not_pa; not_hrbm = not_same id hrbm_id not_hrbm }))
    (λ v c f. as_other id (not_same id 0 not_pa) (not_same id hrbm_id not_hrbm) v c)))

id_below : (v : MessageValue) → MessageIsRight v → id_of v < 2 ^ 16
id_below (PaMessage p) f = omega arith
id_below (HrbmMessage h) f = omega arith
id_below (OtherMessage id bytes) f = f.id

pub message_format : Format MessageIsRight message_of message_spelling
unfolding message_of message_spelling
message_format = field _ id_of (u16_field 0 why.Short) (λ v c f. id_below v f) (λ id id_lt. body_stage id id_lt)
