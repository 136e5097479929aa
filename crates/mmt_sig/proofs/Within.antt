-- A message is no longer than the bytes that it stands in, and a table of bytes is as short as its own length says.
use Rattle.std.proofs.Common.{◌≡◌, ℕ, zero, suc, ◌+◌, ◌-◌, ◌^◌, ◌<◌, ◌≤◌, Bool, true, false, leb, ltb, List, [], ◌∷◌, ◌++◌, length, take, drop, get_or, Result, Ok, Err, refl, ap, subst, arith}
use Rattle.std.specs.List.{All}
use Rattle.std.specs.Int.{w8, byte_len}
use Rattle.std.proofs.lemmas.List.Elements.{All-nil, All-cons}
use Rattle.std.proofs.lemmas.List.{length-take}
use Rattle.mmt_base.specs.declared.refused.Refused.{Refused}
use Rattle.mmt_fields.specs.Reading.{number_at, bytes_at, check, big_endian}
use Rattle.mmt_fields.specs.Items.{Walk, go_on, walk}
use Rattle.mmt_fields.proofs.Codec.{IsBytes, IsBytes-rest, bind_ok, ok_is}
use Rattle.mmt_fields.proofs.Numbers.{guard_ok, number_leaves, bytes_leave}
use Rattle.mmt_lists.specs.Counted.{Counted, then_more, counted}
use Rattle.mmt_sig.specs.declared.head.SigWhy.{SigWhy}
use Rattle.mmt_sig.specs.declared.head.SigWhy.TheVariants as why
use Rattle.mmt_sig.specs.declared.message.MessageWhy.{MessageWhy}
use Rattle.mmt_sig.specs.Payload.{length_width}
use Rattle.mmt_sig.specs.PayloadReading.{message_at}
use Rattle.mmt_sig.specs.Left.{left}
use Rattle.mmt_sig.specs.Tables.{OwnTable, ListedTable, own, IsTable, listed_tables}
use Rattle.mmt_sig.specs.MessageReading.{listed_at, table_at}
use Rattle.mmt_sig.specs.TablesLeft.{tables_by}
use Rattle.mmt_sig.proofs.MessageSteps.{Step}
use Rattle.mmt_sig.proofs.MessageLaw.{table_takes}

-- ---- messages

-- a run of bytes is as long as it says
bytes_taken : {W : Type 0} (count : ℕ) (bytes : List ℕ) (at : ℕ) (short : W) (x : List ℕ × List ℕ) → bytes_at count bytes at short ≡ Ok x → length x.0 ≤ length bytes
unfolding bytes_at
bytes_taken count bytes at short x e =
    let g = guard_ok (ltb (length bytes) count) (record { at = at; why = short }) (take count bytes, drop count bytes) x e in
    let is : length (take count bytes) ≡ length x.0 = ap (λ (p : List ℕ × List ℕ). length p.0) g.1 in
    omega (arith, length-take count bytes, is)

-- a message and what follows it are no longer than the bytes
pub message_within : (long : Bool) (at : ℕ) (bytes : List ℕ) (x : Step) → message_at long at bytes ≡ Ok x → (length x.0 ≤ length bytes) × (length x.1 ≤ length bytes)
unfolding message_at
message_within long at bytes x e =
    let a = bind_ok (number_at (length_width long) bytes at why.Short) _ x e in
    let w = bind_ok (check (leb a.0.0 (length a.0.1)) at why.Overrun) _ x a.2 in
    let m = bind_ok (bytes_at a.0.0 a.0.1 (at + byte_len (length_width long)) why.Short) _ x w.2 in
    let front : length m.0.0 ≡ length x.0 = ap (λ (y : Step). length y.0) (ok_is _ x m.2) in
    let took = bytes_taken a.0.0 a.0.1 (at + byte_len (length_width long)) why.Short m.0 m.1 in
    let is : length m.0.1 ≡ length x.1 = ap (λ (y : Step). length y.1) (ok_is _ x m.2) in
    let left = number_leaves (length_width long) bytes at why.Short a.0 a.1 in
    let cut = bytes_leave a.0.0 a.0.1 (at + byte_len (length_width long)) why.Short m.0 m.1 in
    (omega (arith, left, cut, took, front), omega (arith, left, cut))

below : (n m : ℕ) (xs : List (List ℕ)) → n ≤ m → All (λ x. length x ≤ n) xs → All (λ x. length x ≤ m) xs
below n m xs le all k d lt = let one = all k d lt in omega arith

go : (n : ℕ) (r : Result Step (Refused SigWhy)) (others : Step → Walk (List ℕ) SigWhy) → ((x : Step) → r ≡ Ok x → length x.0 ≤ n) → ((x : Step) → r ≡ Ok x → All (λ m. length m ≤ n) (others x).items)
    → All (λ m. length m ≤ n) (go_on r others).items
go n (Ok x) others here more = All-cons (λ (m : List ℕ). length m ≤ n) x.0 (others x).items (here x refl) (more x refl)
go n (Err e) others here more = All-nil (λ (m : List ℕ). length m ≤ n)

walk_within : (long : Bool) (n at : ℕ) (bytes : List ℕ) → All (λ m. length m ≤ length bytes) (walk n (message_at long) at bytes).items
unfolding walk
walk_within long zero at bytes = All-nil (λ (m : List ℕ). length m ≤ length bytes)
walk_within long (suc n) at [] = All-nil (λ (m : List ℕ). length m ≤ 0)
walk_within long (suc n) at (b ∷ bytes) =
    go (length (b ∷ bytes)) (message_at long at (b ∷ bytes)) (λ x. walk n (message_at long) (at + (length (b ∷ bytes) - length x.1)) x.1) (λ x e. (message_within long at (b ∷ bytes) x e).0)
    (λ x e. below (length x.1) (length (b ∷ bytes)) _ (message_within long at (b ∷ bytes) x e).1 (walk_within long n (at + (length (b ∷ bytes) - length x.1)) x.1))

pub left_within : (lone long : Bool) (at : ℕ) (bytes : List ℕ) (n : ℕ) → length bytes < n → All (λ m. length m < n) (left lone long at bytes)
left_within true long at bytes n lt = All-cons (λ (m : List ℕ). length m < n) bytes [] lt (All-nil (λ (m : List ℕ). length m < n))
left_within false long at bytes n lt = λ k d in_list. let one = walk_within long (length bytes) at bytes k d in_list in omega arith

-- ---- tables

abbrev TableStep : Type 0
TableStep = OwnTable × List ℕ

more : (bytes : List ℕ) (r : Result TableStep (Refused MessageWhy)) (others : TableStep → Counted OwnTable MessageWhy) → ((x : TableStep) → r ≡ Ok x → IsTable x.0) → ((x : TableStep) → r ≡ Ok x → All IsTable (others x).items)
    → All IsTable (then_more bytes r others).items
more bytes (Ok x) others here next = All-cons IsTable x.0 (others x).items (here x refl) (next x refl)
more bytes (Err e) others here next = All-nil IsTable

counted_are : (n at : ℕ) (bytes : List ℕ) → IsBytes bytes → All IsTable (counted n table_at at bytes).items
unfolding counted
counted_are zero at bytes are = All-nil IsTable
counted_are (suc n) at bytes are =
    more bytes (table_at at bytes) (λ x. counted n table_at (at + (length bytes - length x.1)) x.1) (λ x e. (table_takes at bytes x.0 x.1 are e).1)
    (λ x e. let h = table_takes at bytes x.0 x.1 are e in counted_are n (at + (length bytes - length x.1)) x.1 (IsBytes-rest x.0.bytes x.1 (subst IsBytes h.0 are)))

listed_are : (ns : List ℕ) (ts : List OwnTable) → All IsTable ts → All (λ t. IsTable (own t)) (listed_tables ns ts)
listed_are [] ts all = All-nil (λ (t : ListedTable). IsTable (own t))
listed_are (n ∷ ns) [] all = All-nil (λ (t : ListedTable). IsTable (own t))
listed_are (n ∷ ns) (t ∷ ts) all = All-cons (λ (t : ListedTable). IsTable (own t)) _ (listed_tables ns ts) (all 0 t (omega arith)) (listed_are ns ts (λ k d lt. all (suc k) d (omega arith)))

tables_are : (n entry : ℕ) (directory : List ℕ) (at : ℕ) (bytes : List ℕ) → IsBytes bytes → All (λ t. IsTable (own t)) (tables_by n entry directory at bytes)
tables_are n entry directory at bytes are = listed_are (counted n listed_at entry directory).items (counted n table_at at bytes).items (counted_are n at bytes are)

first_byte : (n : ℕ) (rest bytes : List ℕ) → n < 2 ^ 8 → bytes ≡ big_endian w8 n ++ rest → get_or bytes 0 0 ≡ n
unfolding big_endian
first_byte n rest bytes lt is = rw is (omega arith)

pub tables_within : (n entry : ℕ) (directory : List ℕ) (at : ℕ) (bytes : List ℕ) → IsBytes bytes → All (λ t. length t.bytes < 2 ^ 17) (tables_by n entry directory at bytes)
tables_within n entry directory at bytes are k d lt = let one = tables_are n entry directory at bytes are k d lt in omega (arith, one.len)

pub tables_begin : (n entry : ℕ) (directory : List ℕ) (at : ℕ) (bytes : List ℕ) → IsBytes bytes → All (λ t. get_or t.bytes 0 0 ≡ t.id) (tables_by n entry directory at bytes)
tables_begin n entry directory at bytes are k d lt = let one = tables_are n entry directory at bytes are k d lt in first_byte _ _ _ one.id one.header
