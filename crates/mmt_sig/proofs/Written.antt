-- What the writers append.
use Rattle.std.proofs.Common.{◌≡◌, ℕ, ◌+◌, ◌-◌, ◌*◌, ◌%◌, ◌^◌, ◌<◌, ◌≤◌, Bool, true, false, List, [], ◌∷◌, ◌++◌, length, drop, get_or, sym, ap, ◌∙◌, arith}
use Rattle.std.specs.List.{flat_map}
use Rattle.std.specs.Int.{w8, w16, w32}
use Rattle.std.proofs.lemmas.List.{length-append, append-nil}
use Rattle.std.proofs.lemmas.List.Concat.{flat_map-cons}
use Rattle.std.proofs.lemmas.List.Elements.{All-nil, All-cons}
use Rattle.mmt_fields.specs.Reading.{big_endian}
use Rattle.mmt_fields.proofs.Codec.{IsBytes}
use Rattle.mmt_fields.proofs.Numbers.{length_big_endian}
use Rattle.mmt_sig.specs.Payload.{messages_bytes, itself}
use Rattle.mmt_sig.specs.Tables.{OwnTable, own, IsTable, sent_table, HasOwnLength}
use Rattle.mmt_sig.specs.Message.{pa_inner, PaFits}

one : {A : Type 0} (f : A → List ℕ) (x : A) → flat_map f (x ∷ []) ≡ f x
one f x = flat_map-cons f x [] ∙ append-nil (f x)

pub one_alone : (aggregated long : Bool) (m : List ℕ) → aggregated ≡ false → messages_bytes aggregated long (m ∷ []) ≡ m
unfolding messages_bytes
one_alone true long m e = absurd cc
one_alone false long m e = one itself m

pub sent_inner : (table : List ℕ) → pa_inner (sent_table table ∷ []) ≡ big_endian w8 1 ++ (big_endian w32 (get_or table 0 0 * 2 ^ 24 + get_or table 1 0 * 2 ^ 16 + length table) ++ table)
unfolding pa_inner
sent_inner table =
    let entry = get_or table 0 0 * 2 ^ 24 + get_or table 1 0 * 2 ^ 16 + length table in
    let tables : flat_map (λ (t : OwnTable). t.bytes) (own (sent_table table) ∷ []) ≡ table = one (λ (t : OwnTable). t.bytes) (own (sent_table table)) in
    ap (λ (x : List ℕ). big_endian w8 1 ++ (x ++ flat_map (λ (t : OwnTable). t.bytes) (own (sent_table table) ∷ []))) (one (big_endian w32) entry)
    ∙ ap (λ (x : List ℕ). big_endian w8 1 ++ (big_endian w32 entry ++ x)) tables

pub sent_length : (table : List ℕ) → length (pa_inner (sent_table table ∷ [])) ≡ 5 + length table
sent_length table = ap length (sent_inner table) ∙ simp (length-append, length_big_endian) (omega arith)

byte : (b : ℕ) → b < 256 → big_endian w8 b ≡ b ∷ []
unfolding big_endian
byte b lt = let e : b % 256 ≡ b = omega arith in ap (λ (x : ℕ). x ∷ []) e

header : (table : List ℕ) → 4 ≤ length table → IsBytes table → HasOwnLength table
    → table ≡ big_endian w8 (get_or table 0 0) ++ (big_endian w8 (get_or table 1 0) ++ (big_endian w16 (length table - 4) ++ drop 4 table))
header (a ∷ b ∷ c ∷ d ∷ rest) le are is =
    ap (λ (x : List ℕ). a ∷ b ∷ (x ++ rest)) is
    ∙ sym (ap (λ (x : List ℕ). x ++ (big_endian w8 b ++ (big_endian w16 (length (a ∷ b ∷ c ∷ d ∷ rest) - 4) ++ rest))) (byte a (are 0))
    ∙ ap (λ (x : List ℕ). a ∷ (x ++ (big_endian w16 (length (a ∷ b ∷ c ∷ d ∷ rest) - 4) ++ rest))) (byte b (are 1)))
header table le are is = absurd (omega arith)

pub sent_fits : (version : ℕ) (table : List ℕ) → version < 2 ^ 8 → 4 ≤ length table → length table < 2 ^ 16 → IsBytes table → HasOwnLength table
    → PaFits (record { version = version; tables = sent_table table ∷ [] })
sent_fits version table version_lt le lt are is =
    let id : get_or table 0 0 < 256 = are 0 in
    let own_version : get_or table 1 0 < 256 = are 1 in
    record {
      version = version_lt;
      count = omega arith;
      len = rw (sent_length table) (omega arith);
      listed = All-cons (λ n. n < 2 ^ 32) _ [] (omega arith) (All-nil (λ n. n < 2 ^ 32));
      tables = All-cons IsTable _ [] (record { id = id; version = own_version; len = omega arith; header = header table le are is }) (All-nil IsTable);
    }
