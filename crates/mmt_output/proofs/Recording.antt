-- A record that is written part by part.
use Rattle.std.proofs.Common.{◌≡◌, ℕ, List, [], ◌∷◌, ◌++◌, length, ap, sym, subst, ◌∙◌, append_assoc}
use Rattle.std.specs.Int.{w16, w32, w64}
use Rattle.std.proofs.lemmas.List.{append-nil}
use Rattle.mmt_fields.specs.Reading.{big_endian}
use Rattle.mmt_io.specs.History.{Event}
use Rattle.mmt_model.specs.Units.{joined}
use Rattle.mmt_runs.specs.declared.order.UnitOrder.{UnitOrder}
use Rattle.mmt_runs.specs.Lending.{Lending, the_presentation}
use Rattle.mmt_io.specs.Output.{only_written, Puts, PutsPrefix}
use Rattle.mmt_output.specs.Records.{timed_mark, key_bytes, header_of, record_of}
use Rattle.mmt_output.proofs.Putting.{puts_both, puts_and_start, start_of_part}

-- a prefix of the bytes was written, and these parts of them are left
pub record Begun (old new : List Event) (whole : List ℕ) (left : List (List ℕ)) : Type 0 where
  pub front : List ℕ
  pub all : whole ≡ front ++ joined left
  pub puts : Puts old new (only_written front)

-- the header of a unit of which no part was lent
abbrev pub header_by : UnitOrder → ℕ → ℕ → ℕ → List ℕ
header_by o priority dependency count =
    85 ∷ timed_mark o.key ∷ (big_endian w16 o.packet_id ++ big_endian w64 o.time.0 ++ big_endian w32 o.mpu ++ key_bytes o.key ++ priority ∷ dependency ∷ big_endian w32 count)

pub header_same : (l : Lending) (o : UnitOrder) (priority dependency count : ℕ) → o ≡ l.order → priority ≡ l.priority → dependency ≡ l.dependency → count ≡ length (joined l.left)
    → header_by o priority dependency count ≡ header_of (the_presentation l)
unfolding header_of the_presentation
header_same l o priority dependency count same_order same_priority same_dependency same_count =
    ap (λ x. header_by x priority dependency count) same_order
    ∙ (ap (λ x. header_by l.order x dependency count) same_priority ∙ (ap (λ x. header_by l.order l.priority x count) same_dependency ∙ ap (header_by l.order l.priority l.dependency) same_count))

-- the header was written
pub begun : (old new : List Event) (l : Lending) (front : List ℕ) → front ≡ header_of (the_presentation l) → Puts old new (only_written front) → Begun old new (record_of (the_presentation l)) l.left
unfolding record_of the_presentation
begun old new l front is p = record { front = front; all = ap (λ x. x ++ joined l.left) (sym is); puts = p }

-- a prefix of the header was written
pub begun_start : (old new : List Event) (l : Lending) (front : List ℕ) → front ≡ header_of (the_presentation l) → PutsPrefix old new (only_written front) → PutsPrefix old new (only_written (record_of (the_presentation l)))
unfolding record_of the_presentation
begun_start old new l front is p =
    let P : List ℕ → Type 0 = λ x. PutsPrefix old new (only_written (x ++ joined l.left)) in
    subst P is (start_of_part old new (only_written front) (only_written (joined l.left)) p)

-- one more part was written, or a prefix of it, or no part is left
pub begun_more : (old mid new : List Event) (whole part : List ℕ) (left : List (List ℕ)) → Begun old mid whole (part ∷ left) → Puts mid new (only_written part) → Begun old new whole left
begun_more old mid new whole part left b p = record {
  front = b.front ++ part;
  all = b.all ∙ sym (append_assoc b.front part (joined left));
  puts = puts_both old mid new (only_written b.front) (only_written part) b.puts p;
}

pub begun_part : (old mid new : List Event) (whole part : List ℕ) (left : List (List ℕ)) → Begun old mid whole (part ∷ left) → PutsPrefix mid new (only_written part) → PutsPrefix old new (only_written whole)
begun_part old mid new whole part left b p =
    let P : List ℕ → Type 0 = λ x. PutsPrefix old new (only_written x) in
    subst P (append_assoc b.front part (joined left) ∙ sym b.all)
    (start_of_part old new (only_written (b.front ++ part)) (only_written (joined left)) (puts_and_start old mid new (only_written b.front) (only_written part) b.puts p))

pub begun_end : (old new : List Event) (whole : List ℕ) → Begun old new whole [] → Puts old new (only_written whole)
begun_end old new whole b =
    let P : List ℕ → Type 0 = λ x. Puts old new (only_written x) in
    subst P (sym (append-nil b.front) ∙ sym b.all) b.puts
