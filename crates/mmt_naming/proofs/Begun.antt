-- Notes that go out one after another.
use Rattle.std.proofs.Common.{ℕ, List, [], ◌++◌, refl, sym, ◌∙◌, append_assoc, append-nil, subst}
use Rattle.std.specs.Prelude.{Result, Ok, Err}
use Rattle.mmt_io.specs.History.{Event}
use Rattle.mmt_io.specs.Output.{only_noted, Puts, PutsPrefix, Put}
use Rattle.mmt_output.proofs.Putting.{puts_nothing, puts_both, puts_and_start, start_of_part}
use Rattle.mmt_naming.specs.Begun.{Begun}

-- nothing is noted yet
pub begun_none : (history : List Event) (all : List ℕ) → Begun history history all all
begun_none history all = record { front = []; whole = refl; puts = puts_nothing history }

-- lines more
pub begun_more : (old mid new : List Event) (all lines left : List ℕ) → Begun old mid all (lines ++ left) → Puts mid new (only_noted lines) → Begun old new all left
begun_more old mid new all lines left b p = record {
  front = b.front ++ lines;
  whole = b.whole ∙ sym (append_assoc b.front lines left);
  puts = puts_both old mid new (only_noted b.front) (only_noted lines) b.puts p;
}

-- a prefix of lines more
pub begun_part : (old mid new : List Event) (all lines left : List ℕ) → Begun old mid all (lines ++ left) → PutsPrefix mid new (only_noted lines) → PutsPrefix old new (only_noted all)
begun_part old mid new all lines left b p =
    subst (λ x. PutsPrefix old new (only_noted x)) (append_assoc b.front lines left ∙ sym b.whole)
    (start_of_part old new (only_noted (b.front ++ lines)) (only_noted left) (puts_and_start old mid new (only_noted b.front) (only_noted lines) b.puts p))

-- the last lines, by a call
pub begun_last : {T E : Type 0} (old mid new : List Event) (all lines : List ℕ) (result : Result T E) → Begun old mid all lines → Put mid new (only_noted lines) result → Put old new (only_noted all) result
begun_last old mid new all lines (Ok answer) b p = subst (λ x. Puts old new (only_noted x)) (sym b.whole) (puts_both old mid new (only_noted b.front) (only_noted lines) b.puts p)
begun_last old mid new all lines (Err reason) b p = subst (λ x. PutsPrefix old new (only_noted x)) (sym b.whole) (puts_and_start old mid new (only_noted b.front) (only_noted lines) b.puts p)

-- all lines were noted
pub begun_end : (old new : List Event) (all : List ℕ) → Begun old new all [] → Puts old new (only_noted all)
begun_end old new all b = subst (λ x. Puts old new (only_noted x)) (sym (append-nil b.front) ∙ sym b.whole) b.puts
