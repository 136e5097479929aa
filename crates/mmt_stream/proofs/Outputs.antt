-- One output after another, and what begins with what.
use Rattle.std.proofs.Common.{◌≡◌, ℕ, List, [], ◌∷◌, ◌++◌, ap, sym, ◌∙◌, append_assoc}
use Rattle.std.proofs.lemmas.List.{append-nil}
use Rattle.mmt_io.specs.History.{Event}
use Rattle.mmt_io.specs.History.Event.{In}
use Rattle.mmt_io.proofs.Passing.{bytes_written-append, bytes_noted-append}
use Rattle.mmt_io.specs.Output.{Output, nothing, followed, output_of, IsPrefix, IsPrefixOf}

pub same_output : (a b : Output) → a.written ≡ b.written → a.noted ≡ b.noted → a ≡ b
same_output a b written noted =
    let make : List ℕ → List ℕ → Output = λ w n. record { written = w; noted = n } in
    ap (λ w. make w a.noted) written ∙ ap (λ n. make b.written n) noted

pub followed_assoc : (a b c : Output) → followed (followed a b) c ≡ followed a (followed b c)
followed_assoc a b c = same_output _ _ (append_assoc a.written b.written c.written) (append_assoc a.noted b.noted c.noted)

pub followed-nothing : (a : Output) → followed a nothing ≡ a
followed-nothing a = same_output (followed a nothing) a (append-nil a.written) (append-nil a.noted)

pub output_of-append : (xs ys : List Event) → output_of (xs ++ ys) ≡ followed (output_of xs) (output_of ys)
output_of-append xs ys = same_output _ _ (bytes_written-append xs ys) (bytes_noted-append xs ys)

-- a read puts nothing out
pub output_of-read : (events : List Event) (bytes : List ℕ) → output_of (events ++ In bytes ∷ []) ≡ output_of events
output_of-read events bytes = output_of-append events (In bytes ∷ []) ∙ followed-nothing (output_of events)

prefix_trans : (a b c : List ℕ) → IsPrefix a b → IsPrefix b c → IsPrefix a c
prefix_trans a b c (x, first) (y, second) = (x ++ y, second ∙ (ap (λ z. z ++ y) first ∙ append_assoc a x y))

pub start_trans : (a b c : Output) → IsPrefixOf a b → IsPrefixOf b c → IsPrefixOf a c
start_trans a b c first second = record {
  written = prefix_trans a.written b.written c.written first.written second.written;
  noted = prefix_trans a.noted b.noted c.noted first.noted second.noted;
}

-- what goes out before the rest is a prefix of the whole
pub start_of_both : (a b whole : Output) → followed a b ≡ whole → IsPrefixOf a whole
start_of_both a b whole is = record { written = (b.written, sym (ap (λ x. x.written) is)); noted = (b.noted, sym (ap (λ x. x.noted) is)) }
