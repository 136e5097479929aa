-- Words ask for one command.
use Rattle.std.proofs.Common.{◌≡◌, ℕ, List, ap, sym, subst, ◌∙◌}
use Rattle.mmt_command.specs.Commands.{Asks}
use Rattle.mmt_command.specs.declared.words.Command.{Command}
use Rattle.mmt_command.specs.declared.words.Command.TheVariants as command
use Rattle.mmt_command.proofs.Names.{other_list, other_peak, other_take, other_mux, other_trial, other_make, other_expand, other_squeeze, other_pace}
use Rattle.mmt_command.proofs.GatewayWords.{squeeze_once}
use Rattle.mmt_command.proofs.MakeWords.{make_once}
use Rattle.mmt_command.proofs.PaceWords.{pace_once}
use Rattle.mmt_command.proofs.PeakWords.{peak_once}
use Rattle.mmt_command.proofs.TakeGiven.{take_once}

pub asks_once : (a b : Command) (words : List (List ℕ)) → Asks a words → Asks b words → a ≡ b
asks_once command.List b words x y = sym (other_list b words x y)
asks_once (command.Peak f r) b words x y = let o = other_peak f r b words x y in peak_once f r o.0 o.1 words x (subst (λ k. Asks k words) o.2 y) ∙ sym o.2
asks_once (command.Take a) b words x y = let o = other_take a b words x y in ap (λ k. command.Take k) (take_once a o.0 words x (subst (λ k. Asks k words) o.1 y)) ∙ sym o.1
asks_once command.Mux b words x y = sym (other_mux b words x y)
asks_once command.Trial b words x y = sym (other_trial b words x y)
asks_once (command.Make a) b words x y = let o = other_make a b words x y in ap (λ k. command.Make k) (make_once a o.0 words x (subst (λ k. Asks k words) o.1 y)) ∙ sym o.1
asks_once command.Expand b words x y = sym (other_expand b words x y)
asks_once (command.Squeeze a e) b words x y = let o = other_squeeze a e b words x y in squeeze_once a e o.0 o.1 words x (subst (λ k. Asks k words) o.2 y) ∙ sym o.2
asks_once (command.Pace a) b words x y = let o = other_pace a b words x y in ap (λ k. command.Pace k) (pace_once a o.0 words x (subst (λ k. Asks k words) o.1 y)) ∙ sym o.1
