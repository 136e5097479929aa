use Rattle.std.proofs.Common.{◌≡◌, ◌<◌, ◌≤◌, ◌∙◌, length, sym, ap, subst, arith}
use Rattle.mmt_plan.specs.Names.{place_of, with_name}
use Rattle.mmt_plan.proofs.FileNumbers.{texts, same_names, same_place, place_within, placed}
use Rattle.mmt_plan.proofs.names.FileNames.number_of.Goals as goal

place : (c : goal.After-struct_known-1) → c.in-Ok-insert_full.found.0 ≡ place_of c.args.name.now c.args.self.now
place c =
    c.in-Ok-insert_full.ensures.index ∙ same_place c.in-Ok.name c.self.inside.set.keys
    ∙ ap (λ name. place_of name (texts c.self.inside.set.keys)) c.in-Ok.ensures.ok ∙ ap (λ names. place_of c.args.name.now names) c.self.view_is

kept : (c : goal.After-struct_known-1) → texts c.insert_full.new.self.keys ≡ with_name c.args.name.now c.args.self.now
kept c =
    ap texts c.in-Ok-insert_full.ensures.keys ∙ same_names c.in-Ok.name c.self.inside.set.keys
    ∙ ap (λ name. with_name name (texts c.self.inside.set.keys)) c.in-Ok.ensures.ok ∙ ap (λ names. with_name c.args.name.now names) c.self.view_is

pub overflow_cast-result : goal.overflow_cast-result
overflow_cast-result c =
    let within : c.in-Ok-insert_full.found.0 ≤ length c.args.self.now = subst (λ n. n ≤ length c.args.self.now) (sym (place c)) (place_within c.args.name.now c.args.self.now) in
    omega arith

pub returns-clause-number : goal.returns-clause-number
returns-clause-number c = place c

pub returns-clause-within : goal.returns-clause-within
returns-clause-within c =
    subst (λ names. c.in-Ok-insert_full.found.0 < length names) (sym (kept c)) (subst (λ n. n < length (with_name c.args.name.now c.args.self.now)) (sym (place c)) (placed c.args.name.now c.args.self.now))

pub returns-clause-names : goal.returns-clause-names
returns-clause-names c = kept c
