use Rattle.std.proofs.Common.{◌≡◌, ◌<◌, ℕ, length, get_or, arith, ap, sym, ◌∙◌, ⊎_elim, None, Some}
use Rattle.std.proofs.Math.ListN.{length-set}
use Rattle.std.proofs.lemmas.Bool.{cases_eq}
use Rattle.std.proofs.lemmas.Grind.{get_or-set_at}
use Rattle.std.proofs.lemmas.List.{get_or-set_other}
use Rattle.mmt_cast.proofs.Listing.{each-at}
use Rattle.mmt_casting.proofs.NamedFrom.{named-here, named-there, none-member}
use Rattle.mmt_casting.specs.Named.{named_with}
use Rattle.mmt_casting.proofs.naming.name_by.Goals as goal

pub loop-j-init : goal.loop-j-init
loop-j-init c = λ m l. ap (λ b. named_with b c.args.last (get_or c.args.named.now m None)) (sym (none-member m c.args.names.now))

pub loop-j-preserved : goal.loop-j-preserved
loop-j-preserved c = λ m l.
    let p : ℕ = get_or c.args.names.now c.loop-j.j 0 in
    let lj : c.loop-j.j < length c.args.names.now = c.loop-j-test.true in
    let inside : p < length c.loop-j.named = omega (arith, each-at (λ q. q < length c.args.named.now) c.args.names.now c.loop-j.j 0 c.requires lj, c.loop-j.auto.named) in
    let lm : m < length c.loop-j.named = omega (arith, l, length-set c.loop-j.named p (Some c.earlier.result)) in
    ⊎_elim
    (λ (e : p ≡ m).
    get_or-set_at c.loop-j.named p m (Some c.earlier.result) None (sym e) inside
    ∙ named-here m c.args.names.now c.loop-j.j 0 c.args.last c.earlier.result (get_or c.args.named.now m None) (get_or c.loop-j.named p None) lj e (ap (λ i. get_or c.loop-j.named i None) e ∙ c.loop-j.invariant m lm) c.earlier.ensures)
    (λ (ne : p ≡ m → ⊥).
    get_or-set_other c.loop-j.named p m (Some c.earlier.result) None (λ e. ne (sym e))
    ∙ named-there m c.args.names.now c.loop-j.j 0 c.args.last (get_or c.args.named.now m None) (get_or c.loop-j.named m None) lj ne (c.loop-j.invariant m lm))
    (cases_eq p m)
