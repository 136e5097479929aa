use Rattle.std.proofs.Common.{◌≡◌, sym, subst, ◌∙◌}
use Rattle.mmt_io.specs.Kept.{Kept}
use Rattle.mmt_io.specs.History.{bytes_written}
use Rattle.mmt_io.proofs.Keeping.{written-events}
use Rattle.mmt_io.proofs.log.Log.written.Goals as goal

pub returns : goal.returns
returns c =
    let P : Kept → Type 0 = λ k. bytes_written k.history ≡ c.self.inside.written.items in
    c.deref.ensures.value ∙ sym (subst P c.self.view_is (written-events c.self.inside.pieces.items c.self.inside.input.items c.self.inside.written.items c.self.inside.noted.items c.self.invariant.out))
