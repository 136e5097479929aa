use Rattle.std.proofs.Common.{◌≡◌, sym, subst, ◌∙◌}
use Rattle.mmt_io.specs.Kept.{Kept}
use Rattle.mmt_io.specs.History.{bytes_noted}
use Rattle.mmt_io.proofs.Keeping.{noted-events}
use Rattle.mmt_io.proofs.log.Log.noted.Goals as goal

pub returns : goal.returns
returns c =
    let P : Kept → Type 0 = λ k. bytes_noted k.history ≡ c.self.inside.noted.items in
    c.deref.ensures.value ∙ sym (subst P c.self.view_is (noted-events c.self.inside.pieces.items c.self.inside.input.items c.self.inside.written.items c.self.inside.noted.items c.self.invariant.note))
