use Rattle.std.proofs.Common.{Some, option_map, string_bytes, ap, ◌∙◌}
use Rattle.mmt_io.specs.Shelf.{MemoryFiles, file_in}
use Rattle.mmt_io.proofs.Files.{looked_up}
use Rattle.mmt_io.proofs.held.MemoryShelf.file.Goals as goal

pub returns-in-Some : goal.returns-in-Some
returns-in-Some c =
    ap Some c.as_slice.ensures.value ∙ ap (option_map (λ v. v.items)) c.in-Some.ensures.value
    ∙ looked_up string_bytes (λ v. v.items) c.args.name.now c.self.inside.files.entries ∙ ap (λ (m : MemoryFiles). file_in m.files c.args.name.now) c.self.view_is

pub returns-in-None : goal.returns-in-None
returns-in-None c =
    ap (option_map (λ v. v.items)) c.in-None.ensures.value
    ∙ looked_up string_bytes (λ v. v.items) c.args.name.now c.self.inside.files.entries ∙ ap (λ (m : MemoryFiles). file_in m.files c.args.name.now) c.self.view_is
