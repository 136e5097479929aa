use Rattle.std.proofs.Common.{Some, if◌then◌else◌, string_bytes, ap, ◌∙◌}
use Rattle.std.specs.Str.{bytes_eq}
use Rattle.mmt_io.specs.Shelf.{MemoryFiles, file_in}
use Rattle.mmt_io.proofs.Files.{shown, put_in}
use Rattle.mmt_io.proofs.held.MemoryShelf.put.Goals as goal

pub returns-in-Ok-insert-clause-files : goal.returns-in-Ok-insert-clause-files
returns-in-Ok-insert-clause-files c n =
    ap (λ es. file_in (shown string_bytes (λ v. v.items) es) n) c.in-Ok-insert.ensures.entries
    ∙ put_in string_bytes (λ v. v.items) n c.in-Ok.name c.args.bytes c.self.inside.files.entries
    ∙ ap (λ name. if bytes_eq n name then Some c.args.bytes.items else file_in (shown string_bytes (λ v. v.items) c.self.inside.files.entries) n) c.in-Ok.ensures.ok
    ∙ ap (λ (m : MemoryFiles). if bytes_eq n c.args.name.now then Some c.args.bytes.items else file_in m.files n) c.self.view_is
