use Rattle.std.proofs.Common.{◌<◌, ◌^◌, ◌≡◌, length, false, Option, Some, None}
use Rattle.std.specs.Prelude.{IfSome}
use Rattle.mmt_packet.specs.Spelling.{Ext, ExtFits, is_scrambled, view_option}
use Rattle.mmt_packet.proofs.writing.write_packet.Goals as goal

extension_fits : (o : Option Ext) → IfSome o (λ e. e.kind < 2 ^ 16) → IfSome o (λ e. (length e.bytes < 2 ^ 16) × (is_scrambled e ≡ false)) → IfSome o ExtFits
extension_fits None a b = tt
extension_fits (Some e) a b = record { kind = a; len = b.0; clear = b.1 }

pub returns-clause-fits : goal.returns-clause-fits
returns-clause-fits c = record {
  counter = c.put_counter.ensures.fits;
  reserved = c.requires.reserved;
  packet_id = c.put_u16.ensures.fits;
  time = c.put_u32.ensures.fits;
  number = c.put_u32-2.ensures.fits;
  extension = extension_fits (view_option c.args.packet.now.extension) c.put_extension.ensures.kind c.requires.extension;
}
