-- More packets add lines after those that are there.
use Rattle.std.proofs.Common.{[], length, refl, ap, sym}
use Rattle.std.proofs.lemmas.List.{append-nil}
use Rattle.mmt_model.specs.Delivery.{newest_first}
use Rattle.mmt_tlv.specs.Framing.{joined}
use Rattle.mmt_stream.specs.Consuming.{Grows}
use Rattle.mmt_list.specs.Line.{lines_from, lines}
use Rattle.mmt_list.proofs.Lines.{lines_append, no_lines}
use Rattle.mmt_cli.specs.Listing.{listing}

pub listing_grows : Grows listing
listing_grows = record {
  none = ap (λ text. record { written = text; noted = [] }) no_lines;
  more = λ packets others. record { written = (lines_from (length (joined packets)) (newest_first packets) others, lines_append packets others); noted = ([], refl) };
  end = λ packets. record { written = ([], sym (append-nil (lines packets))); noted = ([], refl) };
}
