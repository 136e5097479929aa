use Rattle.std.proofs.Common.{[], ◌∷◌, ◌++◌, ap, sym, subst}
use Rattle.mmt_model.specs.Delivery.{newest_first}
use Rattle.mmt_hear.specs.Views.{HasHeard}
use Rattle.mmt_stream.proofs.Consumers.{text, gathers, stops}
use Rattle.mmt_list.specs.Line.{line_of}
use Rattle.mmt_list.proofs.Lines.{lines_next}
use Rattle.mmt_model.proofs.Newest.{newest_more}
use Rattle.mmt_cli.specs.Listing.{listed}
use Rattle.mmt_cli.specs.ListingGrows.{listing_grows}
use Rattle.mmt_cli.proofs.list.ListCommandConsumer.push.Goals as goal

pub returns-in-Ok-clause-pushed : goal.returns-in-Ok-clause-pushed
returns-in-Ok-clause-pushed g c = λ told packets packet stood fits is at. (
  subst (λ l. HasHeard l c.line.new.self) (sym (newest_more packets packet)) (c.in-Ok.ensures.next (newest_first packets) packet fits is stood),
  gathers _ (text c.args.self.out.items) (text c.line.new.out.items) (listed packets) (listed (packets ++ packet ∷ [])) (text (line_of c.args.place (newest_first packets) packet))
      (ap text (c.in-Ok.ensures.line (newest_first packets) packet fits is stood)) (ap text (lines_next packets packet c.args.place at)),
)

pub returns-in-Err-clause-pushed : goal.returns-in-Err-clause-pushed
returns-in-Err-clause-pushed g c = λ told packets packet stood fits is at.
    stops _ (text c.args.self.out.items) (listed packets) (listed (packets ++ packet ∷ [])) (listing_grows.more packets (packet ∷ []))
