use Rattle.std.proofs.Common.{refl, ap}
use Rattle.mmt_model.specs.Delivery.{newest_first, onto}
use Rattle.mmt_stream.specs.declared.end.StreamEnd.TheVariants as end
use Rattle.mmt_stream.proofs.Consumers.{text}
use Rattle.mmt_cli.specs.Listing.{listing}
use Rattle.mmt_cli.specs.ListingGrows.{listing_grows}
use Rattle.mmt_cli.specs.Moments.{Moment, moment}
use Rattle.mmt_cli.proofs.Quiet.{not_begun}
use Rattle.mmt_cli.proofs.Listings.{list_lists}
use Rattle.mmt_cli.proofs.list.list_within.Goals as goal

pub stream-requires-clause-new : goal.stream-requires-clause-new
unfolding newest_first onto
stream-requires-clause-new g c = (c.in-Ok.ensures.heard, ap text c.in-Ok.ensures.none)

pub returns-in-Ok-clause-lists : goal.returns-in-Ok-clause-lists
returns-in-Ok-clause-lists g c = λ told.
    let old : Moment = moment (g.P.Port.history c.args.port.now) (g.P.Port.left c.args.port.now) (g.P.Port.read_faults c.args.port.now) (g.P.Port.write_faults c.args.port.now) in
    let new : Moment = moment (g.P.Port.history c.stream.new.port) (g.P.Port.left c.stream.new.port) (g.P.Port.read_faults c.stream.new.port) (g.P.Port.write_faults c.stream.new.port) in
    list_lists c.args.limit c.stream.result c.from.result old new c.from.ensures (c.stream.ensures.does told)

pub returns-in-Err-clause-lists : goal.returns-in-Err-clause-lists
returns-in-Err-clause-lists g c = λ told.
    let old : Moment = moment (g.P.Port.history c.args.port.now) (g.P.Port.left c.args.port.now) (g.P.Port.read_faults c.args.port.now) (g.P.Port.write_faults c.args.port.now) in
    list_lists c.args.limit end.OutOfMemory _ old old refl (not_begun listing c.args.limit old.history old.left old.reads old.writes listing_grows)
