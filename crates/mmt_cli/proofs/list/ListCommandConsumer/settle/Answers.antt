use Rattle.mmt_stream.proofs.Consumers.{puts_out_part}
use Rattle.mmt_cli.specs.Listing.{listed}
use Rattle.mmt_cli.specs.ListingGrows.{listing_grows}
use Rattle.mmt_cli.proofs.list.ListCommandConsumer.settle.Goals as goal

pub returns-in-Err-clause-settled : goal.returns-in-Err-clause-settled
returns-in-Err-clause-settled g c = λ told packets stood.
    puts_out_part _ _ c.args.self.out.items (listed packets) (listed packets) (listing_grows.end packets) (rw c.deref.ensures.value at (c.in-Err.ensures.bytes told))
