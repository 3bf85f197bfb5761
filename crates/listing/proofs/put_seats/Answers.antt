use borrow.Author.Rules.{rules}
use Rattle.listing.proofs.Records.{listing}
use Rattle.listing.proofs.put_seats.Goals as goal

pub seats-init : goal.seats-init
seats-init c = search (listing, rules)

pub seats-preserved : goal.seats-preserved
seats-preserved c = search (listing, rules)
