-- `put_records` meets its contract.
use borrow.Author.Rules.{rules}
use Rattle.listing.proofs.Texts.{texts}
use Rattle.listing.proofs.put_records.Goals as goal

pub returns : goal.returns
returns c = search (texts, rules)
