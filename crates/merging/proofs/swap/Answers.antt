-- `swap` meets its contract.
use borrow.Author.Rules.{rules}
use Rattle.merging.proofs.Places.{swapping}
use Rattle.merging.proofs.swap.Goals as goal

pub returns : goal.returns
returns c = search (swapping, rules)
