-- `direction_towards` meets its contract.
use borrow.Author.Rules.{rules}
use Rattle.direction.proofs.Short.{towards_positive, towards_is, towards_within}
use Rattle.direction.proofs.direction_towards.Goals as goal

pub sqrt-length-requires : goal.sqrt-length-requires
sqrt-length-requires c = search (towards_positive, rules)

pub returns : goal.returns
returns c = (search (towards_is, rules), search (towards_within, rules))
