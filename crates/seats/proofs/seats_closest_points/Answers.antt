-- `seats_closest_points` meets its contract.
use borrow.Author.Rules.{rules}
use Rattle.seats.proofs.Codes.{codes}
use Rattle.seats.proofs.seats_closest_points.Goals as goal

pub code-requires : goal.code-requires
code-requires c = search (codes, rules)
