-- `seats_point_layer` meets its contract.
use borrow.Author.Rules.{rules}
use Rattle.seats.proofs.Codes.{codes}
use Rattle.seats.proofs.seats_point_layer.Goals as goal

pub code-requires : goal.code-requires
code-requires c = search (codes, rules)
