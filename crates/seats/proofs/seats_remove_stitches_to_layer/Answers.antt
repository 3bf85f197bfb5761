-- `seats_remove_stitches_to_layer` meets its contract.
use borrow.Author.Rules.{rules}
use Rattle.seats.proofs.Codes.{removal_codes}
use Rattle.seats.proofs.seats_remove_stitches_to_layer.Goals as goal

pub code-requires : goal.code-requires
code-requires c = search (removal_codes, rules)
