-- `seats_remove_stitches` meets its contract.
use borrow.Author.Rules.{rules}
use Rattle.seats.proofs.Codes.{removal_codes}
use Rattle.seats.proofs.seats_remove_stitches.Goals as goal

pub code-requires : goal.code-requires
code-requires c = search (removal_codes, rules)
