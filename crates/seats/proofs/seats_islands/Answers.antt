-- `seats_islands` meets its contract.
use borrow.Author.Rules.{rules}
use Rattle.seats.proofs.Codes.{work_codes}
use Rattle.seats.proofs.seats_islands.Goals as goal

pub code-requires : goal.code-requires
code-requires c = search (work_codes, rules)
