-- `seats_run` meets its contract.
use borrow.Author.Rules.{rules}
use Rattle.seats.proofs.Codes.{run_codes}
use Rattle.seats.proofs.seats_run.Goals as goal

pub code-requires : goal.code-requires
code-requires c = search (run_codes, rules)
