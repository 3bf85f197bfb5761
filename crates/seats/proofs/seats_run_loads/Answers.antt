-- `seats_run_loads` meets its contract.
use borrow.Author.Rules.{rules}
use Rattle.seats.proofs.Codes.{loads_codes}
use Rattle.seats.proofs.seats_run_loads.Goals as goal

pub code-requires : goal.code-requires
code-requires c = search (loads_codes, rules)
