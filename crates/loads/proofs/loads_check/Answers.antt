-- `loads_check` meets its contract.
use borrow.Author.Rules.{rules}
use Rattle.loads.proofs.LabelLoop.{Load-asks}
use Rattle.answers.proofs.Asking.{handed_on}
use Rattle.loads.proofs.loads_check.Goals as goal

pub returns-in_err-ship : goal.returns-in_err-ship
returns-in_err-ship c = rw (handed_on c.from_residual.ensures.1) (search (c.in_err-ship.was, Load-asks, rules))

pub returns-in_err-labels_check : goal.returns-in_err-labels_check
returns-in_err-labels_check c =
    rw (handed_on c.from_residual-in_err-labels_check.ensures.1) (search (c.in_ok-ship.was, c.in_err-labels_check.was, Load-asks, rules))

pub returns : goal.returns
returns c = search (c.in_ok-ship.was, c.in_ok-labels_check.was, Load-asks, rules)
