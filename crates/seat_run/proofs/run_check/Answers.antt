-- `run_check` meets its contract.
use borrow.Author.Rules.{rules}
use Rattle.seat_run.proofs.SeatAsks.{run_asks}
use Rattle.answers.proofs.Asking.{handed_on}
use Rattle.seat_run.proofs.run_check.Goals as goal

pub returns-in_err-ship : goal.returns-in_err-ship
returns-in_err-ship c = rw (handed_on c.from_residual.ensures.1) (search (c.in_err-ship.was, run_asks, rules))

pub returns-then-not-blocked_whole : goal.returns-then-not-blocked_whole
returns-then-not-blocked_whole c = search (c.in_ok-ship.was, run_asks, rules)

pub returns-then-seats-ne0 : goal.returns-then-seats-ne0
returns-then-seats-ne0 c = search (c.in_ok-ship.was, run_asks, rules)

pub returns-in_err-seats_check : goal.returns-in_err-seats_check
returns-in_err-seats_check c =
    rw (handed_on c.from_residual-in_err-seats_check.ensures.1) (search (c.in_ok-ship.was, c.in_err-seats_check.was, run_asks, rules))

pub returns : goal.returns
returns c = search (c.in_ok-ship.was, c.in_ok-seats_check.was, run_asks, rules)
