use borrow.Author.Rules.{rules}
use Rattle.seat_run.proofs.SeatAsks.{seats_asks}
use Rattle.answers.proofs.Asking.{handed_on}
use Rattle.seat_run.proofs.seats_check.Goals as goal

pub returns-in_err-check : goal.returns-in_err-check
returns-in_err-check c = search (c.in_err-check.was, handed_on c.from_residual.ensures.1, seats_asks, rules)

pub seats-preserved : goal.seats-preserved
seats-preserved c = search (c.in_ok-check.was, seats_asks, rules)

pub returns : goal.returns
returns c = search (seats_asks, rules)
