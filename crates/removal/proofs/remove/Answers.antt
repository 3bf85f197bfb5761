-- `remove` meets its contract.
use borrow.Author.Rules.{rules}
use Rattle.answers.proofs.Asking.{handed_on}
use Rattle.removal.proofs.Replies.{removal_refused, removal_short, removal_written}
use Rattle.removal.proofs.remove.Goals as goal

pub returns-in_err-ship : goal.returns-in_err-ship
returns-in_err-ship c = rw (handed_on c.from_residual.ensures.1) (removal_refused _ _ c.open.ensures _ c.in_err-ship.was)

pub returns-then-out-size : goal.returns-then-out-size
returns-then-out-size c = removal_short _ _ c.open.ensures c.in_ok-ship.was _ c.new_size-size.ensures (search rules)

pub returns : goal.returns
returns c =
    removal_written _ _ c.open.ensures c.in_ok-ship.was _ c.new_size-size.ensures (search rules) c.put_file.ensures
