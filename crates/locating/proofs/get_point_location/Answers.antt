-- `get_point_location` meets its contract.
use borrow.Author.Rules.{rules}
use Rattle.locating.proofs.DeckLoop.{locations}
use Rattle.answers.proofs.Asking.{handed_on}
use Rattle.locating.proofs.get_point_location.Goals as goal

pub returns-in_err-ship : goal.returns-in_err-ship
returns-in_err-ship c = search (c.in_err-ship.was, handed_on c.from_residual.ensures.1, locations, rules)

pub returns : goal.returns
returns c = search (c.in_ok-ship.was, locations, rules)
