-- `get_point_layer` meets its contract.
use borrow.Author.Rules.{rules}
use Rattle.locating.proofs.DeckLoop.{layers}
use Rattle.answers.proofs.Asking.{handed_on}
use Rattle.locating.proofs.get_point_layer.Goals as goal

pub returns-in_err-ship : goal.returns-in_err-ship
returns-in_err-ship c = search (c.in_err-ship.was, handed_on c.from_residual.ensures.1, layers, rules)

pub returns-then-not-room_for : goal.returns-then-not-room_for
returns-then-not-room_for c = search (c.in_ok-ship.was, layers, rules)

pub put_words-requires : goal.put_words-requires
put_words-requires c = search (c.in_ok-ship.was, layers, rules)

pub returns : goal.returns
returns c = search (c.in_ok-ship.was, layers, rules)
