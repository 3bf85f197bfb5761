-- `decks_check` meets its contract.
use borrow.Author.Rules.{rules}
use Rattle.answers.proofs.Asking.{handed_on, checked_none}
use Rattle.ship.proofs.Asks.{decks_asks}
use Rattle.ship.proofs.Header.decks_check.Goals as goal

pub returns-in_err-deck_check : goal.returns-in_err-deck_check
returns-in_err-deck_check c = search (c.in_err-deck_check.was, handed_on c.from_residual.ensures.1, decks_asks, rules)

pub returns : goal.returns
returns c = checked_none c.decks.invariant.1 (rw (← c.size_at-decks.ensures.0) c.decks-test.false)
