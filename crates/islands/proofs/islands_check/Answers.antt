-- `islands_check` meets its contract.
use borrow.Author.Rules.{rules}
use Rattle.answers.proofs.Asking.{handed_on}
use Rattle.decks.proofs.Opening.{opens_err, opens_ok, open_same}
use Rattle.islands.proofs.IslandsCall.{file_refused, deck_refused, entries_refused, islands_passed}
use Rattle.islands.proofs.islands_check.Goals as goal

pub returns-in_err-ship : goal.returns-in_err-ship
returns-in_err-ship c =
    rw (handed_on c.from_residual.ensures.1) (opens_err _ _ (file_refused _ _ c.open.ensures c.in_err-ship.was))

pub returns-then-d-deck_count : goal.returns-then-d-deck_count
returns-then-d-deck_count c =
    opens_err _ _ (deck_refused _ _ c.open.ensures c.in_ok-ship.was c.deck_count.ensures.is.0 (search rules))

pub returns-then-not-entries_inside : goal.returns-then-not-entries_inside
returns-then-not-entries_inside c =
    opens_err _ _
    (entries_refused _ _ c.open.ensures c.in_ok-ship.was c.deck_count.ensures.is.0 (search rules) c.deck.ensures.is c.entries_inside.ensures c.if-not-entries_inside.true)

pub returns : goal.returns
returns c =
    opens_ok _ _
    (islands_passed _ _ c.open.ensures c.in_ok-ship.was c.deck_count.ensures.is.0 (search rules) c.deck.ensures.is c.entries_inside.ensures c.if-not-entries_inside.false)
    (open_same _ _ c.open.ensures c.in_ok-ship.was)
