-- `run_over` meets its contract.
use borrow.Author.Rules.{rules}
use Rattle.seat_run.proofs.RunLoop.{running}
use Rattle.answers.proofs.Asking.{handed_on}
use Rattle.seat_run.proofs.run_over.Goals as goal

pub returns-in_err-ship-clause-replied : goal.returns-in_err-ship-clause-replied
returns-in_err-ship-clause-replied c = rw (handed_on c.from_residual.ensures.1) (search (c.in_err-ship.was, running, rules))

pub returns-in_err-ship-clause-no_decks : goal.returns-in_err-ship-clause-no_decks
returns-in_err-ship-clause-no_decks c = rw (handed_on c.from_residual.ensures.1) (search (c.in_err-ship.was, running, rules))

pub returns-then-not-room_for-clause-replied : goal.returns-then-not-room_for-clause-replied
returns-then-not-room_for-clause-replied c = search (c.in_ok-ship.was, running, rules)

pub returns-then-not-room_for-clause-no_decks : goal.returns-then-not-room_for-clause-no_decks
returns-then-not-room_for-clause-no_decks c = search (c.in_ok-ship.was, running, rules)

pub put_records-requires : goal.put_records-requires
put_records-requires c = search (c.in_ok-ship.was, running, rules)

pub returns-clause-replied : goal.returns-clause-replied
returns-clause-replied c = search (c.in_ok-ship.was, running, rules)

pub returns-clause-surveyed : goal.returns-clause-surveyed
returns-clause-surveyed c = search (c.in_ok-ship.was, running, rules)

pub returns-clause-unsearched : goal.returns-clause-unsearched
returns-clause-unsearched c = search (c.in_ok-ship.was, running, rules)

pub returns-clause-no_decks : goal.returns-clause-no_decks
returns-clause-no_decks c = search (c.in_ok-ship.was, running, rules)
