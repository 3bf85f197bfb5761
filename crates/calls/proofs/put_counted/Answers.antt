-- `put_counted` meets its contract.
use borrow.Author.Rules.{rules}
use Rattle.calls.proofs.EntryLoop.{counted}
use Rattle.calls.proofs.put_counted.Goals as goal

pub returns-then-not-room_for : goal.returns-then-not-room_for
returns-then-not-room_for c = search (counted, rules)

pub put_step-requires : goal.put_step-requires
put_step-requires c = search (counted, rules)

pub returns : goal.returns
returns c = search (counted, rules)
