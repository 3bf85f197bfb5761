-- `seat` meets its contract.
use borrow.Author.Rules.{rules}
use Rattle.seat_run.proofs.SeatReads.{reads}
use Rattle.seat_run.proofs.ListedSeat.seat.Goals as goal

pub float-requires : goal.float-requires
float-requires c = search (reads, rules)

pub float-requires-2 : goal.float-requires-2
float-requires-2 c = search (reads, rules)

pub float-requires-else-word-eq0 : goal.float-requires-else-word-eq0
float-requires-else-word-eq0 c = search (reads, rules)

pub returns-then-word-eq0 : goal.returns-then-word-eq0
returns-then-word-eq0 c = search (reads, rules)

pub returns-else-word-eq0 : goal.returns-else-word-eq0
returns-else-word-eq0 c = search (reads, rules)
