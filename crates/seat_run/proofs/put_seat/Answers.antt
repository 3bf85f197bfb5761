-- `put_seat` meets its contract.
use borrow.Author.Rules.{rules}
use Rattle.seat_run.proofs.RunLoop.{seat_put}
use Rattle.seat_run.proofs.put_seat.Goals as goal

pub seat-requires : goal.seat-requires
seat-requires c = search (c.args.run.now.passed, seat_put, rules)

pub place_seat-record-requires : goal.place_seat-record-requires
place_seat-record-requires c = search (c.args.run.now.passed, c.args.lists.now.room, seat_put, rules)
