-- `find_stitch_points` meets its contract.
use borrow.Author.Rules.{rules}
use Rattle.answers.proofs.Asking.{handed_on}
use Rattle.stitching.proofs.Found.{found_refused, found_short, found_written}
use Rattle.stitching.proofs.find_stitch_points.Goals as goal

pub returns-in_err-ship : goal.returns-in_err-ship
returns-in_err-ship c = rw (handed_on c.from_residual.ensures.1) (found_refused _ c.open.ensures _ c.in_err-ship.was)

pub returns-then-not-room_for : goal.returns-then-not-room_for
returns-then-not-room_for c =
    found_short _ c.open.ensures c.in_ok-ship.was c.put_all-count.ensures _ c.room_for.ensures c.if-not-room_for.true

pub returns : goal.returns
returns c =
    found_written _ c.open.ensures c.in_ok-ship.was c.put_all-count.ensures _ c.room_for.ensures c.if-not-room_for.false (search rules) c.put_all.ensures
