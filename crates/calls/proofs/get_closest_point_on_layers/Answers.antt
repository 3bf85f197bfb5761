-- `get_closest_point_on_layers` meets its contract.
use mathlib.Core.Path.{ap}
use mathlib.Core.Bool.{not}
use borrow.Author.Rules.{rules}
use Rattle.answers.proofs.Asking.{handed_on}
use Rattle.answers.proofs.Replying.{replied_refused}
use Rattle.decks.proofs.Opening.{open_no, was_opened}
use Rattle.calls.proofs.Queries.{query_ready}
use Rattle.calls.proofs.ClosestCalls.{point_none, point_room, point_refused, point_replied}
use Rattle.calls.proofs.get_closest_point_on_layers.Goals as goal

pub returns-in_err-ship : goal.returns-in_err-ship
returns-in_err-ship c =
    search (replied_refused, open_no _ _ c.query_check.ensures c.in_err-ship.was, handed_on c.from_residual.ensures.1, rules)

pub place_seat-found-requires : goal.place_seat-found-requires
place_seat-found-requires c =
    let o = was_opened _ _ c.query_check.ensures c.in_ok-ship.was in
    (query_ready _ _ _ _ o.0 c.asked_at-seat.ensures, search rules)

pub returns-then-unplaced : goal.returns-then-unplaced
returns-then-unplaced c =
    let o = was_opened _ _ c.query_check.ensures c.in_ok-ship.was in
    point_none _ _ _ _ c.asked_at-seat.ensures (rw o.1 at c.place_seat-found.ensures.0) c.unplaced.ensures o.0 c.if-unplaced.true

pub returns-then-not-room_for : goal.returns-then-not-room_for
returns-then-not-room_for c =
    let o = was_opened _ _ c.query_check.ensures c.in_ok-ship.was in
    point_refused _ _ _ _ c.asked_at-seat.ensures (rw o.1 at c.place_seat-found.ensures.0) c.unplaced.ensures c.if-unplaced.false
    o.0 _ c.room_for.ensures (ap not c.if-not-room_for.true)

pub put_words-requires : goal.put_words-requires
put_words-requires c =
    let o = was_opened _ _ c.query_check.ensures c.in_ok-ship.was in
    let found = rw o.1 at c.place_seat-found.ensures.0 in
    search (found, point_room, rules)

pub returns : goal.returns
returns c =
    let o = was_opened _ _ c.query_check.ensures c.in_ok-ship.was in
    point_replied _ _ _ _ c.asked_at-seat.ensures (rw o.1 at c.place_seat-found.ensures.0) c.unplaced.ensures c.if-unplaced.false
    o.0 _ c.room_for.ensures (ap not c.if-not-room_for.false) c.put_words.ensures
