-- `get_closest_points_on_layers` meets its contract.
use borrow.Author.Rules.{rules}
use Rattle.answers.proofs.Asking.{handed_on}
use Rattle.answers.proofs.Replying.{replied_refused}
use Rattle.decks.proofs.Opening.{open_no, was_opened}
use Rattle.calls.proofs.Queries.{query_ready, query_walk}
use Rattle.calls.proofs.ClosestCalls.{points_none, step_below, points_count, points_replied}
use Rattle.calls.proofs.get_closest_points_on_layers.Goals as goal

pub returns-in_err-ship : goal.returns-in_err-ship
returns-in_err-ship c =
    search (replied_refused, open_no _ _ c.query_check.ensures c.in_err-ship.was, handed_on c.from_residual.ensures.1, rules)

pub place_seat-found-requires : goal.place_seat-found-requires
place_seat-found-requires c =
    let o = was_opened _ _ c.query_check.ensures c.in_ok-ship.was in
    (query_ready _ _ _ _ o.0 c.asked_at-seat.ensures, search rules)

pub invariant_of-search : goal.invariant_of-search
invariant_of-search c =
    let o = was_opened _ _ c.query_check.ensures c.in_ok-ship.was in
    record { ready = query_walk _ _ _ _ o.0 o.1 c.asked_at-seat.ensures c.place_seat-found.ensures.1 }

pub returns-then-unplaced : goal.returns-then-unplaced
returns-then-unplaced c =
    let o = was_opened _ _ c.query_check.ensures c.in_ok-ship.was in
    points_none _ _ _ _ c.asked_at-seat.ensures (rw o.1 at c.place_seat-found.ensures.0) c.unplaced.ensures o.0 c.if-unplaced.true

pub invariant_of-step : goal.invariant_of-step
invariant_of-step c =
    let o = was_opened _ _ c.query_check.ensures c.in_ok-ship.was in
    let found = rw o.1 at c.place_seat-found.ensures.0 in
    rw o.1 (record {
      there = step_below _ _ _ _ c.asked_at-seat.ensures found c.unplaced.ensures o.0 c.if-unplaced.false;
      counted = points_count _ _ _ _ c.asked_at-seat.ensures found c.unplaced.ensures c.if-unplaced.false;
    })

pub returns : goal.returns
returns c =
    let o = was_opened _ _ c.query_check.ensures c.in_ok-ship.was in
    points_replied _ _ _ _ c.asked_at-seat.ensures (rw o.1 at c.place_seat-found.ensures.0) c.unplaced.ensures c.if-unplaced.false
    o.0 (rw o.1 at c.put_counted.ensures)
