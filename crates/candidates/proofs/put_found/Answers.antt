-- `put_found` meets its contract.
use borrow.Author.Rules.{rules}
use Rattle.candidates.proofs.FoundNumbers.{found_ready, found_walk, found_none, found_below, found_count, found_fits, found_some}
use Rattle.candidates.proofs.put_found.Goals as goal

pub place_seat-found-requires : goal.place_seat-found-requires
place_seat-found-requires c = (found_ready c.requires c.asked_at-seat.ensures, search rules)

pub invariant_of-search : goal.invariant_of-search
invariant_of-search c = record { ready = found_walk c.requires c.asked_at-seat.ensures c.place_seat-found.ensures.1 }

pub returns-then-unplaced : goal.returns-then-unplaced
returns-then-unplaced c =
    found_none c.requires c.asked_at-seat.ensures c.place_seat-found.ensures.0 c.unplaced.ensures c.if-unplaced.true c.put_none.ensures

pub invariant_of-step : goal.invariant_of-step
invariant_of-step c =
    record {
      there = found_below c.requires c.asked_at-seat.ensures c.place_seat-found.ensures.0 c.unplaced.ensures c.if-unplaced.false;
      counted = found_count c.requires c.asked_at-seat.ensures c.place_seat-found.ensures.0 c.unplaced.ensures c.if-unplaced.false;
    }

pub put_staying-requires : goal.put_staying-requires
put_staying-requires c =
    found_fits c.requires c.asked_at-seat.ensures c.place_seat-found.ensures.0 c.unplaced.ensures c.if-unplaced.false

pub returns : goal.returns
returns c =
    found_some c.requires c.asked_at-seat.ensures c.place_seat-found.ensures.0 c.unplaced.ensures c.if-unplaced.false c.put_staying.ensures
