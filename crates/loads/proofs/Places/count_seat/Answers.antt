-- `count_seat` meets its contract.
use borrow.Author.Rules.{rules}
use Rattle.loads.proofs.Adding.{seat_adding}
use Rattle.loads.proofs.Places.count_seat.Goals as goal

pub add_one-requires : goal.add_one-requires
add_one-requires c = search (c.args.self.now.total_is, c.args.self.now.decks_is, seat_adding, rules)

pub returns-then-polygon-eq-ALL_ONES : goal.returns-then-polygon-eq-ALL_ONES
returns-then-polygon-eq-ALL_ONES c = search (c.args.self.now.total_is, c.args.self.now.decks_is, seat_adding, rules)

pub returns-else-polygon-eq-ALL_ONES : goal.returns-else-polygon-eq-ALL_ONES
returns-else-polygon-eq-ALL_ONES c = search (seat_adding, rules)
