-- `count_placed` meets its contract.
use borrow.Author.Rules.{rules}
use Rattle.loads.proofs.Adding.{placed_adding}
use Rattle.loads.proofs.Places.count_placed.Goals as goal

pub polygons_before-before-requires : goal.polygons_before-before-requires
polygons_before-before-requires c = search (placed_adding, rules)

pub overflow_add-own : goal.overflow_add-own
overflow_add-own c = search (c.args.self.now.total_is, c.args.self.now.total_few, placed_adding, rules)

pub overflow_mul-own : goal.overflow_mul-own
overflow_mul-own c = search (c.args.self.now.total_is, c.args.self.now.total_few, placed_adding, rules)

pub size_at-label-requires : goal.size_at-label-requires
size_at-label-requires c = search (placed_adding, rules)

pub overflow_add-island : goal.overflow_add-island
overflow_add-island c = search (c.args.self.now.total_is, c.args.self.now.total_few, placed_adding, rules)

pub overflow_add-island-2 : goal.overflow_add-island-2
overflow_add-island-2 c = search (c.args.self.now.total_is, c.args.self.now.total_few, placed_adding, rules)

pub overflow_add-deck : goal.overflow_add-deck
overflow_add-deck c = search (c.args.self.now.total_few, c.args.self.now.decks_is, c.args.self.now.decks_few, placed_adding, rules)

pub add_three-requires : goal.add_three-requires
add_three-requires c = search (c.args.self.now.total_is, placed_adding, rules)

pub returns : goal.returns
returns c = search (c.args.self.now.total_is, placed_adding, rules)
