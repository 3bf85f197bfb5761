-- `add_three` meets its contract.
use borrow.Author.Rules.{rules}
use Rattle.loads.proofs.Adding.{third_room, third_more, three_adding}
use Rattle.loads.proofs.add_three.Goals as goal

pub add_one-requires : goal.add_one-requires
add_one-requires c = search (three_adding, rules)

pub add_one-requires-2 : goal.add_one-requires-2
add_one-requires-2 c = search (three_adding, rules)

pub add_one-requires-3 : goal.add_one-requires-3
add_one-requires-3 c = (search third_room, search third_more)
