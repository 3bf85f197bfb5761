-- `deck_turn` meets its contract.
use borrow.Author.Rules.{rules}
use Rattle.walking.proofs.Reaching.{turn_here, turn_step, turn_found, turns}
use Rattle.walking.proofs.Search.deck_turn.Goals as goal

pub invariant_of-ring : goal.invariant_of-ring
invariant_of-ring c = record { few = turn_step (turn_here c.args.self.now.ready c.requires) }

pub list_of-list-requires : goal.list_of-list-requires
list_of-list-requires c = search (turn_here c.args.self.now.ready c.requires, turns, rules)

pub turn-requires : goal.turn-requires
turn-requires c = search (turn_here c.args.self.now.ready c.requires, turns, rules)

pub returns : goal.returns
returns c = search (turn_here c.args.self.now.ready c.requires, turn_found, rules)
