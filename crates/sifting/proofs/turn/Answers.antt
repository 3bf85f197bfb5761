-- `turn` meets its contract.
use borrow.Author.Rules.{rules}
use Rattle.sifting.proofs.Turns.{turns}
use Rattle.sifting.proofs.turn.Goals as goal

pub sift-left-requires : goal.sift-left-requires
sift-left-requires c = search (turns, rules)

pub first_hit-requires : goal.first_hit-requires
first_hit-requires c = search (turns, rules)
