use borrow.Author.Rules.{rules}
use Rattle.merging.proofs.FloodLoop.{parting_apart, parting}
use Rattle.merging.proofs.part.Goals as goal

pub numbers-preserved-then-not-touches : goal.numbers-preserved-then-not-touches
numbers-preserved-then-not-touches c = search (parting_apart, rules)

pub numbers-preserved : goal.numbers-preserved
numbers-preserved c = search (parting, rules)
