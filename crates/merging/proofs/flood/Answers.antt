use borrow.Author.Rules.{rules}
use Rattle.merging.proofs.FloodLoop.{flooding}
use Rattle.merging.proofs.flood.Goals as goal

pub waiting-init : goal.waiting-init
waiting-init c = search (flooding, rules)

pub part-t-requires : goal.part-t-requires
part-t-requires c = search (flooding, rules)

pub waiting-preserved : goal.waiting-preserved
waiting-preserved c = search (flooding, rules)
