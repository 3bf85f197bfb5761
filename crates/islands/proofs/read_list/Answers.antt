use borrow.Author.Rules.{rules}
use Rattle.islands.proofs.ListLoops.{entries}
use Rattle.islands.proofs.read_list.Goals as goal

pub mark-t-requires : goal.mark-t-requires
mark-t-requires c = search (entries, rules)

pub entries-preserved-then-e-eq-ALL_ONES : goal.entries-preserved-then-e-eq-ALL_ONES
entries-preserved-then-e-eq-ALL_ONES c = search (entries, rules)

pub entries-preserved : goal.entries-preserved
entries-preserved c = search (entries, rules)
