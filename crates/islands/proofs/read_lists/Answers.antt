use borrow.Author.Rules.{rules}
use Rattle.islands.proofs.ListLoops.{corners}
use Rattle.islands.proofs.read_lists.Goals as goal

pub read_list-t-requires : goal.read_list-t-requires
read_list-t-requires c = search (corners, rules)
