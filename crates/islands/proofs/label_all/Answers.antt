use borrow.Author.Rules.{rules}
use Rattle.islands.proofs.DeckWalks.{starts}
use Rattle.islands.proofs.label_all.Goals as goal

pub starts-init : goal.starts-init
starts-init c = search (starts, rules)

pub returns : goal.returns
returns c = search (starts, rules)
