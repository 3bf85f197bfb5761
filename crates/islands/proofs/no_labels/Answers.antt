use borrow.Author.Rules.{rules}
use Rattle.islands.proofs.Numbers.{words_filled}
use Rattle.islands.proofs.no_labels.Goals as goal

pub returns : goal.returns
returns c = rw words_filled (search rules)
