use borrow.Author.Rules.{rules}
use Rattle.words.proofs.Writing.{writing}
use Rattle.words.proofs.put_words.Goals as goal

pub loop-i-preserved : goal.loop-i-preserved
loop-i-preserved c = search (writing, rules)

pub returns : goal.returns
returns c = search (writing, rules)
