-- `root_pattern` meets its contract.
use Rattle.root.proofs.Rounding.{rounded_down, rounded_up}
use borrow.Author.Rules.{rules}
use Rattle.root.proofs.root_pattern.Goals as goal

pub returns-then-n-q : goal.returns-then-n-q
returns-then-n-q c = search (rounded_up, rules)

pub returns : goal.returns
returns c = search (rounded_down, rules)
