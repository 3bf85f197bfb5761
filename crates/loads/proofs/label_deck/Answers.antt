-- `label_deck` meets its contract.
use borrow.Author.Rules.{rules}
use Rattle.loads.proofs.LabelLoop.{part_labels}
use Rattle.loads.proofs.label_deck.Goals as goal

pub returns : goal.returns
returns c = search (part_labels, rules)
