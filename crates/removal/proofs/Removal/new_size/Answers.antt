use borrow.Author.Rules.{rules}
use Rattle.removal.proofs.Losses.{shrinking}
use Rattle.removal.proofs.Removal.new_size.Goals as goal

pub decks-init : goal.decks-init
decks-init c = search (shrinking, rules)

pub overflow_add-lost : goal.overflow_add-lost
overflow_add-lost c = search (shrinking, rules)

pub decks-preserved : goal.decks-preserved
decks-preserved c = search (shrinking, rules)

pub overflow_sub-result : goal.overflow_sub-result
overflow_sub-result c = search (shrinking, rules)

pub returns : goal.returns
returns c = search (shrinking, rules)
