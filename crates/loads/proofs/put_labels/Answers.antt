use borrow.Author.Rules.{rules}
use Rattle.loads.proofs.LabelLoop.{labelling}
use Rattle.loads.proofs.put_labels.Goals as goal

pub decks-init : goal.decks-init
decks-init c = search (labelling, rules)

pub label_deck-at-requires : goal.label_deck-at-requires
label_deck-at-requires c = search (labelling, rules)

pub decks-preserved : goal.decks-preserved
decks-preserved c = search (labelling, rules)

pub returns : goal.returns
returns c = search (labelling, rules)
