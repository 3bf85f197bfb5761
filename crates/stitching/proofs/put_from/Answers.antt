use borrow.Author.Rules.{rules}
use Rattle.stitching.proofs.Loops.{over_decks}
use Rattle.stitching.proofs.put_from.Goals as goal

pub decks-init : goal.decks-init
decks-init c = search (over_decks, rules)

pub decks-preserved : goal.decks-preserved
decks-preserved c = search (over_decks, rules)

pub returns : goal.returns
returns c = search (over_decks, rules)
