-- `reached_on` meets its contract.
use borrow.Author.Rules.{rules}
use Rattle.walking.proofs.Sifts.{decks}
use Rattle.walking.proofs.reached_on.Goals as goal

pub sift_deck-requires : goal.sift_deck-requires
sift_deck-requires c = search (decks, rules)

pub returns : goal.returns
returns c = search (decks, rules)
