use borrow.Author.Rules.{rules}
use Rattle.removal.proofs.Decks.{decks}
use Rattle.removal.proofs.Removal.put_decks.Goals as goal

pub decks-init : goal.decks-init
decks-init c = search (decks, rules)

pub put_deck-at-requires : goal.put_deck-at-requires
put_deck-at-requires c = search (decks, rules)

pub decks-preserved : goal.decks-preserved
decks-preserved c = search (decks, rules)

pub returns : goal.returns
returns c = search (decks, rules)
