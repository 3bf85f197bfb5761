use borrow.Author.Rules.{rules}
use Rattle.locating.proofs.DeckLoop.{seeking}
use Rattle.locating.proofs.locate.Goals as goal
use Rattle.locating.proofs.locate.Goals.{then-looks_at+in_default, else-looks_at}

pub decks-init : goal.decks-init
decks-init c = search (seeking, rules)

pub packed-requires : goal.packed-requires
packed-requires c = search (seeking, rules)

pub returns-in-Some : goal.returns-in-Some
returns-in-Some c = search (seeking, rules)

pub decks-preserved : goal.decks-preserved
decks-preserved c =
    elim c.if-looks_at.branch [
      | then-looks_at+in_default w ↦ search (seeking, rules)
      | else-looks_at w ↦ search (seeking, rules)
    ]

pub returns : goal.returns
returns c = search (seeking, rules)
