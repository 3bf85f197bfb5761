use borrow.Author.Rules.{rules}
use Rattle.towards.proofs.Seeks.{seeking_decks}
use Rattle.towards.proofs.Line.step_hit.Goals as goal

pub decks-init : goal.decks-init
decks-init c = search (seeking_decks, rules)

pub returns-in-Some : goal.returns-in-Some
returns-in-Some c = search (seeking_decks, rules)

pub decks-preserved : goal.decks-preserved
decks-preserved c = search (seeking_decks, rules)

pub returns : goal.returns
returns c = search (seeking_decks, rules)

pub decks-preserved-then-not-looks_at : goal.decks-preserved-then-not-looks_at
decks-preserved-then-not-looks_at c = search (seeking_decks, rules)
