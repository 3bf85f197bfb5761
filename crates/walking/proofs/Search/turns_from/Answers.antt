use borrow.Author.Rules.{rules}
use Rattle.walking.proofs.Walks.{turning}
use Rattle.walking.proofs.Search.turns_from.Goals as goal

pub tried-tried-requires : goal.tried-tried-requires
tried-tried-requires c = search (turning, rules)

pub overflow_add-tried : goal.overflow_add-tried
overflow_add-tried c = search (turning, rules)

pub returns-in-Some : goal.returns-in-Some
returns-in-Some c = search (turning, rules)

pub decks-preserved-then-not-is_open : goal.decks-preserved-then-not-is_open
decks-preserved-then-not-is_open c = search (turning, rules)

pub decks-preserved : goal.decks-preserved
decks-preserved c = search (turning, rules)

pub returns : goal.returns
returns c = search (turning, rules)
