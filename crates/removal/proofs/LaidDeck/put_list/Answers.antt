-- `put_list` meets its contract.
use borrow.Author.Rules.{rules}
use Rattle.removal.proofs.LaidDecks.{deck_of}
use Rattle.removal.proofs.Vertices.{row_inside, list_there, list}
use Rattle.removal.proofs.LaidDeck.put_list.Goals as goal

pub overflow_add-old : goal.overflow_add-old
overflow_add-old c = search (row_inside (deck_of c.args.self.now) c.requires.there, rules)

pub extent_at-list-requires : goal.extent_at-list-requires
extent_at-list-requires c = row_inside (deck_of c.args.self.now) c.requires.there

pub kept_in-count-requires : goal.kept_in-count-requires
kept_in-count-requires c = list_there (deck_of c.args.self.now) c.requires.there (search rules)

pub overflow_cast-words : goal.overflow_cast-words
overflow_cast-words c = search (list, rules)

pub overflow_add-result : goal.overflow_add-result
overflow_add-result c = search (list, rules)

pub returns : goal.returns
returns c = search (list, rules)
