-- `put_vertex` meets its contract.
use borrow.Author.Rules.{rules}
use Rattle.removal.proofs.LaidDecks.{deck_of}
use Rattle.removal.proofs.Vertices.{row_inside, vertex}
use Rattle.removal.proofs.LaidDeck.put_vertex.Goals as goal

pub overflow_add-from : goal.overflow_add-from
overflow_add-from c = search (row_inside (deck_of c.args.self.now) c.requires.there, rules)

pub overflow_mul-from : goal.overflow_mul-from
overflow_mul-from c = search (row_inside (deck_of c.args.self.now) c.requires.there, rules)

pub overflow_add-from-2 : goal.overflow_add-from-2
overflow_add-from-2 c = search (row_inside (deck_of c.args.self.now) c.requires.there, rules)

pub copy_part-list-requires : goal.copy_part-list-requires
copy_part-list-requires c = search (row_inside (deck_of c.args.self.now) c.requires.there, rules)

pub returns : goal.returns
returns c = search (deck_of c.args.self.now, vertex, rules)
