use borrow.Author.Rules.{rules}
use Rattle.removal.proofs.LaidDecks.{deck_of}
use Rattle.removal.proofs.Vertices.{vertices}
use Rattle.removal.proofs.LaidDeck.put_vertices.Goals as goal

pub copy_part-next-requires : goal.copy_part-next-requires
copy_part-next-requires c = search (deck_of c.args.self.now, vertices, rules)

pub vertices-init : goal.vertices-init
vertices-init c = search (deck_of c.args.self.now, vertices, rules)

pub put_vertex-start-requires : goal.put_vertex-start-requires
put_vertex-start-requires c = search (deck_of c.args.self.now, vertices, rules)

pub vertices-preserved : goal.vertices-preserved
vertices-preserved c = search (deck_of c.args.self.now, vertices, rules)

pub returns : goal.returns
returns c = search (deck_of c.args.self.now, vertices, rules)
