use borrow.Author.Rules.{rules}
use Rattle.removal.proofs.LaidDecks.{deck_of}
use Rattle.removal.proofs.NeighbourLoop.{neighbours}
use Rattle.removal.proofs.LaidDeck.put_neighbours.Goals as goal

pub entries-init : goal.entries-init
entries-init c = search (deck_of c.args.self.now, neighbours, rules)

pub put_u32-requires : goal.put_u32-requires
put_u32-requires c = search (deck_of c.args.self.now, neighbours, rules)

pub entries-preserved-then-not-keeps : goal.entries-preserved-then-not-keeps
entries-preserved-then-not-keeps c = search (neighbours, rules)

pub entries-preserved : goal.entries-preserved
entries-preserved c = search (neighbours, rules)

pub returns : goal.returns
returns c = search (neighbours, rules)
