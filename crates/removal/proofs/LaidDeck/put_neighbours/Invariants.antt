-- `put_neighbours` meets its contract. The loop's invariant: what stays of the entries before i is put.
use Rattle.removal.proofs.NeighbourLoop.{NeighboursPut}
use Rattle.removal.proofs.LaidDeck.put_neighbours.Given as goal

abbrev pub invariant-entries : goal.invariant-entries
invariant-entries l = NeighboursPut l.self.old.rule.which l.self.old.file.now l.self.old.rule.deck l.self.old.blocks l.initial.out l.at l.out l.next l.i
