-- `put_vertices` meets its contract. The loop's invariant: the vertices before i are put, and list i begins at `start`.
use Rattle.removal.proofs.Vertices.{VerticesPut}
use Rattle.removal.proofs.LaidDeck.put_vertices.Given as goal

abbrev pub invariant-vertices : goal.invariant-vertices
invariant-vertices l = VerticesPut l.self.old.rule.which l.self.old.file.now l.self.old.rule.deck l.self.old.blocks l.initial.out l.initial.next l.out l.next l.start l.i
