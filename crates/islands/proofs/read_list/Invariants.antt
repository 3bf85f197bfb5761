-- `read_list` meets its contract. The loop's invariant: the entries before j are marked.
use Rattle.islands.proofs.ListLoops.{Entries}
use Rattle.islands.proofs.read_list.Given as goal

abbrev pub invariant-entries : goal.invariant-entries
invariant-entries l = Entries l.deck l.v l.i l.initial.out l.out l.initial.work l.work l.tail l.t l.j l.end
