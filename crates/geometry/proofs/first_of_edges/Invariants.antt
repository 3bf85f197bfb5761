-- `first_of_edges` meets its contract. The loop's invariant: the answer is that of the edges that are left.
use Rattle.geometry.proofs.EdgeLoop.{Walked}
use Rattle.geometry.proofs.first_of_edges.Given as goal

abbrev pub invariant-edges : goal.invariant-edges
invariant-edges g l = Walked (goal.F-post g l.at) (goal.G-post g l.test) l.count l.first l.a l.j
