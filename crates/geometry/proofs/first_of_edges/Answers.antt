use mathlib.Core.Path.{refl}
use Rattle.geometry.proofs.EdgeLoop.{walked_all, walked_stop, walked_last}
use Rattle.geometry.proofs.first_of_edges.Goals as goal

pub edges-init : goal.edges-init
edges-init g c = walked_all c.requires.some c.at-first.ensures

pub returns-in-Some : goal.returns-in-Some
returns-in-Some g c = walked_stop c.edges.invariant c.edges-test.true c.at-next.ensures c.in-Some.ensures refl

pub returns : goal.returns
returns g c = walked_last c.edges.invariant c.edges-test.false c.test-2.ensures
