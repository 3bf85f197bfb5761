-- `number_at` meets its contract. The loop's invariant: number j is not among those that the walk passed.
use mathlib.Core.Path.{◌≡◌}
use lib.ListN.{length}
use Rattle.keeping.specs.Lists.{near_size}
use Rattle.walking.specs.Asked.{seen}
use Rattle.walking.specs.Walk.{left_of}
use Rattle.numbering.proofs.NumberLoop.{Seeking}
use Rattle.numbering.proofs.number_at.Given as goal

abbrev pub invariant-candidates : goal.invariant-candidates
invariant-candidates l =
    (length l.near ≡ near_size)
    × Seeking l.step.search.now.ship.now l.step.search.now.blocked.now l.step.search.now.seat l.step.number l.j l.n l.next

abbrev pub decreases-candidates : goal.decreases-candidates
decreases-candidates l = length (left_of (seen l.step.search.now) l.next)
