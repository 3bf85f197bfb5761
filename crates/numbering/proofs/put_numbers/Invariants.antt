-- `put_numbers` meets its contract. The loop's invariant: the numbers that the walk passed are written, and the others are left.
use mathlib.Core.Path.{◌≡◌}
use lib.ListN.{length}
use Rattle.keeping.specs.Lists.{near_size}
use Rattle.walking.specs.Asked.{seen}
use Rattle.walking.specs.Walk.{left_of}
use Rattle.numbering.proofs.NumberLoop.{Putting}
use Rattle.numbering.proofs.put_numbers.Given as goal

abbrev pub invariant-candidates : goal.invariant-candidates
invariant-candidates l =
    (length l.near ≡ near_size)
    × Putting l.search.ship.now l.search.blocked.now l.search.seat l.s l.initial.list l.list l.n l.next

abbrev pub decreases-candidates : goal.decreases-candidates
decreases-candidates l = length (left_of (seen l.search) l.next)
