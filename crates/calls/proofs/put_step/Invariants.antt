-- `put_step` meets its contract. The loop's invariant: the first n candidates are written, and the others are left.
use mathlib.Core.Path.{◌≡◌}
use lib.ListN.{length}
use Rattle.keeping.specs.Lists.{near_size}
use Rattle.walking.specs.Asked.{seen}
use Rattle.walking.specs.Walk.{left_of}
use Rattle.calls.proofs.EntryLoop.{Putting}
use Rattle.calls.proofs.put_step.Given as goal

abbrev pub invariant-candidates : goal.invariant-candidates
invariant-candidates l =
    (length l.near ≡ near_size)
    × Putting l.step.search.now.ship.now l.step.search.now.blocked.now l.step.search.now.seat l.step.number l.initial.out l.out l.n l.next

abbrev pub decreases-candidates : goal.decreases-candidates
decreases-candidates l = length (left_of (seen l.step.search.now) l.next)
