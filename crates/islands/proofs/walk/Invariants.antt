-- `walk` meets its contract. The loop's invariant: the queue is read up to head.
use Prim.Native.Nat.{◌-◌}
use lib.ListN.{length}
use Rattle.islands.proofs.DeckWalks.{Waiting}
use Rattle.islands.proofs.walk.Given as goal

abbrev pub invariant-queue : goal.invariant-queue
invariant-queue l = Waiting l.deck l.i l.initial.out l.out l.initial.work l.work l.t l.head

abbrev pub decreases-queue : goal.decreases-queue
decreases-queue l = length l.deck.polygons - l.head
