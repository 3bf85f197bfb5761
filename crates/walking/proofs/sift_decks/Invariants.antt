-- `sift_decks` meets its contract. The loop's invariant: each deck below d has its list.
use Prim.Native.Nat.{◌≤◌}
use mathlib.Core.Path.{◌≡◌}
use lib.ListN.{length}
use Rattle.walking.specs.Lists.{ListsBelow}
use Rattle.walking.proofs.sift_decks.Given as goal

abbrev pub invariant-decks : goal.invariant-decks
invariant-decks l =
    (l.d ≤ l.decks) × ((length l.kept ≡ length l.initial.kept) × ListsBelow l.ship l.seat.place l.kept l.at l.d)
