-- `turns_from` meets its contract. The loop's invariant: the decks below e gave no candidate.
use mathlib.Core.Path.{◌≡◌}
use lib.ListN.{length}
use Rattle.walking.proofs.Walks.{Turning}
use Rattle.walking.proofs.Search.turns_from.Given as goal

abbrev pub invariant-decks : goal.invariant-decks
invariant-decks l =
    (length l.near ≡ length l.initial.near) × Turning l.self.ship.now l.self.blocked.now l.self.seat l.s l.d l.tried l.deck
