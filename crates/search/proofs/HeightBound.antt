-- A height on a deck that passed is at most 2^121 in size, wherever a sample can lie.
use Prim.Native.Nat.{ℕ, ◌^◌}
use native.Mathlib.Omega.{arith}
use mathlib.Core.List.{List, [], ◌∷◌}
use lib.Ieee.{Float}
use Rattle.geometry.specs.declared.Vec2.{Vec2}
use Rattle.geometry.specs.Bounds.{PointWithin, HeightWithin}
use Rattle.geometry.proofs.Bounds.{widen}
use Rattle.geometry.proofs.HeightBounds.{heights_within}
use Rattle.ship.specs.Model.{Deck, polygon_corners}
use Rattle.ship.specs.Within.{DeckWithin}
use Rattle.ship.proofs.ModelFacts.{corners_within, polygon_few}
use Rattle.search.specs.OnDeck.{height_with, height_on}

pub height_within : {deck : Deck} → DeckWithin deck → (k : ℕ) (place : Vec2) → PointWithin 3015000 place → HeightWithin (2 ^ 121) (height_on deck k place)
unfolding height_on
height_within {deck} within k place at = go deck.heights
  where
    go : (heights : List Float) → HeightWithin (2 ^ 121) (height_with heights place (polygon_corners deck k))
    go [] = tt
    go (h ∷ rest) =
        heights_within place (polygon_corners deck k) (record { x = widen (omega arith) at.x; y = widen (omega arith) at.y })
        (corners_within within k) (polygon_few within k)
