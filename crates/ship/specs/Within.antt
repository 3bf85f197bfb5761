-- What the questions leave of a deck: floats of a bounded size, and counts that fit.
use Rattle.std.specs.Prelude.{ℕ, ◌≤◌, length}
use Rattle.geometry.specs.Bounds.{Within, PointWithin}
use Rattle.ship.specs.Model.{Deck, point_of, corners_of, height_of}

pub record DeckWithin (deck : Deck) : Type 0 where
  pub offset : PointWithin 1000000 deck.offset
  pub point : (i : ℕ) → PointWithin 1000000 (point_of deck i)
  pub height : (i : ℕ) → Within 1000000 (height_of deck i)
  pub few_polygons : length deck.polygons ≤ 16777215
  pub few_corners : (k : ℕ) → length (corners_of deck k) ≤ 4096
