-- A kept list over a box: what was sifted out passes at no point of it.
use Rattle.std.specs.Prelude.{ℕ, ◌*◌, ◌≤◌, ◌≡◌, Bool, ◌&&◌, ◌||◌, List, leb, ltb, length, take, Float}
use Rattle.geometry.specs.declared.Vec2.{Vec2}
use Rattle.geometry.specs.Bounds.{PointWithin}
use Rattle.boxes.specs.declared.BoundingBox.{BoundingBox}
use Rattle.boxes.specs.Box.{InBox, BoxWithin, may_pass}
use Rattle.boxes.specs.StepBox.{ReachAllowed}
use Rattle.ship.specs.Model.{Deck, polygon_points}
use Rattle.keeping.specs.Kept.{ListIn, OthersFail}
use Rattle.sifting.specs.declared.Remaining.{Remaining}

-- polygon k may pass at a point of the box; where this is false it passes at none
unfoldable pub may_pass_at : Deck → BoundingBox → ℕ → Bool
may_pass_at deck bounds k = may_pass bounds (polygon_points deck k)

-- from so many numbers on a list is held against what was looked at
abbrev pub many : ℕ
many = 128

-- a list of `count` numbers takes no more: it has no room, or it has many, and more than half of the polygons that were looked at
unfoldable pub is_full : ℕ → ℕ → ℕ → Bool
is_full count room looked = leb room count || (leb many count && ltb looked (2 * count))

-- every polygon that is not in the list passes at no point of this box
pub record KeptOver (deck : Deck) (bounds : BoundingBox) (numbers : List ℕ) (rest : ℕ) : Type 0 where
  pub list : ListIn (length deck.polygons) numbers rest
  pub others : (q : Vec2) → InBox bounds q → OthersFail deck numbers rest q

-- a box, and a list of the deck to go over
pub record SiftReady (deck : Deck) (bounds : BoundingBox) (source : List ℕ) (source_rest : ℕ) : Type 0 where
  pub box_within : BoxWithin 4000000 bounds
  pub source_kept : KeptOver deck bounds source source_rest

-- the numbers of the list that was made stand at the front
pub record SiftedInto (deck : Deck) (bounds : BoundingBox) (before after : List ℕ) (remaining : Remaining) : Type 0 where
  pub kept_over : KeptOver deck bounds (take remaining.count after) remaining.rest
  pub inside : remaining.count ≤ length before
  pub long : length after ≡ length before

-- a point around which samples lie, in a deck's coordinates
pub record Around (p : Vec2) (reach : Float) : Type 0 where
  pub point_within : PointWithin 3000000 p
  pub reach_allowed : ReachAllowed reach
