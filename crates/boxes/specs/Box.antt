-- The polygon test of document 01, section 3, over a whole box of points: what one edge says of all of them, and what a polygon does.
use Rattle.std.specs.Prelude.{Bool, true, false, cond, ◌||◌, List, [], ◌∷◌, ℕ, Float}
use Rattle.std.specs.Float.{binary32}
use Rattle.std.specs.Float.Ieee.{add, sub, neg, lt, le}
use Rattle.geometry.specs.declared.Vec2.{Vec2}
use Rattle.geometry.specs.Plane.{zero32, edge_width, box_margin, sub_of, perp_dot_of, min_of, max_of}
use Rattle.geometry.specs.Bounds.{PointWithin}
use Rattle.boxes.specs.declared.BoundingBox.{BoundingBox}
use Rattle.boxes.specs.declared.BoxTest.{BoxTest}
use Rattle.boxes.specs.declared.BoxTest.TheVariants.{Never, Next, Maybe}
use Rattle.boxes.specs.Order.{Le}

-- q is in the box, ends included
pub record InBox (bounds : BoundingBox) (q : Vec2) : Type 0 where
  pub left : Le bounds.low.x q.x
  pub right : Le q.x bounds.high.x
  pub bottom : Le bounds.low.y q.y
  pub top : Le q.y bounds.high.y

-- sizes: of a box, and of a polygon's vertices
pub record BoxWithin (k : ℕ) (bounds : BoundingBox) : Type 0 where
  pub low : PointWithin k bounds.low
  pub high : PointWithin k bounds.high

abbrev pub PointsWithin : ℕ → List Vec2 → Type 0
PointsWithin k [] = Unit {0}
PointsWithin k (p ∷ rest) = PointWithin k p × PointsWithin k rest

-- the end of a range at which z times it is largest
abbrev pub larger_end : Float → Float → Float → Float
larger_end z low high = cond (le zero32 z) high low

-- the corner of the box at which the cross product with an edge is largest: where the edge goes to the right that is at the top, and where it goes up at
-- the left
abbrev pub largest_corner : BoundingBox → Vec2 → Vec2
largest_corner bounds edge =
    record { x = larger_end edge.y bounds.high.x bounds.low.x; y = larger_end edge.x bounds.low.y bounds.high.y }

unfoldable pub largest_cross : BoundingBox → Vec2 → Vec2 → Float
largest_cross bounds a b = perp_dot_of (sub_of b a) (sub_of (largest_corner bounds (sub_of b a)) a)

-- no number from low to high is from min - 1e-6 to max + 1e-6, the range of the edge's own box
unfoldable pub is_apart : Float → Float → Float → Float → Bool
is_apart low high a b = lt high (sub binary32 (min_of a b) box_margin) || lt (add binary32 (max_of a b) box_margin) low

-- Never where the largest cross product is at most -1e-4, so that every point is Right. Otherwise Next where the box does not meet the edge's own box, in
-- which alone the edge says yes.
unfoldable pub box_test_of : BoundingBox → Vec2 → Vec2 → BoxTest
box_test_of bounds a b =
    cond (le (largest_cross bounds a b) (neg edge_width)) Never
    (cond (is_apart bounds.low.x bounds.high.x a.x b.x) Next (cond (is_apart bounds.low.y bounds.high.y a.y b.y) Next Maybe))

-- ---- a polygon: false where it is certain that it passes at no point of the box
-- what an edge says, where later is what the edges after it say
abbrev pub box_answer : BoxTest → Bool → Bool
box_answer Never later = false
box_answer Next later = later
box_answer Maybe later = true

-- the edges from the vertex a on, in the order of the polygon test
unfoldable pub may_pass_from : BoundingBox → Vec2 → Vec2 → List Vec2 → Bool
may_pass_from bounds first a [] = box_answer (box_test_of bounds a first) true
may_pass_from bounds first a (b ∷ rest) = box_answer (box_test_of bounds a b) (may_pass_from bounds first b rest)

unfoldable pub may_pass : BoundingBox → List Vec2 → Bool
may_pass bounds [] = false
may_pass bounds (a ∷ rest) = may_pass_from bounds a a rest
