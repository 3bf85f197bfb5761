-- What `box_test_of` and `may_pass` say holds of every point of the box.
use mathlib.Core.Path.{◌≡◌, refl}
use mathlib.Core.Bool.{Bool, true, false, cond, true≢false}
use mathlib.Core.List.{List, [], ◌∷◌}
use lib.Ieee.{neg, le}
use Rattle.geometry.specs.declared.Vec2.{Vec2}
use Rattle.geometry.specs.declared.EdgeSide.{EdgeSide}
use Rattle.geometry.specs.declared.EdgeSide.TheVariants.{Edge, Left, Right}
use Rattle.geometry.specs.Bounds.{PointWithin}
use Rattle.geometry.specs.Plane.{edge_width, side_of, in_bounding_box}
use Rattle.geometry.specs.Polygon.{edge_test_at, edge_test_of, edge_answer, edges_from, point_in_polygon}
use Rattle.boxes.specs.declared.BoundingBox.{BoundingBox}
use Rattle.boxes.specs.declared.BoxTest.{BoxTest}
use Rattle.boxes.specs.declared.BoxTest.TheVariants.{Never, Next, Maybe}
use Rattle.boxes.specs.Box.{InBox, BoxWithin, PointsWithin, largest_cross, is_apart, box_test_of, box_answer, may_pass_from, may_pass}
use Rattle.boxes.proofs.Corners.{right_of_all, apart_in_x, apart_in_y}

-- what an answer says of a point of the box
abbrev pub HoldsAt : Vec2 → Vec2 → Vec2 → BoxTest → Type 0
HoldsAt q a b Never = side_of q a b ≡ Right
HoldsAt q a b Next = in_bounding_box q a b ≡ false
HoldsAt q a b Maybe = Unit {0}

-- an edge, where may is what the edges after it say of the box, and later what they say of q
no_answer : (s : EdgeSide) {later : Bool} → later ≡ false → edge_answer (edge_test_at s false) later ≡ false
no_answer Edge h = h
no_answer Left h = h
no_answer Right h = refl

edge_fails : (q a b : Vec2) (t : BoxTest) → HoldsAt q a b t → (may later : Bool) → (may ≡ false → later ≡ false) → box_answer t may ≡ false
    → edge_answer (edge_test_of q a b) later ≡ false
unfolding edge_test_of
edge_fails q a b Never t may later h e = rw t
edge_fails q a b Next t may later h e = rw t (no_answer (side_of q a b) (h e))
edge_fails q a b Maybe t may later h e = absurd (true≢false e)

module _ {bounds : BoundingBox} {q : Vec2} (W : BoxWithin 4000000 bounds) (i : InBox bounds q) where
  pub test_holds : (a b : Vec2) → PointWithin 1000000 a → PointWithin 1000000 b → HoldsAt q a b (box_test_of bounds a b)
  unfolding box_test_of
  test_holds a b A B =
      go (le (largest_cross bounds a b) (neg edge_width)) refl (is_apart bounds.low.x bounds.high.x a.x b.x) refl
      (is_apart bounds.low.y bounds.high.y a.y b.y) refl
    where
      go : (r : Bool) → le (largest_cross bounds a b) (neg edge_width) ≡ r
          → (x : Bool) → is_apart bounds.low.x bounds.high.x a.x b.x ≡ x
          → (y : Bool) → is_apart bounds.low.y bounds.high.y a.y b.y ≡ y
          → HoldsAt q a b (cond r Never (cond x Next (cond y Next Maybe)))
      go true e x f y g = right_of_all W A B i e
      go false e true f y g = apart_in_x W A B i f
      go false e false f true g = apart_in_y W A B i g
      go false e false f false g = tt

  from_vertex : (first a : Vec2) (rest : List Vec2) → PointWithin 1000000 first → PointWithin 1000000 a → PointsWithin 1000000 rest
      → may_pass_from bounds first a rest ≡ false → edges_from q first a rest ≡ false
  unfolding may_pass_from edges_from
  from_vertex first a [] F A R e = edge_fails q a first (box_test_of bounds a first) (test_holds a first A F) true true (λ h. h) e
  from_vertex first a (b ∷ rest) F A R e =
      edge_fails q a b (box_test_of bounds a b) (test_holds a b A R.0) (may_pass_from bounds first b rest) (edges_from q first b rest)
      (λ h. from_vertex first b rest F R.0 R.1 h) e

  -- where may_pass says no, the polygon test fails at every point of the box
  pub passes_none : (points : List Vec2) → PointsWithin 1000000 points → may_pass bounds points ≡ false → point_in_polygon q points ≡ false
  unfolding may_pass point_in_polygon
  passes_none [] P e = refl
  passes_none (a ∷ rest) P e = from_vertex a a rest P.0 P.0 P.1 e
