-- Of all points of a box the largest corner has the largest cross product with an edge: where that is at most -1e-4, every point is Right.
-- And of a box that is apart from the edge's own box no point is in that.
use mathlib.Core.Path.{◌≡◌, refl, sym, ◌∙◌}
use mathlib.Core.Bool.{Bool, true, false, cond, ◌||◌, ◌&&◌, and-false, true≢false}
use Prim.Native.Nat.{◌^◌}
use native.Mathlib.Omega.{arith}
use lib.Ieee.{Float, binary32, add, sub, mul, neg, lt, le, of_bits}
use Rattle.geometry.specs.declared.Vec2.{Vec2}
use Rattle.geometry.specs.declared.EdgeSide.TheVariants.{Right}
use Rattle.geometry.specs.Bounds.{Within, PointWithin}
use Rattle.geometry.specs.Plane.{zero32, edge_width, box_margin, sub_of, perp_dot_of, min_of, max_of, side_of, in_range, in_bounding_box}
use Rattle.geometry.proofs.Bounds.{held, by_test, cond_within, add_within, sub_within, mul_within, neg_within}
use Rattle.geometry.proofs.SideRanges.{in_right}
use Rattle.boxes.specs.declared.BoundingBox.{BoundingBox}
use Rattle.boxes.specs.Order.{Le}
use Rattle.boxes.specs.Box.{InBox, BoxWithin, larger_end, largest_corner, largest_cross, is_apart}
use Rattle.boxes.proofs.Fractions.{le_trans, between, below, not_below, not_at_most, refused}
use Rattle.boxes.proofs.Monotone.{zero_within, sub_mono_left, sub_anti, mul_mono, mul_anti}

-- ---- sizes, where a box is within 4,000,000 and a vertex within 1,000,000
less_vertex : {v c : Float} → Within 4000000 v → Within 1000000 c → Within 5000000 (sub binary32 v c)
unfolding held
less_vertex p q = sub_within (by_test 5000000 tt) (omega arith) p q

product_within : {z v : Float} → Within 2000000 z → Within 5000000 v → Within (2 ^ 44) (mul binary32 z v)
unfolding held
product_within p q = mul_within (by_test (2 ^ 44) tt) (omega arith) p q

-- ---- z * (v - c), for v from l to h, is largest at one end and least at the other
by_sign : (P : Float → Type 0) (t : Bool) {x y : Float} → (t ≡ true → P x) → (t ≡ false → P y) → P (cond t x y)
by_sign P true f g = f refl
by_sign P false f g = g refl

module _ {z l v h c : Float} (Z : Within 2000000 z) (L : Within 4000000 l) (N : Within 4000000 v) (H : Within 4000000 h) (C : Within 1000000 c) (from : Le l v) (to : Le v h) where
  largest_at : Le (mul binary32 z (sub binary32 v c)) (mul binary32 z (sub binary32 (larger_end z l h) c))
  largest_at =
      by_sign (λ (w : Float). Le (mul binary32 z (sub binary32 v c)) (mul binary32 z (sub binary32 w c))) (le zero32 z)
      (λ e. mul_mono (less_vertex N C) (less_vertex H C) Z (sub_mono_left N H C to) (record { holds = e }))
      (λ e. mul_anti (less_vertex L C) (less_vertex N C) Z (sub_mono_left L N C from) (not_at_most zero_within Z e))

  least_at : Le (mul binary32 z (sub binary32 (larger_end z h l) c)) (mul binary32 z (sub binary32 v c))
  least_at =
      by_sign (λ (w : Float). Le (mul binary32 z (sub binary32 w c)) (mul binary32 z (sub binary32 v c))) (le zero32 z)
      (λ e. mul_mono (less_vertex L C) (less_vertex N C) Z (sub_mono_left L N C from) (record { holds = e }))
      (λ e. mul_anti (less_vertex N C) (less_vertex H C) Z (sub_mono_left N H C to) (not_at_most zero_within Z e))

-- ---- v from low to high is out of the range of a and b
module _ {low high v a b : Float} (L : Within 4000000 low) (H : Within 4000000 high) (A : Within 1000000 a) (B : Within 1000000 b) (from : Le low v) (to : Le v high) where
  margin_within : Within 1 box_margin
  unfolding of_bits
  margin_within = record { bound = omega arith }

  start_within : Within 1000001 (sub binary32 (min_of a b) box_margin)
  unfolding held
  start_within = sub_within (by_test 1000001 tt) (omega arith) (cond_within (lt a b) A B) margin_within

  end_within : Within 1000001 (add binary32 (max_of a b) box_margin)
  unfolding held
  end_within = add_within (by_test 1000001 tt) (omega arith) (cond_within (lt b a) A B) margin_within

  out_of_range : is_apart low high a b ≡ true → in_range v a b ≡ false
  unfolding is_apart in_range
  out_of_range t = go (lt high (sub binary32 (min_of a b) box_margin)) refl t
    where
      start : Float
      start = sub binary32 (min_of a b) box_margin

      end : Float
      end = add binary32 (max_of a b) box_margin

      go : (k : Bool) → lt high start ≡ k → (k || lt end low) ≡ true → (le start v && le v end) ≡ false
      go true e t = rw (refused (λ (h : Le start v). true≢false (sym (le_trans h to).holds ∙ below H start_within e)))
      go false e t = rw (refused (λ (h : Le v end). true≢false (sym (le_trans from h).holds ∙ below end_within L t))) (and-false (le start v))

-- ---- a box of points and the edge from a to b
module _ {bounds : BoundingBox} {a b q : Vec2} (W : BoxWithin 4000000 bounds) (A : PointWithin 1000000 a) (B : PointWithin 1000000 b) (i : InBox bounds q) where
  q_within : PointWithin 4000000 q
  q_within = record { x = between W.low.x W.high.x i.left i.right; y = between W.low.y W.high.y i.bottom i.top }

  corner_within : PointWithin 4000000 (largest_corner bounds (sub_of b a))
  corner_within =
      record {
        x = cond_within (le zero32 (sub_of b a).y) W.low.x W.high.x;
        y = cond_within (le zero32 (sub_of b a).x) W.high.y W.low.y;
      }

  edge_within : PointWithin 2000000 (sub_of b a)
  unfolding held
  edge_within =
      record { x = sub_within (by_test 2000000 tt) (omega arith) B.x A.x; y = sub_within (by_test 2000000 tt) (omega arith) B.y A.y }

  module _ {p : Vec2} (P : PointWithin 4000000 p) where
    across : Within (2 ^ 44) (mul binary32 (sub_of b a).x (sub binary32 p.y a.y))
    across = product_within edge_within.x (less_vertex P.y A.y)

    upwards : Within (2 ^ 44) (mul binary32 (sub_of b a).y (sub binary32 p.x a.x))
    upwards = product_within edge_within.y (less_vertex P.x A.x)

  cross_within : Within (2 ^ 45) (perp_dot_of (sub_of b a) (sub_of q a))
  unfolding held
  cross_within = sub_within (by_test (2 ^ 45) tt) (omega arith) (across q_within) (upwards q_within)

  pub at_most_corner : Le (perp_dot_of (sub_of b a) (sub_of q a)) (largest_cross bounds a b)
  unfolding largest_cross
  at_most_corner =
      le_trans
      (sub_mono_left (across q_within) (across corner_within) (upwards q_within)
      (largest_at edge_within.x W.low.y q_within.y W.high.y A.y i.bottom i.top))
      (sub_anti (upwards corner_within) (upwards q_within) (across corner_within)
      (least_at edge_within.y W.low.x q_within.x W.high.x A.x i.left i.right))

  width_within : Within 1 edge_width
  unfolding of_bits
  width_within = record { bound = omega arith }

  pub right_of_all : le (largest_cross bounds a b) (neg edge_width) ≡ true → side_of q a b ≡ Right
  unfolding side_of
  right_of_all t =
      in_right (perp_dot_of (sub_of b a) (sub_of q a))
      (not_below (neg_within width_within) cross_within (le_trans at_most_corner (record { holds = t })))

  pub apart_in_x : is_apart bounds.low.x bounds.high.x a.x b.x ≡ true → in_bounding_box q a b ≡ false
  unfolding in_bounding_box
  apart_in_x t = rw (out_of_range W.low.x W.high.x A.x B.x i.left i.right t)

  pub apart_in_y : is_apart bounds.low.y bounds.high.y a.y b.y ≡ true → in_bounding_box q a b ≡ false
  unfolding in_bounding_box
  apart_in_y t = rw (out_of_range W.low.y W.high.y A.y B.y i.bottom i.top t) (and-false (in_range q.x a.x b.x))
