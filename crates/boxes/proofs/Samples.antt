-- Every sample of a step lies in the step's box, since the table's fractions are at most 1 in size; and the box in that of every later step.
use mathlib.Core.Path.{sym, subst}
use mathlib.Core.Bool.{false}
use Prim.Native.Nat.{ℕ, ◌≤◌, ◌<◌}
use native.Mathlib.Omega.{arith}
use lib.IntN.{pos}
use lib.Ieee.{Float, fin, binary32, neg, add, sub, mul, of_int}
use Rattle.geometry.specs.declared.Vec2.{Vec2}
use Rattle.geometry.specs.Bounds.{Within, PointWithin}
use Rattle.geometry.specs.Plane.{zero32}
use Rattle.geometry.proofs.Bounds.{held, by_test, add_within, sub_within, mul_within, of_int_within, neg_within}
use Rattle.geometry.proofs.Constants.{zero_is}
use Rattle.ring.specs.Sample.{multiple, sample_of}
use Rattle.ring.proofs.SampleBounds.{ring_within}
use Rattle.boxes.specs.Order.{Le}
use Rattle.boxes.specs.Box.{InBox, BoxWithin}
use Rattle.boxes.specs.StepBox.{width_of, step_box, ReachAllowed}
use Rattle.boxes.proofs.Fractions.{le_trans, below_bound, above_bound}
use Rattle.boxes.proofs.Rounding.{larger, le_neg}
use Rattle.boxes.proofs.Monotone.{add_mono, sub_anti, mul_mono, mul_mono_left}
use Rattle.boxes.proofs.Exactness.{one_times, mul_neg}

-- ---- the step's number as a float
steps_within : {s : ℕ} → s < 16 → Within 15 (of_int binary32 (pos s))
unfolding held
steps_within {s} h = of_int_within (by_test 15 tt) (pos s) (omega arith)

steps_le : (s t : ℕ) → s ≤ t → Le (of_int binary32 (pos s)) (of_int binary32 (pos t))
unfolding of_int
steps_le s t h = larger s 1 t 1 (omega arith) (omega arith) (omega arith)

steps_from_zero : (s : ℕ) → Le zero32 (of_int binary32 (pos s))
unfolding of_int
steps_from_zero s = rw zero_is (larger 0 1 s 1 (omega arith) (omega arith) (omega arith))

-- ---- one coordinate
stepped_within : {v : Float} {s : ℕ} → Within 1000 v → s < 16 → Within 15000 (mul binary32 v (of_int binary32 (pos s)))
unfolding held
stepped_within p h = mul_within (by_test 15000 tt) (omega arith) p (steps_within h)

module _ {reach part : Float} {s : ℕ} (r : ReachAllowed reach) (h : s < 16) (P : Within 1 part) where
  once_within : {f : Float} → Within 1 f → Within 1000 (mul binary32 f reach)
  unfolding held
  once_within p = mul_within (by_test 1000 tt) (omega arith) p r.within

  one_within : Within 1 (fin false 1 (pos 0))
  one_within = record { bound = omega arith }

  at_most_reach : Le (mul binary32 part reach) reach
  at_most_reach = le_trans (mul_mono_left P one_within r.within (below_bound P) r.from_zero) (one_times r.within r.held)

  at_least_reach : Le (neg reach) (mul binary32 part reach)
  unfolding neg
  at_least_reach =
      le_trans
      (subst (λ (x : Float). Le (neg reach) x) (sym (mul_neg one_within r.within)) (le_neg (one_times r.within r.held)))
      (mul_mono_left (neg_within one_within) P r.within (above_bound P) r.from_zero)

  at_most_width : Le (multiple part reach s) (width_of reach s)
  at_most_width = mul_mono_left (once_within P) r.within (steps_within h) at_most_reach (steps_from_zero s)

  at_least_width : Le (neg (width_of reach s)) (multiple part reach s)
  at_least_width =
      subst (λ (x : Float). Le x (multiple part reach s)) (mul_neg r.within (steps_within h))
      (mul_mono_left (neg_within r.within) (once_within P) (steps_within h) at_least_reach (steps_from_zero s))

  module _ {c : Float} (C : Within 3000000 c) where
    sample_from : Le (sub binary32 c (width_of reach s)) (add binary32 c (multiple part reach s))
    unfolding sub
    sample_from = add_mono (neg_within (stepped_within r.within h)) (stepped_within (once_within P) h) C at_least_width

    sample_to : Le (add binary32 c (multiple part reach s)) (add binary32 c (width_of reach s))
    sample_to = add_mono (stepped_within (once_within P) h) (stepped_within r.within h) C at_most_width

-- ---- the box
module _ {p : Vec2} {reach : Float} {s : ℕ} (P : PointWithin 3000000 p) (r : ReachAllowed reach) (h : s < 16) where
  width_within : Within 15000 (width_of reach s)
  width_within = stepped_within r.within h

  pub step_box_within : BoxWithin 4000000 (step_box p reach s)
  unfolding step_box held
  step_box_within =
      record {
        low = record { x = sub_within (by_test 4000000 tt) (omega arith) P.x width_within; y = sub_within (by_test 4000000 tt) (omega arith) P.y width_within };
        high = record { x = add_within (by_test 4000000 tt) (omega arith) P.x width_within; y = add_within (by_test 4000000 tt) (omega arith) P.y width_within };
      }

  pub sample_in_box : (i : ℕ) → InBox (step_box p reach s) (sample_of p reach s i)
  unfolding step_box
  sample_in_box i =
      let d = ring_within s i in
      record { left = sample_from r h d.x P.x; right = sample_to r h d.x P.x; bottom = sample_from r h d.y P.y; top = sample_to r h d.y P.y }

module _ {p : Vec2} {reach : Float} {s t : ℕ} (P : PointWithin 3000000 p) (r : ReachAllowed reach) (l : s ≤ t) (h : t < 16) where
  first : Within 15000 (width_of reach s)
  first = width_within P r (omega arith)

  later : Within 15000 (width_of reach t)
  later = width_within P r h

  wider : Le (width_of reach s) (width_of reach t)
  wider = mul_mono (steps_within (omega arith)) (steps_within h) r.within (steps_le s t l) r.from_zero

  pub box_in_later : {q : Vec2} → InBox (step_box p reach s) q → InBox (step_box p reach t) q
  unfolding step_box
  box_in_later i =
      record {
        left = le_trans (sub_anti first later P.x wider) i.left;
        right = le_trans i.right (add_mono first later P.x wider);
        bottom = le_trans (sub_anti first later P.y wider) i.bottom;
        top = le_trans i.top (add_mono first later P.y wider);
      }
