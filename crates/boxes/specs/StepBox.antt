-- The box that holds every sample of a step: from p - reach * s to p + reach * s in binary32, one rounding an operation.
use Rattle.std.specs.Prelude.{ℕ, pos, T, Float}
use Rattle.std.specs.Float.{binary32}
use Rattle.std.specs.Float.Ieee.{add, sub, mul, of_int, fits}
use Rattle.geometry.specs.declared.Vec2.{Vec2}
use Rattle.geometry.specs.Plane.{zero32}
use Rattle.geometry.specs.Bounds.{Within}
use Rattle.boxes.specs.declared.BoundingBox.{BoundingBox}
use Rattle.boxes.specs.Order.{Le}

abbrev pub width_of : Float → ℕ → Float
width_of reach s = mul binary32 reach (of_int binary32 (pos s))

unfoldable pub step_box : Vec2 → Float → ℕ → BoundingBox
step_box p reach s =
    record {
      low = record { x = sub binary32 p.x (width_of reach s); y = sub binary32 p.y (width_of reach s) };
      high = record { x = add binary32 p.x (width_of reach s); y = add binary32 p.y (width_of reach s) };
    }

-- a reach that passed question 3, and that binary32 holds
pub record ReachAllowed (reach : Float) : Type 0 where
  pub within : Within 1000 reach
  pub from_zero : Le zero32 reach
  pub held : T (fits binary32 reach)
