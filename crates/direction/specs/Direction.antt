-- Document 02, point 2: the direction from a point towards another, operation by operation in binary32.
use Rattle.std.specs.Prelude.{Float}
use Rattle.std.specs.Float.{binary32}
use Rattle.std.specs.Float.Ieee.{mul, div, neg, of_bits}
use Rattle.geometry.specs.declared.Vec2.{Vec2}
use Rattle.geometry.specs.Plane.{sub_of, dot_of}
use Rattle.root.specs.Nearest.{root_of}

-- 1 by its bit pattern
abbrev pub one32 : Float
one32 = of_bits binary32 0x3f800000

-- v = p - towards, the way from there to p; and dot(v, v)
abbrev pub way_from : Vec2 → Vec2 → Vec2
way_from p towards = sub_of p towards

unfoldable pub squared_distance : Vec2 → Vec2 → Float
squared_distance p towards = dot_of (way_from p towards) (way_from p towards)

-- -(v * (1 / length)) by component
abbrev pub turned : Float → Float → Float
turned part length = neg (mul binary32 part (div binary32 one32 length))

abbrev pub turned_by : Vec2 → Float → Vec2
turned_by v length = record { x = turned v.x length; y = turned v.y length }

-- length is the root of dot(v, v)
unfoldable pub direction_of : Vec2 → Vec2 → Vec2
direction_of p towards = turned_by (way_from p towards) (root_of (squared_distance p towards))
