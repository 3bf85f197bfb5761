-- The definition evaluated: a direction of whole numbers, the nearest points that have one, and the largest part of all.
use mathlib.Core.Path.{◌≡◌, refl, sym, ap}
use mathlib.Core.Bool.{true}
use Prim.Native.Nat.{ℕ}
use lib.Dec.{T}
use lib.Ieee.{binary32, of_bits, to_bits, add, sub, mul, div, neg, eq, round}
use lib.Ieee.Bits.{of_bits-fits}
use lib.Ieee.Positive.{positive}
use Rattle.geometry.specs.declared.Vec2.{Vec2}
use Rattle.geometry.specs.Plane.{zero32}
use Rattle.root.specs.Nearest.{units, is_nearest_root}
use Rattle.root.proofs.Unique.{root_is}
use Rattle.direction.specs.Direction.{way_from, squared_distance, turned_by, direction_of}

abbrev point : ℕ → ℕ → Vec2
point x y = record { x = of_bits binary32 x; y = of_bits binary32 y }

-- with the length's pattern, which passes the root's test
with_length : (p towards : Vec2) (length : ℕ) → T (positive (of_bits binary32 length)) → T (is_nearest_root (squared_distance p towards) (of_bits binary32 length))
    → direction_of p towards ≡ turned_by (way_from p towards) (of_bits binary32 length)
unfolding direction_of
with_length p towards length above_zero nearest =
    ap (turned_by (way_from p towards)) (sym (root_is (squared_distance p towards) (of_bits binary32 length) (of_bits-fits binary32 length) above_zero nearest))

-- from (3, 4) to the origin: length 5, -0.6 and -0.8 in f32
three_four : direction_of (point 0x4040_0000 0x4080_0000) (point 0 0) ≡ point 0xbf19_999a 0xbf4c_cccd
unfolding squared_distance is_nearest_root units of_bits to_bits add sub mul div neg round
three_four = with_length (point 0x4040_0000 0x4080_0000) (point 0 0) 0x40a0_0000 tt tt

-- 2 ^ -75 and no more: the squared distance computes to 0
level : eq (squared_distance (point 0x1a00_0000 0) (point 0 0)) zero32 ≡ true
unfolding squared_distance of_bits add sub mul neg round eq
level = refl

-- the next f32 after it: the square rounds up to 2 ^ -149, so the direction is short
nearest : direction_of (point 0x1a00_0001 0) (point 0 0) ≡ point 0xbf35_04f4 0x8000_0000
unfolding squared_distance is_nearest_root units of_bits to_bits add sub mul div neg round
nearest = with_length (point 0x1a00_0001 0) (point 0 0) 0x1a35_04f3 tt tt

-- the square is just below 1.5 * 2 ^ -149 and rounds down to 2 ^ -149: a part of 1.2247448
largest : direction_of (point 0x1a5d_b3d7 0) (point 0 0) ≡ point 0xbf9c_c470 0x8000_0000
unfolding squared_distance is_nearest_root units of_bits to_bits add sub mul div neg round
largest = with_length (point 0x1a5d_b3d7 0) (point 0 0) 0x1a35_04f3 tt tt
