-- The definition evaluated: the root's pattern, and the patterns beside it, which are not the root.
use mathlib.Core.Path.{◌≡◌, refl}
use mathlib.Core.Bool.{Bool, true, false}
use Prim.Native.Nat.{ℕ, ◌+◌, ◌-◌}
use lib.Ieee.{binary32, of_bits, to_bits}
use Rattle.root.specs.Nearest.{units, is_nearest_root}

abbrev passes : ℕ → ℕ → Bool
passes x r = is_nearest_root (of_bits binary32 x) (of_bits binary32 r)

-- the pattern r is the root of the pattern x, and the patterns beside r are not
record At (x r : ℕ) : Type 0 where
  root : passes x r ≡ true
  not_before : passes x (r - 1) ≡ false
  not_after : passes x (r + 1) ≡ false

-- 1
one : At 0x3f80_0000 0x3f80_0000
unfolding is_nearest_root units of_bits to_bits
one = record { root = refl; not_before = refl; not_after = refl }

-- 2
two : At 0x4000_0000 0x3fb5_04f3
unfolding is_nearest_root units of_bits to_bits
two = record { root = refl; not_before = refl; not_after = refl }

-- 3
three : At 0x4040_0000 0x3fdd_b3d7
unfolding is_nearest_root units of_bits to_bits
three = record { root = refl; not_before = refl; not_after = refl }

-- 4
four : At 0x4080_0000 0x4000_0000
unfolding is_nearest_root units of_bits to_bits
four = record { root = refl; not_before = refl; not_after = refl }

-- the f32 next below 4
before_four : At 0x407f_ffff 0x3fff_ffff
unfolding is_nearest_root units of_bits to_bits
before_four = record { root = refl; not_before = refl; not_after = refl }

-- the f32 next above 4
after_four : At 0x4080_0001 0x4000_0000
unfolding is_nearest_root units of_bits to_bits
after_four = record { root = refl; not_before = refl; not_after = refl }

-- 4095 * 4095
square : At 0x4b7f_e001 0x457f_f000
unfolding is_nearest_root units of_bits to_bits
square = record { root = refl; not_before = refl; not_after = refl }

-- the f32 next above 4095 * 4095
after_square : At 0x4b7f_e002 0x457f_f001
unfolding is_nearest_root units of_bits to_bits
after_square = record { root = refl; not_before = refl; not_after = refl }

-- 0.5
half : At 0x3f00_0000 0x3f35_04f3
unfolding is_nearest_root units of_bits to_bits
half = record { root = refl; not_before = refl; not_after = refl }

-- 2 ^ -149, the smallest subnormal
smallest : At 0x0000_0001 0x1a35_04f3
unfolding is_nearest_root units of_bits to_bits
smallest = record { root = refl; not_before = refl; not_after = refl }

-- 2 ^ -148
second : At 0x0000_0002 0x1a80_0000
unfolding is_nearest_root units of_bits to_bits
second = record { root = refl; not_before = refl; not_after = refl }

-- a subnormal of 17 binary digits
middle_subnormal : At 0x0001_2345 0x1e41_1636
unfolding is_nearest_root units of_bits to_bits
middle_subnormal = record { root = refl; not_before = refl; not_after = refl }

-- the largest subnormal
largest_subnormal : At 0x007f_ffff 0x1fff_ffff
unfolding is_nearest_root units of_bits to_bits
largest_subnormal = record { root = refl; not_before = refl; not_after = refl }

-- 2 ^ -126
smallest_normal : At 0x0080_0000 0x2000_0000
unfolding is_nearest_root units of_bits to_bits
smallest_normal = record { root = refl; not_before = refl; not_after = refl }

-- 8e12, the largest squared length of the call: two components of 2,000,000
longest : At 0x54e8_d4a5 0x4a2c_a22c
unfolding is_nearest_root units of_bits to_bits
longest = record { root = refl; not_before = refl; not_after = refl }

-- 2 ^ 43
power : At 0x5500_0000 0x4a35_04f3
unfolding is_nearest_root units of_bits to_bits
power = record { root = refl; not_before = refl; not_after = refl }

-- the largest f32
largest : At 0x7f7f_ffff 0x5f7f_ffff
unfolding is_nearest_root units of_bits to_bits
largest = record { root = refl; not_before = refl; not_after = refl }
