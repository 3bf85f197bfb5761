-- Document 02, point 2: the f32 nearest to the square root of an f32, a tie going to the even one, in whole numbers. No root is taken here:
-- x is held against the squares of the midpoints between r and its two neighbours.
use Rattle.std.specs.Prelude.{Bool, ◌&&◌, ◌||◌, cond, ℕ, zero, suc, ◌+◌, ◌-◌, ◌*◌, ◌/◌, ◌%◌, ◌^◌, eqb, ltb, Float}
use Rattle.std.specs.Float.{nan, inf, fin, binary32}
use Rattle.std.specs.Float.Ieee.{up, down, of_bits, to_bits}

-- the size of x in units of 2 ^ -149, the smallest f32 above zero: every finite f32 is a whole number of units
unfoldable pub units : Float → ℕ
units nan = 0
units (inf s) = 0
units (fin s m e) = m * up e * 2 ^ 149 / down e

-- the f32 next below r and the one next above it, for an r above zero: their patterns are one less and one more
abbrev pub before : Float → Float
before r = of_bits binary32 (to_bits binary32 r - 1)

abbrev pub after : Float → Float
after r = of_bits binary32 (to_bits binary32 r + 1)

-- The midpoint of a and b is half of units a + units b. Four times its square, and four times x, in units of 2 ^ -298.
abbrev pub midpoint_square : Float → Float → ℕ
midpoint_square a b = (units a + units b) * (units a + units b)

abbrev pub number : Float → ℕ
number x = 4 * (units x * 2 ^ 149)

-- the last digit of r is 0
abbrev pub is_even : Float → Bool
is_even r = eqb (to_bits binary32 r % 2) 0

-- below, or level where a tie may stay
abbrev pub below : ℕ → ℕ → Bool → Bool
below a b tie = ltb a b || (eqb a b && tie)

-- For x and r above zero and finite: the root of x lies between the two midpoints beside r, and at one of them only if r is even.
unfoldable pub is_nearest_root : Float → Float → Bool
is_nearest_root x r =
    below (midpoint_square (before r) r) (number x) (is_even r) && below (number x) (midpoint_square r (after r)) (is_even r)

-- the first of the n numbers from i on that passes a test; the number after them if none does
unfoldable pub first_passing : (ℕ → Bool) → ℕ → ℕ → ℕ
first_passing p i zero = i
first_passing p i (suc n) = let later = first_passing p (i + 1) n in cond (p i) i later

-- The f32 above zero that is the nearest root of x, among all their patterns. For each x above zero and finite there is one, and one alone: proofs/Unique.
unfoldable pub root_of : Float → Float
root_of x = of_bits binary32 (first_passing (λ b. is_nearest_root x (of_bits binary32 b)) 1 2139095039)
