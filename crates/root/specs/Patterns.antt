-- What the functions on bit patterns say. A pattern without a sign is a field of 8 bits, which weighs 8388608 = 2 ^ 23, and 23 digits.
use Rattle.std.specs.Prelude.{◌≡◌, ℕ, zero, suc, ◌+◌, ◌-◌, ◌*◌, ◌/◌, ◌%◌, ◌^◌, ◌≤◌, ◌<◌}

-- the number of a field and digits in units of 2 ^ -149
abbrev pub worth : ℕ → ℕ → ℕ
worth zero t = t
worth (suc x) t = (8388608 + t) * 2 ^ x

unfoldable pub value : ℕ → ℕ
value b = worth (b / 8388608) (b % 8388608)

-- the pattern of a number above zero and below the infinity
pub record Pattern (b : ℕ) : Type 0 where
  pub some : 1 ≤ b
  pub finite : b < 2139095040

-- digits * 2 ^ shift is 2 ^ 24 times the number, with 24 binary digits
pub record Shifted (b digits shift : ℕ) : Type 0 where
  pub same : value b * 16777216 ≡ digits * 2 ^ shift
  pub least : 8388608 ≤ digits
  pub most : digits < 16777216
  pub small : shift < 278

-- from 2 ^ 46 up to 2 ^ 48
pub record Between (n : ℕ) : Type 0 where
  pub least : 70368744177664 ≤ n
  pub most : n < 281474976710656

-- the largest whole number whose square is at most n
pub record WholeRoot (n r : ℕ) : Type 0 where
  pub below : r * r ≤ n
  pub above : n < (r + 1) * (r + 1)
  pub least : 8388608 ≤ r
  pub most : r < 16777216

-- the root of b's number lies strictly between the two midpoints beside r's number: there are no ties
pub record RootPattern (b r : ℕ) : Type 0 where
  pub low : (value (r - 1) + value r) * (value (r - 1) + value r) < 4 * (value b * 2 ^ 149)
  pub high : 4 * (value b * 2 ^ 149) < (value r + value (r + 1)) * (value r + value (r + 1))
  pub least : 8388608 ≤ r
  pub most : r ≤ 1602224128
