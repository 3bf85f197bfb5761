-- From the whole root to the nearest pattern. The number is n * (s * s), with q the whole root of n; v is the number of the pattern that is returned.
use mathlib.Core.Path.{◌≡◌, sym, ap, ◌∙◌}
use Prim.Native.Nat.{ℕ, ◌+◌, ◌-◌, ◌*◌, ◌/◌, ◌%◌, ◌^◌, ◌≤◌, ◌<◌}
use native.Mathlib.Nat.{le_of_lt, lt_of_le_of_lt, lt_of_lt_of_le, mul-pos, mul_assoc, mul-mul-mul_comm, mul-le-mul_left, mul-le-mul_right, mul-lt-mul_of_pos_right}
use native.Mathlib.Omega.{arith}
use lib.Pow.{pow_pos, pow-add}
use Rattle.root.specs.Patterns.{value, Shifted, WholeRoot, RootPattern}
use Rattle.root.proofs.Values.{value_lt, value_at}

-- ---- squares
pub square_lt : (a b : ℕ) → a < b → a * a < b * b
square_lt a b h = lt_of_le_of_lt (mul-le-mul_left a (le_of_lt h)) (mul-lt-mul_of_pos_right h (omega arith))

module _ (n q s : ℕ) (S : 0 < s) where
  -- m is a * s, and its square is held against four times n * (s * s)
  module _ (a m : ℕ) (e : m ≡ a * s) where
    square_under : a * a < 4 * n → m * m < 4 * (n * (s * s))
    square_under h = rw (e, mul-mul-mul_comm a s a s, ← mul_assoc 4 n (s * s)) (mul-lt-mul_of_pos_right h (mul-pos S S))

    square_within : a * a ≤ 4 * n → m * m ≤ 4 * (n * (s * s))
    square_within h = rw (e, mul-mul-mul_comm a s a s, ← mul_assoc 4 n (s * s)) (mul-le-mul_right (s * s) h)

    square_over : 4 * n < a * a → 4 * (n * (s * s)) < m * m
    square_over h = rw (e, mul-mul-mul_comm a s a s, ← mul_assoc 4 n (s * s)) (mul-lt-mul_of_pos_right h (mul-pos S S))

    square_around : 4 * n ≤ a * a → 4 * (n * (s * s)) ≤ m * m
    square_around h = rw (e, mul-mul-mul_comm a s a s, ← mul_assoc 4 n (s * s)) (mul-le-mul_right (s * s) h)

  -- before the midpoint: 4 n ≤ 4 q q + 4 q < (2 q + 1) ^ 2
  down_high : (v w : ℕ) → v ≡ q * s → w ≡ (q + 1) * s → n ≤ q * q + q → 4 * (n * (s * s)) < (v + w) * (v + w)
  down_high v w e f h = square_over (2 * q + 1) (v + w) (omega arith) (omega arith)

  down_low : (v p : ℕ) → v ≡ q * s → p < v → q * q ≤ n → (p + v) * (p + v) < 4 * (n * (s * s))
  down_low v p e l h =
      lt_of_lt_of_le (square_lt (p + v) (v + v) (omega arith)) (square_within (2 * q) (v + v) (omega arith) (omega arith))

  -- past the midpoint: (2 q + 1) ^ 2 < 4 n
  up_low : (v p : ℕ) → v ≡ (q + 1) * s → p ≡ q * s → q * q + q < n → (p + v) * (p + v) < 4 * (n * (s * s))
  up_low v p e f h = square_under (2 * q + 1) (p + v) (omega arith) (omega arith)

  up_high : (v w : ℕ) → v ≡ (q + 1) * s → v < w → n < (q + 1) * (q + 1) → 4 * (n * (s * s)) < (v + w) * (v + w)
  up_high v w e l h =
      lt_of_le_of_lt (square_around (2 * (q + 1)) (v + v) (omega arith) (omega arith)) (square_lt (v + v) (v + w) (omega arith))

-- ---- the number of b, times 2 ^ 149, is n scaled by the square of a power of two
same_number : (b digits shift n : ℕ) → Shifted b digits shift → n ≡ digits * 2 ^ (23 + shift % 2)
    → value b * 2 ^ 149 ≡ n * (2 ^ (shift / 2 + 51) * 2 ^ (shift / 2 + 51))
same_number b digits shift n h e =
    let j = shift / 2 + 51 in
    let p = 23 + shift % 2 in
    let total : p + (j + j) ≡ shift + 125 = omega arith in
    let left : value b * 2 ^ 149 ≡ digits * 2 ^ (shift + 125) =
    sym (mul_assoc (value b) 16777216 (2 ^ 125)) ∙ rw (h.same, mul_assoc digits (2 ^ shift) (2 ^ 125), ← pow-add 2 shift 125) in
    let right : n * (2 ^ j * 2 ^ j) ≡ digits * 2 ^ (shift + 125) =
    rw (e, mul_assoc digits (2 ^ p) (2 ^ j * 2 ^ j), ← pow-add 2 j j, ← pow-add 2 p (j + j), total) in
    left ∙ sym right

module _ (b digits shift n q : ℕ) (h : Shifted b digits shift) (e : n ≡ digits * 2 ^ (23 + shift % 2)) (root : WholeRoot n q) where
  abbrev j : ℕ
  j = shift / 2 + 51

  abbrev s : ℕ
  s = 2 ^ j

  abbrev r : ℕ
  r = j * 8388608 + q

  number : 4 * (n * (s * s)) ≡ 4 * (value b * 2 ^ 149)
  number = ap (λ (z : ℕ). 4 * z) (sym (same_number b digits shift n h e))

  here : value r ≡ q * s
  here = value_at j q root.least (le_of_lt root.most)

  next : value (r + 1) ≡ (q + 1) * s
  next = ap value (omega arith) ∙ value_at j (q + 1) (omega arith) (omega arith)

  small : r + 1 ≤ 1602224128
  small = omega arith

  pub rounded_down : n - q * q ≤ q → RootPattern b r
  rounded_down k =
      record {
        low = rw number at
            (down_low n q s (pow_pos j) (value r) (value (r - 1)) here (value_lt (r - 1) r (omega arith)) root.below);
        high = rw number at (down_high n q s (pow_pos j) (value r) (value (r + 1)) here next (omega (arith, root.below)));
        least = omega arith;
        most = omega arith;
      }

  pub rounded_up : q < n - q * q → RootPattern b (r + 1)
  rounded_up k =
      let back : value (r + 1 - 1) ≡ value r = ap value (omega arith) in
      record {
        low = rw back (rw number at (up_low n q s (pow_pos j) (value (r + 1)) (value r) next here (omega arith)));
        high = rw number at
            (up_high n q s (pow_pos j) (value (r + 1)) (value (r + 1 + 1)) next (value_lt (r + 1) (r + 1 + 1) (omega arith)) root.above);
        least = omega arith;
        most = small;
      }
