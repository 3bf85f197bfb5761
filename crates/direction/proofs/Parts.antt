-- Two bounds on rounding, whatever the format, in units of its smallest value: by how much it adds, and a square against a sum that it is part of.
use Prim.Native.Nat.{ℕ, zero, suc, ◌+◌, ◌-◌, ◌*◌, ◌/◌, ◌%◌, ◌^◌, ◌≤◌, ◌<◌, compare}
use mathlib.Core.Path.{sym}
use native.Mathlib.Nat.{le_trans, le_of_eq, lt_of_le_of_lt, lt_of_lt_of_le, lt_of_not-le, not-le_of_lt, mul-le-mul_right, mul-pos, div-mul-le_self, le-div_iff_mul-le, lt_of_mul-lt-mul_right, pow-suc}
use native.Mathlib.Omega.{arith}
use lib.Pow.{pow-add, pow_pos, pow_mono}
use lib.Ieee.{Float, Format, prec, low, size}
use lib.Ieee.Digits.{size-lt, size_reaches}
use lib.Ieee.Fits.{two, nearest-le}
use lib.Ieee.Nearest.{closest}
use lib.Ieee.Scale.{grid}
use lib.Ieee.Positive.{num, den, den_pos}
use Rattle.geometry.proofs.Units.{grid_under, square}

module _ (f : Format) where
  -- of a number that is not subnormal, rounding adds at most one part in 2 ^ (prec - 1)
  pub grid_near : (a c : ℕ) → 0 < c → 2 ^ (prec f - 1) * c ≤ a * 2 ^ low f → grid f a c * c * 2 ^ (prec f - 1) ≤ a * 2 ^ low f * (2 ^ (prec f - 1) + 1)
  grid_near a c C h =
      let n = a * 2 ^ low f in
      let p : 2 ≤ prec f = two f in
      let z = size (n / c) in
      let d = z - prec f in
      let t = 2 ^ (prec f - 1) in
      let u = c * 2 ^ d in
      let w = n / u in
      let large : prec f ≤ z = reaches z (λ (k : z ≤ prec f - 1). not-le_of_lt (lt_of_lt_of_le (size-lt (n / c)) (pow_mono k)) ((le-div_iff_mul-le C).1 h)) in
      let leading : t * 2 ^ d ≤ n / c = le_trans (le_of_eq (sym (pow-add 2 (prec f - 1) d))) (size_reaches (n / c) (prec f - 1 + d) (omega arith)) in
      let part : t * 2 ^ d * c ≤ n = (le-div_iff_mul-le C).0 leading in
      let up : closest n u ≤ suc w = nearest-le w (compare (n % u * 2) u) in
      let floor : w * u ≤ n = div-mul-le_self n u in
      total (closest n u) w t (2 ^ d) c n up floor part
    where
      reaches : (z : ℕ) → (z ≤ prec f - 1 → ⊥) → prec f ≤ z
      reaches z k = let p : 2 ≤ prec f = two f in omega (arith, lt_of_not-le k)

      total : (q w t s c n : ℕ) → q ≤ suc w → w * (c * s) ≤ n → t * s * c ≤ n → q * s * c * t ≤ n * (t + 1)
      total q w t s c n h k l = omega (arith, mul-le-mul_right (s * c * t) h, mul-le-mul_right t k)

  -- x * x is less than twice a sum that it is part of, as rounded: rounding keeps the leading digit, of the square and of the sum
  pub part_under : (x : Float) (both : ℕ) → square f x ≤ both → 0 < grid f both (2 ^ low f)
      → num x * num x * 2 ^ low f < 2 * grid f both (2 ^ low f) * (den x * den x)
  part_under x both h some = go (size g) (size-lt g) (size_reaches g)
    where
      g : ℕ
      g = grid f both (2 ^ low f)

      go : (z : ℕ) → g < 2 ^ z → ((i : ℕ) → i < z → 2 ^ i ≤ g) → num x * num x * 2 ^ low f < 2 * g * (den x * den x)
      go zero l least = absurd (not-le_of_lt l some)
      go (suc i) l least =
          let less : both < 2 ^ suc i = lt_of_mul-lt-mul_right (2 ^ low f) (grid_under f both (2 ^ low f) (suc i) (pow_pos (low f)) l) in
          let under : num x * num x * 2 ^ low f < 2 ^ suc i * (den x * den x) =
          grid_under f (num x * num x) (den x * den x) (suc i) (mul-pos (den_pos x) (den_pos x)) (lt_of_le_of_lt h less) in
          let twice : 2 ^ suc i ≤ 2 * g = omega (arith, pow-suc 2 i, least i (omega arith)) in
          lt_of_lt_of_le under (mul-le-mul_right (den x * den x) twice)
