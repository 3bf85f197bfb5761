-- Sums, differences and products of floats within bounds are monotone in each argument, since rounding is.
use mathlib.Core.Path.{refl, subst}
use mathlib.Core.Bool.{Bool, true, false}
use Prim.Native.Nat.{ℕ, ◌+◌, ◌-◌, ◌*◌, ◌≤◌}
use native.Mathlib.Nat.{mul-pos, mul-le-mul_right, mul-le-mul_left}
use native.Mathlib.Omega.{arith}
use lib.IntN.{ℤ}
use lib.Ieee.{Float, fin, binary32, up, down, unlike, add, sub, mul, of_bits}
use lib.Ieee.Digits.{back}
use lib.Ieee.Fits.{down_pos}
use lib.Ieee.Positive.{den}
use Rattle.geometry.specs.Bounds.{Within}
use Rattle.geometry.specs.Plane.{zero32}
use Rattle.geometry.proofs.Bounds.{neg_within}
use Rattle.boxes.specs.Order.{Le}
use Rattle.boxes.proofs.Fractions.{plus, less, cross, of_finite, le_cross}
use Rattle.boxes.proofs.Rounding.{Difference, Rounds, rounds_le, sum_rounds, le_neg}

-- ---- the sum
abbrev SumRounds : Float → Float → Type 0
SumRounds x y = Rounds (add binary32 x y) (plus x * den y + plus y * den x) (less x * den y + less y * den x) (den x * den y)

times : (s : Bool) (m : ℕ) (e : ℤ) (k : ℕ) → Difference s (m * up e * k) (plus (fin s m e) * k) (less (fin s m e) * k)
times false m e k = omega arith
times true m e k = omega arith

sum_at : (s : Bool) (m : ℕ) (e : ℤ) (t : Bool) (n : ℕ) (d : ℤ) → SumRounds (fin s m e) (fin t n d)
unfolding add
sum_at s m e t n d =
    let x = fin s m e in
    let y = fin t n d in
    sum_rounds s (m * up e * down d) (plus x * down d) (less x * down d) t (n * up d * down e) (plus y * down e) (less y * down e)
    (mul-pos (down_pos e) (down_pos d)) (times s m e (down d)) (times t n d (down e))

add_rounds : {i j : ℕ} {x y : Float} → Within i x → Within j y → SumRounds x y
add_rounds p q = of_finite SumRounds sum_at p q

module _ {i j k : ℕ} {x y z : Float} (p : Within i x) (q : Within j y) (r : Within k z) (h : Le x y) where
  -- x + z ≤ y + z
  pub add_mono_left : Le (add binary32 x z) (add binary32 y z)
  add_mono_left = rounds_le (add_rounds p r) (add_rounds q r) (omega (arith, mul-le-mul_right (den z * den z) (le_cross p q h)))

  -- z + x ≤ z + y
  pub add_mono : Le (add binary32 z x) (add binary32 z y)
  add_mono = rounds_le (add_rounds r p) (add_rounds r q) (omega (arith, mul-le-mul_right (den z * den z) (le_cross p q h)))

-- ---- the difference
module _ {i j k : ℕ} {x y z : Float} (p : Within i x) (q : Within j y) (r : Within k z) (h : Le x y) where
  -- x - z ≤ y - z
  pub sub_mono_left : Le (sub binary32 x z) (sub binary32 y z)
  unfolding sub
  sub_mono_left = add_mono_left p q (neg_within r) h

  -- z - y ≤ z - x
  pub sub_anti : Le (sub binary32 z y) (sub binary32 z x)
  unfolding sub
  sub_anti = add_mono (neg_within q) (neg_within p) r (le_neg h)

-- ---- the product
abbrev ProductRounds : Float → Float → Type 0
ProductRounds x y = Rounds (mul binary32 x y) (plus x * plus y + less x * less y) (plus x * less y + less x * plus y) (den x * den y)

product : (s : Bool) (m : ℕ) (e : ℤ) (t : Bool) (n : ℕ) (d : ℤ)
    → Difference (unlike s t) (m * up e * (n * up d)) (plus (fin s m e) * plus (fin t n d) + less (fin s m e) * less (fin t n d))
    (plus (fin s m e) * less (fin t n d) + less (fin s m e) * plus (fin t n d))
product false m e false n d = omega arith
product false m e true n d = omega arith
product true m e false n d = omega arith
product true m e true n d = omega arith

product_at : (s : Bool) (m : ℕ) (e : ℤ) (t : Bool) (n : ℕ) (d : ℤ) → ProductRounds (fin s m e) (fin t n d)
unfolding mul
product_at s m e t n d =
    record { sign = unlike s t; size = m * up e * (n * up d); is = refl; value = product s m e t n d; divisor = mul-pos (down_pos e) (down_pos d) }

mul_rounds : {i j : ℕ} {x y : Float} → Within i x → Within j y → ProductRounds x y
mul_rounds p q = of_finite ProductRounds product_at p q

-- the larger factor goes with the larger
crossed : (g v l r : ℕ) → l ≤ r → (g + v) * l + v * r ≤ (g + v) * r + v * l
crossed g v l r h = omega (arith, mul-le-mul_left g h)

rearranged : (u v l r : ℕ) → v ≤ u → l ≤ r → u * l + v * r ≤ u * r + v * l
rearranged u v l r k h = subst (λ (x : ℕ). x * l + v * r ≤ x * r + v * l) (back u v k) (crossed (u - v) v l r h)

pub zero_within : Within 0 zero32
unfolding of_bits
zero_within = record { bound = omega arith }

not_negative : {k : ℕ} {z : Float} → Within k z → Le zero32 z → less z ≤ plus z
unfolding of_bits
not_negative {k} {z} p h = omega (arith, le_cross zero_within p h)

not_positive : {k : ℕ} {z : Float} → Within k z → Le z zero32 → plus z ≤ less z
unfolding of_bits
not_positive {k} {z} p h = omega (arith, le_cross p zero_within h)

module _ {i j k : ℕ} {x y z : Float} (p : Within i x) (q : Within j y) (r : Within k z) (h : Le x y) where
  scaled : Le zero32 z → den z * (plus z * cross x y + less z * cross y x) ≤ den z * (plus z * cross y x + less z * cross x y)
  scaled s = mul-le-mul_left (den z) (rearranged (plus z) (less z) (cross x y) (cross y x) (not_negative r s) (le_cross p q h))

  -- z * x ≤ z * y for z ≥ 0
  pub mul_mono : Le zero32 z → Le (mul binary32 z x) (mul binary32 z y)
  mul_mono s = rounds_le (mul_rounds r p) (mul_rounds r q) (omega (arith, scaled s))

  -- x * z ≤ y * z for z ≥ 0
  pub mul_mono_left : Le zero32 z → Le (mul binary32 x z) (mul binary32 y z)
  mul_mono_left s = rounds_le (mul_rounds p r) (mul_rounds q r) (omega (arith, scaled s))

  -- z * y ≤ z * x for z ≤ 0
  pub mul_anti : Le z zero32 → Le (mul binary32 z y) (mul binary32 z x)
  mul_anti s =
      rounds_le (mul_rounds r q) (mul_rounds r p)
      (omega (arith, mul-le-mul_left (den z) (rearranged (less z) (plus z) (cross x y) (cross y x) (not_positive r s) (le_cross p q h))))
