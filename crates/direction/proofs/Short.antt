-- The direction's parts are at most 2 in size, however near the points are. All in units of 2 ^ -149, with u = 2 ^ 149 of them to 1: g is the
-- squared distance's number, v the length's, w that of the next f32, and k the inverse's.
use mathlib.Core.Path.{◌≡◌, refl, sym, ap, ◌∙◌}
use Prim.Native.Nat.{ℕ, zero, suc, ◌+◌, ◌*◌, ◌^◌, ◌≤◌, ◌<◌}
use native.Mathlib.Nat.{le_trans, le_of_eq, le_of_lt, lt_of_le_of_lt, lt_of_lt_of_le, lt_of_not-le, not-le_of_lt, mul-one, one-mul, mul-le-mul, mul-le-mul_left, mul-le-mul_right, mul-lt-mul_of_pos_right, le_of_mul-le-mul_right, mul-pos, zero-mul}
use native.Mathlib.Omega.{arith}
use mathlib.Core.Bool.{Bool, true, false, true≢false}
use lib.Dec.{T, lit<, lit≤, lt→ltb, ltb→lt}
use lib.Pow.{pow_pos, pow-lt}
use borrow.Author.Tests.{ne_eqb, eq-eqb}
use lib.IntN.{ℤ}
use lib.Ieee.{Float, nan, inf, fin, binary32, up, down, round, eq, div, of_bits, to_bits}
use lib.Ieee.Fits.{up_pos, add-fits}
use lib.Ieee.Exact.{HasValue}
use lib.Ieee.Scale.{grid, finite, round_same}
use lib.Ieee.Positive.{num, den, den_pos, positive, value_pos, value→cross, first_pos}
use Rattle.geometry.specs.declared.Vec2.{Vec2}
use Rattle.geometry.specs.Plane.{zero32, sub_of}
use Rattle.geometry.specs.Bounds.{Within, PointWithin}
use Rattle.geometry.proofs.Bounds.{held, by_test, sub_within, neg_within, widen}
use Rattle.geometry.proofs.Units.{fraction, grid_most, round_value, round_power, mul_as, square, dot_units, dot_value}
use Rattle.root.specs.Nearest.{root_of}
use Rattle.root.specs.Patterns.{value}
use Rattle.root.proofs.Values.{value_le, value_next}
use Rattle.root.proofs.Floats.{value_of, units_of_value, pattern_units}
use Rattle.root.proofs.Unique.{RootFacts, root_facts}
use Rattle.direction.specs.Direction.{one32, way_from, squared_distance, turned, turned_by, direction_of}
use Rattle.direction.proofs.Parts.{grid_near, part_under}

-- ---- on whole numbers
root_le : (a b : ℕ) → a * a ≤ b * b → a ≤ b
root_le a b h = go (λ l. not-le_of_lt (lt_of_le_of_lt (mul-le-mul_left b (le_of_lt l)) (mul-lt-mul_of_pos_right l (omega arith))) h)
  where
    go : (b < a → ⊥) → a ≤ b
    go f = omega (arith, lt_of_not-le f)

-- x = n / d is at most 9 / 5 of the length
part_of_length : (n d g v w u : ℕ) → n * n * u < 2 * g * (d * d) → 4 * (g * u) ≤ (v + w) * (v + w) → 4 * w ≤ 5 * v → 5 * (n * u) ≤ 9 * (v * d)
part_of_length n d g v w u h k l =
    let m : 4 * (v + w) ≤ 9 * v = omega arith in
    let a : 4 * (v + w) * (4 * (v + w)) ≤ 9 * v * (9 * v) = mul-le-mul m m in
    let b : 64 * (g * u) ≤ 81 * (v * v) = omega arith in
    let c : n * n * u * u ≤ 2 * g * (d * d) * u = mul-le-mul_right u (le_of_lt h) in
    let e : 64 * (g * u) * (d * d) ≤ 81 * (v * v) * (d * d) = mul-le-mul_right (d * d) b in
    root_le (5 * (n * u)) (9 * (v * d)) (omega (arith, c, e))

-- the length is n / d, v units: its inverse is not subnormal, is at most 10 / 9 of the true one, and is finite
not_small : (n d v u : ℕ) → 0 < u → n * u ≡ v * d → 8388608 * v ≤ u * u → 8388608 * n ≤ d * u
not_small n d v u U e h = le_of_mul-le-mul_right (omega (arith, ap (λ (z : ℕ). 8388608 * z) e, mul-le-mul_right d h)) U

inverse_units : (n d v k u : ℕ) → 0 < d → n * u ≡ v * d → k * n * 8388608 ≤ d * u * 8388609 → 9 * (k * v) ≤ 10 * (u * u)
inverse_units n d v k u D e h =
    let a : 8388608 * (k * v) * d ≤ 8388609 * (u * u) * d = omega (arith, mul-le-mul_right u h, ap (λ (z : ℕ). k * z * 8388608) e) in
    omega (arith, le_of_mul-le-mul_right a D)

not_large : (n d v t s u c : ℕ) → u ≡ t * s → c ≡ s * u → 0 < t → n * u ≡ v * d → t ≤ v → d * u ≤ c * n
not_large n d v t s u c e f P h l =
    let a : t * d ≤ n * (t * s) = le_trans (mul-le-mul_right d l) (le_of_eq (sym h ∙ ap (λ (z : ℕ). n * z) e)) in
    let b : d * t ≤ n * s * t = omega (arith, a) in
    le_trans (mul-le-mul_right u (le_of_mul-le-mul_right b P)) (le_of_eq (rw f (omega arith)))

product_units : (n d v k u : ℕ) → 0 < u → 5 * (n * u) ≤ 9 * (v * d) → 9 * (k * v) ≤ 10 * (u * u) → n * k ≤ 2 * (u * d)
product_units n d v k u U h l =
    let a : n * k * u ≤ 2 * (u * d) * u = omega (arith, mul-le-mul_right k h, mul-le-mul_right d l) in
    le_of_mul-le-mul_right a U

product : (n d a c k u : ℕ) → 0 < u → a * u ≡ k * c → n * k ≤ 2 * (u * d) → n * a ≤ 2 * (d * c)
product n d a c k u U e h = le_of_mul-le-mul_right (omega (arith, ap (λ (z : ℕ). n * z) e, mul-le-mul_right c h)) U

-- ---- on floats
first_normal : 8388608 ≤ value 8388608
unfolding value
first_normal = lit≤ tt

largest_root : 8388608 * value 1602224128 ≤ 2 ^ 149 * 2 ^ 149
unfolding value
largest_root = lit≤ tt

value_finite : (x : Float) (s : Bool) (a c : ℕ) → HasValue x s a c → T (finite x)
value_finite nan s a c h = absurd h
value_finite (inf t) s a c h = absurd h
value_finite (fin t m e) s a c h = tt

-- a number that is not negative, and not 0
zero_level : (x : ℤ) → eq (fin false 0 x) zero32 ≡ true
unfolding eq of_bits
zero_level x = simp (eq-eqb (0 * up x * 1) (0 * down x) (omega (arith, zero-mul (up x), zero-mul (down x))))

positive_apart : (d : Float) (a c : ℕ) → HasValue d false a c → eq d zero32 ≡ false → T (positive d)
positive_apart nan a c h e = absurd h
positive_apart (inf s) a c h e = absurd h
positive_apart (fin true m x) a c h e = absurd (true≢false h.0)
positive_apart (fin false zero x) a c h e = absurd (true≢false (sym (zero_level x) ∙ e))
positive_apart (fin false (suc m) x) a c h e = lt→ltb 0 (suc m) (omega arith)

divided : (l : Float) → T (positive l) → div binary32 one32 l ≡ round binary32 false (den l) (num l)
unfolding div of_bits
divided nan p = absurd p
divided (inf s) p = absurd p
divided (fin true n e) p = absurd p
divided (fin false n e) p =
    let N : 0 < n = ltb→lt 0 n p in
    rw (ne_eqb n 0 (λ z. omega arith))
    (round_same binary32 false (1 * down e) (n * up e * 1) (down e) (n * up e) (rw mul-one (mul-pos N (up_pos e))) (mul-pos N (up_pos e))
    (rw (one-mul, mul-one) refl))

-- l is the nearest root of d, which has g units, and x is one of the two parts
module _ (x d l : Float) (g : ℕ) (X : T (finite x)) (G : HasValue d false g (2 ^ 149)) (part : num x * num x * 2 ^ 149 < 2 * g * (den x * den x))
    (root : RootFacts d l) where
  v : ℕ
  v = value (to_bits binary32 l)

  length_value : HasValue l false v (2 ^ 149)
  unfolding v
  length_value = value_of l root.held root.above_zero

  least : 8388608 ≤ v
  unfolding v
  least = le_trans first_normal (value_le 8388608 (to_bits binary32 l) root.least)

  most : 8388608 * v ≤ 2 ^ 149 * 2 ^ 149
  unfolding v
  most = le_trans (mul-le-mul_left 8388608 (value_le (to_bits binary32 l) 1602224128 root.most)) largest_root

  cross : num l * 2 ^ 149 ≡ v * den l
  cross = value→cross l v (2 ^ 149) length_value

  length_pos : 0 < num l
  length_pos = first_pos (num l) (2 ^ 149) (rw cross (mul-pos (lt_of_lt_of_le (lit< tt) least) (den_pos l)))

  k : ℕ
  k = grid binary32 (den l) (num l)

  inverse : 9 * (k * v) ≤ 10 * (2 ^ 149 * 2 ^ 149)
  unfolding k
  inverse =
      inverse_units (num l) (den l) v k (2 ^ 149) (den_pos l) cross
      (grid_near binary32 (den l) (num l) length_pos (not_small (num l) (den l) v (2 ^ 149) (pow_pos 149) cross most))

  inverse_value : HasValue (div binary32 one32 l) false k (2 ^ 149)
  unfolding k
  inverse_value =
      rw (divided l root.above_zero)
      (round_value binary32 false (den l) (num l)
      (lt_of_le_of_lt (grid_most binary32 (den l) (num l) 275 length_pos (not_large (num l) (den l) v 8388608 (2 ^ 126) (2 ^ 149) (2 ^ 275) refl refl (lit< tt) cross least))
      (pow-lt {i = 275} {j = 277} (lit< tt))))

  near : 4 * (g * 2 ^ 149) ≤ (v + value (to_bits binary32 l + 1)) * (v + value (to_bits binary32 l + 1))
  unfolding v
  near =
      rw (units_of_value d g G, units_of_value l v length_value, pattern_units (to_bits binary32 l + 1) (omega (arith, root.most))) at root.high

  next : 4 * value (to_bits binary32 l + 1) ≤ 5 * v
  unfolding v
  next = value_next (to_bits binary32 l) root.least

  turned_within : Within 2 (turned x l)
  turned_within =
      let i = div binary32 one32 l in
      let w = value (to_bits binary32 l + 1) in
      let a : 5 * (num x * 2 ^ 149) ≤ 9 * (v * den x) = part_of_length (num x) (den x) g v w (2 ^ 149) part near next in
      let b : num x * k ≤ 2 * (2 ^ 149 * den x) = product_units (num x) (den x) v k (2 ^ 149) (pow_pos 149) a inverse in
      neg_within
      (mul_as binary32 (Within 2) x i X (value_finite i false k (2 ^ 149) inverse_value)
      (λ s. round_power binary32 s (num x * num i) (den x * den i) 1 (mul-pos (den_pos x) (den_pos i)) (lit< tt)
      (product (num x) (den x) (num i) (den i) k (2 ^ 149) (pow_pos 149) (value→cross i k (2 ^ 149) inverse_value) b)))

-- ---- on points
module _ (p towards : Vec2) (P : PointWithin 1000000 p) (Q : PointWithin 1000000 towards) (apart : eq (squared_distance p towards) zero32 ≡ false) where
  way : Vec2
  way = way_from p towards

  way_within : PointWithin 2000000 way
  unfolding held way
  way_within =
      record {
        x = sub_within (by_test 2000000 tt) (omega arith) P.x Q.x;
        y = sub_within (by_test 2000000 tt) (omega arith) P.y Q.y;
      }

  squared_units : ℕ
  squared_units = dot_units binary32 way.x way.y

  squared_value : HasValue (squared_distance p towards) false squared_units (2 ^ 149)
  unfolding squared_distance way squared_units
  squared_value = dot_value binary32 {x = way.x} {y = way.y} 21 (lit< tt) (widen (lit≤ tt) way_within.x) (widen (lit≤ tt) way_within.y)

  pub squared_positive : T (positive (squared_distance p towards))
  squared_positive = positive_apart (squared_distance p towards) squared_units (2 ^ 149) squared_value apart

  some : 0 < squared_units
  some = value_pos (squared_distance p towards) squared_units (2 ^ 149) squared_positive (pow_pos 149) squared_value

  length_facts : RootFacts (squared_distance p towards) (root_of (squared_distance p towards))
  unfolding squared_distance
  length_facts = root_facts (squared_distance p towards) (add-fits binary32 _ _) squared_positive

  pub direction_within : PointWithin 2 (direction_of p towards)
  unfolding direction_of squared_units way
  direction_within =
      let d = squared_distance p towards in
      let both = square binary32 way.x + square binary32 way.y in
      record {
        x = turned_within way.x d (root_of d) squared_units (fraction way_within.x).0 squared_value (part_under binary32 way.x both (omega arith) some) length_facts;
        y = turned_within way.y d (root_of d) squared_units (fraction way_within.y).0 squared_value (part_under binary32 way.y both (omega arith) some) length_facts;
      }

  -- ---- `direction_towards`
  pub towards_positive : {squared : Float} → squared ≡ squared_distance p towards → T (positive squared)
  towards_positive e = rw e squared_positive

  module _ {v : Vec2} {squared length : Float} (way-is : v ≡ sub_of p towards) (squared-of : squared ≡ squared_distance p towards) (length-is : length ≡ root_of squared) where
    pub towards_is : turned_by v length ≡ direction_of p towards
    unfolding direction_of
    towards_is = rw (way-is, length-is, squared-of)

    pub towards_within : PointWithin 2 (turned_by v length)
    towards_within = rw towards_is direction_within
