-- Patterns and floats: a float above zero and finite is the number of its pattern.
use mathlib.Core.Path.{◌≡◌, refl, ap, ◌∙◌}
use mathlib.Core.Bool.{Bool, true, false, not, cond}
use Prim.Native.Nat.{ℕ, zero, suc, ◌+◌, ◌/◌, ◌%◌, ◌^◌, ◌≤◌, ◌<◌}
use native.Mathlib.Nat.{lt_of_le_of_lt, mul-one, mul-div_cancel, mod-eq_of_lt}
use native.Mathlib.Omega.{arith}
use lib.Dec.{T, ltb, eqb}
use lib.Pow.{pow_pos}
use borrow.Author.Tests.{ne_eqb, lt-leb, le-leb, ltb-true, ltb-false}
use lib.Ieee.{Float, nan, inf, fin, binary32, odd, of_fields, of_bits, to_bits, fits, is_nan, nan_bits, down}
use lib.Ieee.Fits.{down_pos}
use lib.Ieee.Bits.{of_bits-to_bits, to_bits-of_bits, nan_bits_is}
use lib.Ieee.Exact.{HasValue, odd_sign}
use lib.Ieee.Positive.{positive, positive_of_value, value_pos}
use Rattle.root.specs.Nearest.{units}
use Rattle.root.specs.Patterns.{value, worth, Pattern}
use Rattle.root.proofs.Values.{value_lt}

-- ---- from a pattern to its float
fields_value : (x t : ℕ) → x < 255 → HasValue (of_fields binary32 false x t) false (worth x t) (2 ^ 149)
unfolding of_fields
fields_value zero t h = rw mul-one at (odd_sign 24 false t 0 149)
fields_value (suc x) t h = rw (ne_eqb (suc x) 255 (λ e. omega arith)) (odd_sign 24 false (8388608 + t) x 149)

unsigned : (b : ℕ) → b < 2147483648 → of_bits binary32 b ≡ of_fields binary32 false (b / 8388608) (b % 8388608)
unfolding of_bits
unsigned b h = rw (lt-leb 2147483648 b h, mod-eq_of_lt h) refl

pattern_value : (b : ℕ) → b < 2139095040 → HasValue (of_bits binary32 b) false (value b) (2 ^ 149)
unfolding value
pattern_value b h = rw (unsigned b (omega arith)) (fields_value (b / 8388608) (b % 8388608) (omega arith))

pub units_of_value : (x : Float) (a : ℕ) → HasValue x false a (2 ^ 149) → units x ≡ a
unfolding units
units_of_value nan a h = absurd h
units_of_value (inf s) a h = absurd h
units_of_value (fin s m e) a h = ap (λ (z : ℕ). z / down e) h.1 ∙ mul-div_cancel a (down_pos e)

pub pattern_units : (b : ℕ) → b < 2139095040 → units (of_bits binary32 b) ≡ value b
pattern_units b h = units_of_value (of_bits binary32 b) (value b) (pattern_value b h)

pub pattern_positive : (b : ℕ) → 1 ≤ b → b < 2139095040 → T (positive (of_bits binary32 b))
pattern_positive b h l = positive_of_value (of_bits binary32 b) (value b) (2 ^ 149) (pattern_value b l) (lt_of_le_of_lt (omega arith) (value_lt 0 b h))

value_no_nan : (x : Float) (a c : ℕ) → HasValue x false a c → T (not (is_nan x))
unfolding is_nan
value_no_nan nan a c h = absurd h
value_no_nan (inf s) a c h = tt
value_no_nan (fin s m e) a c h = tt

pub pattern_no_nan : (b : ℕ) → b < 2139095040 → T (not (nan_bits binary32 b))
pattern_no_nan b h = rw nan_bits_is (value_no_nan (of_bits binary32 b) (value b) (2 ^ 149) (pattern_value b h))

pub pattern_back : (b : ℕ) → b < 2139095040 → to_bits binary32 (of_bits binary32 b) ≡ b
pattern_back b h = to_bits-of_bits binary32 b (omega arith) (value_no_nan (of_bits binary32 b) (value b) (2 ^ 149) (pattern_value b h))

pub positive_no_nan : (x : Float) → T (positive x) → T (not (is_nan x))
unfolding is_nan
positive_no_nan nan p = absurd p
positive_no_nan (inf s) p = tt
positive_no_nan (fin s m e) p = tt

-- ---- the pattern of a float that is above zero and finite
negative : (d q k l : ℕ) → T (positive (odd d true q k l)) → ⊥
unfolding odd
negative d zero k l p = p
negative d (suc q) k l p = p

negative_fields : (x t : ℕ) → T (positive (of_fields binary32 true x t)) → ⊥
unfolding of_fields
negative_fields zero t p = negative 24 t 0 149 p
negative_fields (suc x) t p = go (eqb (suc x) 255) (eqb t 0) p
  where
    go : (a b : Bool) → T (positive (cond a (cond b (inf true) nan) (odd 24 true (8388608 + t) x 149))) → ⊥
    go true true q = q
    go true false q = q
    go false b q = negative 24 (8388608 + t) x 149 q

signed : (b : ℕ) → 2147483648 ≤ b → T (positive (of_bits binary32 b)) → ⊥
unfolding of_bits
signed b h p = negative_fields (b % 2147483648 / 8388608) (b % 8388608) (rw (le-leb 2147483648 b h) at p)

last_field : (t : ℕ) → T (positive (of_fields binary32 false 255 t)) → ⊥
unfolding of_fields
last_field t p = go (eqb t 0) p
  where
    go : (b : Bool) → T (positive (cond b (inf false) nan)) → ⊥
    go true q = q
    go false q = q

unbounded : (b : ℕ) → 2139095040 ≤ b → b < 2147483648 → T (positive (of_bits binary32 b)) → ⊥
unbounded b l h p =
    let e : b / 8388608 ≡ 255 = omega arith in
    last_field (b % 8388608) (rw e at (rw (unsigned b h) at p))

bounded : (b : ℕ) → T (positive (of_bits binary32 b)) → b < 2139095040
bounded b p = go (ltb b 2139095040) refl (ltb b 2147483648) refl
  where
    go : (s : Bool) → ltb b 2139095040 ≡ s → (t : Bool) → ltb b 2147483648 ≡ t → b < 2139095040
    go true e t f = ltb-true b 2139095040 e
    go false e true f = absurd (unbounded b (ltb-false b 2139095040 e) (ltb-true b 2147483648 f) p)
    go false e false f = absurd (signed b (ltb-false b 2147483648 f) p)

some_pattern : (b : ℕ) → 0 < value b → 1 ≤ b
unfolding value
some_pattern zero h = h
some_pattern (suc b) h = omega arith

module _ (x : Float) (F : T (fits binary32 x)) (p : T (positive x)) where
  pub pattern_of : Pattern (to_bits binary32 x)
  pattern_of =
      let b = to_bits binary32 x in
      let q : T (positive (of_bits binary32 b)) = rw (of_bits-to_bits binary32 x F) p in
      let l : b < 2139095040 = bounded b q in
      record { some = some_pattern b (value_pos (of_bits binary32 b) (value b) (2 ^ 149) q (pow_pos 149) (pattern_value b l)); finite = l }

  pub value_of : HasValue x false (value (to_bits binary32 x)) (2 ^ 149)
  value_of = rw (of_bits-to_bits binary32 x F) at (pattern_value (to_bits binary32 x) pattern_of.finite)

  pub units_of : units x ≡ value (to_bits binary32 x)
  units_of = units_of_value x (value (to_bits binary32 x)) value_of
