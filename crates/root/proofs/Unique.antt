-- The nearest root of a float above zero and finite: there is one, and one alone, and no other f32 is closer. `root_of` is it.
use mathlib.Core.Path.{◌≡◌, refl, sym, ap, ◌∙◌, subst}
use mathlib.Core.Logic.{◌⊎◌, inl, inr}
use mathlib.Core.Bool.{Bool, true, false, ◌&&◌, ◌||◌}
use Prim.Native.Nat.{ℕ, suc, ◌+◌, ◌-◌, ◌*◌, ◌%◌, ◌^◌, ◌≤◌, ◌<◌}
use native.Mathlib.Nat.{le_trans, le_of_eq, le_of_lt, lt_irrefl, lt_of_le_of_lt, lt_of_lt_of_le, eq-or-lt_of_le, mul-le-mul_left, mul-le-mul_right}
use native.Mathlib.Omega.{arith}
use lib.Dec.{T, eqb, ltb, eqb→eq, ltb→lt, lt→ltb}
use borrow.Author.Tests.{eq-eqb, ltb-true, ltb-false}
use lib.Ieee.{Float, binary32, of_bits, to_bits, fits}
use lib.Ieee.Bits.{of_bits-to_bits, of_bits-fits}
use lib.Ieee.Fits.{and_i, and_l, and_r}
use lib.Ieee.Positive.{positive}
use Rattle.root.specs.Nearest.{units, before, after, midpoint_square, number, is_even, below, is_nearest_root, first_passing, root_of}
use Rattle.root.specs.Patterns.{value, RootPattern}
use Rattle.root.proofs.Values.{value_lt, value_le}
use Rattle.root.proofs.Rounding.{square_lt}
use Rattle.root.proofs.Floats.{pattern_of, units_of, pattern_units, pattern_positive, pattern_back}
use Rattle.root.proofs.FirstPassing.{First, first_passing_lem}
use Rattle.root.proofs.Midpoints.{square, square_le, NearestPattern, strictly_between, one_pattern, somewhere, normal, not_large}

-- ---- the test `below`
or_cases : (s t : Bool) → T (s || t) → T s ⊎ T t
or_cases true t h = inl h
or_cases false t h = inr h

or_left : (s t : Bool) → T s → T (s || t)
or_left true t h = h
or_left false t h = absurd h

or_right : (s t : Bool) → T t → T (s || t)
or_right true t h = tt
or_right false t h = h

module _ (a b : ℕ) (tie : Bool) where
  below_le : T (below a b tie) → a ≤ b
  below_le h = go (or_cases (ltb a b) (eqb a b && tie) h)
    where
      go : T (ltb a b) ⊎ T (eqb a b && tie) → a ≤ b
      go (inl l) = le_of_lt (ltb→lt a b l)
      go (inr e) = le_of_eq (eqb→eq a b (and_l (eqb a b) tie e))

  below_tie : T (below a b tie) → a ≡ b → T tie
  below_tie h s = go (or_cases (ltb a b) (eqb a b && tie) h)
    where
      go : T (ltb a b) ⊎ T (eqb a b && tie) → T tie
      go (inl l) = absurd (lt_irrefl b (subst (λ (z : ℕ). z < b) s (ltb→lt a b l)))
      go (inr e) = and_r (eqb a b) tie e

  below_of : a ≤ b → (a ≡ b → T tie) → T (below a b tie)
  below_of h f = go (eq-or-lt_of_le h)
    where
      go : (a ≡ b) ⊎ (a < b) → T (below a b tie)
      go (inl e) = or_right (ltb a b) (eqb a b && tie) (and_i (eqb a b) tie (subst T (sym (eq-eqb a b e)) tt) (f e))
      go (inr l) = or_left (ltb a b) (eqb a b && tie) (lt→ltb a b l)

-- ---- the test `is_nearest_root` in its two parts
module _ (x r : Float) where
  abbrev low_part : Bool
  low_part = below (midpoint_square (before r) r) (number x) (is_even r)

  abbrev high_part : Bool
  high_part = below (number x) (midpoint_square r (after r)) (is_even r)

  nearest_low : T (is_nearest_root x r) → T low_part
  unfolding is_nearest_root
  nearest_low h = and_l low_part high_part h

  nearest_high : T (is_nearest_root x r) → T high_part
  unfolding is_nearest_root
  nearest_high h = and_r low_part high_part h

  nearest_of : T low_part → T high_part → T (is_nearest_root x r)
  unfolding is_nearest_root
  nearest_of l h = and_i low_part high_part l h

  root_above : T (is_nearest_root x r) → midpoint_square (before r) r ≤ number x
  root_above h = below_le (midpoint_square (before r) r) (number x) (is_even r) (nearest_low h)

  root_below : T (is_nearest_root x r) → number x ≤ midpoint_square r (after r)
  root_below h = below_le (number x) (midpoint_square r (after r)) (is_even r) (nearest_high h)

-- ---- the test on floats is the one on patterns
infinite : units (of_bits binary32 2139095040) ≡ 0
unfolding units of_bits
infinite = refl

module _ (x r : Float) (F : T (fits binary32 r)) (p : T (positive r)) where
  low_square : midpoint_square (before r) r ≡ square (to_bits binary32 r - 1) (to_bits binary32 r)
  low_square =
      let lo : units (before r) ≡ value (to_bits binary32 r - 1) = pattern_units (to_bits binary32 r - 1) (omega (arith, (pattern_of r F p).finite)) in
      rw (lo, units_of r F p) refl

  high_square : to_bits binary32 r < 2139095039 → midpoint_square r (after r) ≡ square (to_bits binary32 r) (to_bits binary32 r + 1)
  high_square h =
      let hi : units (after r) ≡ value (to_bits binary32 r + 1) = pattern_units (to_bits binary32 r + 1) (omega arith) in
      rw (hi, units_of r F p) refl

  -- after the largest f32 the units are 0, and that midpoint lies below the one before it
  below_largest : T (is_nearest_root x r) → to_bits binary32 r < 2139095039
  below_largest h = go (eq-or-lt_of_le (pattern_of r F p).finite)
    where
      smaller : (v w : ℕ) → 0 < w → (v + 0) * (v + 0) < (w + v) * (w + v)
      smaller v w l = square_lt (v + 0) (w + v) (omega arith)

      go : (suc (to_bits binary32 r) ≡ 2139095040) ⊎ (suc (to_bits binary32 r) < 2139095040) → to_bits binary32 r < 2139095039
      go (inr l) = omega arith
      go (inl e) =
          let last : to_bits binary32 r + 1 ≡ 2139095040 = omega arith in
          let hi : units (after r) ≡ 0 = ap (λ (z : ℕ). units (of_bits binary32 z)) last ∙ infinite in
          let lo : units (before r) ≡ value (to_bits binary32 r - 1) = pattern_units (to_bits binary32 r - 1) (omega arith) in
          let some : 0 < units (before r) = rw lo (lt_of_le_of_lt (omega arith) (value_lt 0 (to_bits binary32 r - 1) (omega arith))) in
          absurd
          (lt_irrefl (number x)
          (lt_of_le_of_lt (rw hi at (root_below x r h)) (lt_of_lt_of_le (smaller (units r) (units (before r)) some) (root_above x r h))))

  to_pattern : T (is_nearest_root x r) → NearestPattern (number x) (to_bits binary32 r)
  to_pattern h =
      let hi = high_square (below_largest h) in
      let even : T (is_even r) → to_bits binary32 r % 2 ≡ 0 = eqb→eq (to_bits binary32 r % 2) 0 in
      record {
        low = le_trans (le_of_eq (sym low_square)) (root_above x r h);
        high = le_trans (root_below x r h) (le_of_eq hi);
        low_tie = λ e. even (below_tie (midpoint_square (before r) r) (number x) (is_even r) (nearest_low x r h) (low_square ∙ e));
        high_tie = λ e. even (below_tie (number x) (midpoint_square r (after r)) (is_even r) (nearest_high x r h) (e ∙ sym hi));
      }

  of_pattern : to_bits binary32 r < 2139095039 → NearestPattern (number x) (to_bits binary32 r) → T (is_nearest_root x r)
  of_pattern l h =
      let hi = high_square l in
      let even : to_bits binary32 r % 2 ≡ 0 → T (is_even r) = λ e. subst T (sym (eq-eqb (to_bits binary32 r % 2) 0 e)) tt in
      nearest_of x r
      (below_of (midpoint_square (before r) r) (number x) (is_even r) (le_trans (le_of_eq low_square) h.low) (λ e. even (h.low_tie (sym low_square ∙ e))))
      (below_of (number x) (midpoint_square r (after r)) (is_even r) (le_trans h.high (le_of_eq (sym hi))) (λ e. even (h.high_tie (e ∙ hi))))

-- the same of a pattern's float
pattern_nearest : (x : Float) (b : ℕ) → 1 ≤ b → b < 2139095039 → NearestPattern (number x) b → T (is_nearest_root x (of_bits binary32 b))
pattern_nearest x b s l h =
    let back : to_bits binary32 (of_bits binary32 b) ≡ b = pattern_back b (omega arith) in
    of_pattern x (of_bits binary32 b) (of_bits-fits binary32 b) (pattern_positive b s (omega arith)) (rw back l) (rw back h)

-- ---- one alone, and no other is closer
pub unique : (x r s : Float) → T (fits binary32 r) → T (positive r) → T (fits binary32 s) → T (positive s)
    → T (is_nearest_root x r) → T (is_nearest_root x s) → r ≡ s
unique x r s F p G q h k =
    sym (of_bits-to_bits binary32 r F)
    ∙ ap (of_bits binary32) (one_pattern (number x) (to_bits binary32 r) (to_bits binary32 s) (to_pattern x r F p h) (to_pattern x s G q k))
    ∙ of_bits-to_bits binary32 s G

in_order : (b c : ℕ) → value b < value c → b < c
in_order b c l = go (ltb b c) refl
  where
    go : (s : Bool) → ltb b c ≡ s → b < c
    go true e = ltb-true b c e
    go false e = absurd (lt_irrefl (value b) (lt_of_lt_of_le l (value_le c b (ltb-false b c e))))

-- Of a smaller y: the root is at or past the midpoint of y and r, so r is as close or closer. Of a larger y: at or before it.
module _ (x r y : Float) (F : T (fits binary32 r)) (p : T (positive r)) (G : T (fits binary32 y)) (q : T (positive y)) (h : T (is_nearest_root x r)) where
  pub closest_below : units y < units r → midpoint_square y r ≤ number x
  closest_below l =
      let b = to_bits binary32 r in
      let c = to_bits binary32 y in
      let k : c < b = in_order c b (rw (units_of y G q, units_of r F p) at l) in
      rw (units_of y G q, units_of r F p) (le_trans (square_le c b (b - 1) b (omega arith) (omega arith)) (to_pattern x r F p h).low)

  pub closest_above : units r < units y → number x ≤ midpoint_square r y
  closest_above l =
      let b = to_bits binary32 r in
      let c = to_bits binary32 y in
      let k : b < c = in_order b c (rw (units_of r F p, units_of y G q) at l) in
      rw (units_of r F p, units_of y G q) (le_trans (to_pattern x r F p h).high (square_le b (b + 1) b c (omega arith) (omega arith)))

-- ---- `root_of` finds it. Only `found_by` opens `root_of`.
abbrev passes : Float → ℕ → Bool
passes x b = is_nearest_root x (of_bits binary32 b)

found_by : (x : Float) → root_of x ≡ of_bits binary32 (first_passing (passes x) 1 2139095039)
unfolding root_of
found_by x = refl

-- what is known of `root_of x` where some pattern passes
record Found (x r : Float) : Type 0 where
  held : T (fits binary32 r)
  above_zero : T (positive r)
  nearest : T (is_nearest_root x r)

pattern_found : (x : Float) (b : ℕ) → 1 ≤ b → b < 2139095040 → T (is_nearest_root x (of_bits binary32 b)) → Found x (root_of x)
pattern_found x b s l h = rw found_by (go (first_passing (passes x) 1 2139095039) (first_passing_lem (passes x) 1 2139095039 b s (omega arith) h))
  where
    go : (f : ℕ) → First (passes x) 1 b f → Found x (of_bits binary32 f)
    go f k = record { held = of_bits-fits binary32 f; above_zero = pattern_positive f k.least (omega (arith, k.most)); nearest = k.passes }

pub root_is : (x r : Float) → T (fits binary32 r) → T (positive r) → T (is_nearest_root x r) → r ≡ root_of x
root_is x r F p h =
    let P = pattern_of r F p in
    let k : Found x (root_of x) = pattern_found x (to_bits binary32 r) P.some P.finite (rw (of_bits-to_bits binary32 r F) h) in
    unique x r (root_of x) F p k.held k.above_zero h k.nearest

-- what the crate above uses of a root: it is normal and at most 2 ^ 64, and the number lies between the midpoints beside it
pub record RootFacts (x r : Float) : Type 0 where
  pub held : T (fits binary32 r)
  pub above_zero : T (positive r)
  pub least : 8388608 ≤ to_bits binary32 r
  pub most : to_bits binary32 r ≤ 1602224128
  pub low : midpoint_square (before r) r ≤ number x
  pub high : number x ≤ midpoint_square r (after r)

module _ (x : Float) (F : T (fits binary32 x)) (p : T (positive x)) where
  some : 4 * (1 * 2 ^ 149) ≤ number x
  some =
      let v : 1 ≤ value (to_bits binary32 x) = lt_of_le_of_lt (omega arith) (value_lt 0 (to_bits binary32 x) (pattern_of x F p).some) in
      rw (units_of x F p) (mul-le-mul_left 4 (mul-le-mul_right (2 ^ 149) v))

  finite : number x ≤ 4 * (value 2139095039 * 2 ^ 149)
  finite =
      let v : value (to_bits binary32 x) ≤ value 2139095039 = value_le (to_bits binary32 x) 2139095039 (omega (arith, (pattern_of x F p).finite)) in
      rw (units_of x F p) (mul-le-mul_left 4 (mul-le-mul_right (2 ^ 149) v))

  root_found : Found x (root_of x)
  root_found =
      let w = somewhere (number x) some finite in
      let l : 8388608 ≤ w.b = normal (number x) some finite w.b w.nearest in
      let m : w.b ≤ 1602224128 = not_large (number x) some finite w.b w.nearest in
      pattern_found x w.b (omega arith) (omega arith) (pattern_nearest x w.b (omega arith) (omega arith) w.nearest)

  pub root_nearest : T (is_nearest_root x (root_of x))
  root_nearest = root_found.nearest

  pub root_facts : RootFacts x (root_of x)
  root_facts =
      let k = root_found in
      let P = to_pattern x (root_of x) k.held k.above_zero k.nearest in
      record {
        held = k.held;
        above_zero = k.above_zero;
        least = normal (number x) some finite (to_bits binary32 (root_of x)) P;
        most = not_large (number x) some finite (to_bits binary32 (root_of x)) P;
        low = root_above x (root_of x) k.nearest;
        high = root_below x (root_of x) k.nearest;
      }

  -- what `sqrt` returns
  pub pattern_root : (r : ℕ) → RootPattern (to_bits binary32 x) r → of_bits binary32 r ≡ root_of x
  pattern_root r h =
      let n : number x ≡ 4 * (value (to_bits binary32 x) * 2 ^ 149) = ap (λ (z : ℕ). 4 * (z * 2 ^ 149)) (units_of x F p) in
      let k : NearestPattern (number x) r = rw n (strictly_between (4 * (value (to_bits binary32 x) * 2 ^ 149)) r h.low h.high) in
      let s : 1 ≤ r = omega (arith, h.least) in
      let l : r < 2139095039 = omega (arith, h.most) in
      root_is x (of_bits binary32 r) (of_bits-fits binary32 r) (pattern_positive r s (omega arith)) (pattern_nearest x r s l k)
