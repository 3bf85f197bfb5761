-- Two comparisons, with -1,000,000 and with 1,000,000, ask what question 16 asks, of every float: a NaN fails both, and each infinity one.
use Prim.Native.Nat.{ℕ, ◌+◌, ◌*◌}
use mathlib.Core.Path.{◌≡◌, refl, sym, ◌∙◌}
use mathlib.Core.Bool.{Bool, true, false, ◌&&◌, ◌||◌, and-true}
use mathlib.Core.Logic.{⊎_elim}
use native.Mathlib.Omega.{arith}
use native.Mathlib.Nat.{mul-one}
use lib.Dec.{ltb, leb}
use lib.IntN.{ℤ}
use lib.Ieee.{Float, nan, inf, fin, up, down, binary32, of_bits, neg, lt, le, eq}
use lib.Ieee.Fits.{down_pos}
use borrow.Author.Tests.{lt-ltb, le-ltb, le-leb, lt-leb, eq-eqb, ne_eqb}
use Rattle.ship.specs.Floats.{size_at_most, in_size}
use Rattle.words.proofs.Collecting.{three}

abbrev million : Float
million = of_bits binary32 0x49742400

-- below or level is at most, whichever of the two the test of equality names first
at_most : (a b : ℕ) {t : Bool} → (a ≡ b → t ≡ true) → ((a ≡ b → ⊥) → t ≡ false) → (ltb a b || (t && true)) ≡ leb a b
at_most a b same other =
    ⊎_elim (λ l. simp (lt-ltb a b l, le-leb a b (omega arith)))
    (⊎_elim (λ e. simp (le-ltb a b (omega arith), same e, le-leb a b (omega arith)))
    (λ g. simp (le-ltb a b (omega arith), other (λ e. omega arith), lt-leb a b g)))
    (three a b)

module _ (m : ℕ) (e : ℤ) where
  not_below : le (neg million) (fin false m e) ≡ true
  unfolding le lt eq neg of_bits
  not_below = let d = down_pos e in simp (lt-ltb 0 (1000000 * down e + m * up e * 1) (omega arith))

  not_above : le (fin true m e) million ≡ true
  unfolding le lt eq of_bits
  not_above = let d = down_pos e in simp (lt-ltb 0 (m * up e * 1 + 1000000 * down e) (omega arith))

  high_side : le (fin false m e) million ≡ leb (m * up e) (1000000 * down e)
  unfolding le lt eq of_bits
  high_side = rw mul-one (at_most (m * up e) (1000000 * down e) (eq-eqb (m * up e) (1000000 * down e)) (ne_eqb (m * up e) (1000000 * down e)))

  low_side : le (neg million) (fin true m e) ≡ leb (m * up e) (1000000 * down e)
  unfolding le lt eq neg of_bits
  low_side =
      rw mul-one
      (at_most (m * up e) (1000000 * down e) (λ h. eq-eqb (1000000 * down e) (m * up e) (sym h)) (λ n. ne_eqb (1000000 * down e) (m * up e) (λ h. n (sym h))))

both_sides : (x : Float) → (le (neg million) x && le x million) ≡ in_size x
unfolding le lt eq neg of_bits size_at_most
both_sides nan = refl
both_sides (inf true) = refl
both_sides (inf false) = refl
both_sides (fin false m e) = rw (not_below m e) (high_side m e)
both_sides (fin true m e) = rw (not_above m e, and-true (le (neg million) (fin true m e))) (low_side m e)

module _ (x : Float) where
  pub size_low : le (neg million) x ≡ false → le (neg million) x ≡ in_size x
  size_low t = t ∙ (rw t at (both_sides x))

  pub size_high : le (neg million) x ≡ true → le x million ≡ in_size x
  size_high t = rw t at (both_sides x)

pub ruleset million_tests = (size_low, size_high)
