-- Rounding changes nothing that binary32 holds, so 1 * x is no larger than x. And -x * y is -(x * y).
use mathlib.Core.Path.{◌≡◌, refl, sym, ap, ◌∙◌, subst}
use mathlib.Core.Bool.{Bool, true, false, ◌&&◌, true≢false, false≢true}
use Prim.Native.Nat.{ℕ, zero, suc, ◌+◌, ◌-◌, ◌*◌, ◌%◌, ◌^◌, ◌≤◌, ◌<◌}
use native.Mathlib.Nat.{mul-one, one-mul, mul_assoc, lt_of_lt_of_le, le_of_eq, mul-lt-mul_of_pos_right, zero-mul, zero-lt-suc}
use native.Mathlib.Omega.{arith}
use borrow.Author.Tests.{leb-false, leb-true}
use lib.Dec.{T, ltb, leb, eqb, ltb→lt, leb→le, lit<}
use lib.IntN.{ℤ, pos, negsuc}
use lib.Pow.{pow-add, pow_pos, pow-lt, pow_mono, shl_lt}
use lib.Ieee.{Float, nan, inf, fin, binary32, up, down, round, neg, mul, le, fits}
use lib.Ieee.Digits.{back}
use lib.Ieee.Fits.{and_l, and_r, down_pos}
use lib.Ieee.Exact.{HasValue, round_exact}
use Rattle.geometry.specs.Bounds.{Within, AtMost}
use Rattle.boxes.specs.Order.{Le}
use Rattle.boxes.proofs.Fractions.{fin_le, of_finite}
use Rattle.boxes.proofs.Rounding.{round_neg}

-- ---- a number m * 2 ^ e that binary32 holds rounds to that number
exponent : (a b : ℕ) → 2 ^ a ≤ 2 ^ b → a ≤ b
exponent a b h = go (leb a b) refl
  where
    go : (t : Bool) → leb a b ≡ t → a ≤ b
    go true e = leb-true a b e
    go false e = absurd (omega (arith, pow-lt (leb-false a b e)))

exact_up : (t : Bool) (m k : ℕ) → m < 2 ^ 24 → m * 2 ^ k < 2 ^ 128 → HasValue (round binary32 t (m * 2 ^ k) 1) t (m * 2 ^ k) 1
exact_up t m k small fine =
    let moved : m * 2 ^ k * 2 ^ 149 ≡ m * 2 ^ (k + 149) = mul_assoc m (2 ^ k) (2 ^ 149) ∙ ap (λ (x : ℕ). m * x) (sym (pow-add 2 k 149)) in
    round_exact binary32 t (m * 2 ^ k) 1 m (k + 149) (zero-lt-suc 0) small
    (subst (λ (x : ℕ). x < 2 ^ 277) moved (lt_of_lt_of_le (mul-lt-mul_of_pos_right fine (pow_pos 149)) (le_of_eq (sym (pow-add 2 128 149)))))
    (moved ∙ sym (mul-one (m * 2 ^ (k + 149))))

room : (k : ℕ) → 24 + (149 - k) ≤ 277
room k = omega arith

exact_down : (t : Bool) (m k : ℕ) → m < 2 ^ 24 → k ≤ 149 → HasValue (round binary32 t m (2 ^ k)) t m (2 ^ k)
exact_down t m k small h =
    round_exact binary32 t m (2 ^ k) m (149 - k) (pow_pos k) small
    (lt_of_lt_of_le (shl_lt 24 (149 - k) small) (pow_mono (room k)))
    (ap (λ (x : ℕ). m * x) (ap (λ (x : ℕ). 2 ^ x) (sym (back 149 k h)) ∙ pow-add 2 (149 - k) k) ∙ sym (mul_assoc m (2 ^ (149 - k)) (2 ^ k)))

exact_at : (t s : Bool) (m : ℕ) (e : ℤ) → T (fits binary32 (fin s m e)) → HasValue (round binary32 t (m * up e) (down e)) t (m * up e) (down e)
unfolding fits
exact_at t s zero e h =
    round_exact binary32 t (0 * up e) (down e) 0 0 (down_pos e) (lit< tt) (lit< tt)
    (ap (λ (x : ℕ). x * 2 ^ 149) (zero-mul (up e)) ∙ zero-mul (2 ^ 149) ∙ sym (zero-mul (down e)))
exact_at t s (suc m) (pos k) h =
    let A = eqb (suc m % 2) 1 in
    let B = ltb (suc m) (2 ^ 24) in
    let C = leb 1 (2 ^ 149) in
    let D = ltb (suc m * 2 ^ k) (2 ^ 128 * 1) in
    exact_up t (suc m) k (ltb→lt (suc m) (2 ^ 24) (and_r A B (and_l (A && B) C (and_l (A && B && C) D h)))) (ltb→lt (suc m * 2 ^ k) (2 ^ 128 * 1) (and_r (A && B && C) D h))
exact_at t s (suc m) (negsuc k) h =
    let A = eqb (suc m % 2) 1 in
    let B = ltb (suc m) (2 ^ 24) in
    let C = leb (2 ^ suc k) (2 ^ 149) in
    let D = ltb (suc m * 1) (2 ^ 128 * 2 ^ suc k) in
    subst (λ (n : ℕ). HasValue (round binary32 t n (2 ^ suc k)) t n (2 ^ suc k)) (sym (mul-one (suc m)))
    (exact_down t (suc m) (suc k) (ltb→lt (suc m) (2 ^ 24) (and_r A B (and_l (A && B) C (and_l (A && B && C) D h))))
    (exponent (suc k) 149 (leb→le (2 ^ suc k) (2 ^ 149) (and_r (A && B) C (and_l (A && B && C) D h)))))

-- ---- 1 * x ≤ x
value_le : (y : Float) (t : Bool) (m : ℕ) (e : ℤ) → HasValue y t (m * up e) (down e) → le y (fin t m e) ≡ true
value_le nan t m e h = absurd h
value_le (inf s) t m e h = absurd h
value_le (fin false n d) false m e h = fin_le false n d false m e (omega (arith, h.1))
value_le (fin false n d) true m e h = absurd (false≢true h.0)
value_le (fin true n d) false m e h = absurd (true≢false h.0)
value_le (fin true n d) true m e h = fin_le true n d true m e (omega (arith, h.1))

once : (s : Bool) (m : ℕ) (e : ℤ) → T (fits binary32 (fin s m e)) → le (round binary32 s (1 * 1 * (m * up e)) (1 * down e)) (fin s m e) ≡ true
once s m e h = value_le (round binary32 s (1 * 1 * (m * up e)) (1 * down e)) s m e (simp one-mul (exact_at s s m e h))

pub one_times : {k : ℕ} {x : Float} → Within k x → T (fits binary32 x) → Le (mul binary32 (fin false 1 (pos 0)) x) x
unfolding mul
one_times {k} {x} p h = record { holds = go x p.bound h }
  where
    go : (x : Float) → AtMost k x → T (fits binary32 x) → le (mul binary32 (fin false 1 (pos 0)) x) x ≡ true
    go nan a h = absurd a
    go (inf s) a h = absurd a
    go (fin false m e) a h = once false m e h
    go (fin true m e) a h = once true m e h

-- ---- -x * y is -(x * y)
neg_at : (s : Bool) (m : ℕ) (e : ℤ) (t : Bool) (n : ℕ) (d : ℤ) → mul binary32 (neg (fin s m e)) (fin t n d) ≡ neg (mul binary32 (fin s m e) (fin t n d))
unfolding mul neg
neg_at false m e false n d = round_neg false (m * up e * (n * up d)) (down e * down d)
neg_at false m e true n d = round_neg true (m * up e * (n * up d)) (down e * down d)
neg_at true m e false n d = round_neg true (m * up e * (n * up d)) (down e * down d)
neg_at true m e true n d = round_neg false (m * up e * (n * up d)) (down e * down d)

pub mul_neg : {i j : ℕ} {x y : Float} → Within i x → Within j y → mul binary32 (neg x) y ≡ neg (mul binary32 x y)
mul_neg p q = of_finite (λ x y. mul binary32 (neg x) y ≡ neg (mul binary32 x y)) neg_at p q
