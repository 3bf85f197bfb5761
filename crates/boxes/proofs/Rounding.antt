-- Rounding keeps the order, whatever the signs: of two fractions (p - n) / c the larger rounds to a float that is no smaller.
use mathlib.Core.Path.{◌≡◌, refl, sym, ap, ap₂, ◌∙◌}
use mathlib.Core.Bool.{Bool, true, false, not, cond}
use Prim.Native.Nat.{ℕ, zero, suc, ◌+◌, ◌-◌, ◌*◌, ◌^◌, ◌≤◌, ◌<◌}
use native.Mathlib.Nat.{add_comm, mul-pos}
use native.Mathlib.Omega.{arith}
use borrow.Author.Tests.{ltb-true, ltb-false}
use lib.Dec.{ltb, leb}
use lib.IntN.{ℤ, pos}
use lib.Ieee.{Float, nan, inf, fin, prec, emax, low, binary32, units, odd, round, neg, sum, lt, eq, le}
use lib.Ieee.Bits.{is_true}
use lib.Ieee.Fits.{round_is}
use lib.Ieee.Order.{round_mono, kept, drop}
use lib.Ieee.Positive.{den}
use lib.Ieee.Scale.{round_same}
use Rattle.boxes.specs.Order.{Le}
use Rattle.boxes.proofs.Fractions.{plus, less, cross, le_fin, le_trans}

-- ---- the sign goes through `round`
odd_neg : (d : ℕ) (s : Bool) (q k l : ℕ) → odd d (not s) q k l ≡ neg (odd d s q k l)
unfolding odd neg
odd_neg d s zero k l = refl
odd_neg d s (suc q) k l = refl

units_neg : (s : Bool) (q k : ℕ) → units binary32 (not s) q k ≡ neg (units binary32 s q k)
unfolding units neg
units_neg s q k = go (ltb (q * 2 ^ k) (2 ^ (low binary32 + suc (emax binary32))))
  where
    digits : ℕ
    digits = suc (prec binary32)

    go : (b : Bool) → cond b (odd digits (not s) q k (low binary32)) (inf (not s)) ≡ neg (cond b (odd digits s q k (low binary32)) (inf s))
    go true = odd_neg digits s q k (low binary32)
    go false = refl

pub round_neg : (s : Bool) (a c : ℕ) → round binary32 (not s) a c ≡ neg (round binary32 s a c)
round_neg s a c =
    let n = a * 2 ^ low binary32 in
    round_is binary32 (not s) a c ∙ units_neg s (kept (prec binary32) n c) (drop (prec binary32) n c) ∙ ap neg (sym (round_is binary32 s a c))

-- ---- the other sign turns the order
swapped : (x y : Float) → leb (less y * den x + plus x * den y) (less x * den y + plus y * den x) ≡ leb (cross x y) (cross y x)
swapped x y = ap₂ leb (add_comm (less y * den x) (plus x * den y)) (add_comm (less x * den y) (plus y * den x))

turned : (s : Bool) (m : ℕ) (e : ℤ) (t : Bool) (n : ℕ) (d : ℤ) → le (fin (not t) n d) (fin (not s) m e) ≡ le (fin s m e) (fin t n d)
turned false m e false n d = rw (le_fin true n d true m e, le_fin false m e false n d) (swapped (fin false m e) (fin false n d))
turned false m e true n d = rw (le_fin false n d true m e, le_fin false m e true n d) (swapped (fin false m e) (fin true n d))
turned true m e false n d = rw (le_fin true n d false m e, le_fin true m e false n d) (swapped (fin true m e) (fin false n d))
turned true m e true n d = rw (le_fin false n d false m e, le_fin true m e true n d) (swapped (fin true m e) (fin true n d))

neg_at : (x y : Float) → le (neg y) (neg x) ≡ le x y
unfolding neg lt eq le
neg_at nan nan = refl
neg_at nan (inf t) = refl
neg_at nan (fin t n d) = refl
neg_at (inf s) nan = refl
neg_at (inf true) (inf true) = refl
neg_at (inf true) (inf false) = refl
neg_at (inf false) (inf true) = refl
neg_at (inf false) (inf false) = refl
neg_at (inf true) (fin t n d) = refl
neg_at (inf false) (fin t n d) = refl
neg_at (fin s m e) nan = refl
neg_at (fin s m e) (inf true) = refl
neg_at (fin s m e) (inf false) = refl
neg_at (fin s m e) (fin t n d) = turned s m e t n d

pub le_neg : {x y : Float} → Le x y → Le (neg y) (neg x)
le_neg {x} {y} h = record { holds = neg_at x y ∙ h.holds }

-- ---- 0, with either sign
round_zero : (s : Bool) (c : ℕ) → 0 < c → round binary32 s 0 c ≡ fin s 0 (pos 0)
unfolding round
round_zero true c C = round_same binary32 true 0 c 0 1 C (omega arith) (omega arith)
round_zero false c C = round_same binary32 false 0 c 0 1 C (omega arith) (omega arith)

pub larger : (a c b d : ℕ) → 0 < c → 0 < d → a * d ≤ b * c → Le (round binary32 false a c) (round binary32 false b d)
larger a c b d C D h = record { holds = is_true (le (round binary32 false a c) (round binary32 false b d)) (round_mono binary32 a c b d C D h) }

from_zero : (a c : ℕ) → 0 < c → Le (fin false 0 (pos 0)) (round binary32 false a c)
from_zero a c C = rw (round_zero false 1 (omega arith)) at (larger 0 1 a c (omega arith) C (omega arith))

zeros : (s : Bool) → Le (fin (not s) 0 (pos 0)) (fin s 0 (pos 0))
unfolding le lt eq
zeros true = record { holds = refl }
zeros false = record { holds = refl }

-- ---- x is (p - n) / c, rounded
abbrev pub Difference : Bool → ℕ → ℕ → ℕ → Type 0
Difference false a p n = p ≡ a + n
Difference true a p n = n ≡ a + p

pub record Rounds (x : Float) (p n c : ℕ) : Type 0 where
  pub sign : Bool
  pub size : ℕ
  pub is : x ≡ round binary32 sign size c
  pub value : Difference sign size p n
  pub divisor : 0 < c

nothing : (a c : ℕ) → 0 < c → a * c ≡ 0 → a ≡ 0
nothing zero c C h = refl
nothing (suc a) c C h = absurd (omega (arith, mul-pos {m = suc a} {n = c} (omega arith) C))

module _ (p n c p' n' c' : ℕ) (C : 0 < c) (C' : 0 < c') (h : p * c' + n' * c ≤ p' * c + n * c') where
  order_at : (s : Bool) (a : ℕ) (t : Bool) (b : ℕ) → Difference s a p n → Difference t b p' n' → Le (round binary32 s a c) (round binary32 t b c')
  unfolding neg
  order_at false a false b u v = larger a c b c' C C' (omega (arith, ap (λ (z : ℕ). z * c') u, ap (λ (z : ℕ). z * c) v))
  order_at true a true b u v =
      rw (round_neg false a c, round_neg false b c') (le_neg (larger b c' a c C' C (omega (arith, ap (λ (z : ℕ). z * c') u, ap (λ (z : ℕ). z * c) v))))
  order_at true a false b u v = rw (round_neg false a c) (le_trans (le_neg (from_zero a c C)) (le_trans (zeros false) (from_zero b c' C')))
  order_at false a true b u v =
      let A : a ≡ 0 = nothing a c' C' (omega (arith, ap (λ (z : ℕ). z * c') u, ap (λ (z : ℕ). z * c) v)) in
      let B : b ≡ 0 = nothing b c C (omega (arith, ap (λ (z : ℕ). z * c') u, ap (λ (z : ℕ). z * c) v)) in
      rw (A, B, round_zero false c C, round_zero true c' C') (zeros true)

pub rounds_le : {x y : Float} {p n c p' n' c' : ℕ} → Rounds x p n c → Rounds y p' n' c' → p * c' + n' * c ≤ p' * c + n * c' → Le x y
rounds_le {p} {n} {c} {p'} {n'} {c'} r q h =
    record { holds = rw (r.is, q.is) (order_at p n c p' n' c' r.divisor q.divisor h r.sign r.size q.sign q.size r.value q.value).holds }

-- ---- a sum
pub sum_rounds : (s : Bool) (a p n : ℕ) (t : Bool) (b u v : ℕ) {c : ℕ} → 0 < c → Difference s a p n → Difference t b u v → Rounds (sum binary32 s a t b c) (p + u) (n + v) c
unfolding sum
sum_rounds false a p n false b u v C f g = record { sign = false; size = a + b; is = refl; value = omega arith; divisor = C }
sum_rounds true a p n true b u v C f g = record { sign = true; size = a + b; is = refl; value = omega arith; divisor = C }
sum_rounds false a p n true b u v {c} C f g = go (ltb a b) refl
  where
    go : (k : Bool) → ltb a b ≡ k → Rounds (cond k (round binary32 true (b - a) c) (round binary32 false (a - b) c)) (p + u) (n + v) c
    go true e = record { sign = true; size = b - a; is = refl; value = omega (arith, ltb-true a b e); divisor = C }
    go false e = record { sign = false; size = a - b; is = refl; value = omega (arith, ltb-false a b e); divisor = C }
sum_rounds true a p n false b u v {c} C f g = go (ltb a b) refl (ltb b a) refl
  where
    go : (k : Bool) → ltb a b ≡ k → (l : Bool) → ltb b a ≡ l → Rounds (cond k (round binary32 false (b - a) c) (round binary32 l (a - b) c)) (p + u) (n + v) c
    go true e l i = record { sign = false; size = b - a; is = refl; value = omega (arith, ltb-true a b e); divisor = C }
    go false e true i = record { sign = true; size = a - b; is = refl; value = omega (arith, ltb-false a b e); divisor = C }
    go false e false i = record { sign = false; size = a - b; is = refl; value = omega (arith, ltb-false a b e, ltb-false b a i); divisor = C }
