-- The two loops: an interval that has the root, halved; and digits that are moved up.
use mathlib.Core.Path.{◌≡◌, refl, ap, ◌∙◌, subst}
use Prim.Native.Nat.{ℕ, zero, suc, ◌+◌, ◌-◌, ◌*◌, ◌/◌, ◌%◌, ◌^◌, ◌≤◌, ◌<◌}
use native.Mathlib.Nat.{lt_of_le_of_lt, mul-le-mul, mul-one, mul_assoc, pow-suc}
use native.Mathlib.Omega.{arith}
use lib.Dec.{lit<}
use lib.Pow.{pow-add}
use Rattle.root.specs.Patterns.{value, worth, Pattern, Shifted, Between, WholeRoot}

-- ---- whole_root: low is at most the root, and high is above it
pub record Interval (n low high : ℕ) : Type 0 where
  pub below : low * low ≤ n
  pub above : n < high * high
  pub least : 8388608 ≤ low
  pub order : low < high
  pub most : high ≤ 16777216

pub first : {n : ℕ} → Between n → Interval n 8388608 16777216
first h = record { below = h.least; above = h.most; least = omega arith; order = omega arith; most = omega arith }

pub square_fits : (m : ℕ) → m ≤ 16777216 → m * m < 18446744073709551616
square_fits m h = lt_of_le_of_lt (mul-le-mul h h) (lit< tt)

pub upper_half : {n low high : ℕ} → Interval n low high → 1 < high - low
    → (low + high) / 2 * ((low + high) / 2) ≤ n → Interval n ((low + high) / 2) high
upper_half h l p = record { below = p; above = h.above; least = omega arith; order = omega arith; most = h.most }

pub lower_half : {n low high : ℕ} → Interval n low high → 1 < high - low
    → n < (low + high) / 2 * ((low + high) / 2) → Interval n low ((low + high) / 2)
lower_half h l p = record { below = h.below; above = p; least = h.least; order = omega arith; most = omega arith }

pub last : {n low high : ℕ} → Interval n low high → high - low ≤ 1 → WholeRoot n low
last {n} {low} {high} h l =
    let e : high ≡ low + 1 = omega arith in
    record { below = h.below; above = subst (λ (z : ℕ). n < z * z) e h.above; least = h.least; most = omega arith }

pub ruleset halving = (first, square_fits, upper_half, lower_half, last)

-- ---- split: the digits moved up by as many places as the shift has fallen
pub record Moved (b digits shift : ℕ) : Type 0 where
  pub same : value b * 16777216 ≡ digits * 2 ^ shift
  pub some : 1 ≤ value b
  pub most : digits < 16777216
  pub small : shift ≤ 24

pub subnormal : {b : ℕ} → Pattern b → b / 8388608 ≤ 0 → Moved b b 24
unfolding value
subnormal {b} p h =
    let x : b / 8388608 ≡ 0 = omega arith in
    let t : b % 8388608 ≡ b = omega arith in
    let v : value b ≡ b = rw (x, t) refl in
    record { same = rw v refl; some = rw v p.some; most = omega arith; small = omega arith }

-- there is a place to move by, since the number is above zero
spare : (v digits shift : ℕ) → v * 16777216 ≡ digits * 2 ^ shift → 1 ≤ v → digits < 8388608 → 1 ≤ shift
spare v digits zero e h l = absurd (omega (arith, mul-one digits))
spare v digits (suc s) e h l = omega arith

doubled : (digits shift : ℕ) → 1 ≤ shift → digits * 2 ^ shift ≡ digits * 2 * 2 ^ (shift - 1)
doubled digits zero h = absurd (omega arith)
doubled digits (suc s) h =
    let e : suc s - 1 ≡ s = omega arith in
    rw (pow-suc 2 s, e) (omega arith)

pub place : {b digits shift : ℕ} → Moved b digits shift → digits < 8388608 → 1 ≤ shift
place {b} {digits} {shift} h l = spare (value b) digits shift h.same h.some l

pub falls : {b digits shift : ℕ} → Moved b digits shift → digits < 8388608 → shift - 1 < shift
falls h l = omega (arith, place h l)

pub move : {b digits shift : ℕ} → Moved b digits shift → digits < 8388608 → Moved b (digits * 2) (shift - 1)
move {b} {digits} {shift} h l =
    record { same = h.same ∙ doubled digits shift (place h l); some = h.some; most = omega arith; small = omega arith }

pub moved : {b digits shift : ℕ} → Moved b digits shift → 8388608 ≤ digits → Shifted b digits shift
moved h l = record { same = h.same; least = l; most = h.most; small = omega arith }

normal_value : (x t : ℕ) → 0 < x → worth x t * 16777216 ≡ (8388608 + t) * 2 ^ (x + 23)
normal_value zero t h = absurd (omega arith)
normal_value (suc x) t h =
    let e : 2 ^ (suc x + 23) ≡ 2 ^ x * 16777216 = ap (λ (z : ℕ). 2 ^ z) (omega arith) ∙ pow-add 2 x 24 in
    rw e (mul_assoc (8388608 + t) (2 ^ x) 16777216)

pub normal : {b : ℕ} → Pattern b → 0 < b / 8388608 → Shifted b (8388608 + b % 8388608) (b / 8388608 + 23)
unfolding value
normal {b} p h =
    record { same = normal_value (b / 8388608) (b % 8388608) h; least = omega arith; most = omega arith; small = omega arith }

pub ruleset moving = (subnormal, place, falls, move, moved, normal)

-- ---- radicand
module _ (digits shift : ℕ) (h : (8388608 ≤ digits) × (digits < 16777216)) where
  pub even_shift : shift % 2 ≡ 0 → (digits * 8388608 ≡ digits * 2 ^ (23 + shift % 2)) × Between (digits * 8388608)
  even_shift e = (rw e refl, record { least = omega arith; most = omega arith })

  pub odd_shift : shift % 2 ≡ 1 → (digits * 16777216 ≡ digits * 2 ^ (23 + shift % 2)) × Between (digits * 16777216)
  odd_shift e = (rw e refl, record { least = omega arith; most = omega arith })
