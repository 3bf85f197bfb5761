-- A finite float is a difference of two natural numbers over a third, and `<` and `<=` are the order of these fractions. -0 and 0 are one fraction.
use mathlib.Core.Path.{◌≡◌, refl, sym, subst, ap₂, ◌∙◌}
use mathlib.Core.Bool.{Bool, true, false, ◌&&◌, ◌||◌, and-true, and-false, false≢true}
use Prim.Native.Nat.{ℕ, ◌+◌, ◌*◌, ◌≤◌, ◌<◌}
use native.Mathlib.Nat.{zero-mul, zero-add, add-zero, add_comm, le_of_mul-le-mul_right, mul-le-mul_right}
use native.Mathlib.Omega.{arith}
use borrow.Author.Tests.{ltb-true, ltb-false, leb-true, leb-false, eqb-true, eqb-false, le-ltb, le-leb, lt-leb, eq-eqb, ne_eqb}
use lib.Dec.{T, ltb, leb, eqb}
use lib.IntN.{ℤ, pos}
use lib.Ieee.{Float, nan, inf, fin, up, down, lt, eq, le}
use lib.Ieee.Positive.{den, den_pos}
use Rattle.geometry.specs.Bounds.{Within, AtMost}
use Rattle.geometry.proofs.Bounds as bounds
use Rattle.boxes.specs.Order.{Le}

-- x is (plus x - less x) / den x
abbrev pub plus : Float → ℕ
plus nan = 0
plus (inf s) = 0
plus (fin false m e) = m * up e
plus (fin true m e) = 0

abbrev pub less : Float → ℕ
less nan = 0
less (inf s) = 0
less (fin false m e) = 0
less (fin true m e) = m * up e

-- x and y compare as cross x y and cross y x
abbrev pub cross : Float → Float → ℕ
cross x y = plus x * den y + less y * den x

-- ---- tests of natural numbers
same_test : (a b c d : ℕ) → (a ≡ b → c ≡ d) → (c ≡ d → a ≡ b) → eqb a b ≡ eqb c d
same_test a b c d f g = go (eqb a b) refl
  where
    go : (t : Bool) → eqb a b ≡ t → t ≡ eqb c d
    go true e = sym (eq-eqb c d (f (eqb-true a b e)))
    go false e = sym (ne_eqb c d (λ h. eqb-false a b e (g h)))

both_zero : (a b : ℕ) → (eqb a b && eqb a 0) ≡ eqb (a + b) 0
both_zero a b = go (eqb a 0) refl
  where
    go : (t : Bool) → eqb a 0 ≡ t → (eqb a b && t) ≡ eqb (a + b) 0
    go true e =
        let z : a ≡ 0 = eqb-true a 0 e in
        and-true (eqb a b) ∙ same_test a b (a + b) 0 (λ h. omega arith) (λ h. omega arith)
    go false e = and-false (eqb a b) ∙ sym (ne_eqb (a + b) 0 (λ h. eqb-false a 0 e (omega arith)))

below_or_same : (a b : ℕ) → (ltb a b || eqb a b) ≡ leb a b
below_or_same a b = go (ltb a b) refl (eqb a b) refl
  where
    go : (x : Bool) → ltb a b ≡ x → (y : Bool) → eqb a b ≡ y → (x || y) ≡ leb a b
    go true e y f = sym (le-leb a b (omega (arith, ltb-true a b e)))
    go false e true f = sym (le-leb a b (omega (arith, eqb-true a b f)))
    go false e false f = sym (lt-leb a b (omega (arith, ltb-false a b e, eqb-false a b f)))

-- ---- finite floats
lt_fin : (s : Bool) (m : ℕ) (e : ℤ) (t : Bool) (n : ℕ) (d : ℤ) → lt (fin s m e) (fin t n d) ≡ ltb (cross (fin s m e) (fin t n d)) (cross (fin t n d) (fin s m e))
unfolding lt
lt_fin false m e false n d = simp (zero-mul, add-zero)
lt_fin false m e true n d = sym (le-ltb (cross (fin false m e) (fin true n d)) (cross (fin true n d) (fin false m e)) (omega arith))
lt_fin true m e false n d = simp (zero-mul, add_comm)
lt_fin true m e true n d = simp (zero-mul, zero-add)

eq_fin : (s : Bool) (m : ℕ) (e : ℤ) (t : Bool) (n : ℕ) (d : ℤ) → eq (fin s m e) (fin t n d) ≡ eqb (cross (fin s m e) (fin t n d)) (cross (fin t n d) (fin s m e))
unfolding eq
eq_fin false m e false n d = and-true (eqb (m * up e * down d) (n * up d * down e)) ∙ simp (zero-mul, add-zero)
eq_fin false m e true n d = both_zero (m * up e * down d) (n * up d * down e) ∙ simp (zero-mul, add-zero)
eq_fin true m e false n d =
    both_zero (m * up e * down d) (n * up d * down e)
    ∙ same_test (m * up e * down d + n * up d * down e) 0 (cross (fin true m e) (fin false n d)) (cross (fin false n d) (fin true m e)) (λ h. omega arith) (λ h. omega arith)
eq_fin true m e true n d =
    and-true (eqb (m * up e * down d) (n * up d * down e))
    ∙ same_test (m * up e * down d) (n * up d * down e) (cross (fin true m e) (fin true n d)) (cross (fin true n d) (fin true m e)) (λ h. omega arith) (λ h. omega arith)

pub le_fin : (s : Bool) (m : ℕ) (e : ℤ) (t : Bool) (n : ℕ) (d : ℤ) → le (fin s m e) (fin t n d) ≡ leb (cross (fin s m e) (fin t n d)) (cross (fin t n d) (fin s m e))
unfolding le
le_fin s m e t n d =
    ap₂ ◌||◌ (lt_fin s m e t n d) (eq_fin s m e t n d) ∙ below_or_same (cross (fin s m e) (fin t n d)) (cross (fin t n d) (fin s m e))

pub fin_le : (s : Bool) (m : ℕ) (e : ℤ) (t : Bool) (n : ℕ) (d : ℤ) → cross (fin s m e) (fin t n d) ≤ cross (fin t n d) (fin s m e) → le (fin s m e) (fin t n d) ≡ true
fin_le s m e t n d h = le_fin s m e t n d ∙ le-leb (cross (fin s m e) (fin t n d)) (cross (fin t n d) (fin s m e)) h

-- ---- floats within bounds
-- they are finite, so a law of two finite floats is one of them
pub of_finite : (P : Float → Float → Type 0) → ((s : Bool) (m : ℕ) (e : ℤ) (t : Bool) (n : ℕ) (d : ℤ) → P (fin s m e) (fin t n d))
    → {i j : ℕ} {x y : Float} → Within i x → Within j y → P x y
of_finite P law {i} {j} {x} {y} p q = go x y p.bound q.bound
  where
    go : (x y : Float) → AtMost i x → AtMost j y → P x y
    go nan y a b = absurd a
    go (inf s) y a b = absurd a
    go (fin s m e) nan a b = absurd b
    go (fin s m e) (inf t) a b = absurd b
    go (fin s m e) (fin t n d) a b = law s m e t n d

module _ {i j : ℕ} {x y : Float} (p : Within i x) (q : Within j y) where
  lt_is : lt x y ≡ ltb (cross x y) (cross y x)
  lt_is = of_finite (λ x y. lt x y ≡ ltb (cross x y) (cross y x)) lt_fin p q

  le_is : le x y ≡ leb (cross x y) (cross y x)
  le_is = of_finite (λ x y. le x y ≡ leb (cross x y) (cross y x)) le_fin p q

  pub le_cross : Le x y → cross x y ≤ cross y x
  le_cross h = leb-true (cross x y) (cross y x) (sym le_is ∙ h.holds)

module _ {i j : ℕ} {x y : Float} (p : Within i x) (q : Within j y) where
  pub below : lt x y ≡ true → le y x ≡ false
  below h = le_is q p ∙ lt-leb (cross y x) (cross x y) (ltb-true (cross x y) (cross y x) (sym (lt_is p q) ∙ h))

  pub not_below : Le y x → lt x y ≡ false
  not_below h = lt_is p q ∙ le-ltb (cross x y) (cross y x) (le_cross q p h)

  pub not_at_most : le x y ≡ false → Le y x
  not_at_most h = record { holds = le_is q p ∙ le-leb (cross y x) (cross x y) (omega (arith, leb-false (cross x y) (cross y x) (sym (le_is p q) ∙ h))) }

pub refused : {x y : Float} → (Le x y → ⊥) → le x y ≡ false
refused {x} {y} f = go (le x y) refl
  where
    go : (t : Bool) → le x y ≡ t → t ≡ false
    go true e = absurd (f (record { holds = e }))
    go false e = refl

-- ---- x ≤ y ≤ z, of any floats
chained : (a b c d e f g h k : ℕ) → 0 < f → a * f + e * c ≤ d * c + b * f → d * k + h * f ≤ g * f + e * k → a * k + h * c ≤ g * c + b * k
chained a b c d e f g h k F l m = le_of_mul-le-mul_right (omega (arith, mul-le-mul_right k l, mul-le-mul_right c m)) F

not_nan : (y : Float) → le y nan ≡ true → ⊥
unfolding le lt eq
not_nan nan h = false≢true h
not_nan (inf t) h = false≢true h
not_nan (fin t n d) h = false≢true h

trans_at : (x y z : Float) → le x y ≡ true → le y z ≡ true → le x z ≡ true
unfolding le lt eq
trans_at nan y z h g = h
trans_at (inf true) y nan h g = absurd (not_nan y g)
trans_at (inf true) y (inf true) h g = refl
trans_at (inf true) y (inf false) h g = refl
trans_at (inf true) y (fin r l b) h g = refl
trans_at (inf false) nan z h g = absurd (false≢true h)
trans_at (inf false) (inf true) z h g = absurd (false≢true h)
trans_at (inf false) (inf false) z h g = g
trans_at (inf false) (fin t n d) z h g = absurd (false≢true h)
trans_at (fin s m e) nan z h g = absurd (false≢true h)
trans_at (fin s m e) (inf true) z h g = absurd (false≢true h)
trans_at (fin s m e) (inf false) nan h g = g
trans_at (fin s m e) (inf false) (inf true) h g = g
trans_at (fin s m e) (inf false) (inf false) h g = refl
trans_at (fin s m e) (inf false) (fin r l b) h g = absurd (false≢true g)
trans_at (fin s m e) (fin t n d) nan h g = g
trans_at (fin s m e) (fin t n d) (inf r) h g = g
trans_at (fin s m e) (fin t n d) (fin r l b) h g =
    let x = fin s m e in
    let y = fin t n d in
    let z = fin r l b in
    fin_le s m e r l b
    (chained (plus x) (less x) (den x) (plus y) (less y) (den y) (plus z) (less z) (den z) (den_pos y)
    (leb-true (cross x y) (cross y x) (sym (le_fin s m e t n d) ∙ h))
    (leb-true (cross y z) (cross z y) (sym (le_fin t n d r l b) ∙ g)))

pub le_trans : {x y z : Float} → Le x y → Le y z → Le x z
le_trans {x} {y} {z} h g = record { holds = trans_at x y z h.holds g.holds }

-- ---- a float within k lies between -k and k, and what lies between two that are within k is within k
pub below_bound : {k : ℕ} {x : Float} → Within k x → Le x (fin false k (pos 0))
below_bound {k} {x} p = record { holds = go x p.bound }
  where
    go : (x : Float) → AtMost k x → le x (fin false k (pos 0)) ≡ true
    go nan a = absurd a
    go (inf s) a = absurd a
    go (fin false m e) a = fin_le false m e false k (pos 0) (omega arith)
    go (fin true m e) a = fin_le true m e false k (pos 0) (omega arith)

pub above_bound : {k : ℕ} {x : Float} → Within k x → Le (fin true k (pos 0)) x
above_bound {k} {x} p = record { holds = go x p.bound }
  where
    go : (x : Float) → AtMost k x → le (fin true k (pos 0)) x ≡ true
    go nan a = absurd a
    go (inf s) a = absurd a
    go (fin false m e) a = fin_le true k (pos 0) false m e (omega arith)
    go (fin true m e) a = fin_le true k (pos 0) true m e (omega arith)

passed : {x y : Float} → Le x y → T (le x y)
passed h = subst T (sym h.holds) tt

pub between : {k : ℕ} {x y z : Float} → Within k x → Within k z → Le x y → Le y z → Within k y
between {k} {x} {y} {z} p r h g =
    bounds.between k (pos 0) k (omega arith) y (passed (le_trans (above_bound p) h)) (passed (le_trans g (below_bound r)))
