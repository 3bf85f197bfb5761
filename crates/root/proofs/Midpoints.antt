-- The pattern whose number is nearest to a root: there is one, and one alone. n is four times the number, in units of 2 ^ -298.
use mathlib.Core.Path.{◌≡◌, refl, sym, subst}
use mathlib.Core.Logic.{◌⊎◌, inl, inr}
use mathlib.Core.Bool.{Bool, true, false}
use Prim.Native.Nat.{ℕ, zero, suc, ◌+◌, ◌-◌, ◌*◌, ◌%◌, ◌^◌, ◌≤◌, ◌<◌}
use native.Mathlib.Nat.{le_trans, le_of_eq, le_of_lt, lt_irrefl, lt_of_le_of_lt, lt_of_lt_of_le, le_antisymm, eq-or-lt_of_le, not-le_of_lt, lt_of_not-le, add-le-add, mul-le-mul}
use native.Mathlib.Omega.{arith}
use lib.Dec.{leb, eqb, leb→le, le→leb, lit<}
use borrow.Author.Tests.{eqb-true, eqb-false}
use Rattle.root.specs.Nearest.{first_passing}
use Rattle.root.specs.Patterns.{value}
use Rattle.root.proofs.Values.{value_lt, value_le}
use Rattle.root.proofs.Rounding.{square_lt}
use Rattle.root.proofs.FirstPassing.{First, first_passing_lem}

-- four times the square of the midpoint between the numbers of b and c
abbrev pub square : ℕ → ℕ → ℕ
square b c = (value b + value c) * (value b + value c)

pub square_le : (b c d e : ℕ) → b ≤ d → c ≤ e → square b c ≤ square d e
square_le b c d e h k =
    let m : value b + value c ≤ value d + value e = add-le-add (value_le b d h) (value_le c e k) in
    mul-le-mul m m

square_grows : (b c d e : ℕ) → b < d → c < e → square b c < square d e
square_grows b c d e h k = square_lt (value b + value c) (value d + value e) (omega (arith, value_lt b d h, value_lt c e k))

-- n lies between the two midpoints beside b, and at one of them only if b is even
pub record NearestPattern (n b : ℕ) : Type 0 where
  pub low : square (b - 1) b ≤ n
  pub high : n ≤ square b (b + 1)
  pub low_tie : square (b - 1) b ≡ n → b % 2 ≡ 0
  pub high_tie : n ≡ square b (b + 1) → b % 2 ≡ 0

pub strictly_between : (n b : ℕ) → square (b - 1) b < n → n < square b (b + 1) → NearestPattern n b
strictly_between n b l h =
    record {
      low = le_of_lt l;
      high = le_of_lt h;
      low_tie = λ e. absurd (lt_irrefl n (subst (λ (z : ℕ). z < n) e l));
      high_tie = λ e. absurd (lt_irrefl n (subst (λ (z : ℕ). n < z) (sym e) h));
    }

-- ---- one alone
le_of_not_lt : (a b : ℕ) → (b < a → ⊥) → a ≤ b
le_of_not_lt a b f = omega (arith, lt_of_not-le f)

odd_one : (b c : ℕ) → suc b ≡ c → b % 2 ≡ 0 → c % 2 ≡ 0 → ⊥
odd_one b c e h k = omega arith

-- where b < c, n would be at the midpoint of two neighbours that are both even
apart : (n b c : ℕ) → NearestPattern n b → NearestPattern n c → b < c → ⊥
apart n b c h k l = go (eq-or-lt_of_le l)
  where
    go : (suc b ≡ c) ⊎ (suc b < c) → ⊥
    go (inl e) =
        let b' : b ≡ c - 1 = omega arith in
        let c' : b + 1 ≡ c = omega arith in
        let q : square b (b + 1) ≡ square (c - 1) c = rw (c', ← b') in
        let even-b : b % 2 ≡ 0 = h.high_tie (le_antisymm h.high (le_trans (le_of_eq q) k.low)) in
        let even-c : c % 2 ≡ 0 = k.low_tie (le_antisymm k.low (le_trans h.high (le_of_eq q))) in
        odd_one b c e even-b even-c
    go (inr m) =
        lt_irrefl n (lt_of_le_of_lt h.high (lt_of_lt_of_le (square_grows b (b + 1) (c - 1) c (omega arith) (omega arith)) k.low))

pub one_pattern : (n b c : ℕ) → NearestPattern n b → NearestPattern n c → b ≡ c
one_pattern n b c h k =
    le_antisymm (le_of_not_lt b c (apart n c b k h)) (le_of_not_lt c b (apart n b c h k))

-- ---- there is one: the first whose upper midpoint n does not pass, or the next where n is level with that midpoint and the first is odd
pub record Somewhere (n : ℕ) : Type 0 where
  pub b : ℕ
  pub nearest : NearestPattern n b

module _ (n b : ℕ) (low : square (b - 1) b < n) where
  level : n ≡ square b (b + 1) → (t : Bool) → eqb (b % 2) 0 ≡ t → Somewhere n
  level e true t =
      let even : b % 2 ≡ 0 = eqb-true (b % 2) 0 t in
      record { b = b; nearest = record { low = le_of_lt low; high = le_of_eq e; low_tie = λ f. even; high_tie = λ f. even } }
  level e false t =
      let even : (b + 1) % 2 ≡ 0 = odd_next b (eqb-false (b % 2) 0 t) in
      let back : b + 1 - 1 ≡ b = omega arith in
      let high : n < square (b + 1) (b + 1 + 1) = lt_of_le_of_lt (le_of_eq e) (square_grows b (b + 1) (b + 1) (b + 1 + 1) (omega arith) (omega arith)) in
      record { b = b + 1; nearest = record { low = rw back (le_of_eq (sym e)); high = le_of_lt high; low_tie = λ f. even; high_tie = λ f. even } }
    where
      odd_next : (b : ℕ) → (b % 2 ≡ 0 → ⊥) → (b + 1) % 2 ≡ 0
      odd_next b f = omega arith

  found : n ≤ square b (b + 1) → Somewhere n
  found high = go (eq-or-lt_of_le high)
    where
      go : (n ≡ square b (b + 1)) ⊎ (n < square b (b + 1)) → Somewhere n
      go (inl e) = level e (eqb (b % 2) 0) refl
      go (inr l) = record { b = b; nearest = strictly_between n b low l }

abbrev reached : ℕ → ℕ → Bool
reached n b = leb n (square b (b + 1))

-- some m has its upper midpoint at n or past it, and 0 has not
somewhere_below : (n m : ℕ) → square 0 1 < n → n ≤ square m (m + 1) → Somewhere n
somewhere_below n m small h =
    go (first_passing (reached n) 0 (m + 1)) (first_passing_lem (reached n) 0 (m + 1) m (omega arith) (omega arith) (le→leb n (square m (m + 1)) h))
  where
    go : (b : ℕ) → First (reached n) 0 m b → Somewhere n
    go zero f = absurd (not-le_of_lt small (leb→le n (square 0 1) f.passes))
    go (suc b) f =
        let low : square b (b + 1) < n = lt_of_not-le (λ k. f.none_before b (omega arith) (omega arith) (le→leb n (square b (b + 1)) k)) in
        let next : b + 1 ≡ suc b = omega arith in
        let back : suc b - 1 ≡ b = omega arith in
        found n (suc b) (rw back (rw next at low)) (leb→le n (square (suc b) (suc b + 1)) f.passes)

-- ---- for n of a number above zero and finite: it is not subnormal, and at most 2 ^ 64, whose pattern is 1602224128
-- The smallest number is past the square of the last midpoint beside a subnormal number, and the largest is below the square of 2 ^ 64.
smallest_number : square 8388607 8388608 < 4 * (1 * 2 ^ 149)
unfolding value
smallest_number = lit< tt

largest_number : 4 * (value 2139095039 * 2 ^ 149) < square 1602224128 1602224128
unfolding value
largest_number = lit< tt

module _ (n : ℕ) (some : 4 * (1 * 2 ^ 149) ≤ n) (finite : n ≤ 4 * (value 2139095039 * 2 ^ 149)) where
  pub somewhere : Somewhere n
  somewhere =
      somewhere_below n 1602224128
      (lt_of_le_of_lt (square_le 0 1 8388607 8388608 (omega arith) (omega arith)) (lt_of_lt_of_le smallest_number some))
      (le_trans finite (le_trans (le_of_lt largest_number) (square_le 1602224128 1602224128 1602224128 1602224129 (omega arith) (omega arith))))

  module _ (b : ℕ) (h : NearestPattern n b) where
    pub normal : 8388608 ≤ b
    normal =
        le_of_not_lt 8388608 b
        (λ l. not-le_of_lt smallest_number (le_trans some (le_trans h.high (square_le b (b + 1) 8388607 8388608 (omega arith) (omega arith)))))

    pub not_large : b ≤ 1602224128
    not_large =
        le_of_not_lt b 1602224128
        (λ l. not-le_of_lt largest_number (le_trans (square_le 1602224128 1602224128 (b - 1) b (omega arith) (omega arith)) (le_trans h.low finite)))
