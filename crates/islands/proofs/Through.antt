-- The labels computed are the labels: `through`, by way of more and more numbers in Warshall's order, is reach.
use Prim.Native.Nat.{ℕ, zero, suc, ◌+◌, ◌<◌, ◌≤◌}
use native.Mathlib.Omega.{arith}
use native.Mathlib.Decide.{ℕ_discrete, dec_lt}
use mathlib.Core.Path.{◌≡◌, refl, sym, ap, subst, ◌∙◌}
use mathlib.Core.Bool.{Bool, true, false, ◌&&◌, cond}
use mathlib.Core.Logic.{◌⊎◌, inl, inr, ⊎_elim}
use lib.Dec.{T, eqb}
use lib.Ieee.Bits.{is_true}
use borrow.Author.Tests.{eqb-true, eq-eqb}
use Rattle.words.proofs.TableRows.{both, or_left, or_right, or_cases, length_rows, get_d_rows}
use Rattle.words.proofs.Collecting.{holds}
use Rattle.islands.specs.Reach.{Reaches, here, step, IsLabel, Labels}
use Rattle.islands.specs.Labels.{first, through, label_by, labels_by}
use Rattle.islands.proofs.Reaching.{reach_join}

-- ---- the first number that passes
record First (p : ℕ → Bool) (i n at : ℕ) : Type 0 where
  low : i ≤ at
  high : at ≤ i + n
  is : at < i + n → p at ≡ true
  before : (m : ℕ) → i ≤ m → m < at → p m ≡ true → ⊥

first_is : (p : ℕ → Bool) (n i : ℕ) → First p i n (first p i n)
unfolding first
first_is p zero i = record { low = omega arith; high = omega arith; is = λ h. absurd (omega arith); before = λ m a b e. omega arith }
first_is p (suc n) i = go (p i) refl (first_is p n (i + 1))
  where
    go : (b : Bool) → p i ≡ b → First p (i + 1) n (first p (i + 1) n) → First p i (suc n) (cond b i (first p (i + 1) n))
    go true e f = record { low = omega arith; high = omega arith; is = λ h. e; before = λ m a b z. omega arith }
    go false e f =
        let l = f.low in
        let h = f.high in
        record { low = omega arith; high = omega arith; is = λ x. f.is (omega arith); before = λ m a b z. at m a b z (ℕ_discrete m i) }
      where
        at : (m : ℕ) → i ≤ m → m < first p (i + 1) n → p m ≡ true → Dec (m ≡ i) → ⊥
        at m a b z (yes q) = let t : p i ≡ true = rw q at z in let y : ◌≡◌ {A = ℕ} 0 1 = cc in omega arith
        at m a b z (no d) = f.before m (omega arith) b z

-- ---- reach by way of numbers below t
module _ (names : ℕ → ℕ → Bool) where
  through_more : (t a b : ℕ) → through names t a b ≡ true → through names (suc t) a b ≡ true
  unfolding through
  through_more t a b e = or_left (through names t a b) (through names t a t && through names t t b) e

  through_zero : (t a b : ℕ) → through names 0 a b ≡ true → through names t a b ≡ true
  through_zero zero a b e = e
  through_zero (suc t) a b e = through_more t a b (through_zero t a b e)

  through_last : (t a b : ℕ) → through names t a t ≡ true → through names t t b ≡ true → through names (suc t) a b ≡ true
  unfolding through
  through_last t a b e f = or_right (through names t a b) (through names t a t && through names t t b) (rw (e, f))

  -- by way of t, or not
  through_cases : (t a b : ℕ) → through names (suc t) a b ≡ true → (through names t a b ≡ true) ⊎ ((through names t a t ≡ true) × (through names t t b ≡ true))
  unfolding through
  through_cases t a b e =
      ⊎_elim (λ x. inl x) (λ x. inr (both (through names t a t) (through names t t b) x)) (or_cases (through names t a b) (through names t a t && through names t t b) e)

  through_join : (t a b c : ℕ) → c < t → through names t a c ≡ true → through names t c b ≡ true → through names t a b ≡ true
  through_join zero a b c h e f = absurd (omega arith)
  through_join (suc t) a b c h e f = go (ℕ_discrete c t) (λ x y l. through_join t x y c l) (through_cases t a c e) (through_cases t c b f)
    where
      go : Dec (c ≡ t) → ((x y : ℕ) → c < t → through names t x c ≡ true → through names t c y ≡ true → through names t x y ≡ true)
          → (through names t a c ≡ true) ⊎ ((through names t a t ≡ true) × (through names t t c ≡ true))
          → (through names t c b ≡ true) ⊎ ((through names t c t ≡ true) × (through names t t b ≡ true)) → through names (suc t) a b ≡ true
      go (yes q) rec x y = through_last t a b (⊎_elim (λ u. rw q at u) (λ u. u.0) x) (⊎_elim (λ u. rw q at u) (λ u. u.1) y)
      go (no d) rec (inl x) (inl y) = through_more t a b (rec a b (omega arith) x y)
      go (no d) rec (inl x) (inr y) = through_last t a b (rec a t (omega arith) x y.0) y.1
      go (no d) rec (inr x) (inl y) = through_last t a b x.0 (rec t b (omega arith) x.1 y)
      go (no d) rec (inr x) (inr y) = through_last t a b x.0 y.1

  through_here : (t a : ℕ) → through names t a a ≡ true
  unfolding through
  through_here t a = through_zero t a a (or_left (eqb a a) (names a a) (eq-eqb a a refl))

  through_named : (t a b : ℕ) → T (names a b) → through names t a b ≡ true
  unfolding through
  through_named t a b h = through_zero t a b (or_right (eqb a b) (names a b) (is_true (names a b) h))

  through_sound : (t a b : ℕ) → through names t a b ≡ true → Reaches names a b
  unfolding through
  through_sound zero a b e =
      ⊎_elim (λ x. subst (λ (m : ℕ). Reaches names a m) (eqb-true a b x) here) (λ x. step (holds (names a b) x) here) (or_cases (eqb a b) (names a b) e)
  through_sound (suc t) a b e =
      ⊎_elim (λ x. through_sound t a b x) (λ x. reach_join (through_sound t a t x.0) (through_sound t t b x.1)) (through_cases t a b e)

  module _ {n : ℕ} (inside : (a b : ℕ) → a < n → T (names a b) → b < n) where
    through_complete : (a b : ℕ) → Reaches names a b → a < n → through names n a b ≡ true
    through_complete a b here l = through_here n a
    through_complete a b (step {c = c} h r) l =
        let m : c < n = inside a c l h in
        through_join n a b c m (through_named n a c h) (through_complete c b r m)

    -- ---- the labels
    label_by_lem : (k : ℕ) → k < n → IsLabel names k (label_by names n k)
    unfolding label_by
    label_by_lem k l = go (first (λ m. through names n m k) 0 k) (first_is (λ m. through names n m k) k 0)
      where
        go : (at : ℕ) → First (λ m. through names n m k) 0 k at → IsLabel names k at
        go at f = record { reached = from (dec_lt at k); least = λ m r. below m r (dec_lt m at) }
          where
            from : Dec (at < k) → Reaches names at k
            from (yes x) = through_sound n at k (f.is (omega arith))
            from (no x) =
                let h = f.high in
                let e : k ≡ at = omega arith in
                subst (λ (m : ℕ). Reaches names m k) e here

            below : (m : ℕ) → Reaches names m k → Dec (m < at) → at ≤ m
            below m r (yes x) =
                let h = f.high in
                absurd (f.before m (omega arith) x (through_complete m k r (omega arith)))
            below m r (no x) = omega arith

    pub labels_by_lem : Labels names n (labels_by names n)
    unfolding labels_by
    labels_by_lem =
        record {
          long = length_rows (label_by names n) n 0;
          each = λ k l. let z : 0 + k ≡ k = omega arith in subst (IsLabel names k) (sym (get_d_rows (label_by names n) n 0 k 0 l ∙ ap (label_by names n) z)) (label_by_lem k l);
        }
