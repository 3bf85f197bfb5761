-- How many numbers pass a test, where one test is a part of another.
use Prim.Native.Nat.{ℕ, zero, suc, ◌+◌, ◌≤◌, ◌<◌}
use native.Mathlib.Omega.{arith}
use mathlib.Core.Path.{◌≡◌, refl}
use mathlib.Core.Logic.{◌⊎◌, inl, inr, ⊎_elim}
use mathlib.Core.Bool.{Bool, true, false, cond}
use Rattle.words.specs.Rows.{sum_of, how_many}
use Rattle.words.proofs.Collecting.{from_next, sum_bound}

pub true_or_false : {b : Bool} → b ≡ true → b ≡ false → ⊥
true_or_false e f = let z : ◌≡◌ {A = ℕ} 0 1 = cc in omega arith

-- where p is a part of q, q passes more often or nowhere else
module _ (p q : ℕ → Bool) (part : (x : ℕ) → p x ≡ true → q x ≡ true) where
  abbrev Nowhere : ℕ → ℕ → Type 0
  Nowhere i n = (x : ℕ) → i ≤ x → x < i + n → q x ≡ true → p x ≡ true

  more_from : (i n : ℕ) → (sum_of p (λ k. 1) i n ≤ sum_of q (λ k. 1) i n) × ((sum_of p (λ k. 1) i n < sum_of q (λ k. 1) i n) ⊎ Nowhere i n)
  unfolding sum_of
  more_from i zero = (omega arith, inr (λ x l h t. absurd (omega arith)))
  more_from i (suc n) = go (p i) (q i) refl refl (more_from (i + 1) n)
    where
      P : ℕ
      P = sum_of p (λ k. 1) (i + 1) n

      Q : ℕ
      Q = sum_of q (λ k. 1) (i + 1) n

      go : (a b : Bool) → p i ≡ a → q i ≡ b → (P ≤ Q) × ((P < Q) ⊎ Nowhere (i + 1) n)
          → (cond a (1 + P) P ≤ cond b (1 + Q) Q) × ((cond a (1 + P) P < cond b (1 + Q) Q) ⊎ Nowhere i (suc n))
      go true true e f (s, h) = (
        omega arith,
        ⊎_elim (λ m. inl (omega arith)) (λ m. inr (λ x l k t. from_next (λ y. p y ≡ true) i x e l (λ u. m x u (omega arith) t))) h,
      )
      go true false e f (s, h) = absurd (true_or_false (part i e) f)
      go false true e f (s, h) = (omega arith, inl (omega arith))
      go false false e f (s, h) = (
        s,
        ⊎_elim (λ m. inl m) (λ m. inr (λ x l k t. from_next (λ y. q y ≡ true → p y ≡ true) i x (λ u. absurd (true_or_false u f)) l (λ u. m x u (omega arith)) t)) h,
      )

  pub count_more : (n : ℕ) → (how_many p n < how_many q n) ⊎ ((x : ℕ) → x < n → q x ≡ true → p x ≡ true)
  count_more n = ⊎_elim (λ h. inl h) (λ h. inr (λ x l t. h x (omega arith) (omega arith) t)) (more_from 0 n).1

module _ (p : ℕ → Bool) (n : ℕ) where
  pub count_bound : how_many p n ≤ n
  count_bound = omega (arith, sum_bound p (λ k. 1) 1 (λ k. omega arith) 0 n)

  pub count_one : (k : ℕ) → k < n → p k ≡ true → 0 < how_many p n
  count_one k h e = ⊎_elim (λ m. omega arith) (λ m. absurd (true_or_false (m k h e) refl)) (count_more (λ x. false) p (λ x f. absurd (true_or_false f refl)) n)
