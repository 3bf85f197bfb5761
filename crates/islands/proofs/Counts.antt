-- How many numbers pass a test: none where all fail, not all where one fails, and one more once that one passes.
use Prim.Native.Nat.{ℕ, zero, suc, ◌+◌, ◌<◌, ◌≤◌}
use native.Mathlib.Omega.{arith}
use native.Mathlib.Decide.{ℕ_discrete}
use mathlib.Core.Path.{◌≡◌, refl}
use mathlib.Core.Bool.{Bool, true, false, cond}
use lib.Dec.{eqb}
use borrow.Author.Tests.{eq-eqb, ne_eqb}
use Rattle.words.specs.Rows.{sum_of, how_many}
use Rattle.words.proofs.Collecting.{sum_bound}

pub none_pass : (p : ℕ → Bool) (n i : ℕ) → ((k : ℕ) → i ≤ k → k < i + n → p k ≡ false) → sum_of p (λ k. 1) i n ≡ 0
unfolding sum_of
none_pass p zero i none = refl
none_pass p (suc n) i none = rw (none i (omega arith) (omega arith)) (none_pass p n (i + 1) (λ k a b. none k (omega arith) (omega arith)))

module _ (p q : ℕ → Bool) (e : ℕ) (same : (k : ℕ) → (k ≡ e → ⊥) → q k ≡ p k) where
  -- past e
  none_more : (n i : ℕ) → e < i → sum_of q (λ k. 1) i n ≡ sum_of p (λ k. 1) i n
  unfolding sum_of
  none_more zero i h = refl
  none_more (suc n) i h = rw (same i (λ z. omega arith), none_more n (i + 1) (omega arith))

  module _ (was : p e ≡ false) (is : q e ≡ true) where
    one_more_from : (n i : ℕ) → i ≤ e → e < i + n → sum_of q (λ k. 1) i n ≡ sum_of p (λ k. 1) i n + 1
    unfolding sum_of
    one_more_from zero i a b = absurd (omega arith)
    one_more_from (suc n) i a b = go (ℕ_discrete i e) (λ l. one_more_from n (i + 1) l (omega arith))
      where
        later : Bool → ℕ → ℕ
        later t m = cond t (1 + m) m

        go : Dec (i ≡ e) → (i + 1 ≤ e → sum_of q (λ k. 1) (i + 1) n ≡ sum_of p (λ k. 1) (i + 1) n + 1)
            → later (q i) (sum_of q (λ k. 1) (i + 1) n) ≡ later (p i) (sum_of p (λ k. 1) (i + 1) n) + 1
        go (yes z) rec = rw (z, was, is, none_more n (e + 1) (omega arith)) (omega arith)
        go (no z) rec = rw (same i z, rec (omega arith)) (by_test (p i))
          where
            by_test : (t : Bool) → later t (sum_of p (λ k. 1) (i + 1) n + 1) ≡ later t (sum_of p (λ k. 1) (i + 1) n) + 1
            by_test true = omega arith
            by_test false = refl

    pub one_more : (n : ℕ) → e < n → how_many q n ≡ how_many p n + 1
    one_more n h = one_more_from n 0 (omega arith) (omega arith)

pub at_most : (p : ℕ → Bool) (n : ℕ) → how_many p n ≤ n
at_most p n = omega (arith, sum_bound p (λ k. 1) 1 (λ k. omega arith) 0 n)

pub not_all : (p : ℕ → Bool) (n e : ℕ) → e < n → p e ≡ false → how_many p n < n
not_all p n e h was =
    let q : ℕ → Bool = λ k. cond (eqb k e) true (p k) in
    omega (arith, one_more p q e (λ k d. rw (ne_eqb k e d)) was (rw (eq-eqb e e refl)) n h, at_most q n)
