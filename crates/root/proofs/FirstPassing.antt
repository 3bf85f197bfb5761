-- `first_passing`: what it finds passes the test, and nothing before it does.
use mathlib.Core.Path.{◌≡◌, refl, sym, subst}
use mathlib.Core.Logic.{◌⊎◌, inl, inr}
use mathlib.Core.Bool.{Bool, true, false, cond}
use Prim.Native.Nat.{ℕ, zero, suc, ◌+◌, ◌≤◌, ◌<◌}
use native.Mathlib.Nat.{eq-or-lt_of_le}
use native.Mathlib.Omega.{arith}
use lib.Dec.{T}
use Rattle.root.specs.Nearest.{first_passing}

-- f is the first from i on, and no later than c
pub record First (p : ℕ → Bool) (i c f : ℕ) : Type 0 where
  pub least : i ≤ f
  pub most : f ≤ c
  pub passes : T (p f)
  pub none_before : (k : ℕ) → i ≤ k → k < f → T (p k) → ⊥

module _ (p : ℕ → Bool) (i c : ℕ) where
  past : i ≤ c → T (p c) → (T (p i) → ⊥) → i + 1 ≤ c
  past l t n = go (eq-or-lt_of_le l)
    where
      go : (i ≡ c) ⊎ (i < c) → i + 1 ≤ c
      go (inl e) = absurd (n (subst (λ (z : ℕ). T (p z)) (sym e) t))
      go (inr h) = omega arith

  further : (f : ℕ) → (T (p i) → ⊥) → First p (i + 1) c f → First p i c f
  further f n h = record { least = omega arith; most = h.most; passes = h.passes; none_before = none }
    where
      none : (k : ℕ) → i ≤ k → k < f → T (p k) → ⊥
      none k a b t = go (eq-or-lt_of_le a)
        where
          go : (i ≡ k) ⊎ (i < k) → ⊥
          go (inl e) = n (subst (λ (z : ℕ). T (p z)) (sym e) t)
          go (inr l) = h.none_before k (omega arith) b t

  choose : (later : ℕ) → i ≤ c → ((T (p i) → ⊥) → First p (i + 1) c later) → (s : Bool) → p i ≡ s → First p i c (cond s i later)
  choose later l h true e =
      record { least = omega arith; most = l; passes = subst T (sym e) tt; none_before = λ k a b t. omega arith }
  choose later l h false e = further later (subst T e) (h (subst T e))

-- where some c among the n numbers passes
pub first_passing_lem : (p : ℕ → Bool) (i n c : ℕ) → i ≤ c → c < i + n → T (p c) → First p i c (first_passing p i n)
unfolding first_passing
first_passing_lem p i zero c l h t = absurd (omega arith)
first_passing_lem p i (suc n) c l h t =
    choose p i c (first_passing p (i + 1) n) l (λ f. first_passing_lem p (i + 1) n c (past p i c l t f) (omega arith) t) (p i) refl
