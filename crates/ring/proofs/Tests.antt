-- Facts that a Boolean test shows: antt computes the test, and so a fact on a whole table is one `tt`.
use mathlib.Core.Path.{◌≡◌, ap, subst, sym}
use mathlib.Core.Logic.{inl, inr}
use mathlib.Core.Bool.{Bool, true, false, ◌&&◌}
use mathlib.Core.List.{List, [], ◌∷◌}
use Prim.Native.Nat.{ℕ, zero, suc, ◌<◌, ◌≤◌}
use native.Mathlib.Nat.{eq-or-lt_of_le, le_of_suc-le-suc, not-suc-le-zero}
use lib.Dec.{T, leb, leb→le, eqb, eqb→eq}
use lib.IntN.{ℤ, pos, negsuc}
use lib.ListN.{get_or}
use lib.Ieee.Fits.{and_l, and_r}

pub record Tested (P : Type 0) : Type 1 where
  pub pass : Bool
  pub holds : T pass → P

abbrev pub both : {P Q : Type 0} → Tested P → Tested Q → Tested (P × Q)
both p q =
    record {
      pass = p.pass && q.pass;
      holds = λ t. (p.holds (and_l p.pass q.pass t), q.holds (and_r p.pass q.pass t));
    }

abbrev pub at_most : {m n : ℕ} → Tested (m ≤ n)
at_most {m} {n} = record { pass = leb m n; holds = leb→le m n }

abbrev pub same_z : ℤ → ℤ → Bool
same_z (pos a) (pos b) = eqb a b
same_z (pos a) (negsuc b) = false
same_z (negsuc a) (pos b) = false
same_z (negsuc a) (negsuc b) = eqb a b

pub same_z→eq : (a b : ℤ) → T (same_z a b) → a ≡ b
same_z→eq (pos a) (pos b) t = ap pos (eqb→eq a b t)
same_z→eq (pos a) (negsuc b) t = absurd t
same_z→eq (negsuc a) (pos b) t = absurd t
same_z→eq (negsuc a) (negsuc b) t = ap negsuc (eqb→eq a b t)

abbrev pub same : {a b : ℤ} → Tested (a ≡ b)
same {a} {b} = record { pass = same_z a b; holds = same_z→eq a b }

abbrev pub from_one : {n : ℕ} {P : Type 0} → Tested P → Tested (1 ≤ n → P)
from_one {n = zero} p = record { pass = true; holds = λ t h. absurd (not-suc-le-zero h) }
from_one {n = suc n} p = record { pass = p.pass; holds = λ t h. p.holds t }

-- at every number below n
abbrev pub all_below : ℕ → (ℕ → Bool) → Bool
all_below zero f = true
all_below (suc n) f = f n && all_below n f

pub all_below_lem : (n : ℕ) (f : ℕ → Bool) → T (all_below n f) → (k : ℕ) → k < n → T (f k)
all_below_lem zero f t k h = absurd (not-suc-le-zero h)
all_below_lem (suc n) f t k h =
    elim (eq-or-lt_of_le (le_of_suc-le-suc h)) [
      | inl e ↦ subst (λ (m : ℕ). T (f m)) (sym e) (and_l (f n) (all_below n f) t)
      | inr l ↦ all_below_lem n f (and_r (f n) (all_below n f) t) k l
    ]

abbrev pub below : {n : ℕ} {P : ℕ → Type 0} → ((k : ℕ) → Tested (P k)) → Tested ((k : ℕ) → k < n → P k)
below {n} p =
    record {
      pass = all_below n (λ (k : ℕ). (p k).pass);
      holds = λ t k h. (p k).holds (all_below_lem n (λ (k : ℕ). (p k).pass) t k h);
    }

-- at every entry of a list, and at what stands for an entry past its end
module _ {A : Type 0} (d : A) where
  abbrev pub all_of : (A → Bool) → List A → Bool
  all_of f [] = f d
  all_of f (x ∷ xs) = f x && all_of f xs

  pub all_of_lem : (f : A → Bool) (xs : List A) → T (all_of f xs) → (k : ℕ) → T (f (get_or xs k d))
  all_of_lem f [] t k = t
  all_of_lem f (x ∷ xs) t zero = and_l (f x) (all_of f xs) t
  all_of_lem f (x ∷ xs) t (suc k) = all_of_lem f xs (and_r (f x) (all_of f xs) t) k

  abbrev pub each : (xs : List A) {P : A → Type 0} → ((x : A) → Tested (P x)) → Tested ((k : ℕ) → P (get_or xs k d))
  each xs p =
      record {
        pass = all_of (λ (x : A). (p x).pass) xs;
        holds = λ t k. (p (get_or xs k d)).holds (all_of_lem (λ (x : A). (p x).pass) xs t k);
      }
