-- Laws of `collect` and `sum_of`: a turn of a loop over them, what is in them, in which order, how long and how large they are.
use Prim.Native.Nat.{ℕ, zero, suc, ◌+◌, ◌*◌, ◌-◌, ◌≤◌, ◌<◌}
use mathlib.Core.Path.{◌≡◌, refl, sym, ap, ◌∙◌, subst}
use mathlib.Core.Logic.{◌⊎◌, inl, inr, ⊎_elim}
use mathlib.Core.List.{List, [], ◌∷◌, ◌++◌}
use mathlib.Core.Bool.{Bool, true, false, cond}
use native.Mathlib.Omega.{arith}
use native.Mathlib.Decide.{dec_le}
use native.Mathlib.Nat.{eq-or-lt_of_le}
use lib.Dec.{T}
use lib.ListN.{length, length-append}
use Rattle.words.specs.Rows.{collect, sum_of, how_many}

-- ---- numbers
pub three : (j i : ℕ) → (j < i) ⊎ (j ≡ i) ⊎ (i < j)
three j i = go (dec_le j i)
  where
    go : Dec (j ≤ i) → (j < i) ⊎ (j ≡ i) ⊎ (i < j)
    go (yes l) = ⊎_elim (λ q. inr (inl q)) (λ q. inl q) (eq-or-lt_of_le l)
    go (no n) = inr (inr (omega (arith, n)))

-- what holds at a, and at k if k is past a, holds at k
pub from_next : (P : ℕ → Type 0) (a k : ℕ) → P a → a ≤ k → (a + 1 ≤ k → P k) → P k
from_next P a k h l later = ⊎_elim (λ q. subst P q h) (λ q. later (omega arith)) (eq-or-lt_of_le l)

-- what is left of n from i on
pub left : (n i : ℕ) → i < n → n - i ≡ suc (n - (i + 1))
left n i h = omega arith

pub none_left : (n i : ℕ) → n ≤ i → n - i ≡ 0
none_left n i h = omega arith

-- ---- tests
pub holds : (b : Bool) → b ≡ true → T b
holds b e = subst T (sym e) tt

pub not_holds : (b : Bool) → b ≡ false → T b → ⊥
not_holds b e t = subst T e t

-- ---- a turn of a loop
module _ {A : Type 0} (p : ℕ → Bool) (f : ℕ → List A) (i n : ℕ) where
  pub collect_yes : i < n → p i ≡ true → collect p f i (n - i) ≡ f i ++ collect p f (i + 1) (n - (i + 1))
  unfolding collect
  collect_yes h e = rw (left n i, e)

  pub collect_no : i < n → p i ≡ false → collect p f i (n - i) ≡ collect p f (i + 1) (n - (i + 1))
  unfolding collect
  collect_no h e = rw (left n i, e)

  pub collect_none : n ≤ i → collect p f i (n - i) ≡ []
  unfolding collect
  collect_none h = rw (none_left n i)

module _ (p : ℕ → Bool) (f : ℕ → ℕ) (i n : ℕ) where
  pub sum_yes : i < n → p i ≡ true → sum_of p f i (n - i) ≡ f i + sum_of p f (i + 1) (n - (i + 1))
  unfolding sum_of
  sum_yes h e = rw (left n i, e)

  pub sum_no : i < n → p i ≡ false → sum_of p f i (n - i) ≡ sum_of p f (i + 1) (n - (i + 1))
  unfolding sum_of
  sum_no h e = rw (left n i, e)

  pub sum_none : n ≤ i → sum_of p f i (n - i) ≡ 0
  unfolding sum_of
  sum_none h = rw (none_left n i)

-- ---- membership and order
module _ {A : Type 0} where
  abbrev pub In : A → List A → Type 0
  In a [] = ⊥
  In a (x ∷ xs) = (a ≡ x) ⊎ In a xs

  in_left : (a : A) (l m : List A) → In a l → In a (l ++ m)
  in_left a [] m h = absurd h
  in_left a (x ∷ l) m (inl e) = inl e
  in_left a (x ∷ l) m (inr h) = inr (in_left a l m h)

  in_right : (a : A) (l m : List A) → In a m → In a (l ++ m)
  in_right a [] m h = h
  in_right a (x ∷ l) m h = inr (in_right a l m h)

  in_append : (a : A) (l m : List A) → In a (l ++ m) → In a l ⊎ In a m
  in_append a [] m h = inr h
  in_append a (x ∷ l) m (inl e) = inl (inl e)
  in_append a (x ∷ l) m (inr h) = ⊎_elim (λ p. inl (inr p)) (λ q. inr q) (in_append a l m h)

  -- each is in the relation to all that come later
  abbrev pub Rising : (A → A → Type 0) → List A → Type 0
  Rising R [] = Unit {0}
  Rising R (x ∷ xs) = ((y : A) → In y xs → R x y) × Rising R xs

  rising_append : (R : A → A → Type 0) (l m : List A) → Rising R l → Rising R m → ((x y : A) → In x l → In y m → R x y) → Rising R (l ++ m)
  rising_append R [] m p q h = q
  rising_append R (x ∷ l) m p q h = (
    λ y k. ⊎_elim (λ a. p.0 y a) (λ b. h x y (inl refl) b) (in_append y l m k),
    rising_append R l m p.1 q (λ a b u w. h a b (inr u) w),
  )

  module _ (p : ℕ → Bool) (f : ℕ → List A) where
    pub of_collect : (a n : ℕ) (x : A) → In x (collect p f a n) → (k : ℕ) × (a ≤ k) × (k < a + n) × T (p k) × In x (f k)
    unfolding collect
    of_collect a zero x h = absurd h
    of_collect a (suc n) x h = go (p a) refl (λ q. let r = of_collect (a + 1) n x q in (r.0, omega arith, omega arith, r.3, r.4)) h
      where
        Made : Type 0
        Made = (k : ℕ) × (a ≤ k) × (k < a + suc n) × T (p k) × In x (f k)

        go : (b : Bool) → p a ≡ b → (In x (collect p f (a + 1) n) → Made) → In x (cond b (f a ++ collect p f (a + 1) n) (collect p f (a + 1) n)) → Made
        go true e later h' = ⊎_elim (λ q. (a, omega arith, omega arith, holds (p a) e, q)) later (in_append x (f a) (collect p f (a + 1) n) h')
        go false e later h' = later h'

    pub in_collect : (a n k : ℕ) (x : A) → a ≤ k → k < a + n → T (p k) → In x (f k) → In x (collect p f a n)
    unfolding collect
    in_collect a zero k x l h t m = absurd (omega arith)
    in_collect a (suc n) k x l h t m = go (p a) refl (eq-or-lt_of_le l) (λ q. in_collect (a + 1) n k x (omega arith) (omega arith) t m)
      where
        go : (b : Bool) → p a ≡ b → (a ≡ k) ⊎ (a < k) → (a < k → In x (collect p f (a + 1) n)) → In x (cond b (f a ++ collect p f (a + 1) n) (collect p f (a + 1) n))
        go true e (inl q) later = in_left x (f a) (collect p f (a + 1) n) (subst (λ (j : ℕ). In x (f j)) (sym q) m)
        go true e (inr q) later = in_right x (f a) (collect p f (a + 1) n) (later q)
        go false e (inl q) later = absurd (not_holds (p a) e (subst (λ (j : ℕ). T (p j)) (sym q) t))
        go false e (inr q) later = later q

    pub collect_rises : (R : A → A → Type 0) → ((k : ℕ) → Rising R (f k)) → ((j k : ℕ) (x y : A) → j < k → In x (f j) → In y (f k) → R x y)
        → (a n : ℕ) → Rising R (collect p f a n)
    unfolding collect
    collect_rises R each apart a zero = tt
    collect_rises R each apart a (suc n) = go (p a) (collect_rises R each apart (a + 1) n)
      where
        go : (b : Bool) → Rising R (collect p f (a + 1) n) → Rising R (cond b (f a ++ collect p f (a + 1) n) (collect p f (a + 1) n))
        go true r =
            rising_append R (f a) (collect p f (a + 1) n) (each a) r
            (λ x y u w. let q = of_collect (a + 1) n y w in apart a q.0 x y (omega (arith, q.1)) u q.4)
        go false r = r

-- ---- lengths and sums
pub length_collect : {A : Type 0} (p : ℕ → Bool) (f : ℕ → List A) (a n : ℕ) → length (collect p f a n) ≡ sum_of p (λ k. length (f k)) a n
unfolding collect sum_of
length_collect p f a zero = refl
length_collect p f a (suc n) = go (p a) (length_collect p f (a + 1) n)
  where
    go : (b : Bool) → length (collect p f (a + 1) n) ≡ sum_of p (λ k. length (f k)) (a + 1) n
        → length (cond b (f a ++ collect p f (a + 1) n) (collect p f (a + 1) n)) ≡ cond b (length (f a) + sum_of p (λ k. length (f k)) (a + 1) n) (sum_of p (λ k. length (f k)) (a + 1) n)
    go true e = length-append (f a) (collect p f (a + 1) n) ∙ ap (λ (m : ℕ). length (f a) + m) e
    go false e = e

module _ (p : ℕ → Bool) (f : ℕ → ℕ) where
  pub sum_bound : (b : ℕ) → ((k : ℕ) → f k ≤ b) → (i n : ℕ) → sum_of p f i n ≤ n * b
  unfolding sum_of
  sum_bound b h i zero = omega arith
  sum_bound b h i (suc n) = go (p i) (sum_bound b h (i + 1) n)
    where
      go : (t : Bool) → sum_of p f (i + 1) n ≤ n * b → cond t (f i + sum_of p f (i + 1) n) (sum_of p f (i + 1) n) ≤ suc n * b
      go true l = omega (arith, h i)
      go false l = omega arith

  -- a sum is the same over summands that are, and is the number of summands times one of them where all are equal
  sum_same_from : (g : ℕ → ℕ) (i n : ℕ) → ((k : ℕ) → k < i + n → T (p k) → f k ≡ g k) → sum_of p f i n ≡ sum_of p g i n
  unfolding sum_of
  sum_same_from g i zero h = refl
  sum_same_from g i (suc n) h = go (p i) refl (sum_same_from g (i + 1) n (λ k l. h k (omega arith)))
    where
      go : (b : Bool) → p i ≡ b → sum_of p f (i + 1) n ≡ sum_of p g (i + 1) n
          → cond b (f i + sum_of p f (i + 1) n) (sum_of p f (i + 1) n) ≡ cond b (g i + sum_of p g (i + 1) n) (sum_of p g (i + 1) n)
      go true e later = omega (arith, h i (omega arith) (holds (p i) e))
      go false e later = later

  pub sum_same : (g : ℕ → ℕ) (n : ℕ) → ((k : ℕ) → k < n → T (p k) → f k ≡ g k) → sum_of p f 0 n ≡ sum_of p g 0 n
  sum_same g n h = sum_same_from g 0 n (λ k l. h k (omega arith))

sum_equal_from : (p : ℕ → Bool) (b i n : ℕ) → sum_of p (λ k. b) i n ≡ sum_of p (λ k. 1) i n * b
unfolding sum_of
sum_equal_from p b i zero = omega arith
sum_equal_from p b i (suc n) = go (p i) (sum_equal_from p b (i + 1) n)
  where
    go : (t : Bool) → sum_of p (λ k. b) (i + 1) n ≡ sum_of p (λ k. 1) (i + 1) n * b
        → cond t (b + sum_of p (λ k. b) (i + 1) n) (sum_of p (λ k. b) (i + 1) n) ≡ cond t (1 + sum_of p (λ k. 1) (i + 1) n) (sum_of p (λ k. 1) (i + 1) n) * b
    go true e = omega arith
    go false e = e

pub sum_equal : (p : ℕ → Bool) (b n : ℕ) → sum_of p (λ k. b) 0 n ≡ how_many p n * b
sum_equal p b n = sum_equal_from p b 0 n
