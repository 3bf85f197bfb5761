-- Twice as many hops are two chains through a midpoint of the list, so that reach is found by halves. All numbers named are of the list.
use Prim.Native.Nat.{ℕ, zero, suc, ◌+◌, ◌^◌, ◌≤◌, ◌<◌}
use native.Mathlib.Omega.{arith}
use native.Mathlib.Nat.{two-pow-succ}
use mathlib.Core.Path.{◌≡◌, refl, sym}
use mathlib.Core.Logic.{⊎_elim}
use mathlib.Core.Bool.{Bool, true, false, ◌&&◌}
use mathlib.Core.List.{List}
use lib.Dec.{T}
use lib.ListN.{length, get_or}
use borrow.Author.Tests.{eqb-true}
use Rattle.words.specs.Rows.{some, has}
use Rattle.words.proofs.TableRows.{both, some_at, some_which}
use Rattle.touching.specs.Reach.{within}
use Rattle.touching.proofs.Reaching.{has_at, has_which, within_start, within_more, within_on, within_last, all_within}

-- two tests that pass in the same cases are the same
same_tests : (a b : Bool) → (a ≡ true → b ≡ true) → (b ≡ true → a ≡ true) → a ≡ b
same_tests true b f g = sym (f refl)
same_tests false true f g = g refl
same_tests false false f g = refl

module _ (touches : ℕ → ℕ → Bool) (l : List ℕ) where
  -- ---- s + t hops
  record Midpoint (s t a b : ℕ) : Type 0 where
    pub at : ℕ
    pub below : at < length l
    pub first : within touches l s a (get_or l at 0) ≡ true
    pub second : within touches l t (get_or l at 0) b ≡ true

  within_mid : (s t a b : ℕ) → T (has l b) → within touches l (t + s) a b ≡ true → Midpoint s t a b
  within_mid s zero a b m h =
      let r = has_which l b m in
      let e = r.2 in
      let z : 0 + s ≡ s = omega arith in
      record { at = r.0; below = r.1; first = rw e (rw z at h); second = rw e (within_start touches l 0 b) }
  within_mid s (suc t) a b m h =
      let z : suc t + s ≡ suc (t + s) = omega arith in
      ⊎_elim
      (λ v. let r = within_mid s t a b m v in record { at = r.at; below = r.below; first = r.first; second = within_more touches l t (get_or l r.at 0) b r.second })
      (λ v.
      let r = within_mid s t a (get_or l v.at 0) (has_at l v.at v.below) v.before in
      record { at = r.at; below = r.below; first = r.first; second = within_on touches l t (get_or l r.at 0) v.at b v.below r.second v.hop })
      (within_last touches l (t + s) a b (rw z at h))

  within_join : (s t a c b : ℕ) → within touches l s a c ≡ true → within touches l t c b ≡ true → within touches l (t + s) a b ≡ true
  unfolding within
  within_join s zero a c b p q = let z : 0 + s ≡ s = omega arith in rw (z, sym (eqb-true c b q)) p
  within_join s (suc t) a c b p q =
      let z : suc t + s ≡ suc (t + s) = omega arith in
      rw z
      (⊎_elim (λ v. within_more touches l (t + s) a b (within_join s t a c b p v))
      (λ v. within_on touches l (t + s) a v.at b v.below (within_join s t a c (get_or l v.at 0) p v.before) v.hop)
      (within_last touches l t c b q))

  -- ---- what a search by halves tries
  abbrev pub through : ℕ → ℕ → ℕ → ℕ → Bool
  through k a b j = within touches l (2 ^ k) a (get_or l j 0) && within touches l (2 ^ k) (get_or l j 0) b

  pub twice : (k a b : ℕ) → T (has l b) → within touches l (2 ^ suc k) a b ≡ some (through k a b) 0 (length l)
  twice k a b m =
      same_tests _ _
      (λ h.
      let r = within_mid (2 ^ k) (2 ^ k) a b m (rw two-pow-succ at h) in
      some_at (through k a b) (length l) r.at r.below (rw (r.first, r.second)))
      (λ h.
      let r = some_which (through k a b) (length l) h in
      let e = both (within touches l (2 ^ k) a (get_or l r.0 0)) (within touches l (2 ^ k) (get_or l r.0 0) b) r.2 in
      rw two-pow-succ (within_join (2 ^ k) (2 ^ k) a (get_or l r.0 0) b e.0 e.1))

  pub one_hop : (a b : ℕ) → T (has l a) → (a ≡ b → ⊥) → within touches l (2 ^ 0) a b ≡ touches a b
  unfolding within
  one_hop a b m d =
      let i = has_which l a m in
      let f = i.2 in
      same_tests _ _
      (λ h.
      ⊎_elim (λ v. absurd (d (eqb-true a b v))) (λ v. rw (eqb-true a (get_or l v.at 0) v.before) v.hop)
      (within_last touches l 0 a b h))
      (λ h. within_on touches l 0 a i.0 b i.1 (rw f (within_start touches l 0 a)) (rw f h))

  -- ---- a chain needs no more hops than the list has numbers
  pub enough_hops : (k a b : ℕ) → T (has l a) → T (has l b) → length l ≤ 2 ^ k → within touches l (2 ^ k) a b ≡ within touches l (length l) a b
  enough_hops k a b i m h =
      same_tests _ _ (λ v. all_within touches l a i (length l) (omega arith) (2 ^ k) b m v)
      (λ v. all_within touches l a i (2 ^ k) h (length l) b m v)
