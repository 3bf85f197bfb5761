-- Chains through a list, and chains of at most t hops: as many hops as the list has numbers reach all that any chain reaches.
use Prim.Native.Nat.{ℕ, zero, suc, ◌≤◌, ◌<◌}
use native.Mathlib.Omega.{arith}
use mathlib.Core.Path.{◌≡◌, refl, subst}
use mathlib.Core.Logic.{◌⊎◌, inl, inr, ⊎_elim}
use mathlib.Core.Bool.{Bool, true, not, ◌&&◌}
use mathlib.Core.List.{List, [], ◌∷◌}
use lib.Dec.{T, eqb}
use lib.ListN.{length, get_or}
use lib.Ieee.Bits.{is_true}
use borrow.Author.Tests.{eqb-true, eq-eqb}
use Rattle.words.specs.Rows.{some, has, how_many}
use Rattle.words.proofs.TableRows.{both, or_right, or_cases, some_at, some_which}
use Rattle.words.proofs.Collecting.{holds, length_collect}
use Rattle.touching.specs.Reach.{Chain, here, on, within, drops, merged, MergedSound}
use Rattle.touching.proofs.Counting.{count_more, count_bound, count_one}

-- ---- the numbers of a list
pub has_at : (l : List ℕ) (k : ℕ) → k < length l → T (has l (get_or l k 0))
unfolding has
has_at l k h = holds _ (some_at (λ j. eqb (get_or l j 0) (get_or l k 0)) (length l) k h (eq-eqb (get_or l k 0) (get_or l k 0) refl))

pub has_which : (l : List ℕ) (x : ℕ) → T (has l x) → (k : ℕ) × (k < length l) × (get_or l k 0 ≡ x)
unfolding has
has_which l x t =
    let r = some_which (λ j. eqb (get_or l j 0) x) (length l) (is_true _ t) in
    (r.0, r.1, eqb-true (get_or l r.0 0) x r.2)

module _ (touches : ℕ → ℕ → Bool) (l : List ℕ) where
  -- ---- a hop more
  pub within_start : (t a : ℕ) → within touches l t a a ≡ true
  unfolding within
  within_start zero a = eq-eqb a a refl
  within_start (suc t) a = rw (within_start t a)

  pub within_more : (t a b : ℕ) → within touches l t a b ≡ true → within touches l (suc t) a b ≡ true
  unfolding within
  within_more t a b h = rw h

  pub within_on : (t a k b : ℕ) → k < length l → within touches l t a (get_or l k 0) ≡ true → touches (get_or l k 0) b ≡ true → within touches l (suc t) a b ≡ true
  unfolding within
  within_on t a k b h p q = or_right (within touches l t a b) _ (some_at (λ k. within touches l t a (get_or l k 0) && touches (get_or l k 0) b) (length l) k h (rw (p, q)))

  -- the last hop
  pub record Last (t a b : ℕ) : Type 0 where
    pub at : ℕ
    pub below : at < length l
    pub before : within touches l t a (get_or l at 0) ≡ true
    pub hop : touches (get_or l at 0) b ≡ true

  pub within_last : (t a b : ℕ) → within touches l (suc t) a b ≡ true → (within touches l t a b ≡ true) ⊎ Last t a b
  unfolding within
  within_last t a b h = ⊎_elim (λ p. inl p) (λ p. inr (last p)) (or_cases (within touches l t a b) _ h)
    where
      last : some (λ k. within touches l t a (get_or l k 0) && touches (get_or l k 0) b) 0 (length l) ≡ true → Last t a b
      last p =
          let r = some_which (λ k. within touches l t a (get_or l k 0) && touches (get_or l k 0) b) (length l) p in
          let e = both (within touches l t a (get_or l r.0 0)) (touches (get_or l r.0 0) b) r.2 in
          record { at = r.0; below = r.1; before = e.0; hop = e.1 }

  pub within_chain : (t a b : ℕ) → T (has l b) → within touches l t a b ≡ true → Chain touches l a b
  unfolding within
  within_chain zero a b m h = subst (λ (x : ℕ). Chain touches l a x) (eqb-true a b h) here
  within_chain (suc t) a b m h =
      ⊎_elim (λ v. within_chain t a b m v)
      (λ v. on (within_chain t a (get_or l v.at 0) (has_at l v.at v.below) v.before) m (holds _ v.hop)) (within_last t a b h)

  -- ---- as long as a hop more reaches more, it reaches one more of the list at least
  module _ (a : ℕ) where
    abbrev reached : ℕ → ℕ → Bool
    reached t x = within touches l t a (get_or l x 0)

    -- t hops reach all that any hops reach
    Enough : ℕ → Type 0
    Enough t = (s x : ℕ) → x < length l → reached s x ≡ true → reached t x ≡ true

    enough : (t : ℕ) → ((x : ℕ) → x < length l → reached (suc t) x ≡ true → reached t x ≡ true) → Enough t
    unfolding Enough within
    enough t f zero x h e = rw (eqb-true a (get_or l x 0) e) (within_start t (get_or l x 0))
    enough t f (suc s) x h e =
        ⊎_elim (λ v. enough t f s x h v)
        (λ v. f x h (within_on t a v.at (get_or l x 0) v.below (enough t f s v.at v.below v.before) v.hop)) (within_last s a (get_or l x 0) e)

    module _ (start : T (has l a)) where
      grows : (t : ℕ) → (t < how_many (reached t) (length l)) ⊎ Enough t
      unfolding Enough
      grows zero = let r = has_which l a start in inl (count_one (reached 0) (length l) r.0 r.1 (rw r.2 (within_start 0 a)))
      grows (suc t) = go (grows t) (count_more (reached t) (reached (suc t)) (λ x. within_more t a (get_or l x 0)) (length l))
        where
          go : (t < how_many (reached t) (length l)) ⊎ Enough t
              → (how_many (reached t) (length l) < how_many (reached (suc t)) (length l)) ⊎ ((x : ℕ) → x < length l → reached (suc t) x ≡ true → reached t x ≡ true)
              → (suc t < how_many (reached (suc t)) (length l)) ⊎ Enough (suc t)
          go (inr e) m = inr (λ s x h v. within_more t a (get_or l x 0) (e s x h v))
          go (inl h) (inl m) = inl (omega arith)
          go (inl h) (inr m) = inr (λ s x k v. within_more t a (get_or l x 0) (enough t m s x k v))

      pub all_within : (t : ℕ) → length l ≤ t → (s b : ℕ) → T (has l b) → within touches l s a b ≡ true → within touches l t a b ≡ true
      unfolding Enough
      all_within t m s b i h =
          let r = has_which l b i in
          let e = r.2 in
          ⊎_elim (λ v. absurd (omega (arith, count_bound (reached t) (length l)))) (λ v. rw e at (v s r.0 r.1 (rw e h))) (grows t)

  -- ---- a chain
  chain_in : {a b : ℕ} → T (has l a) → Chain touches l a b → T (has l b)
  chain_in h here = h
  chain_in h (on c u v) = u

  chain_hops : {a b : ℕ} → T (has l a) → Chain touches l a b → (t : ℕ) × (within touches l t a b ≡ true)
  chain_hops {a} h here = (0, within_start 0 a)
  chain_hops {a} h (on {b} {c} p u v) =
      let r = chain_hops h p in
      let k = has_which l b (chain_in h p) in
      let e = k.2 in
      (suc r.0, within_on r.0 a k.0 c k.1 (rw e r.1) (rw e (is_true _ v)))

  pub chain_within : {a b : ℕ} → T (has l a) → Chain touches l a b → within touches l (length l) a b ≡ true
  chain_within {a} {b} h c = let r = chain_hops h c in all_within a h (length l) (omega arith) r.0 b (chain_in h c) r.1

pub merged_sound : (touches : ℕ → ℕ → Bool) (l : List ℕ) → MergedSound touches l
unfolding drops
merged_sound touches l = record {
  chained = λ j h t.
      let r = some_which (λ i. within touches l (length l) (get_or l i 0) (get_or l j 0)) j (is_true _ t) in
      record { i = r.0; earlier = r.1; chain = within_chain touches l (length l) (get_or l r.0 0) (get_or l j 0) (has_at l j h) r.2 };
  dropped = λ j h d.
      holds _ (some_at (λ i. within touches l (length l) (get_or l i 0) (get_or l j 0)) j d.i d.earlier (chain_within touches l (has_at l d.i (omega (arith, d.earlier))) d.chain));
}

-- merging adds nothing
pub merged_few : (touches : ℕ → ℕ → Bool) (l : List ℕ) → length (merged touches l) ≤ length l
unfolding merged
merged_few touches l =
    omega (
      arith,
      length_collect (λ j. not (drops touches l j)) (λ j. get_or l j 0 ∷ []) 0 (length l),
      count_bound (λ j. not (drops touches l j)) (length l),
    )
