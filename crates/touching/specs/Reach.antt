-- Document 01, section 8, `candidate_polygons`: 'one drops out exactly if an earlier one reaches it through the list'.
use Rattle.std.specs.Prelude.{ℕ, zero, suc, ◌<◌, Bool, not, ◌&&◌, ◌||◌, List, [], ◌∷◌, T, eqb, length, get_or}
use Rattle.words.specs.Rows.{some, has, collect}

-- ---- as the document says it
-- A chain from a through the list: each hop leads to one of the list. It goes one way and in any order, and one that drops out passes reach on.
pub data Chain (touches : ℕ → ℕ → Bool) (l : List ℕ) (a : ℕ) : ℕ → Type 0 where
  here : Chain touches l a a
  on : {b c : ℕ} → Chain touches l a b → T (has l c) → T (touches b c) → Chain touches l a c

-- number j of the list drops out
pub record Drops (touches : ℕ → ℕ → Bool) (l : List ℕ) (j : ℕ) : Type 0 where
  pub i : ℕ
  pub earlier : i < j
  pub chain : Chain touches l (get_or l i 0) (get_or l j 0)

-- ---- as it is computed, for contracts and examples
module _ (touches : ℕ → ℕ → Bool) (l : List ℕ) where
  -- whether at most t hops lead from a to b
  unfoldable pub within : ℕ → ℕ → ℕ → Bool
  within zero a b = eqb a b
  within (suc t) a b = within t a b || some (λ k. within t a (get_or l k 0) && touches (get_or l k 0) b) 0 (length l)

  -- no chain needs more hops than the list has polygons
  unfoldable pub drops : ℕ → Bool
  drops j = some (λ i. within (length l) (get_or l i 0) (get_or l j 0)) 0 j

  -- the others, in their order
  unfoldable pub merged : List ℕ
  merged = collect (λ j. not (drops j)) (λ j. get_or l j 0 ∷ []) 0 (length l)

  -- the two say the same
  pub record MergedSound : Type 0 where
    pub chained : (j : ℕ) → j < length l → T (drops j) → Drops touches l j
    pub dropped : (j : ℕ) → j < length l → Drops touches l j → T (drops j)
