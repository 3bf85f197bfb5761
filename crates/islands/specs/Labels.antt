-- The labels computed, for contracts and examples. `Labels` says that they are the least numbers that reach.
use Rattle.std.specs.Prelude.{ℕ, zero, suc, ◌+◌, Bool, ◌&&◌, ◌||◌, cond, List, eqb}
use Rattle.words.specs.Rows.{rows}

-- the first of the n numbers from i on that passes, or the one after them
unfoldable pub first : (ℕ → Bool) → ℕ → ℕ → ℕ
first p i zero = i
first p i (suc n) = cond (p i) i (first p (i + 1) n)

module _ (names : ℕ → ℕ → Bool) where
  -- whether a reaches b by way of numbers below t
  unfoldable pub through : ℕ → ℕ → ℕ → Bool
  through zero a b = eqb a b || names a b
  through (suc t) a b = through t a b || (through t a t && through t t b)

  -- the first number that reaches k, by way of any of the n; k itself at the latest
  unfoldable pub label_by : ℕ → ℕ → ℕ
  label_by n k = first (λ m. through n m k) 0 k

  unfoldable pub labels_by : ℕ → List ℕ
  labels_by n = rows (label_by n) 0 n
