-- Document 01, section 8, `bake_islands_detection`: what reach is, and which number is a label. No walk is in it.
use Rattle.std.specs.Prelude.{ℕ, ◌<◌, ◌≤◌, ◌≡◌, Bool, List, T, length, get_or}

-- 'a polygon reaches those in its vertices' lists, and what those reach', and itself; one-way
pub data Reaches (names : ℕ → ℕ → Bool) : ℕ → ℕ → Type 0 where
  here : {a : ℕ} → Reaches names a a
  step : {a b c : ℕ} → T (names a c) → Reaches names c b → Reaches names a b

-- 'its label is the least number that reaches it (itself included)'
pub record IsLabel (names : ℕ → ℕ → Bool) (k label : ℕ) : Type 0 where
  pub reached : Reaches names label k
  pub least : (m : ℕ) → Reaches names m k → label ≤ m

-- one label for each of the numbers below n
pub record Labels (names : ℕ → ℕ → Bool) (n : ℕ) (labels : List ℕ) : Type 0 where
  pub long : length labels ≡ n
  pub each : (k : ℕ) → k < n → IsLabel names k (get_or labels k 0)
