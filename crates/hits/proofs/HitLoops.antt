-- A turn of the loops over polygons and over samples.
use Prim.Native.Nat.{ℕ, zero, suc, ◌+◌, ◌-◌, ◌≤◌, ◌<◌}
use mathlib.Core.Path.{◌≡◌, refl}
use mathlib.Core.Bool.{Bool, true, false}
use Rattle.std.specs.Prelude.{Some, None}
use Rattle.words.proofs.Collecting.{left, none_left}
use Rattle.hits.specs.declared.Hit.{Hit}
use Rattle.hits.specs.Candidates.{hit}
use Rattle.hits.specs.Hits.{polygon_hit, sample_hit}

module _ (passes : ℕ → ℕ → Bool) (i k n : ℕ) where
  pub polygon_hit_yes : k < n → passes i k ≡ true → polygon_hit passes i k (n - k) ≡ Some (hit i k)
  unfolding polygon_hit
  polygon_hit_yes h e = rw (left n k, e)

  pub polygon_hit_no : k < n → passes i k ≡ false → polygon_hit passes i k (n - k) ≡ polygon_hit passes i (k + 1) (n - (k + 1))
  unfolding polygon_hit
  polygon_hit_no h e = rw (left n k, e)

  pub polygon_hit_none : n ≤ k → polygon_hit passes i k (n - k) ≡ None
  unfolding polygon_hit
  polygon_hit_none h = rw (none_left n k)

-- only what passes at sample i counts
pub polygon_hit_same : (passes other : ℕ → ℕ → Bool) (i : ℕ) → ((k : ℕ) → passes i k ≡ other i k) → (k n : ℕ) → polygon_hit passes i k n ≡ polygon_hit other i k n
unfolding polygon_hit
polygon_hit_same passes other i e k zero = refl
polygon_hit_same passes other i e k (suc n) = rw (e k, polygon_hit_same passes other i e (k + 1) n)

module _ (passes : ℕ → ℕ → Bool) (polygons i n : ℕ) where
  pub sample_hit_yes : (h : Hit) → i < n → polygon_hit passes i 0 polygons ≡ Some h → sample_hit passes polygons i (n - i) ≡ Some h
  unfolding sample_hit
  sample_hit_yes h below e = rw (left n i, e)

  pub sample_hit_no : i < n → polygon_hit passes i 0 polygons ≡ None → sample_hit passes polygons i (n - i) ≡ sample_hit passes polygons (i + 1) (n - (i + 1))
  unfolding sample_hit
  sample_hit_no h e = rw (left n i, e)

  pub sample_hit_none : n ≤ i → sample_hit passes polygons i (n - i) ≡ None
  unfolding sample_hit
  sample_hit_none h = rw (none_left n i)
