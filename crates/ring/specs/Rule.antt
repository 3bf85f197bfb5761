-- Document 01, section 4: what is proved once over the table, on whole numbers. A s i and B s i are the pair of sample i of step s.
use Rattle.std.specs.Prelude.{◌≡◌, ℕ, ◌+◌, ◌*◌, ◌^◌, ◌<◌, ◌≤◌, ℤ, pos, neg_ℤ, nat_abs, ◌+ℤ◌, ◌-ℤ◌, ◌*ℤ◌, ◌<ℤ◌}
use Rattle.ring.specs.Sample.{direction_a, direction_b}

abbrev pub A : ℕ → ℕ → ℤ
A = direction_a

abbrev pub B : ℕ → ℕ → ℤ
B = direction_b

-- |a - b| ≤ 2^25
abbrev pub Near : ℤ → ℤ → Type 0
Near a b = nat_abs (a -ℤ b) ≤ 2 ^ 25

pub record TableRule : Type 0 where
  -- |A² + B² - 2^48| ≤ 2^25
  pub circle : (s i : ℕ) → s < 16 → i ≤ 10 * s → Near (A s i *ℤ A s i +ℤ B s i *ℤ B s i) (pos (2 ^ 48))
  -- pair 0 of a step is (0, 2^24)
  pub ahead : (s : ℕ) → s < 16 → (A s 0 ≡ pos 0) × (B s 0 ≡ pos (2 ^ 24))
  -- pair i + 1 is within 2 units, in each component, of pair i turned by pair 1
  pub turned : (s i : ℕ) → s < 16 → i < 10 * s
      → Near (pos (2 ^ 24) *ℤ A s (i + 1)) (A s i *ℤ B s 1 +ℤ B s i *ℤ A s 1) × Near (pos (2 ^ 24) *ℤ B s (i + 1)) (B s i *ℤ B s 1 -ℤ A s i *ℤ A s 1)
  -- A > 0 exactly for 0 < i < 5 * (s + 1)
  pub half : (s i : ℕ) → s < 16 → i ≤ 10 * s
      → (pos 0 <ℤ A s i → (0 < i) × (i < 5 * (s + 1))) × ((0 < i) × (i < 5 * (s + 1)) → pos 0 <ℤ A s i)
  -- for s ≥ 1 pair 10 * s is pair 10 with A negated
  pub mirrored : (s : ℕ) → 1 ≤ s → s < 16 → (A s (10 * s) ≡ neg_ℤ (A s 10)) × (B s (10 * s) ≡ B s 10)
