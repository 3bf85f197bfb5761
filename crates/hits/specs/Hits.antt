-- Document 01, section 5: the first sample that hits ends a deck's turn. A sample hits exactly when some polygon passes at it.
-- 'From number a on, n of them' is the shape of each definition, so that a loop follows it.
use Rattle.std.specs.Prelude.{ℕ, zero, suc, ◌+◌, ◌*◌, Bool, cond, Option, Some, None}
use Rattle.hits.specs.declared.Hit.{Hit}
use Rattle.hits.specs.Candidates.{hit}

-- the first of two hits
abbrev pub or_else : Option Hit → Option Hit → Option Hit
or_else (Some h) later = Some h
or_else None later = later

-- ---- one polygon test, whatever it is: passes i k says whether polygon k passes at sample i
module _ (passes : ℕ → ℕ → Bool) where
  -- the first polygon that passes at sample i
  unfoldable pub polygon_hit : ℕ → ℕ → ℕ → Option Hit
  polygon_hit i k zero = None
  polygon_hit i k (suc n) = let later = polygon_hit i (k + 1) n in cond (passes i k) (Some (hit i k)) later

  -- the first sample that hits
  unfoldable pub sample_hit : ℕ → ℕ → ℕ → Option Hit
  sample_hit polygons i zero = None
  sample_hit polygons i (suc n) = let later = sample_hit polygons (i + 1) n in or_else (polygon_hit i 0 polygons) later

-- how many samples a turn of step s took: up to and including its hit, all 10 * s + 1 if none
abbrev pub tried_of : ℕ → Option Hit → ℕ
tried_of s (Some h) = h.sample + 1
tried_of s None = 10 * s + 1
