-- `mean_height`: what its loop over the vertices says at its start, in a turn and at its end.
use Prim.Native.Nat.{ℕ, ◌+◌, ◌≤◌, ◌<◌}
use mathlib.Core.Path.{◌≡◌, sym, ap, ◌∙◌}
use lib.ListN.{length, get_or, drop}
use lib.Ieee.{Float}
use Rattle.geometry.specs.declared.HeightSum.{HeightSum}
use Rattle.geometry.specs.Heights.{first_of, plus_height, mean_of, sum_from, mean_height}
use Rattle.ship.specs.Model.{Deck, height_of, corners_of, corner_at, polygon_corners}
use Rattle.search.proofs.Corners.{made_more, made_none}

-- sum is that of the heights before vertex j, so the mean is that of sum and the heights from j on
pub record SumLeft (deck : Deck) (k count : ℕ) (sum : HeightSum) (j : ℕ) : Type 0 where
  pub counts : count ≡ length (corners_of deck k)
  pub summed : sum.count ≡ j
  pub same : mean_height (polygon_corners deck k) ≡ mean_of (sum_from sum (drop j (polygon_corners deck k)))

module _ {deck : Deck} {k count : ℕ} where
  pub sum_first : {h : Float} {sum : HeightSum} → count ≡ length (corners_of deck k) → 1 ≤ count
      → h ≡ height_of deck (get_or (corners_of deck k) 0 0) → sum ≡ first_of h → SumLeft deck k count sum 1
  unfolding polygon_corners mean_height
  sum_first n some e f =
      record { counts = n; summed = ap (λ t. t.count) f; same = rw (f, e, made_more (corner_at deck) (corners_of deck k) n some) }

  module _ {sum : HeightSum} {j : ℕ} (l : SumLeft deck k count sum j) where
    pub sum_more : {h : Float} {next : HeightSum} → j < count → h ≡ height_of deck (get_or (corners_of deck k) j 0) → next ≡ plus_height sum h
        → SumLeft deck k count next (j + 1)
    unfolding polygon_corners sum_from
    sum_more b e f =
        record {
          counts = l.counts;
          summed = rw (f, l.summed);
          same = l.same ∙ rw (f, e, made_more (corner_at deck) (corners_of deck k) l.counts b);
        }

    pub sum_mean : {r : Float} → count ≤ j → r ≡ mean_of sum → r ≡ mean_height (polygon_corners deck k)
    unfolding polygon_corners sum_from
    sum_mean b e = e ∙ sym (l.same ∙ rw (made_none (corner_at deck) (corners_of deck k) l.counts b))

pub ruleset sums = (sum_first, sum_more, sum_mean)
