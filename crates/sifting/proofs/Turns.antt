-- `sift_deck` and `turn`: a list of every polygon, and a list that serves the samples of a step.
use Prim.Native.Nat.{ℕ, ◌≤◌, ◌<◌}
use native.Mathlib.Omega.{arith}
use mathlib.Core.Path.{◌≡◌}
use mathlib.Core.List.{List, []}
use lib.ListN.{length, take}
use lib.Ieee.{Float}
use Rattle.geometry.specs.declared.Vec2.{Vec2}
use Rattle.boxes.specs.declared.BoundingBox.{BoundingBox}
use Rattle.boxes.specs.StepBox.{step_box}
use Rattle.boxes.proofs.Samples.{step_box_within, sample_in_box}
use Rattle.ship.specs.Model.{Deck}
use Rattle.keeping.specs.Kept.{RingKept}
use Rattle.sifting.specs.declared.Remaining.{Remaining}
use Rattle.sifting.specs.Sifted.{KeptOver, SiftReady, SiftedInto, Around}
use Rattle.sifting.proofs.SiftLoop.{over_at}

-- every polygon is looked at
pub over_every : (deck : Deck) (bounds : BoundingBox) → KeptOver deck bounds [] 0
over_every deck bounds =
    record {
      list =
          record {
            rising = λ i j h b. let no_number : ⊥ = omega arith in absurd no_number;
            below = λ j h. let no_number : ⊥ = omega arith in absurd no_number;
            few = omega arith;
            there = omega arith;
          };
      others = λ q i k h absent. let no-polygon : ⊥ = omega arith in absurd no-polygon;
    }

module _ {deck : Deck} {p : Vec2} {reach : Float} {s : ℕ} (a : Around p reach) (few : s < 16) {bounds : BoundingBox} (box : bounds ≡ step_box p reach s) where
  -- ---- `sift_deck`
  pub every_ready : {numbers : List ℕ} {rest : ℕ} → numbers ≡ [] → rest ≡ 0 → SiftReady deck bounds numbers rest
  every_ready n r =
      rw (box, n, r)
      (record {
        box_within = step_box_within a.point_within a.reach_allowed few;
        source_kept = over_every deck (step_box p reach s);
      })

  pub every_sifted : {before after : List ℕ} {remaining : Remaining} → SiftedInto deck bounds before after remaining
      → SiftedInto deck (step_box p reach s) before after remaining
  every_sifted sifted = rw (← box) sifted

  -- ---- `turn`
  pub near_ready : {numbers : List ℕ} {rest : ℕ} → KeptOver deck (step_box p reach s) numbers rest → SiftReady deck bounds numbers rest
  near_ready over = rw box (record { box_within = step_box_within a.point_within a.reach_allowed few; source_kept = over })

  module _ {before near : List ℕ} {remaining : Remaining} (sifted : SiftedInto deck bounds before near remaining) where
    pub near_inside : remaining.count ≤ length near
    near_inside = omega (arith, sifted.inside, sifted.long)

    pub near_kept : RingKept deck (take remaining.count near) remaining.rest p reach s
    near_kept =
        record {
          at = λ i. over_at (rw (← box) sifted.kept_over) (sample_in_box a.point_within a.reach_allowed few i);
        }

pub ruleset turns = (every_ready, every_sifted, near_ready, near_inside, near_kept)
