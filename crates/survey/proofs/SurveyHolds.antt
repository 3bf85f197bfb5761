-- The record of a seat meets the surveyor's statement.
use Prim.Native.Nat.{ℕ, ◌+◌, ◌*◌, ◌^◌, ◌≤◌, ◌<◌}
use mathlib.Core.Path.{◌≡◌, refl, sym, ap, ap₂, ◌∙◌, subst}
use mathlib.Core.Logic.{◌⊎◌}
use mathlib.Core.List.{List, [], ◌∷◌}
use native.Mathlib.Omega.{arith}
use lib.ListN.{length}
use Rattle.hits.specs.declared.Candidate.{Candidate}
use Rattle.survey.specs.View.{View}
use Rattle.survey.specs.Search.{turn_gives, turn_tried, candidates, tried_in, tried_before, best_of, Found, Nowhere, InStep, first_step, record_of, seat_record}
use Rattle.words.specs.Bytes.{all_ones}
use Rattle.records.specs.Record.{unplaced_record}
use Rattle.survey.specs.Record.{placed_record}
use Rattle.survey.specs.Survey.{NoHit, IsCandidate, Earlier, Prefers, Placed, SeatSurvey}
use Rattle.words.proofs.Collecting.{In, Rising}
use Rattle.survey.proofs.Preference.{MeasuredBelow, IsBest, best_is}
use Rattle.survey.proofs.Recorded.{not_all_ones}
use Rattle.survey.proofs.Steps.{tried_is, count_is, of_candidates, in_candidates, candidates_rise, how_many, no_hit, no_candidate, tried_before_is, StepIs, first_step_is}

module _ (v : View) (few_decks : v.decks ≤ 256) (few_polygons : (d : ℕ) → v.shown.polygons d ≤ 16777215) (S : ℕ) (measured : MeasuredBelow v S) where
  -- step t is the first with candidates, c and the rest
  module _ (t : ℕ) (c : Candidate) (rest : List Candidate) (below : t < S) (found : candidates v t ≡ c ∷ rest) (earliest : (u : ℕ) → u < t → candidates v u ≡ []) where
    best : Candidate
    best = best_of v c rest

    is_best : IsBest v c rest best
    unfolding best
    is_best =
        best_is v c rest (λ x k. measured t below x (of_candidates v t x (subst (In x) (sym found) k))) (subst (Rising (Earlier v)) found (candidates_rise v t))

    best_candidate : IsCandidate v t best
    best_candidate = of_candidates v t best (subst (In best) (sym found) is_best.0)

    best_preferred : (x : Candidate) → IsCandidate v t x → (x ≡ best) ⊎ Prefers v best x
    best_preferred x h = is_best.1 x (subst (In x) found (in_candidates v t x h))

    not_unplaced : best.deck * 2 ^ 24 + best.polygon ≡ all_ones → ⊥
    not_unplaced =
        not_all_ones best.deck best.polygon (v.shown.polygons best.deck) (omega (arith, best_candidate.on_open.0)) best_candidate.passes.0
        (few_polygons best.deck)

    at : t ≡ best.step
    at = sym best_candidate.of_step

    is_placed : Placed v S (record_of v S (InStep t c rest))
    unfolding best tried_before
    is_placed =
        record {
          chosen = best;
          below = subst (λ (u : ℕ). u < S) at below;
          earliest = subst (NoHit v) at (λ s l. no_hit v s (earliest s l));
          is_candidate = subst (λ (u : ℕ). IsCandidate v u best) at best_candidate;
          preferred = subst (λ (u : ℕ). (x : Candidate) → IsCandidate v u x → (x ≡ best) ⊎ Prefers v best x) at best_preferred;
          tried = turn_tried v.shown best.step;
          tried_is = λ d o. tried_is v best.step d;
          count = λ d. length (turn_gives v.shown best.step d);
          count_is = λ d o. count_is v best.step d;
          numbers =
              ap₂ (placed_record v.shown best)
              (ap (λ (u : ℕ). tried_before v u + tried_in v u) at
              ∙ ap₂ ◌+◌ (tried_before_is v best.step (subst (λ (u : ℕ). (s : ℕ) → s < u → candidates v s ≡ []) at earliest)) refl)
              (ap length (sym found) ∙ ap (λ (u : ℕ). length (candidates v u)) at ∙ how_many v best.step);
        }

    placed_holds : SeatSurvey v S (record_of v S (InStep t c rest))
    unfolding best
    placed_holds =
        record {
          unplaced = (λ e. absurd (not_unplaced e), λ n. absurd (no_candidate v t best (n t below) best_candidate));
          unplaced_numbers = λ e. absurd (not_unplaced e);
          placed = λ p. is_placed;
        }

  pub survey_holds : SeatSurvey v S (seat_record v S)
  unfolding seat_record
  survey_holds = go (first_step v 0 S) (first_step_is v 0 S)
    where
      go : (f : Found) → StepIs v 0 S f → SeatSurvey v S (record_of v S f)
      go Nowhere h =
          record {
            unplaced = (λ e s l. no_hit v s (h s (omega arith) (omega arith)), λ n. refl);
            unplaced_numbers = λ e. ap unplaced_record (tried_before_is v S (λ s l. h s (omega arith) (omega arith)));
            placed = λ p. absurd (p refl);
          }
      go (InStep t c rest) h = placed_holds t c rest (omega (arith, h.1)) h.2 (λ u l. h.3 u (omega arith) l)
