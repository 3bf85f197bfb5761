-- Document 01, sections 5 and 7: the search of one seat as it is computed, over what the seat sees.
use Rattle.std.specs.Prelude.{ℕ, zero, suc, ◌+◌, ◌*◌, List, [], ◌∷◌, Bool, cond, length, Option, Some, None}
use Rattle.words.specs.Rows.{collect, sum_of}
use Rattle.records.specs.declared.SeatRecord.{SeatRecord}
use Rattle.records.specs.Record.{unplaced_record}
use Rattle.hits.specs.declared.Candidate.{Candidate}
use Rattle.hits.specs.declared.Hit.{Hit}
use Rattle.hits.specs.Candidates.{candidate}
use Rattle.hits.specs.Hits.{sample_hit, tried_of}
use Rattle.survey.specs.Wishes.{nearer}
use Rattle.survey.specs.View.{Shown, View}
use Rattle.survey.specs.Record.{placed_record}

module _ (w : Shown) where
  -- whether polygon k passes at sample i of step s on deck d
  abbrev pub passes_on : ℕ → ℕ → ℕ → ℕ → Bool
  passes_on s d i k = w.passes (candidate s d i k)

  -- deck d's turn in step s
  unfoldable pub turn : ℕ → ℕ → Option Hit
  turn s d = sample_hit (passes_on s d) (w.polygons d) 0 (10 * s + 1)

  -- those of the n polygons from k on that pass there, in rising number
  abbrev pub passing : ℕ → ℕ → ℕ → ℕ → ℕ → List Candidate
  passing s d i k n = collect (passes_on s d i) (λ j. candidate s d i j ∷ []) k n

  -- a hit gives all polygons that pass at its sample
  abbrev pub given : ℕ → ℕ → Option Hit → List Candidate
  given s d (Some h) = passing s d h.sample 0 (w.polygons d)
  given s d None = []

  abbrev pub turn_gives : ℕ → ℕ → List Candidate
  turn_gives s d = given s d (turn s d)

  abbrev pub turn_tried : ℕ → ℕ → ℕ
  turn_tried s d = tried_of s (turn s d)

module _ (v : View) where
  -- the candidates of step s: those of each open deck in rising order, here the n decks from d on
  abbrev pub candidates_from : ℕ → ℕ → ℕ → List Candidate
  candidates_from s d n = collect v.opens (turn_gives v.shown s) d n

  abbrev pub candidates : ℕ → List Candidate
  candidates s = candidates_from s 0 v.decks

  -- the samples tried in step s
  abbrev pub tried_from : ℕ → ℕ → ℕ → ℕ
  tried_from s d n = sum_of v.opens (turn_tried v.shown s) d n

  abbrev pub tried_in : ℕ → ℕ
  tried_in s = tried_from s 0 v.decks

  -- the samples tried in the steps before s
  unfoldable pub tried_before : ℕ → ℕ
  tried_before zero = 0
  tried_before (suc s) = tried_before s + tried_in s

  -- ---- the choice: a later candidate takes the place of an earlier one only where its height is preferred
  abbrev pub better : Candidate → Candidate → Bool
  better c d = nearer v.wish (v.shown.height c) (v.shown.height d)

  unfoldable pub best_of : Candidate → List Candidate → Candidate
  best_of c [] = c
  best_of c (d ∷ rest) = best_of (cond (better d c) d c) rest

-- ---- the first step with any hit is the last
pub data Found : Type 0 where
  Nowhere : Found
  InStep : ℕ → Candidate → List Candidate → Found

abbrev pub step_or : List Candidate → ℕ → Found → Found
step_or [] s later = later
step_or (c ∷ rest) s later = InStep s c rest

-- the steps from s on, n of them
unfoldable pub first_step : View → ℕ → ℕ → Found
first_step v s zero = Nowhere
first_step v s (suc n) = let later = first_step v (s + 1) n in step_or (candidates v s) s later

-- the candidates of that step, in order
abbrev pub found_in : Found → List Candidate
found_in Nowhere = []
found_in (InStep s c rest) = c ∷ rest

-- ---- the record of a seat whose search runs S steps
abbrev pub record_of : View → ℕ → Found → SeatRecord
record_of v S Nowhere = unplaced_record (tried_before v S)
record_of v S (InStep s c rest) = placed_record v.shown (best_of v c rest) (tried_before v (suc s)) (suc (length rest))

unfoldable pub seat_record : View → ℕ → SeatRecord
seat_record v S = record_of v S (first_step v 0 S)
