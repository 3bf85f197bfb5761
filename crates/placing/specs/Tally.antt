-- The candidates of a step, taken in one after the other (document 01, section 7).
use Rattle.std.specs.Prelude.{ℕ, ◌+◌, ◌*◌, ◌≤◌, List, [], ◌∷◌, cond, length, Option, Some, None}
use Rattle.hits.specs.declared.Candidate.{Candidate}
use Rattle.survey.specs.declared.Wish.{Wish}
use Rattle.survey.specs.Wishes.{nearer}
use Rattle.survey.specs.View.{View}
use Rattle.survey.specs.Search.{candidates, tried_in}
use Rattle.walking.specs.Sees.{CandidateWithin}
use Rattle.placing.specs.declared.Choice.{Choice}
use Rattle.placing.specs.declared.Tally.{Tally}

-- the first candidate is chosen, and a later one in its stead only where its height is preferred
unfoldable pub choose_with : Wish → Option Choice → Choice → Option Choice
choose_with wish None next = Some next
choose_with wish (Some chosen) next = cond (nearer wish next.height chosen.height) (Some next) (Some chosen)

-- a candidate with where it is shown, and the height there
abbrev pub shown_choice : View → Candidate → Choice
shown_choice v c = record { candidate = c; place = v.shown.place c; height = v.shown.height c }

unfoldable pub best_from : View → Option Choice → List Candidate → Option Choice
best_from v best [] = best
best_from v best (c ∷ rest) = best_from v (choose_with v.wish best (shown_choice v c)) rest

-- so many samples tried before, and no candidate yet
abbrev pub start_of : ℕ → Tally
start_of tried = record { tried = tried; candidates = 0; best = None }

-- one candidate more, after so many samples more
abbrev pub take_with : Wish → Tally → ℕ → Choice → Tally
take_with wish t tried next = record { tried = t.tried + tried; candidates = t.candidates + 1; best = choose_with wish t.best next }

-- a whole step, after so many samples tried before it
unfoldable pub step_tally : View → ℕ → ℕ → Tally
step_tally v s tried = record { tried = tried + tried_in v s; candidates = length (candidates v s); best = best_from v None (candidates v s) }

-- ---- bounds: a step has at most 256 decks of at most 151 samples each, and a deck at most 16,777,215 polygons
abbrev pub BestWithin : Option Choice → Type 0
BestWithin None = Unit {0}
BestWithin (Some choice) = CandidateWithin choice.candidate choice.place choice.height

-- before step s
pub record TallyWithin (s : ℕ) (t : Tally) : Type 0 where
  pub tried_within : t.tried ≤ 38656 * s
  pub candidates_within : t.candidates ≤ 4294967040
  pub best_within : BestWithin t.best

-- the numbers of a record
pub record CountsWithin (tried candidates : ℕ) : Type 0 where
  pub tried_few : tried ≤ 618496
  pub candidates_few : candidates ≤ 4294967040
