-- The surveyor's statement, of bytes: what holds of every seat run that is not refused.
use Rattle.std.specs.Prelude.{ℕ, ◌≤◌, ◌<◌, ◌≡◌, List, [], ◌∷◌, length, Ok, Err}
use Rattle.words.specs.Bytes.{all_ones}
use Rattle.answers.specs.Replies.{answer_to, output_to, Answer}
use Rattle.records.specs.declared.SeatRecord.{SeatRecord}
use Rattle.records.specs.Record.{record_at, records_in, record_slice}
use Rattle.ship.specs.Model.{Ship}
use Rattle.ship.specs.Layout.{steps_in}
use Rattle.ship.specs.Decode.{decode, with_steps_bytes}
use Rattle.survey.specs.declared.Seat.{Seat}
use Rattle.survey.specs.Survey.{SeatSurvey}
use Rattle.walking.specs.Sees.{view}
use Rattle.seat_run.specs.SeatFile.{seats_of}
use Rattle.seat_run.specs.Run.{run_reply}

-- R holds of the two lists' elements, one by one, and the lists are equally long
abbrev pub Each : {A B : Type 0} → (A → B → Type 0) → List A → List B → Type 0
Each R [] [] = Unit {0}
Each R [] (b ∷ bs) = ⊥
Each R (a ∷ l) [] = ⊥
Each R (a ∷ l) (b ∷ bs) = R a b × Each R l bs

-- the seat list and the list of records, all of it at once
abbrev pub Survey : Ship → List ℕ → List Seat → List SeatRecord → Type 0
Survey ship blocked seats records = Each (λ seat r. SeatSurvey (view ship blocked seat) ship.steps r) seats records

-- every seat placed in the one output has the same bytes in the other
abbrev pub Kept : ℕ → List ℕ → List ℕ → Type 0
Kept n out out' = (i : ℕ) → i < n → ((record_at out i).polygon ≡ all_ones → ⊥) → record_slice out' i ≡ record_slice out i

-- What holds of a run on these bytes that answered so and left this output. A refused run says nothing of seats.
abbrev pub Surveyed : List ℕ → List ℕ → List ℕ → Answer → List ℕ → Type 0
Surveyed file blocked seats (Err refusal) out = Unit {0}
Surveyed file blocked seats (Ok n) out =
    Survey (decode file) blocked (seats_of seats) (records_in out n)
    × ((S : ℕ) → steps_in file ≤ S → S ≤ 16 → (out' : List ℕ) → length out ≤ length out'
    → (answer_to (run_reply (with_steps_bytes file S) blocked seats) out' ≡ Ok n)
    × Kept n out (output_to (run_reply (with_steps_bytes file S) blocked seats) out'))

-- the same of a run over C, whose answer is a number
abbrev pub SurveyedCode : List ℕ → List ℕ → List ℕ → List ℕ → List ℕ → Type 0
SurveyedCode file blocked seats out out' = Surveyed file blocked seats (answer_to (run_reply file blocked seats) out) out'
