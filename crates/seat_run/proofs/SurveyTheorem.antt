-- The surveyor's theorem, of bytes: every seat run that is not refused meets the surveyor's statement, which leaves nothing free.
use Prim.Native.Nat.{ℕ, zero, suc, ◌+◌, ◌≤◌, ◌<◌}
use native.Mathlib.Omega.{arith}
use mathlib.Core.Path.{◌≡◌, refl, sym, ap, ap₂, ◌∙◌}
use mathlib.Core.List.{List, [], ◌∷◌}
use lib.ListN.{length}
use Rattle.words.specs.Rows.{rows}
use Rattle.answers.specs.Replies.{reply_check, answer_to, output_to, Replied, Answer}
use Rattle.answers.proofs.Replying.{check_passed, passed_check, answer_passed, output_length}
use Rattle.std.specs.Prelude.{Ok}
use Rattle.records.specs.declared.SeatRecord.{SeatRecord}
use Rattle.records.specs.Record.{record_bytes}
use Rattle.ship.specs.Layout.{steps_in}
use Rattle.ship.specs.Model.{Ship, with_steps}
use Rattle.ship.specs.Decode.{decode, with_steps_bytes}
use Rattle.ship.specs.Questions.{first_no}
use Rattle.ship.proofs.Facts.{steps_range}
use Rattle.ship.proofs.ModelFacts.{steps_in_lem}
use Rattle.ship.proofs.RaisedSteps.{raised, raised_decks}
use Rattle.survey.specs.declared.Seat.{Seat}
use Rattle.survey.specs.Search.{seat_record}
use Rattle.survey.specs.Survey.{SeatSurvey}
use Rattle.survey.proofs.Steps.{steady}
use Rattle.walking.specs.Sees.{sample_on, place_of, shown_from, view}
use Rattle.seat_run.specs.SeatFile.{seat_at, seat_count, seats_of}
use Rattle.seat_run.specs.Run.{record_of_seat, run_reply}
use Rattle.seat_run.specs.Survey.{Each, Survey, Kept, Surveyed, SurveyedCode}
use Rattle.seat_run.proofs.SeatReads.{seat_floats}
use Rattle.seat_run.proofs.SeatAsks.{RunPassed, run_yes, run_passed, seat_yes16}
use Rattle.seat_run.proofs.SeatSurveys.{wish_within, seat_surveyed, seat_once}
use Rattle.seat_run.proofs.RunRecords.{run_length, reply_long, of_run, run_room, result_records, result_record, result_slice}

-- ---- two lists, element by element
module _ {A B : Type 0} (R : A → B → Type 0) (f : ℕ → A) where
  each_rows : (g : ℕ → B) (n i : ℕ) → ((j : ℕ) → i ≤ j → j < i + n → R (f j) (g j)) → Each R (rows f i n) (rows g i n)
  unfolding rows
  each_rows g zero i h = tt
  each_rows g (suc n) i h = (h i (omega arith) (omega arith), each_rows g n (i + 1) (λ j a b. h j (omega arith) (omega arith)))

  each_once : (n i : ℕ) → ((j : ℕ) → i ≤ j → j < i + n → (x y : B) → R (f j) x → R (f j) y → x ≡ y) → (l m : List B)
      → Each R (rows f i n) l → Each R (rows f i n) m → l ≡ m
  unfolding rows
  each_once zero i h [] [] p q = refl
  each_once zero i h [] (y ∷ m) p q = absurd q
  each_once zero i h (x ∷ l) m p q = absurd p
  each_once (suc n) i h [] m p q = absurd p
  each_once (suc n) i h (x ∷ l) [] p q = absurd q
  each_once (suc n) i h (x ∷ l) (y ∷ m) p q =
      ap₂ ◌∷◌ (h i (omega arith) (omega arith) x y p.0 q.0) (each_once n (i + 1) (λ j a b. h j (omega arith) (omega arith)) l m p.1 q.1)

-- ---- the survey of a list of seats
abbrev pub Meets : Ship → List ℕ → Seat → SeatRecord → Type 0
Meets ship blocked seat r = SeatSurvey (view ship blocked seat) ship.steps r

module _ (file blocked seats : List ℕ) (passed : RunPassed file blocked seats) where
  module _ (i : ℕ) (h : i < seat_count seats) where
    pub listed_meets : Meets (decode file) blocked (seat_at seats i) (record_of_seat (decode file) blocked seats i)
    listed_meets =
        let q = seat_yes16 passed i h in
        seat_surveyed file passed.file_passed blocked (seat_at seats i) (seat_floats seats i q).at_within (wish_within seats i q)

    listed_once : (r r' : SeatRecord) → Meets (decode file) blocked (seat_at seats i) r → Meets (decode file) blocked (seat_at seats i) r' → r ≡ r'
    listed_once =
        let q = seat_yes16 passed i h in
        seat_once file passed.file_passed blocked (seat_at seats i) (seat_floats seats i q).at_within (wish_within seats i q)

  survey_run : Survey (decode file) blocked (seats_of seats) (rows (record_of_seat (decode file) blocked seats) 0 (seat_count seats))
  survey_run =
      each_rows (Meets (decode file) blocked) (seat_at seats) (record_of_seat (decode file) blocked seats) (seat_count seats) 0 (λ j a b. listed_meets j (omega arith))

  -- nothing in the statement is free
  pub survey_lists_equal : (records records' : List SeatRecord) → Survey (decode file) blocked (seats_of seats) records
      → Survey (decode file) blocked (seats_of seats) records' → records ≡ records'
  survey_lists_equal = each_once (Meets (decode file) blocked) (seat_at seats) (seat_count seats) 0 (λ j a b. listed_once j (omega arith))

-- ---- more steps
-- what a seat sees does not depend on the step number
view_steps : (ship : Ship) (n : ℕ) (blocked : List ℕ) (seat : Seat) → view (with_steps ship n) blocked seat ≡ view ship blocked seat
unfolding shown_from place_of sample_on
view_steps ship n blocked seat = refl

module _ (file blocked seats out : List ℕ) (passed : reply_check (run_reply file blocked seats) (length out) ≡ Ok tt) (S : ℕ) (more : steps_in file ≤ S) (most : S ≤ 16)
    (out' : List ℕ) (room' : length out ≤ length out') where
  asked : RunPassed file blocked seats
  asked = run_yes file blocked seats (passed_check (run_reply file blocked seats) (length out) passed).0

  raised_file : (first_no (with_steps_bytes file S) ≡ Ok tt) × (decode (with_steps_bytes file S) ≡ with_steps (decode file) S)
  raised_file = raised file S asked.file_passed (omega (arith, (steps_range file asked.file_passed).0)) most

  raised_run : reply_check (run_reply (with_steps_bytes file S) blocked seats) (length out') ≡ Ok tt
  raised_run =
      check_passed (run_reply (with_steps_bytes file S) blocked seats) (length out')
      (run_passed (with_steps_bytes file S) blocked seats (record { file_passed = raised_file.0; yes14 = asked.yes14; seats_passed = rw (raised_decks file S asked.file_passed) asked.seats_passed }))
      (omega (arith, reply_long (with_steps_bytes file S) blocked seats, run_room file blocked seats out passed))

  raised_record : (i : ℕ) → record_of_seat (decode (with_steps_bytes file S)) blocked seats i ≡ seat_record (view (decode file) blocked (seat_at seats i)) S
  raised_record i = rw (raised_file.1, view_steps (decode file) S blocked (seat_at seats i))

  kept : Kept (seat_count seats) (output_to (run_reply file blocked seats) out) (output_to (run_reply (with_steps_bytes file S) blocked seats) out')
  kept i h placed =
      let v = view (decode file) blocked (seat_at seats i) in
      let here = result_record file blocked seats out passed i h in
      result_slice (with_steps_bytes file S) blocked seats out' raised_run i h
      ∙ ap record_bytes
      (raised_record i ∙ steady v (decode file).steps S (omega (arith, steps_in_lem file)) (λ e. placed (ap (λ (r : SeatRecord). r.polygon) here ∙ e)))
      ∙ sym (result_slice file blocked seats out passed i h)

  counted : answer_to (run_reply (with_steps_bytes file S) blocked seats) out' ≡ Ok (seat_count seats)
  counted = answer_passed (run_reply (with_steps_bytes file S) blocked seats) out' raised_run ∙ rw (run_length (decode (with_steps_bytes file S)) blocked seats)

-- ---- the theorem
surveyed_run : (file blocked seats out : List ℕ) → Surveyed file blocked seats (answer_to (run_reply file blocked seats) out) (output_to (run_reply file blocked seats) out)
surveyed_run file blocked seats out =
    of_run file blocked seats out (λ r. Surveyed file blocked seats r (output_to (run_reply file blocked seats) out)) (λ number. tt)
    (λ e.
    let y = run_yes file blocked seats (passed_check (run_reply file blocked seats) (length out) e).0 in
    let long = output_length (run_reply file blocked seats) out in (
      rw (result_records file blocked seats out e) (survey_run file blocked seats y),
      λ S more most out' room'.
          let l : length out ≤ length out' = omega arith in
          (counted file blocked seats out e S more most out' l, kept file blocked seats out e S more most out' l),
    ))

pub surveyed : (file blocked seats out : List ℕ) {out' : List ℕ} {r : Answer} → Replied (run_reply file blocked seats) out out' r → Surveyed file blocked seats r out'
surveyed file blocked seats out h = rw (h.answer_is, h.output_is) (surveyed_run file blocked seats out)

pub surveyed_code : (file blocked seats out : List ℕ) {out' : List ℕ} {r : Answer} → Replied (run_reply file blocked seats) out out' r → SurveyedCode file blocked seats out out'
surveyed_code file blocked seats out h = rw h.output_is (surveyed_run file blocked seats out)
