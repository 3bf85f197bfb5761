-- Document 01, section 7: the seat run, its questions and its records.
use Rattle.std.specs.Prelude.{ℕ, ◌*◌, ◌≤◌, ◌≡◌, List, ◌++◌, map, ℤ, length, drop}
use Rattle.answers.specs.Checks.{ask, after, check_each, Check}
use Rattle.answers.specs.Replies.{Reply, reply_of, Replied, RepliedCode, Answer}
use Rattle.answers.specs.declared.Refusal.TheVariants.{WrongLength}
use Rattle.records.specs.declared.SeatRecord.{SeatRecord}
use Rattle.records.specs.Record.{record_size, record_bytes, records_bytes}
use Rattle.ship.specs.Model.{Ship}
use Rattle.ship.specs.Decode.{decode}
use Rattle.ship.specs.Layout.{decks_in}
use Rattle.ship.specs.Questions.{first_no}
use Rattle.survey.specs.declared.Seat.{Seat}
use Rattle.survey.specs.Search.{seat_record}
use Rattle.walking.specs.Sees.{view}
use Rattle.seat_run.specs.SeatFile.{seat_at, seat_count, seats_of, question14_seats, seat_check}

-- the questions of the run before 20, in their order; the seats' one seat after the other
unfoldable pub run_check : List ℕ → List ℕ → List ℕ → Check
run_check file blocked seats =
    after (first_no file)
    (ask (question14_seats blocked seats) WrongLength (check_each (seat_check seats (decks_in file)) 0 (seat_count seats)))

-- the record of seat i
abbrev pub record_of_seat : Ship → List ℕ → List ℕ → ℕ → SeatRecord
record_of_seat ship blocked seats i = seat_record (view ship blocked (seat_at seats i)) ship.steps

-- one record a seat, in list order
unfoldable pub seat_run : Ship → List ℕ → List Seat → List SeatRecord
seat_run ship blocked seats = map (λ seat. seat_record (view ship blocked seat) ship.steps) seats

-- the records of a run on these bytes
abbrev pub run_records : List ℕ → List ℕ → List ℕ → List SeatRecord
run_records file blocked seats = seat_run (decode file) blocked (seats_of seats)

abbrev pub run_reply : List ℕ → List ℕ → List ℕ → Reply
run_reply file blocked seats = reply_of (run_check file blocked seats) record_bytes (run_records file blocked seats)

-- what the run promises, and over C
abbrev pub RunReplied : List ℕ → List ℕ → List ℕ → List ℕ → List ℕ → Answer → Type 0
RunReplied file blocked seats out out' r = Replied (run_reply file blocked seats) out out' r

abbrev pub RunCode : List ℕ → List ℕ → List ℕ → List ℕ → List ℕ → ℤ → Type 0
RunCode file blocked seats out out' r = RepliedCode (run_reply file blocked seats) out out' r

-- ---- the records stand in the output from its first byte on, and nothing else is altered
abbrev pub RecordsRoom : List ℕ → List ℕ → Type 0
RecordsRoom seats out = record_size * seat_count seats ≤ length out

abbrev pub RecordsPut : List ℕ → List ℕ → List ℕ → List ℕ → List ℕ → Type 0
RecordsPut file blocked seats out out' =
    out' ≡ records_bytes (run_records file blocked seats) ++ drop (record_size * seat_count seats) out
