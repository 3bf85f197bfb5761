-- Document 01, section 7: the text of `seatlist`, from the bytes that it reads.
use Rattle.std.specs.Prelude.{ℕ, suc, ◌+◌, cond, List, [], ◌∷◌, ◌++◌, length, take, drop, Ok, Err}
use Rattle.words.specs.Bytes.{u32_at}
use Rattle.answers.specs.declared.Refusal.TheVariants.{WrongInput}
use Rattle.answers.specs.Questions.{number_of}
use Rattle.answers.specs.Checks.{Check}
use Rattle.answers.specs.Replies.{Reply}
use Rattle.records.specs.declared.SeatRecord.{SeatRecord}
use Rattle.records.specs.Record.{is_unplaced}
use Rattle.lines.specs.Lines.{seat_line, end_line, refused_line}
use Rattle.lines.specs.Input.{question21}
use Rattle.ship.specs.Decode.{decode}
use Rattle.seat_run.specs.SeatFile.{seats_of}
use Rattle.seat_run.specs.Run.{run_check, seat_run}

-- ---- the parts of an input: file length (u32), file, the 32 bytes of the blocked set, then seats to the end
abbrev pub file_in : List ℕ → List ℕ
file_in input = take (u32_at input 0) (drop 4 input)

abbrev pub blocked_in : List ℕ → List ℕ
blocked_in input = take 32 (drop (4 + u32_at input 0) input)

abbrev pub seats_in : List ℕ → List ℕ
seats_in input = drop (4 + u32_at input 0 + 32) input

-- ---- a line a seat, numbered from i on, in list order
unfoldable pub seat_lines : ℕ → List SeatRecord → List ℕ
seat_lines i [] = []
seat_lines i (r ∷ rest) = seat_line i r ++ seat_lines (i + 1) rest

-- how many seats of a list are placed, and how many are not
unfoldable pub placed_in : List SeatRecord → ℕ
placed_in [] = 0
placed_in (r ∷ rest) = cond (is_unplaced r) (placed_in rest) (suc (placed_in rest))

unfoldable pub unplaced_in : List SeatRecord → ℕ
unplaced_in [] = 0
unplaced_in (r ∷ rest) = cond (is_unplaced r) (suc (unplaced_in rest)) (unplaced_in rest)

-- the lines of a run, or the one line of its refusal
abbrev pub run_text : Check → List SeatRecord → List ℕ
run_text (Err refusal) records = refused_line (number_of refusal)
run_text (Ok tt) records = seat_lines 0 records ++ end_line (placed_in records) (unplaced_in records)

-- of an input that passed 21
unfoldable pub list_text : List ℕ → List ℕ → List ℕ → List ℕ
list_text file blocked seats = run_text (run_check file blocked seats) (seat_run (decode file) blocked (seats_of seats))

unfoldable pub seatlist_text : List ℕ → List ℕ
seatlist_text input = cond (question21 input) (list_text (file_in input) (blocked_in input) (seats_in input)) (refused_line (number_of WrongInput))

-- an entry is a byte; there is nothing to ask of an input, but that its text fits the output
abbrev pub text_reply : List ℕ → Reply
text_reply input = record { check = Ok tt; count = length (seatlist_text input); bytes = seatlist_text input }
