-- Document 02, point 4: the run that is lent a table: its questions, what it writes and where.
use Rattle.std.specs.Prelude.{ℕ, ◌*◌, List, ℤ, length, Ok}
use Rattle.words.specs.Bytes.{counts_of}
use Rattle.answers.specs.Checks.{ask, after, check_each, Check}
use Rattle.answers.specs.Replies.{Reply, reply_of, with_table, table_to, answer_to, output_to, Tabled, TabledCode, Answer}
use Rattle.answers.specs.declared.Refusal.TheVariants.{NoSuchNeighbour}
use Rattle.records.specs.Record.{record_bytes}
use Rattle.ship.specs.Model.{Ship, deck_of, polygon_total}
use Rattle.ship.specs.Decode.{decode}
use Rattle.islands.specs.Islands.{question19}
use Rattle.seat_run.specs.Run.{run_check, run_records}
use Rattle.seat_run.specs.Survey.{Surveyed}
use Rattle.seat_run.specs.Blocked.{BlockedUnplaced}
use Rattle.loads.specs.Sheet.{ship_labels, sheet_of}

-- a count, 8 bytes
abbrev pub count_size : ℕ
count_size = 8

-- '19 .. put to each deck in rising order'
unfoldable pub labels_check : Ship → Check
labels_check ship = check_each (λ d. ask (question19 (deck_of ship d)) NoSuchNeighbour (Ok tt)) 0 (length ship.decks)

-- the questions before 20: those of the run, then 19
unfoldable pub loads_check : List ℕ → List ℕ → List ℕ → Check
loads_check file blocked seats = after (run_check file blocked seats) (labels_check (decode file))

-- the records are those of the run
abbrev pub loads_reply : List ℕ → List ℕ → List ℕ → Reply
loads_reply file blocked seats = reply_of (loads_check file blocked seats) record_bytes (run_records file blocked seats)

-- the sheet of a run on these bytes, and its bytes
abbrev pub run_sheet : List ℕ → List ℕ → List ℕ → List ℕ
run_sheet file blocked seats = sheet_of (ship_labels (decode file)) (run_records file blocked seats)

abbrev pub sheet_bytes : List ℕ → List ℕ → List ℕ → List ℕ
sheet_bytes file blocked seats = counts_of (run_sheet file blocked seats)

-- 20 wants work of 8 bytes a polygon of all decks
abbrev pub loads_work : List ℕ → ℕ
loads_work file = 8 * polygon_total (decode file)

-- what the call promises, and over C
abbrev pub LoadsReplied : List ℕ → List ℕ → List ℕ → List ℕ → List ℕ → List ℕ → List ℕ → List ℕ → List ℕ → Answer → Type 0
LoadsReplied file blocked seats out out' table table' work work' r =
    Tabled (loads_reply file blocked seats) (sheet_bytes file blocked seats) (loads_work file) out out' table table' work work' r

abbrev pub LoadsCode : List ℕ → List ℕ → List ℕ → List ℕ → List ℕ → List ℕ → List ℕ → List ℕ → List ℕ → ℤ → Type 0
LoadsCode file blocked seats out out' table table' work work' r =
    TabledCode (loads_reply file blocked seats) (sheet_bytes file blocked seats) (loads_work file) out out' table table' work work' r

-- ---- what a call that is lent these answers and leaves
pub record Lent : Type 0 where
  pub seats : List ℕ
  pub out : List ℕ
  pub table : List ℕ
  pub work : List ℕ

abbrev pub lent_of : List ℕ → List ℕ → List ℕ → List ℕ → Lent
lent_of seats out table work = record { seats = seats; out = out; table = table; work = work }

module _ (file blocked : List ℕ) (lent : Lent) where
  -- all that 20 asks of, the output apart
  abbrev pub asked_reply : Reply
  asked_reply =
      with_table (loads_reply file blocked lent.seats) (sheet_bytes file blocked lent.seats) (loads_work file) lent.table lent.work

  abbrev pub loads_answer : Answer
  loads_answer = answer_to asked_reply lent.out

  abbrev pub loads_output : List ℕ
  loads_output = output_to asked_reply lent.out

  abbrev pub loads_table : List ℕ
  loads_table = table_to asked_reply (sheet_bytes file blocked lent.seats) lent.out lent.table

-- ---- what holds of the records of every run holds here too: over C, whose answer is a number, of the answer that this call gives
abbrev pub SurveyedLoads : List ℕ → List ℕ → Lent → List ℕ → Type 0
SurveyedLoads file blocked lent out' = Surveyed file blocked lent.seats (loads_answer file blocked lent) out'

abbrev pub UnplacedLoads : List ℕ → List ℕ → Lent → List ℕ → Type 0
UnplacedLoads file blocked lent out' = BlockedUnplaced file blocked lent.seats (loads_answer file blocked lent) out'
