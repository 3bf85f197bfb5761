-- A list run in portions (document 02, point 4), of bytes: the portions' records are the whole's, and their tables added are its table.
use Rattle.std.specs.Prelude.{ℕ, ◌+◌, ◌*◌, ◌%◌, ◌≤◌, ◌<◌, ◌≡◌, List, [], ◌∷◌, ◌++◌, length, take, Ok, Err}
use Rattle.words.specs.Bytes.{joined, count_at}
use Rattle.words.specs.Rows.{All}
use Rattle.records.specs.Record.{record_size, record_slice}
use Rattle.ship.specs.Decode.{decode}
use Rattle.seat_run.specs.SeatFile.{seat_size, seat_count}
use Rattle.loads.specs.Sheet.{sheet_length}
use Rattle.loads.specs.Loads.{Lent, count_size, loads_work, loads_answer, loads_output, loads_table}
use Rattle.answers.specs.Replies.{Answer}

-- a portion ends between two seats, and is lent the room that it needs
pub record Portion (file : List ℕ) (lent : Lent) : Type 0 where
  pub whole : length lent.seats % seat_size ≡ 0
  pub out_room : record_size * seat_count lent.seats ≤ length lent.out
  pub table_room : count_size * sheet_length (decode file) ≤ length lent.table
  pub work_room : loads_work file ≤ length lent.work

-- ---- two portions of a list of n seats whose run left these records and this table
pub record Joins (file blocked : List ℕ) (n : ℕ) (out table : List ℕ) (front back : Lent) : Type 0 where
  -- neither is refused
  pub front_answer : loads_answer file blocked front ≡ Ok (seat_count front.seats)
  pub back_answer : loads_answer file blocked back ≡ Ok (seat_count back.seats)
  pub in_all : seat_count front.seats + seat_count back.seats ≡ n
  -- their records are the whole's at their places
  pub front_records : (i : ℕ) → i < seat_count front.seats → record_slice (loads_output file blocked front) i ≡ record_slice out i
  pub back_records : (i : ℕ) → i < seat_count back.seats
      → record_slice (loads_output file blocked back) i ≡ record_slice out (seat_count front.seats + i)
  -- 'the portions' tables added entry by entry are the table of the whole'
  pub tables : (k : ℕ) → k < sheet_length (decode file)
      → count_at (loads_table file blocked front) k + count_at (loads_table file blocked back) k ≡ count_at table k

-- ---- any number of portions
-- what each stands for, added up
unfoldable pub sum_portions : (Lent → ℕ) → List Lent → ℕ
sum_portions f [] = 0
sum_portions f (lent ∷ portions) = f lent + sum_portions f portions

-- their seats, one portion after the other
abbrev pub seats_in : List Lent → List ℕ
seats_in portions = joined (λ (lent : Lent). lent.seats) portions

-- the records that a call leaves
abbrev pub records_left : List ℕ → List ℕ → Lent → List ℕ
records_left file blocked lent = take (record_size * seat_count lent.seats) (loads_output file blocked lent)

pub record AllJoin (file blocked : List ℕ) (n : ℕ) (out table : List ℕ) (portions : List Lent) : Type 0 where
  -- none is refused
  pub answers : All (λ portion. loads_answer file blocked portion ≡ Ok (seat_count portion.seats)) portions
  pub in_all : sum_portions (λ portion. seat_count portion.seats) portions ≡ n
  -- their records one after the other are the whole's
  pub records : joined (records_left file blocked) portions ≡ take (record_size * n) out
  -- their tables added entry by entry are the table of the whole
  pub tables : (k : ℕ) → k < sheet_length (decode file)
      → sum_portions (λ portion. count_at (loads_table file blocked portion) k) portions ≡ count_at table k

-- ---- What holds of a run on these bytes that answered so and left these records and this table. A refused run says nothing of portions.
abbrev pub Portioned : List ℕ → List ℕ → List ℕ → Answer → List ℕ → List ℕ → Type 0
Portioned file blocked seats (Err refusal) out table = Unit {0}
Portioned file blocked seats (Ok n) out table =
    ((front back : Lent) → front.seats ++ back.seats ≡ seats → Portion file front → Portion file back
    → Joins file blocked n out table front back)
    × ((portions : List Lent) → seats_in portions ≡ seats → All (Portion file) portions → AllJoin file blocked n out table portions)

-- the same of a run over C, whose answer is a number
abbrev pub PortionedCode : List ℕ → List ℕ → Lent → List ℕ → List ℕ → Type 0
PortionedCode file blocked lent out' table' = Portioned file blocked lent.seats (loads_answer file blocked lent) out' table'
