-- What counting a seat does to the table, and what the functions that count need and leave.
use Rattle.std.specs.Prelude.{ℕ, ◌+◌, ◌*◌, ◌^◌, ◌≤◌, ◌<◌, ◌≡◌, Bool, true, cond, ◌&&◌, ◌⊎◌, List, [], ◌++◌, eqb, length, get_or, drop, replicate, Ok}
use Rattle.words.specs.Bytes.{all_ones, words_of, counts_of, count_at, splice, put_u64}
use Rattle.words.specs.Rows.{collect_all}
use Rattle.answers.specs.Questions.{question20}
use Rattle.records.specs.Record.{record_size}
use Rattle.ship.specs.Layout.{number_size, decks_in}
use Rattle.ship.specs.Model.{Ship, deck_of, polygon_total}
use Rattle.ship.specs.Packed.{packed_deck, packed_polygon}
use Rattle.ship.specs.Decode.{decode}
use Rattle.islands.specs.Islands.{polygon_count, deck_labels, question19}
use Rattle.seat_run.specs.Run.{RecordsRoom, RecordsPut}
use Rattle.loads.specs.Sheet.{ship_labels, island_place, sheet_of, polygon_entry, island_entry, deck_entry, unplaced_entry, sheet_length}
use Rattle.loads.specs.Loads.{count_size, labels_check, loads_work, sheet_bytes}

-- ---- one count
-- the bytes are n counts, and so many more can be added to each
pub record Tallied (table : List ℕ) (n more : ℕ) : Type 0 where
  pub counts : List ℕ
  pub bytes : table ≡ counts_of counts
  pub long : length counts ≡ n
  pub fits : (k : ℕ) → get_or counts k 0 + more < 2 ^ 64

-- one more at place k
unfoldable pub one_more : List ℕ → ℕ → List ℕ
one_more table k = put_u64 table (count_size * k) (count_at table k + 1)

-- a, b and c are places of the table
pub record ThreeReady (table : List ℕ) (a b c : ℕ) : Type 0 where
  pub many : ℕ
  pub tallied : Tallied table many 3
  pub a_there : a < many
  pub b_there : b < many
  pub c_there : c < many

-- ---- one seat
-- the polygon of a seat's record is one of the ship's, or the seat is unplaced
abbrev pub Aboard : Ship → ℕ → Type 0
Aboard ship polygon =
    (polygon ≡ all_ones)
    ⊎ ((packed_deck polygon < length ship.decks) × (packed_polygon polygon < polygon_count (deck_of ship (packed_deck polygon))))

-- one more at its polygon, at its island's place, and at its deck; or at the unplaced
unfoldable pub counted_at : Ship → ℕ → ℕ → List ℕ → List ℕ
counted_at ship d k table =
    one_more (one_more (one_more table (polygon_entry ship d k)) (island_entry ship d (island_place (ship_labels ship) d k)))
    (deck_entry ship d)

unfoldable pub seat_counted : Ship → ℕ → List ℕ → List ℕ
seat_counted ship polygon table =
    cond (eqb polygon all_ones) (one_more table (unplaced_entry ship))
    (counted_at ship (packed_deck polygon) (packed_polygon polygon) table)

-- ---- the labels
-- those of all decks, decks rising, at the front of the work
abbrev pub all_labels : Ship → List ℕ
all_labels ship = collect_all (λ d. deck_labels (deck_of ship d)) 0 (length ship.decks)

abbrev pub LabelsIn : Ship → List ℕ → Type 0
LabelsIn ship work = (rest : List ℕ) × (work ≡ words_of (all_labels ship) ++ rest)

-- of one deck
pub record DeckReady (file : List ℕ) (d at : ℕ) (table work : List ℕ) : Type 0 where
  pub there : d < decks_in file
  pub yes19 : question19 (deck_of (decode file) d) ≡ true
  pub wide : number_size * polygon_count (deck_of (decode file) d) ≤ length table
  pub room : at + number_size * polygon_count (deck_of (decode file) d) ≤ length work

pub record DeckLabelled (file : List ℕ) (d at : ℕ) (table table' work work' : List ℕ) (next : ℕ) : Type 0 where
  pub table_is : table' ≡ replicate (length table) 0
  pub work_is : work' ≡ splice work at (words_of (deck_labels (deck_of (decode file) d)))
  pub next_is : next ≡ at + number_size * polygon_count (deck_of (decode file) d)

-- of all
pub record LabelsReady (file table work : List ℕ) : Type 0 where
  pub yes19 : labels_check (decode file) ≡ Ok tt
  pub table_long : length table ≡ count_size * sheet_length (decode file)
  pub wide : loads_work file ≤ length work

pub record LabelsLeft (file table table' work work' : List ℕ) : Type 0 where
  pub table_is : table' ≡ replicate (length table) 0
  pub work_is : work' ≡ words_of (all_labels (decode file)) ++ drop (number_size * polygon_total (decode file)) work

-- ---- what counting a seat needs
pub record PlacedReady (ship : Ship) (d k : ℕ) (table work : List ℕ) : Type 0 where
  pub deck_there : d < length ship.decks
  pub polygon_there : k < polygon_count (deck_of ship d)
  pub tallied : Tallied table (sheet_length ship) 3
  pub labels : LabelsIn ship work

pub record CountReady (ship : Ship) (polygon : ℕ) (table work : List ℕ) : Type 0 where
  pub aboard : Aboard ship polygon
  pub tallied : Tallied table (sheet_length ship) 3
  pub labels : LabelsIn ship work

-- ---- all seats
pub record CountsReady (file seats out table work : List ℕ) : Type 0 where
  pub room : RecordsRoom seats out
  pub none : table ≡ counts_of (sheet_of (ship_labels (decode file)) [])
  pub labels : LabelsIn (decode file) work

pub record CountsPut (file blocked seats out out' table' : List ℕ) : Type 0 where
  pub records : RecordsPut file blocked seats out out'
  pub sheet : table' ≡ sheet_bytes file blocked seats

-- ---- labels, records and counts, in a table as long as the sheet
pub record SheetReady (file seats out table work : List ℕ) : Type 0 where
  pub yes19 : labels_check (decode file) ≡ Ok tt
  pub room : RecordsRoom seats out
  pub table_long : length table ≡ count_size * sheet_length (decode file)
  pub wide : loads_work file ≤ length work

pub record SheetPut (file blocked seats out out' table' work work' : List ℕ) : Type 0 where
  pub counts : CountsPut file blocked seats out out' table'
  pub zeros : work' ≡ replicate (length work) 0

-- ---- the same at the front of the table that is lent
pub record TableReady (file seats out table work : List ℕ) : Type 0 where
  pub yes19 : labels_check (decode file) ≡ Ok tt
  pub room : RecordsRoom seats out
  pub table_room : count_size * sheet_length (decode file) ≤ length table
  pub wide : loads_work file ≤ length work

pub record TablePut (file blocked seats out out' table table' work work' : List ℕ) : Type 0 where
  pub records : RecordsPut file blocked seats out out'
  pub sheet : table' ≡ sheet_bytes file blocked seats ++ drop (count_size * sheet_length (decode file)) table
  pub zeros : work' ≡ replicate (length work) 0

-- 20 of the output, the table and the work
unfoldable pub rooms_fit : Ship → ℕ → ℕ → ℕ → ℕ → Bool
rooms_fit ship seats out table work =
    question20 (record_size * seats) out
    && (question20 (count_size * sheet_length ship) table && question20 (count_size * polygon_total ship) work)
