-- What the counts of a load sheet add up to (document 02, point 4), of the bytes that a run leaves.
use Rattle.std.specs.Prelude.{ℕ, ◌+◌, ◌*◌, ◌<◌, ◌≡◌, List, length, take, get_or, Ok, Err}
use Rattle.words.specs.Bytes.{counts_of, count_at}
use Rattle.words.specs.Rows.{sum_all}
use Rattle.records.specs.Record.{records_in}
use Rattle.ship.specs.Model.{Ship, deck_of}
use Rattle.ship.specs.Decode.{decode}
use Rattle.islands.specs.Islands.{polygon_count, deck_labels}
use Rattle.loads.specs.Sheet.{ship_labels, from_back, polygon_entry, island_entry, deck_entry, unplaced_entry, sheet_length}
use Rattle.loads.specs.Loads.{Lent, count_size, loads_answer}
use Rattle.answers.specs.Replies.{Answer}

pub record Totals (ship : Ship) (n : ℕ) (table : List ℕ) : Type 0 where
  -- 'adding by polygon and then by deck': the polygons' counts of a deck give its count, and so do the islands'
  pub by_polygon : (d : ℕ) → d < length ship.decks
      → sum_all (λ k. count_at table (polygon_entry ship d k)) 0 (polygon_count (deck_of ship d)) ≡ count_at table (deck_entry ship d)
  pub by_island : (d : ℕ) → d < length ship.decks
      → sum_all (λ m. count_at table (island_entry ship d m)) 0 (polygon_count (deck_of ship d)) ≡ count_at table (deck_entry ship d)
  -- 'other places have 0'
  pub elsewhere : (d m : ℕ) → d < length ship.decks → m < polygon_count (deck_of ship d)
      → ((k : ℕ) → k < polygon_count (deck_of ship d) → get_or (deck_labels (deck_of ship d)) k 0 ≡ m → ⊥)
      → count_at table (island_entry ship d m) ≡ 0
  -- 'the deck totals and the unplaced seats add up to the list's length'
  pub in_all : sum_all (λ d. count_at table (deck_entry ship d)) 0 (length ship.decks) + count_at table (unplaced_entry ship) ≡ n

-- What holds of a run on these bytes that answered so and left these records and this table. A refused run says nothing of seats.
abbrev pub Totalled : List ℕ → Answer → List ℕ → List ℕ → Type 0
Totalled file (Err refusal) out table = Unit {0}
Totalled file (Ok n) out table =
    Totals (decode file) n table
    × (take (count_size * sheet_length (decode file)) table ≡ counts_of (from_back (ship_labels (decode file)) (records_in out n)))

-- the same of a run over C, whose answer is a number
abbrev pub TotalledCode : List ℕ → List ℕ → Lent → List ℕ → List ℕ → Type 0
TotalledCode file blocked lent out' table' = Totalled file (loads_answer file blocked lent) out' table'
