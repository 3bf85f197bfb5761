-- Document 02, point 4: the load sheet, from the records of a list of seats and from the labels: a list a deck, a label a polygon.
use Rattle.std.specs.Prelude.{ℕ, ◌+◌, ◌*◌, Bool, not, ◌&&◌, List, [], ◌∷◌, ◌++◌, map, eqb, length, get_or}
use Rattle.words.specs.Rows.{rows, collect_all, count_of, added}
use Rattle.records.specs.declared.SeatRecord.{SeatRecord}
use Rattle.records.specs.Record.{is_unplaced}
use Rattle.ship.specs.Model.{Ship, polygons_before, polygon_total}
use Rattle.ship.specs.Packed.{packed_deck, packed_polygon}
use Rattle.islands.specs.Islands.{deck_labels}

-- the labels of each deck's polygons
unfoldable pub ship_labels : Ship → List (List ℕ)
ship_labels ship = map deck_labels ship.decks

-- ---- where a record stands
-- on deck d
unfoldable pub on_deck : ℕ → SeatRecord → Bool
on_deck d r = not (is_unplaced r) && eqb (packed_deck r.polygon) d

-- on deck d at place m, where `place_of` gives the place of a polygon
unfoldable pub stands_at : (ℕ → ℕ) → ℕ → ℕ → SeatRecord → Bool
stands_at place_of d m r = on_deck d r && eqb (place_of (packed_polygon r.polygon)) m

-- a polygon's own place, and that of its island, which is its label's
abbrev pub own_place : ℕ → ℕ
own_place k = k

abbrev pub island_place : List (List ℕ) → ℕ → ℕ → ℕ
island_place labels d k = get_or (get_or labels d []) k 0

-- ---- the counts: how many records of the list stand there
abbrev pub polygon_load : List SeatRecord → ℕ → ℕ → ℕ
polygon_load records d k = count_of (stands_at own_place d k) records

abbrev pub island_load : List (List ℕ) → List SeatRecord → ℕ → ℕ → ℕ
island_load labels records d m = count_of (stands_at (island_place labels d) d m) records

abbrev pub deck_load : List SeatRecord → ℕ → ℕ
deck_load records d = count_of (on_deck d) records

abbrev pub unplaced_load : List SeatRecord → ℕ
unplaced_load records = count_of is_unplaced records

-- ---- the sheet
-- 'one a polygon, decks rising'
unfoldable pub each_polygon : List (List ℕ) → (ℕ → ℕ → ℕ) → List ℕ
each_polygon labels load = collect_all (λ d. rows (load d) 0 (length (get_or labels d []))) 0 (length labels)

-- 'one a polygon, decks rising; again one a polygon, where a label's place has its island's seats ..; one a deck; last the unplaced'
unfoldable pub sheet_of : List (List ℕ) → List SeatRecord → List ℕ
sheet_of labels records =
    each_polygon labels (polygon_load records)
    ++ each_polygon labels (island_load labels records)
    ++ rows (deck_load records) 0 (length labels)
    ++ (unplaced_load records ∷ [])

-- 'seat by seat from the back of the list': the sheet of nobody, to which each seat's own sheet is added, the last seat's first
unfoldable pub from_back : List (List ℕ) → List SeatRecord → List ℕ
from_back labels [] = sheet_of labels []
from_back labels (r ∷ records) = added (from_back labels records) (sheet_of labels (r ∷ []))

-- ---- where a count stands in the sheet
abbrev pub polygon_entry : Ship → ℕ → ℕ → ℕ
polygon_entry ship d k = polygons_before ship d + k

abbrev pub island_entry : Ship → ℕ → ℕ → ℕ
island_entry ship d m = polygon_total ship + (polygons_before ship d + m)

abbrev pub deck_entry : Ship → ℕ → ℕ
deck_entry ship d = 2 * polygon_total ship + d

abbrev pub unplaced_entry : Ship → ℕ
unplaced_entry ship = 2 * polygon_total ship + length ship.decks

-- how many counts there are
abbrev pub sheet_length : Ship → ℕ
sheet_length ship = unplaced_entry ship + 1
