-- A ship of two decks and three islands, with six seats: the example of docs/FORMAT.md, as definitions evaluated.
use Prim.Native.Nat.{ℕ}
use mathlib.Core.Path.{◌≡◌, refl}
use mathlib.Core.List.{List, [], ◌∷◌}
use lib.Ieee.{binary32, of_bits}
use lib.ListN.{length}
use Rattle.words.specs.Bytes.{all_ones, bytes4, bytes8, joined, counts_of, u32_at, u64_at, count_at}
use Rattle.words.specs.Rows.{rows, some, has, collect, sum_of, count_of, added}
use Rattle.records.specs.declared.SeatRecord.{SeatRecord}
use Rattle.records.specs.Record.{unplaced_record}
use Rattle.ship.specs.Model.{Vertex, Ship, no_point, neighbours_of, corners_of, polygons_before}
use Rattle.islands.specs.Labels.{first, through, label_by, labels_by}
use Rattle.islands.specs.Islands.{names, deck_labels}
use Rattle.loads.specs.Sheet.{ship_labels, on_deck, stands_at, each_polygon, sheet_of, from_back, polygon_entry, island_entry, deck_entry, unplaced_entry, sheet_length}

abbrev vertex : List ℕ → Vertex
vertex list = record { point = no_point; neighbours = list }

-- of the three polygons of deck 0 only 1 names others, 0 and 2; deck 1 has one polygon
ship : Ship
ship =
    record {
      decks =
          record { offset = no_point; vertices = vertex [] ∷ vertex (0 ∷ all_ones ∷ 2 ∷ []) ∷ vertex (2 ∷ []) ∷ []; polygons = (0 ∷ []) ∷ (1 ∷ []) ∷ (2 ∷ []) ∷ []; heights = [] }
          ∷ record { offset = no_point; vertices = vertex (0 ∷ []) ∷ []; polygons = (0 ∷ []) ∷ []; heights = [] }
          ∷ [];
      reach = of_bits binary32 0x3F00_0000;
      steps = 2;
    }

abbrev on : ℕ → SeatRecord
on polygon = record { polygon = polygon; x = 0; y = 0; kind = 0; height = 0; step = 0; sample = 0; tried = 1; candidates = 1 }

-- two on polygon 0 of deck 0, one on its polygon 2, two on deck 1, and one unplaced
records : List SeatRecord
records = on 0 ∷ on 2 ∷ unplaced_record 12 ∷ on 0x0100_0000 ∷ on 0 ∷ on 0x0100_0000 ∷ []

sheet : List ℕ
sheet =
    2 ∷ 0 ∷ 1 ∷ 2
    ∷ 2 ∷ 1 ∷ 0 ∷ 2
    ∷ 3 ∷ 2
    ∷ 1 ∷ []

labels : ship_labels ship ≡ (0 ∷ 1 ∷ 1 ∷ []) ∷ (0 ∷ []) ∷ []
unfolding ship ship_labels deck_labels labels_by label_by first through names some has neighbours_of corners_of rows
labels = refl

counted : sheet_of (ship_labels ship) records ≡ sheet
unfolding ship records sheet ship_labels deck_labels labels_by label_by first through names some has neighbours_of corners_of rows sheet_of each_polygon collect count_of on_deck stands_at
counted = refl

from_the_back : from_back (ship_labels ship) records ≡ sheet
unfolding ship records sheet ship_labels deck_labels labels_by label_by first through names some has neighbours_of corners_of rows sheet_of each_polygon collect count_of on_deck stands_at from_back added
from_the_back = refl

-- where the counts of polygon 2 of deck 0, of its island, of deck 1 and of the unplaced stand; 88 bytes
places : (polygon_entry ship 0 2 ≡ 2) × (island_entry ship 0 1 ≡ 5) × (deck_entry ship 1 ≡ 9) × (unplaced_entry ship ≡ 10) × (sheet_length ship ≡ 11)
unfolding ship polygons_before sum_of
places = (refl, refl, refl, refl, refl)

bytes : (length (counts_of sheet) ≡ 88) × (count_at (counts_of sheet) 8 ≡ 3)
unfolding sheet joined bytes8 bytes4 u64_at u32_at
bytes = (refl, refl)
