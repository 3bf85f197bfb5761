-- Document 01, section 2: where things lie in a ship file. All of it is total: past the file's end a byte is 0.
use Rattle.std.specs.Prelude.{ℕ, ◌+◌, ◌-◌, ◌*◌, ◌/◌, ◌<◌, ◌≤◌, List, length, Float}
use Rattle.words.specs.Bytes.{u32_at, f32_at}
use Rattle.ship.specs.declared.Blocks.{Blocks}
use Rattle.ship.specs.declared.DeckRow.{DeckRow}
use Rattle.ship.specs.declared.Extent.{Extent}

-- ---- sizes and positions, in bytes; the code has constants of the same names
-- 'a number is u32 unless called f32'
abbrev pub number_size : ℕ
number_size = 4

-- 'Header, 12 bytes: decks L; reach (f32); steps S'
abbrev pub header_size : ℕ
header_size = 12

abbrev pub decks_position : ℕ
decks_position = 0

abbrev pub reach_position : ℕ
reach_position = 4

abbrev pub steps_position : ℕ
steps_position = 8

-- 'Then 5·L pairs of offset and length': two numbers, and so are start and count of a list
abbrev pub pair_size : ℕ
pair_size = 8

-- 'for each deck its blocks V, N, P, C, H'
abbrev pub blocks_per_deck : ℕ
blocks_per_deck = 5

-- a deck's pairs: 40
abbrev pub deck_row_size : ℕ
deck_row_size = blocks_per_deck * pair_size

-- 'V: deck offset x, y (f32), then 16 bytes a vertex: x, y (f32), start and count of its list in N'
abbrev pub deck_offset_size : ℕ
deck_offset_size = 8

abbrev pub vertex_size : ℕ
vertex_size = 16

-- where a vertex's list stands in its 16 bytes
abbrev pub list_in_vertex : ℕ
list_in_vertex = 8

-- where the first vertex's y and list stand in V: at 12 and at 16
abbrev pub first_y : ℕ
first_y = deck_offset_size + number_size

abbrev pub first_list : ℕ
first_list = deck_offset_size + list_in_vertex

-- ---- the header
abbrev pub decks_in : List ℕ → ℕ
decks_in s = u32_at s decks_position

abbrev pub reach_in : List ℕ → Float
reach_in s = f32_at s reach_position

abbrev pub steps_in : List ℕ → ℕ
steps_in s = u32_at s steps_position

-- ---- the blocks
-- 'the first at 12 + 40·L'
abbrev pub blocks_position : List ℕ → ℕ
blocks_position s = header_size + deck_row_size * decks_in s

-- the pair in row i of a table: start and count of a list, or offset and length of a block
abbrev pub extent_at : List ℕ → ℕ → ℕ → ℕ → Extent
extent_at s at stride i = record { start = u32_at s (at + stride * i); count = u32_at s (at + stride * i + number_size) }

-- block j of the file's 5·L
abbrev pub block_at : List ℕ → ℕ → Extent
block_at s j = extent_at s header_size pair_size j

-- the row of deck d, its five pairs
abbrev pub row_position : ℕ → ℕ
row_position d = header_size + deck_row_size * d

abbrev pub deck_row : List ℕ → ℕ → DeckRow
deck_row s d =
    record {
      v = extent_at s (row_position d) pair_size 0;
      n = extent_at s (row_position d) pair_size 1;
      p = extent_at s (row_position d) pair_size 2;
      c = extent_at s (row_position d) pair_size 3;
      h = extent_at s (row_position d) pair_size 4;
    }

-- where a deck's blocks begin, and how many rows each has
abbrev pub blocks_of : DeckRow → Blocks
blocks_of row =
    record {
      v = row.v.start;
      vertices = (row.v.count - deck_offset_size) / vertex_size;
      n = row.n.start;
      neighbours = row.n.count / number_size;
      p = row.p.start;
      polygons = row.p.count / pair_size;
      c = row.c.start;
      corners = row.c.count / number_size;
      h = row.h.start;
      heights = row.h.count / number_size;
    }

unfoldable pub blocks_at : List ℕ → ℕ → Blocks
blocks_at s d = blocks_of (deck_row s d)

-- ---- rows of the blocks
-- V: vertex i, its x first
abbrev pub vertex_position : Blocks → ℕ → ℕ
vertex_position b i = b.v + deck_offset_size + vertex_size * i

-- V: start and count of vertex i's list in N
abbrev pub neighbour_extent : List ℕ → Blocks → ℕ → Extent
neighbour_extent s b i = extent_at s (b.v + first_list) vertex_size i

-- N
abbrev pub neighbour_entry : List ℕ → Blocks → ℕ → ℕ
neighbour_entry s b i = u32_at s (b.n + number_size * i)

-- P: start and count of polygon k's list in C
abbrev pub polygon_extent : List ℕ → Blocks → ℕ → Extent
polygon_extent s b k = extent_at s b.p pair_size k

-- C
abbrev pub corner_entry : List ℕ → Blocks → ℕ → ℕ
corner_entry s b i = u32_at s (b.c + number_size * i)

-- H
abbrev pub height_position : Blocks → ℕ → ℕ
height_position b i = b.h + number_size * i

-- ---- what lies inside the file
-- the width bytes at the start of each of n rows
pub record RowsInside (s : List ℕ) (at stride width n : ℕ) : Type 0 where
  pub row : (i : ℕ) → i < n → at + stride * i + width ≤ length s

-- all rows of a deck's blocks
pub record BlocksInside (s : List ℕ) (b : Blocks) : Type 0 where
  pub v_inside : b.v + deck_offset_size + vertex_size * b.vertices ≤ length s
  pub n_inside : b.n + number_size * b.neighbours ≤ length s
  pub p_inside : b.p + pair_size * b.polygons ≤ length s
  pub c_inside : b.c + number_size * b.corners ≤ length s
  pub h_inside : b.h + number_size * b.heights ≤ length s
