-- The new file of a passed one: its header and its table as they are read, and where each deck's new blocks stand.
use Prim.Native.Nat.{ℕ, zero, suc, ◌+◌, ◌-◌, ◌*◌, ◌/◌, ◌%◌, ◌≤◌, ◌<◌}
use native.Mathlib.Omega.{arith}
use mathlib.Core.Path.{◌≡◌, refl, ap, ◌∙◌}
use mathlib.Core.Bool.{true, ◌&&◌}
use mathlib.Core.List.{List, ◌++◌}
use lib.Dec.{eqb, leb}
use lib.ListN.{length, get_or, length-append}
use borrow.Author.Tests.{le-leb, eq-eqb}
use Rattle.words.specs.Bytes.{u32_at, words_of, slice}
use Rattle.words.specs.Rows.{collect_all, sum_of, sum_all}
use Rattle.words.proofs.Collecting.{length_collect, sum_same}
use Rattle.words.proofs.Numbers.{length_words}
use Rattle.ship.specs.declared.Blocks.{Blocks}
use Rattle.ship.specs.declared.DeckRow.{DeckRow}
use Rattle.ship.specs.Layout.{number_size, header_size, pair_size, blocks_per_deck, deck_row_size, deck_offset_size, vertex_size, decks_in, blocks_position, block_at, row_position, deck_row, blocks_of, blocks_at}
use Rattle.ship.specs.Questions.{end_to_end, whole_rows, question7, first_no}
use Rattle.ship.proofs.Facts.{header_there}
use Rattle.unstitched.specs.declared.Stitches.{Stitches}
use Rattle.unstitched.specs.NewFile.{pairs, new_blocks, new_lengths, new_table, new_file, all_blocks}
use Rattle.unstitched.proofs.Pieces.{Piece, piece_whole, piece_left, piece_right, piece_slice, piece_word, piece_collect, piece_row, rows_length, slice_length}
use Rattle.unstitched.proofs.Pairs.{total, total_collect, pairs_length, pairs_chain, pairs_rows}
use Rattle.unstitched.proofs.OldPlaces.{laid}
use Rattle.unstitched.proofs.NewDeck.{kept_entries, moved_to, blocks_length}
use Rattle.std.specs.Prelude.{Ok}

-- one summand more at the end
sum_last : (f : ℕ → ℕ) (i n : ℕ) → sum_all f i (n + 1) ≡ sum_all f i n + f (i + n)
unfolding sum_of
sum_last f i zero =
    let e : i + 0 ≡ i = omega arith in
    rw e (omega arith)
sum_last f i (suc n) =
    let a : suc n + 1 ≡ suc (n + 1) = omega arith in
    let b : i + suc n ≡ i + 1 + n = omega arith in
    rw (a, b) (omega (arith, sum_last f (i + 1) n))

-- ---- a deck's row of the table
module _ (which : Stitches) (s : List ℕ) (d : ℕ) (b : Blocks) (at : ℕ) where
  abbrev row_of : DeckRow
  row_of =
      let moved = moved_to which s d b at in
      record {
        v = record { start = moved.v; count = deck_offset_size + vertex_size * moved.vertices };
        n = record { start = moved.n; count = number_size * moved.neighbours };
        p = record { start = moved.p; count = pair_size * moved.polygons };
        c = record { start = moved.c; count = number_size * moved.corners };
        h = record { start = moved.h; count = number_size * moved.heights };
      }

  -- whole rows are counted as they are
  vertices_in : (n : ℕ) → (deck_offset_size + vertex_size * n - deck_offset_size) / vertex_size ≡ n
  vertices_in n = omega arith

  numbers_in : (n : ℕ) → number_size * n / number_size ≡ n
  numbers_in n = omega arith

  pairs_in : (n : ℕ) → pair_size * n / pair_size ≡ n
  pairs_in n = omega arith

  row_blocks : blocks_of row_of ≡ moved_to which s d b at
  row_blocks =
      let moved = moved_to which s d b at in
      λ j. record {
        v = moved.v;
        vertices = vertices_in moved.vertices j;
        n = moved.n;
        neighbours = numbers_in moved.neighbours j;
        p = moved.p;
        polygons = pairs_in moved.polygons j;
        c = moved.c;
        corners = numbers_in moved.corners j;
        h = moved.h;
        heights = numbers_in moved.heights j;
      }

  row_whole : whole_rows row_of ≡ true
  row_whole =
      let v : (n : ℕ) → (leb deck_offset_size (deck_offset_size + vertex_size * n) && eqb ((deck_offset_size + vertex_size * n - deck_offset_size) % vertex_size) 0) ≡ true =
      λ n. rw (le-leb deck_offset_size (deck_offset_size + vertex_size * n) (omega arith), eq-eqb ((deck_offset_size + vertex_size * n - deck_offset_size) % vertex_size) 0 (omega arith)) in
      let numbers : (n : ℕ) → eqb (number_size * n % number_size) 0 ≡ true = λ n. eq-eqb (number_size * n % number_size) 0 (omega arith) in
      let p : eqb (pair_size * b.polygons % pair_size) 0 ≡ true = eq-eqb (pair_size * b.polygons % pair_size) 0 (omega arith) in
      rw (v b.vertices, numbers (length (kept_entries which s d b)), p, numbers b.corners) (numbers b.heights)

-- ---- the file
module _ (which : Stitches) (s : List ℕ) where
  abbrev lengths_in : ℕ → List ℕ
  lengths_in d = new_lengths which s d (blocks_at s d)

  abbrev pub blocks_in : ℕ → List ℕ
  blocks_in d = new_blocks which s d (blocks_at s d)

  -- where the new blocks of deck d begin
  abbrev pub place : ℕ → ℕ
  place d = blocks_position s + sum_all (λ k. length (blocks_in k)) 0 d

  pub lengths_length : (d : ℕ) → length (lengths_in d) ≡ blocks_per_deck
  unfolding new_lengths
  lengths_length d = refl

  pub all_lengths : length (collect_all lengths_in 0 (decks_in s)) ≡ blocks_per_deck * decks_in s
  all_lengths = rows_length lengths_in blocks_per_deck (decks_in s) (λ d h. lengths_length d)

  pairs_words : (at : ℕ) (ls : List ℕ) → length (words_of (pairs at ls)) ≡ pair_size * length ls
  pairs_words at ls = omega (arith, length_words (pairs at ls), pairs_length at ls)

  table_length : length (new_table which s) ≡ deck_row_size * decks_in s
  unfolding new_table
  table_length = omega (arith, pairs_words (blocks_position s) (collect_all lengths_in 0 (decks_in s)), all_lengths)

  module _ (passed : first_no s ≡ Ok tt) where
    deck_length : (d : ℕ) → d < decks_in s → length (blocks_in d) ≡ total (lengths_in d)
    deck_length d h = blocks_length which s d (blocks_at s d) (laid s passed d h)

    place_next : (d : ℕ) → d < decks_in s → place (d + 1) ≡ place d + total (lengths_in d)
    place_next d h =
        let z : 0 + d ≡ d = omega arith in
        omega (arith, rw z at (sum_last (λ k. length (blocks_in k)) 0 d), deck_length d h)

    abbrev header : List ℕ
    header = slice s 0 header_size

    pub header_length : length header ≡ header_size
    header_length = slice_length s 0 header_size (omega (arith, header_there s passed))

    pub front_length : length (header ++ new_table which s) ≡ blocks_position s
    front_length = omega (arith, length-append header (new_table which s), header_length, table_length)

    -- ---- the three parts
    front_piece : Piece (new_file which s) 0 (header ++ new_table which s)
    unfolding new_file all_blocks
    front_piece = piece_left (header ++ new_table which s) (collect_all blocks_in 0 (decks_in s)) (piece_whole _)

    table_piece : Piece (new_file which s) header_size (new_table which s)
    table_piece =
        let e : 0 + length header ≡ header_size = omega (arith, header_length) in
        rw e at (piece_right header (new_table which s) front_piece)

    all_piece : Piece (new_file which s) (blocks_position s) (collect_all blocks_in 0 (decks_in s))
    unfolding new_file all_blocks
    all_piece =
        let e : 0 + length (header ++ new_table which s) ≡ blocks_position s = omega (arith, front_length) in
        rw e at (piece_right (header ++ new_table which s) (collect_all blocks_in 0 (decks_in s)) (piece_whole _))

    pub deck_piece : (d : ℕ) → d < decks_in s → Piece (new_file which s) (place d) (blocks_in d)
    deck_piece d h =
        let z : 0 + d ≡ d = omega arith in
        rw z at (piece_collect blocks_in (blocks_position s) 0 (decks_in s) all_piece d h)

    -- ---- lengths
    pub parts_length : length (new_file which s) ≡ blocks_position s + length (all_blocks which s)
    unfolding new_file all_blocks
    parts_length = omega (arith, length-append (header ++ new_table which s) (collect_all blocks_in 0 (decks_in s)), front_length)

    pub file_length : length (new_file which s) ≡ place (decks_in s)
    unfolding all_blocks
    file_length = omega (arith, parts_length, length_collect (λ k. true) blocks_in 0 (decks_in s))

    -- ---- the header
    pub header_read : (k : ℕ) → k + number_size ≤ header_size → u32_at (new_file which s) k ≡ u32_at s k
    header_read k h =
        let z : 0 + k ≡ k = omega arith in
        rw z at (piece_slice s 0 header_size (omega (arith, header_there s passed)) (piece_left header (new_table which s) front_piece) k h)

    -- ---- the table
    abbrev lengths : List ℕ
    lengths = collect_all lengths_in 0 (decks_in s)

    pair_read : (j : ℕ) → j < length lengths
        → ((block_at (new_file which s) j).start ≡ get_or (pairs (blocks_position s) lengths) (2 * j) 0)
        × ((block_at (new_file which s) j).count ≡ get_or (pairs (blocks_position s) lengths) (2 * j + 1) 0)
    unfolding new_table
    pair_read j h =
        let read = piece_word (pairs (blocks_position s) lengths) table_piece in
        let l = pairs_length (blocks_position s) lengths in
        let e : header_size + pair_size * j ≡ header_size + 4 * (2 * j) = omega arith in
        let f : header_size + pair_size * j + number_size ≡ header_size + 4 * (2 * j + 1) = omega arith in
        (rw e (read (2 * j) (omega arith)), rw f (read (2 * j + 1) (omega arith)))

    pub chain : end_to_end (block_at (new_file which s)) (length (new_file which s)) (blocks_position s) 0 (blocks_per_deck * decks_in s) ≡ true
    chain =
        let z : (j : ℕ) → 0 + j ≡ j = λ j. omega arith in
        let whole : blocks_position s + total lengths ≡ length (new_file which s) =
        omega (arith, file_length, total_collect lengths_in 0 (decks_in s), sum_same (λ k. true) (λ k. length (blocks_in k)) (λ k. total (lengths_in k)) (decks_in s) (λ k h t. deck_length k h)) in
        rw (whole, all_lengths) at (pairs_chain (block_at (new_file which s)) lengths (blocks_position s) 0 (λ j h. rw (z j) (pair_read j h)))

    -- the pairs of deck d
    module _ (d : ℕ) (there : d < decks_in s) where
      abbrev words : List ℕ
      words = pairs (place d) (lengths_in d)

      row_piece : Piece (new_file which s) (row_position d) (words_of words)
      unfolding new_table sum_of
      row_piece =
          let e : place 0 ≡ blocks_position s = omega arith in
          let rows : words_of (pairs (place 0) lengths) ≡ collect_all (λ k. words_of (pairs (place k) (lengths_in k))) 0 (decks_in s) =
          pairs_rows place lengths_in 0 (decks_in s) (λ k a h. place_next k (omega arith)) in
          let table : Piece (new_file which s) header_size (collect_all (λ k. words_of (pairs (place k) (lengths_in k))) 0 (decks_in s)) = rw rows at (rw (← e) at table_piece) in
          piece_row (λ k. words_of (pairs (place k) (lengths_in k))) deck_row_size (decks_in s)
          (λ k h. omega (arith, pairs_words (place k) (lengths_in k), lengths_length k)) header_size table d there

      pair_of : (k : ℕ) → k < blocks_per_deck
          → (u32_at (new_file which s) (row_position d + pair_size * k) ≡ get_or words (2 * k) 0)
          × (u32_at (new_file which s) (row_position d + pair_size * k + number_size) ≡ get_or words (2 * k + 1) 0)
      pair_of k h =
          let read = piece_word words row_piece in
          let l : length words ≡ 2 * blocks_per_deck = rw (pairs_length, lengths_length d) in
          let e : row_position d + pair_size * k ≡ row_position d + 4 * (2 * k) = omega arith in
          let f : row_position d + pair_size * k + number_size ≡ row_position d + 4 * (2 * k + 1) = omega arith in
          (rw e (read (2 * k) (omega arith)), rw f (read (2 * k + 1) (omega arith)))

      row_read : deck_row (new_file which s) d ≡ row_of which s d (blocks_at s d) (place d)
      unfolding new_lengths pairs
      row_read =
          let v = pair_of 0 (omega arith) in
          let n = pair_of 1 (omega arith) in
          let p = pair_of 2 (omega arith) in
          let c = pair_of 3 (omega arith) in
          let h = pair_of 4 (omega arith) in
          λ j. record {
            v = record { start = v.0 j; count = v.1 j };
            n = record { start = n.0 j; count = n.1 j };
            p = record { start = p.0 j; count = p.1 j };
            c = record { start = c.0 j; count = c.1 j };
            h = record { start = h.0 j; count = h.1 j };
          }

      pub blocks_read : blocks_at (new_file which s) d ≡ moved_to which s d (blocks_at s d) (place d)
      unfolding blocks_at
      blocks_read = ap blocks_of row_read ∙ row_blocks which s d (blocks_at s d) (place d)

      pub whole_read : question7 (new_file which s) d ≡ true
      unfolding question7
      whole_read = ap whole_rows row_read ∙ row_whole which s d (blocks_at s d) (place d)
