-- The new blocks of a deck: how long they are, and what is read of them where they stand in a file.
use Prim.Native.Nat.{ℕ, ◌+◌, ◌*◌, ◌≤◌, ◌<◌}
use native.Mathlib.Omega.{arith}
use mathlib.Core.Path.{◌≡◌, refl}
use mathlib.Core.List.{List, ◌++◌}
use lib.ListN.{length, get_or, length-append}
use Rattle.words.specs.Bytes.{u32_at, words_of, slice}
use Rattle.words.specs.Rows.{collect_all}
use Rattle.words.proofs.Numbers.{length_words}
use Rattle.ship.specs.declared.Blocks.{Blocks}
use Rattle.ship.specs.declared.Extent.{Extent}
use Rattle.ship.specs.Layout.{number_size, pair_size, deck_offset_size, vertex_size, list_in_vertex, first_list, vertex_position, neighbour_extent, neighbour_entry, polygon_extent, corner_entry, height_position}
use Rattle.unstitched.specs.declared.Stitches.{Stitches}
use Rattle.unstitched.specs.NewFile.{kept_from, new_vertex, new_v, new_n, new_blocks, new_lengths, rest_size, rest_of, new_extent}
use Rattle.unstitched.proofs.Pieces.{Piece, piece_left, piece_right, piece_slice, piece_word, piece_row, rows_length, slice_length}
use Rattle.unstitched.proofs.Pairs.{total}
use Rattle.unstitched.proofs.OldPlaces.{Laid}

module _ (which : Stitches) (s : List ℕ) (d : ℕ) (b : Blocks) where
  -- all entries of N that are kept
  abbrev pub kept_entries : List ℕ
  kept_entries = kept_from which s d b 0 b.neighbours

  -- the new blocks, the first of them at a position
  abbrev pub moved_to : ℕ → Blocks
  moved_to at =
      record {
        v = at;
        vertices = b.vertices;
        n = at + (deck_offset_size + vertex_size * b.vertices);
        neighbours = length kept_entries;
        p = at + (deck_offset_size + vertex_size * b.vertices) + number_size * length kept_entries;
        polygons = b.polygons;
        c = at + (deck_offset_size + vertex_size * b.vertices) + number_size * length kept_entries + pair_size * b.polygons;
        corners = b.corners;
        h = at + (deck_offset_size + vertex_size * b.vertices) + number_size * length kept_entries + pair_size * b.polygons + number_size * b.corners;
        heights = b.heights;
      }

  -- start and count of vertex i's new list
  abbrev kept_extent : ℕ → Extent
  kept_extent i =
      record {
        start = length (kept_from which s d b 0 (neighbour_extent s b i).start);
        count = length (kept_from which s d b (neighbour_extent s b i).start (neighbour_extent s b i).count);
      }

  -- what is read of the new blocks in a file t: the old numbers, but for the lists in V and the entries of N
  pub record Anew (t : List ℕ) (at : ℕ) : Type 0 where
    pub offset : (k : ℕ) → k + number_size ≤ deck_offset_size → u32_at t (at + k) ≡ u32_at s (b.v + k)
    pub point : (i : ℕ) → i < b.vertices → (k : ℕ) → k + number_size ≤ list_in_vertex → u32_at t (vertex_position (moved_to at) i + k) ≡ u32_at s (vertex_position b i + k)
    pub list : (i : ℕ) → i < b.vertices → neighbour_extent t (moved_to at) i ≡ kept_extent i
    pub entry : (k : ℕ) → k < length kept_entries → neighbour_entry t (moved_to at) k ≡ get_or kept_entries k 0
    pub polygon : (k : ℕ) → k < b.polygons → polygon_extent t (moved_to at) k ≡ polygon_extent s b k
    pub corner : (i : ℕ) → i < b.corners → corner_entry t (moved_to at) i ≡ corner_entry s b i
    pub height : (i : ℕ) → i < b.heights → u32_at t (height_position (moved_to at) i) ≡ u32_at s (height_position b i)

  module _ (l : Laid s b) where
    -- ---- lengths
    pub vertex_length : (i : ℕ) → i < b.vertices → length (new_vertex which s d b i) ≡ vertex_size
    unfolding new_vertex
    vertex_length i h =
        omega (
          arith,
          length-append (slice s (vertex_position b i) list_in_vertex) (words_of (new_extent which s d b i)),
          slice_length s (vertex_position b i) list_in_vertex (omega (arith, l.inside.v_inside)),
          length_words (new_extent which s d b i),
        )

    pub v_length : length (new_v which s d b) ≡ deck_offset_size + vertex_size * b.vertices
    v_length =
        omega (
          arith,
          length-append (slice s b.v deck_offset_size) (collect_all (new_vertex which s d b) 0 b.vertices),
          slice_length s b.v deck_offset_size (omega (arith, l.inside.v_inside)),
          rows_length (new_vertex which s d b) vertex_size b.vertices vertex_length,
        )

    pub n_length : length (new_n which s d b) ≡ number_size * length kept_entries
    n_length = length_words kept_entries

    pub rest_inside : b.p + rest_size b ≤ length s
    rest_inside = omega (arith, l.inside.h_inside)

    pub rest_length : length (rest_of s b) ≡ rest_size b
    rest_length = slice_length s b.p (rest_size b) rest_inside

    pub blocks_length : length (new_blocks which s d b) ≡ total (new_lengths which s d b)
    unfolding new_blocks new_lengths
    blocks_length =
        omega (
          arith,
          length-append (new_v which s d b ++ new_n which s d b) (rest_of s b),
          length-append (new_v which s d b) (new_n which s d b),
          v_length,
          n_length,
          rest_length,
        )

    -- ---- where the new blocks stand in a file t
    module _ {t : List ℕ} {at : ℕ} (piece : Piece t at (new_blocks which s d b)) where
      front_piece : Piece t at (new_v which s d b ++ new_n which s d b)
      unfolding new_blocks
      front_piece = piece_left (new_v which s d b ++ new_n which s d b) (rest_of s b) piece

      v_piece : Piece t at (new_v which s d b)
      v_piece = piece_left (new_v which s d b) (new_n which s d b) front_piece

      n_piece : Piece t (moved_to at).n (new_n which s d b)
      n_piece = rw v_length at (piece_right (new_v which s d b) (new_n which s d b) front_piece)

      rest_piece : Piece t (moved_to at).p (rest_of s b)
      unfolding new_blocks
      rest_piece =
          let e : at + length (new_v which s d b ++ new_n which s d b) ≡ (moved_to at).p =
          omega (arith, length-append (new_v which s d b) (new_n which s d b), v_length, n_length) in
          rw e at (piece_right (new_v which s d b ++ new_n which s d b) (rest_of s b) piece)

      offset_piece : Piece t at (slice s b.v deck_offset_size)
      offset_piece = piece_left (slice s b.v deck_offset_size) (collect_all (new_vertex which s d b) 0 b.vertices) v_piece

      offset_inside : b.v + deck_offset_size ≤ length s
      offset_inside = omega (arith, l.inside.v_inside)

      vertex_piece : (i : ℕ) → i < b.vertices → Piece t (vertex_position (moved_to at) i) (new_vertex which s d b i)
      vertex_piece i h =
          let p = piece_right (slice s b.v deck_offset_size) (collect_all (new_vertex which s d b) 0 b.vertices) v_piece in
          let q : Piece t (at + deck_offset_size) (collect_all (new_vertex which s d b) 0 b.vertices) = rw (slice_length s b.v deck_offset_size offset_inside) at p in
          piece_row (new_vertex which s d b) vertex_size b.vertices vertex_length (at + deck_offset_size) q i h

      module _ (i : ℕ) (h : i < b.vertices) where
        point_inside : vertex_position b i + list_in_vertex ≤ length s
        point_inside = omega (arith, l.inside.v_inside)

        point_piece : Piece t (vertex_position (moved_to at) i) (slice s (vertex_position b i) list_in_vertex)
        unfolding new_vertex
        point_piece = piece_left (slice s (vertex_position b i) list_in_vertex) (words_of (new_extent which s d b i)) (vertex_piece i h)

        list_piece : Piece t (vertex_position (moved_to at) i + list_in_vertex) (words_of (new_extent which s d b i))
        unfolding new_vertex
        list_piece =
            rw (slice_length s (vertex_position b i) list_in_vertex point_inside)
            at (piece_right (slice s (vertex_position b i) list_in_vertex) (words_of (new_extent which s d b i)) (vertex_piece i h))

        list_read : neighbour_extent t (moved_to at) i ≡ kept_extent i
        list_read =
            let q = vertex_position (moved_to at) i + list_in_vertex in
            let e : (moved_to at).v + first_list + vertex_size * i ≡ q + 4 * 0 = omega arith in
            let f : (moved_to at).v + first_list + vertex_size * i + number_size ≡ q + 4 * 1 = omega arith in
            let start : u32_at t ((moved_to at).v + first_list + vertex_size * i) ≡ (kept_extent i).start = rw e (piece_word (new_extent which s d b i) list_piece 0 (omega arith)) in
            let count : u32_at t ((moved_to at).v + first_list + vertex_size * i + number_size) ≡ (kept_extent i).count = rw f (piece_word (new_extent which s d b i) list_piece 1 (omega arith)) in
            λ j. record { start = start j; count = count j }

      rest_read : (k : ℕ) → k + 4 ≤ rest_size b → u32_at t ((moved_to at).p + k) ≡ u32_at s (b.p + k)
      rest_read = piece_slice s b.p (rest_size b) rest_inside rest_piece

      -- a number of P, C or H, at k from the begin of P
      rest_number : (there here k : ℕ) → there ≡ (moved_to at).p + k → here ≡ b.p + k → k + 4 ≤ rest_size b → u32_at t there ≡ u32_at s here
      rest_number there here k e f h = rw (e, f) (rest_read k h)

      polygon_read : (k : ℕ) → k < b.polygons → polygon_extent t (moved_to at) k ≡ polygon_extent s b k
      polygon_read k h =
          let start : u32_at t ((moved_to at).p + pair_size * k) ≡ u32_at s (b.p + pair_size * k) = rest_number _ _ (pair_size * k) refl refl (omega arith) in
          let count : u32_at t ((moved_to at).p + pair_size * k + number_size) ≡ u32_at s (b.p + pair_size * k + number_size) =
          rest_number _ _ (pair_size * k + number_size) (omega arith) (omega arith) (omega arith) in
          λ j. record { start = start j; count = count j }

      corner_read : (i : ℕ) → i < b.corners → corner_entry t (moved_to at) i ≡ corner_entry s b i
      corner_read i h =
          rest_number ((moved_to at).c + number_size * i) (b.c + number_size * i) (pair_size * b.polygons + number_size * i) (omega arith) (omega arith) (omega arith)

      height_read : (i : ℕ) → i < b.heights → u32_at t (height_position (moved_to at) i) ≡ u32_at s (height_position b i)
      height_read i h =
          rest_number (height_position (moved_to at) i) (height_position b i) (pair_size * b.polygons + number_size * b.corners + number_size * i)
          (omega arith) (omega arith) (omega arith)

      pub anew : Anew t at
      anew =
          record {
            offset = piece_slice s b.v deck_offset_size offset_inside offset_piece;
            point = λ i h. piece_slice s (vertex_position b i) list_in_vertex (point_inside i h) (point_piece i h);
            list = list_read;
            entry = piece_word kept_entries n_piece;
            polygon = polygon_read;
            corner = corner_read;
            height = height_read;
          }
