-- The file that a removal writes: the old one's bytes, with fewer entries in N and all that counts them.
use Rattle.std.specs.Prelude.{ℕ, ◌+◌, ◌*◌, ◌≡◌, List, [], ◌∷◌, ◌++◌, ℤ, length, Ok}
use Rattle.words.specs.Bytes.{slice, words_of}
use Rattle.words.specs.Rows.{rows, collect_all}
use Rattle.answers.specs.Replies.{Reply, Replied, RepliedCode, Answer}
use Rattle.ship.specs.declared.Blocks.{Blocks}
use Rattle.ship.specs.Layout.{number_size, header_size, pair_size, deck_offset_size, vertex_size, list_in_vertex, decks_in, blocks_position, blocks_at, vertex_position, neighbour_extent, neighbour_entry}
use Rattle.ship.specs.Decode.{decode}
use Rattle.ship.specs.Questions.{first_no}
use Rattle.unstitched.specs.declared.Stitches.{Stitches}
use Rattle.unstitched.specs.Removal.{kept_of, removed, removed_twice}

-- 'pairs of offset and length': blocks of these lengths, laid end to end from a position on
unfoldable pub pairs : ℕ → List ℕ → List ℕ
pairs at [] = []
pairs at (n ∷ rest) = at ∷ n ∷ pairs (at + n) rest

-- P, C and H of a deck, which lie end to end, as they stand
abbrev pub rest_size : Blocks → ℕ
rest_size b = pair_size * b.polygons + number_size * b.corners + number_size * b.heights

abbrev pub rest_of : List ℕ → Blocks → List ℕ
rest_of s b = slice s b.p (rest_size b)

module _ (which : Stitches) (s : List ℕ) where
  -- ---- deck d, whose blocks in the old file are b
  module _ (d : ℕ) (b : Blocks) where
    -- what is kept of the n entries of N from number i on
    unfoldable pub kept_from : ℕ → ℕ → List ℕ
    kept_from i n = kept_of which d (rows (neighbour_entry s b) i n)

    -- start and count of vertex i's list
    abbrev pub new_extent : ℕ → List ℕ
    new_extent i =
        length (kept_from 0 (neighbour_extent s b i).start)
        ∷ length (kept_from (neighbour_extent s b i).start (neighbour_extent s b i).count) ∷ []

    -- a vertex: x and y as they stand, then its list
    unfoldable pub new_vertex : ℕ → List ℕ
    new_vertex i = slice s (vertex_position b i) list_in_vertex ++ words_of (new_extent i)

    abbrev pub new_v : List ℕ
    new_v = slice s b.v deck_offset_size ++ collect_all new_vertex 0 b.vertices

    abbrev pub new_n : List ℕ
    new_n = words_of (kept_from 0 b.neighbours)

    unfoldable pub new_blocks : List ℕ
    new_blocks = new_v ++ new_n ++ rest_of s b

    -- the five lengths in bytes
    unfoldable pub new_lengths : List ℕ
    new_lengths =
        (deck_offset_size + vertex_size * b.vertices)
        ∷ (number_size * length (kept_from 0 b.neighbours))
        ∷ (pair_size * b.polygons)
        ∷ (number_size * b.corners)
        ∷ (number_size * b.heights)
        ∷ []

  -- ---- the file: header, pairs, blocks
  -- the lengths of all blocks, in the table's order
  abbrev pub block_lengths : List ℕ
  block_lengths = collect_all (λ d. new_lengths d (blocks_at s d)) 0 (decks_in s)

  unfoldable pub new_table : List ℕ
  new_table = words_of (pairs (blocks_position s) block_lengths)

  unfoldable pub all_blocks : List ℕ
  all_blocks = collect_all (λ d. new_blocks d (blocks_at s d)) 0 (decks_in s)

  unfoldable pub new_file : List ℕ
  new_file = slice s 0 header_size ++ new_table ++ all_blocks

-- ---- the two calls: they return how many bytes they wrote
abbrev pub removal_reply : Stitches → List ℕ → Reply
removal_reply which file = record { check = first_no file; count = length (new_file which file); bytes = new_file which file }

abbrev pub RemovalReplied : Stitches → List ℕ → List ℕ → List ℕ → Answer → Type 0
RemovalReplied which file out out' r = Replied (removal_reply which file) out out' r

abbrev pub RemovalCode : Stitches → List ℕ → List ℕ → List ℕ → ℤ → Type 0
RemovalCode which file out out' r = RepliedCode (removal_reply which file) out out' r

-- What is written is a ship file again, its model is the old one with its lists filtered, and a second removal takes more away.
pub record NewFileSound (which : Stitches) (file : List ℕ) : Type 0 where
  pub passes : first_no (new_file which file) ≡ Ok tt
  pub model : decode (new_file which file) ≡ removed which (decode file)
  pub again : decode (new_file which (new_file which file)) ≡ removed_twice which (decode file)

abbrev pub RemovalSound : Stitches → List ℕ → Type 0
RemovalSound which file = first_no file ≡ Ok tt → NewFileSound which file
