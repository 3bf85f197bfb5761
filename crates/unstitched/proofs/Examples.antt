-- A list at t = 255, and a file of two decks written anew, as definitions evaluated.
use Prim.Native.Nat.{ℕ}
use mathlib.Core.Path.{◌≡◌, refl}
use mathlib.Core.List.{List, [], ◌∷◌}
use lib.Ieee.{of_bits, le}
use Rattle.words.specs.Bytes.{all_ones, u32_at, bytes4, joined, words_of}
use Rattle.words.specs.Rows.{rows, every, collect}
use Rattle.answers.specs.Checks.{check_each}
use Rattle.std.specs.Prelude.{Ok}
use Rattle.ship.specs.Layout.{blocks_at}
use Rattle.ship.specs.Floats.{size_at_most, reach_allowed}
use Rattle.ship.specs.Questions.{end_to_end, question1, question2, question3, question4, question5, question6, question7, question8, question9, question10, question11, question12, question13, header_check, blocks_check, deck_check, first_no}
use Rattle.unstitched.specs.declared.Stitches.TheVariants.{All, ToLayer}
use Rattle.unstitched.specs.Removal.{keeps, written_as, kept_of}
use Rattle.unstitched.specs.NewFile.{pairs, kept_from, new_vertex, new_blocks, new_lengths, new_table, all_blocks, new_file}

-- 'All ones stays in every deck, also for t = 255'
outside_stays : kept_of (ToLayer 255) 1 (all_ones ∷ 0xFF000003 ∷ 0x01000002 ∷ []) ≡ all_ones ∷ 0x01000002 ∷ []
unfolding kept_of keeps written_as
outside_stays = refl

-- ---- a file of two decks, with a polygon each; of its lines the first is the header, two are the decks' pairs, two the decks' blocks
-- Deck 0 has the list [01000000, 0, all ones], deck 1 [all ones, 01000002, 5] and [01000000, 0].
stitched : List ℕ
stitched = words_of (
    2 ∷ 0x3F000000 ∷ 1 ∷
    92 ∷ 24 ∷ 116 ∷ 12 ∷ 128 ∷ 8 ∷ 136 ∷ 4 ∷ 140 ∷ 0 ∷
    140 ∷ 40 ∷ 180 ∷ 20 ∷ 200 ∷ 8 ∷ 208 ∷ 8 ∷ 216 ∷ 8 ∷
    0 ∷ 0 ∷ 0x3F800000 ∷ 0x40000000 ∷ 0 ∷ 3 ∷ 0x01000000 ∷ 0 ∷ all_ones ∷ 0 ∷ 1 ∷ 0 ∷
    0 ∷ 0 ∷ 0x3F800000 ∷ 0x40000000 ∷ 0 ∷ 3 ∷ 0x40400000 ∷ 0x40000000 ∷ 3 ∷ 2 ∷ all_ones ∷ 0x01000002 ∷ 5 ∷ 0x01000000 ∷ 0 ∷ 0 ∷ 2 ∷ 1 ∷ 0 ∷ 0x40800000 ∷ 0x40A00000 ∷ [])

unstitched : List ℕ
unstitched = words_of (
    2 ∷ 0x3F000000 ∷ 1 ∷
    92 ∷ 24 ∷ 116 ∷ 8 ∷ 124 ∷ 8 ∷ 132 ∷ 4 ∷ 136 ∷ 0 ∷
    136 ∷ 40 ∷ 176 ∷ 12 ∷ 188 ∷ 8 ∷ 196 ∷ 8 ∷ 204 ∷ 8 ∷
    0 ∷ 0 ∷ 0x3F800000 ∷ 0x40000000 ∷ 0 ∷ 2 ∷ 0 ∷ all_ones ∷ 0 ∷ 1 ∷ 0 ∷
    0 ∷ 0 ∷ 0x3F800000 ∷ 0x40000000 ∷ 0 ∷ 2 ∷ 0x40400000 ∷ 0x40000000 ∷ 2 ∷ 1 ∷ all_ones ∷ 2 ∷ 0 ∷ 0 ∷ 2 ∷ 1 ∷ 0 ∷ 0x40800000 ∷ 0x40A00000 ∷ [])

again : List ℕ
again = words_of (
    2 ∷ 0x3F000000 ∷ 1 ∷
    92 ∷ 24 ∷ 116 ∷ 8 ∷ 124 ∷ 8 ∷ 132 ∷ 4 ∷ 136 ∷ 0 ∷
    136 ∷ 40 ∷ 176 ∷ 4 ∷ 180 ∷ 8 ∷ 188 ∷ 8 ∷ 196 ∷ 8 ∷
    0 ∷ 0 ∷ 0x3F800000 ∷ 0x40000000 ∷ 0 ∷ 2 ∷ 0 ∷ all_ones ∷ 0 ∷ 1 ∷ 0 ∷
    0 ∷ 0 ∷ 0x3F800000 ∷ 0x40000000 ∷ 0 ∷ 1 ∷ 0x40400000 ∷ 0x40000000 ∷ 1 ∷ 0 ∷ all_ones ∷ 0 ∷ 2 ∷ 1 ∷ 0 ∷ 0x40800000 ∷ 0x40A00000 ∷ [])

to_lowest : List ℕ
to_lowest = words_of (
    2 ∷ 0x3F000000 ∷ 1 ∷
    92 ∷ 24 ∷ 116 ∷ 8 ∷ 124 ∷ 8 ∷ 132 ∷ 4 ∷ 136 ∷ 0 ∷
    136 ∷ 40 ∷ 176 ∷ 12 ∷ 188 ∷ 8 ∷ 196 ∷ 8 ∷ 204 ∷ 8 ∷
    0 ∷ 0 ∷ 0x3F800000 ∷ 0x40000000 ∷ 0 ∷ 2 ∷ 0 ∷ all_ones ∷ 0 ∷ 1 ∷ 0 ∷
    0 ∷ 0 ∷ 0x3F800000 ∷ 0x40000000 ∷ 0 ∷ 2 ∷ 0x40400000 ∷ 0x40000000 ∷ 2 ∷ 1 ∷ all_ones ∷ 0x01000002 ∷ 0x01000000 ∷ 0 ∷ 2 ∷ 1 ∷ 0 ∷ 0x40800000 ∷ 0x40A00000 ∷ [])

passed : first_no stitched ≡ Ok tt
unfolding stitched joined bytes4 check_each end_to_end every question1 question2 question3 question4 question5 question6 question7 question8 question9 question10 question11 question12 question13 header_check blocks_check deck_check first_no u32_at blocks_at size_at_most reach_allowed of_bits le
passed = refl

written : new_file All stitched ≡ unstitched
unfolding stitched unstitched joined bytes4 u32_at blocks_at kept_of keeps written_as rows collect kept_from new_vertex new_blocks new_lengths pairs new_table all_blocks new_file
written = refl

written_again : new_file All unstitched ≡ again
unfolding again unstitched joined bytes4 u32_at blocks_at kept_of keeps written_as rows collect kept_from new_vertex new_blocks new_lengths pairs new_table all_blocks new_file
written_again = refl

written_to_lowest : new_file (ToLayer 0) stitched ≡ to_lowest
unfolding stitched to_lowest joined bytes4 u32_at blocks_at kept_of keeps written_as rows collect kept_from new_vertex new_blocks new_lengths pairs new_table all_blocks new_file
written_to_lowest = refl
