-- Document 01, section 7: its example and two refusals, from an input's bytes to the text, as definitions evaluated.
use Prim.Native.Nat.{ℕ}
use mathlib.Core.Path.{◌≡◌, refl}
use mathlib.Core.List.{List, [], ◌∷◌, ◌++◌}
use lib.ListN.{replicate}
use lib.Ieee.{of_int, of_bits, div, add, sub, mul, lt, le, eq, round, sum, neg, units, odd, size, climb, span, of_fields, to_bits}
use Rattle.geometry.specs.Heights.{height_along, sum_from, height_from, mean_height, height_in}
use Rattle.geometry.specs.Plane.{side_of, in_range, in_bounding_box, on_segment}
use Rattle.geometry.specs.Polygon.{edge_test_of, edges_from, point_in_polygon}
use Rattle.ring.specs.Table.{directions}
use Rattle.words.specs.Bytes.{u32_at}
use Rattle.words.specs.Rows.{rows, every, collect, sum_of}
use Rattle.answers.specs.Checks.{check_each}
use Rattle.answers.specs.Questions.{number_of, question14, question17}
use Rattle.ship.specs.Layout.{blocks_at}
use Rattle.ship.specs.Decode.{deck_at, decode}
use Rattle.ship.specs.Floats.{size_at_most, reach_allowed}
use Rattle.ship.specs.Model.{point_of, corners_of, height_of, polygon_points, polygon_corners}
use Rattle.ship.specs.Questions.{end_to_end, question1, question2, question3, question4, question5, question6, question7, question8, question9, question10, question11, question12, question13, header_check, blocks_check, deck_check, first_no}
use Rattle.hits.specs.Hits.{polygon_hit, sample_hit}
use Rattle.survey.specs.Search.{turn, tried_before, best_of, first_step, seat_record}
use Rattle.survey.specs.Wishes.{choice_of, is_blocked, is_open, nearer}
use Rattle.search.specs.OnDeck.{passes_at, height_on}
use Rattle.walking.specs.Sees.{sample_on, place_of, shown_from}
use Rattle.seat_run.specs.Run.{run_check, seat_run}
use Rattle.seat_run.specs.SeatFile.{seat_at, question14_seats, kind_allowed, question16_seat, seat_check}
use Rattle.lines.specs.Text.{decimal_from, decimal, hex_from, hex}
use Rattle.lines.specs.Lines.{none_fields, placed_fields, seat_line, end_line, refused_line}
use Rattle.lines.specs.Input.{question21}
use Rattle.listing.specs.Listing.{seat_lines, placed_in, unplaced_in, list_text, seatlist_text}

-- L 1, reach 0.5, S 2, offset 0, the square (0,0) (4,0) (4,4) (0,4), heights 1 1 3 3, each N list [0, all ones]
file : List ℕ
file =
    1 ∷ 0 ∷ 0 ∷ 0 ∷ 0 ∷ 0 ∷ 0 ∷ 63 ∷ 2 ∷ 0 ∷ 0 ∷ 0 ∷ 52 ∷ 0 ∷ 0 ∷ 0 ∷ 72 ∷ 0 ∷ 0 ∷ 0 ∷ 124 ∷ 0 ∷ 0 ∷ 0 ∷ 32 ∷ 0 ∷ 0 ∷ 0 ∷ 156 ∷ 0 ∷ 0 ∷ 0 ∷
    8 ∷ 0 ∷ 0 ∷ 0 ∷ 164 ∷ 0 ∷ 0 ∷ 0 ∷ 16 ∷ 0 ∷ 0 ∷ 0 ∷ 180 ∷ 0 ∷ 0 ∷ 0 ∷ 16 ∷ 0 ∷ 0 ∷ 0 ∷ 0 ∷ 0 ∷ 0 ∷ 0 ∷ 0 ∷ 0 ∷ 0 ∷ 0 ∷ 0 ∷ 0 ∷ 0 ∷ 0 ∷ 0
    ∷ 0 ∷ 0 ∷ 0 ∷ 0 ∷ 0 ∷ 0 ∷ 0 ∷ 2 ∷ 0 ∷ 0 ∷ 0 ∷ 0 ∷ 0 ∷ 128 ∷ 64 ∷ 0 ∷ 0 ∷ 0 ∷ 0 ∷ 2 ∷ 0 ∷ 0 ∷ 0 ∷ 2 ∷ 0 ∷ 0 ∷ 0 ∷ 0 ∷ 0 ∷ 128 ∷ 64 ∷ 0 ∷
    0 ∷ 128 ∷ 64 ∷ 4 ∷ 0 ∷ 0 ∷ 0 ∷ 2 ∷ 0 ∷ 0 ∷ 0 ∷ 0 ∷ 0 ∷ 0 ∷ 0 ∷ 0 ∷ 0 ∷ 128 ∷ 64 ∷ 6 ∷ 0 ∷ 0 ∷ 0 ∷ 2 ∷ 0 ∷ 0 ∷ 0 ∷ 0 ∷ 0 ∷ 0 ∷ 0 ∷ 255 ∷
    255 ∷ 255 ∷ 255 ∷ 0 ∷ 0 ∷ 0 ∷ 0 ∷ 255 ∷ 255 ∷ 255 ∷ 255 ∷ 0 ∷ 0 ∷ 0 ∷ 0 ∷ 255 ∷ 255 ∷ 255 ∷ 255 ∷ 0 ∷ 0 ∷ 0 ∷ 0 ∷ 255 ∷ 255 ∷ 255 ∷ 255
    ∷ 0 ∷ 0 ∷ 0 ∷ 0 ∷ 4 ∷ 0 ∷ 0 ∷ 0 ∷ 0 ∷ 0 ∷ 0 ∷ 0 ∷ 1 ∷ 0 ∷ 0 ∷ 0 ∷ 2 ∷ 0 ∷ 0 ∷ 0 ∷ 3 ∷ 0 ∷ 0 ∷ 0 ∷ 0 ∷ 0 ∷ 128 ∷ 63 ∷ 0 ∷ 0 ∷ 128 ∷ 63 ∷
    0 ∷ 0 ∷ 64 ∷ 64 ∷ 0 ∷ 0 ∷ 64 ∷ 64 ∷ []

-- kind 0, deck open: (1,1) (5,5) (-0.5,2)
seats : List ℕ
seats =
    0 ∷ 0 ∷ 128 ∷ 63 ∷ 0 ∷ 0 ∷ 128 ∷ 63 ∷ 255 ∷ 255 ∷ 255 ∷ 255 ∷ 0 ∷ 0 ∷ 0 ∷ 0 ∷ 0 ∷ 0 ∷ 0 ∷ 0 ∷ 0 ∷ 0 ∷ 160 ∷ 64 ∷ 0 ∷ 0 ∷ 160 ∷ 64 ∷ 255
    ∷ 255 ∷ 255 ∷ 255 ∷ 0 ∷ 0 ∷ 0 ∷ 0 ∷ 0 ∷ 0 ∷ 0 ∷ 0 ∷ 0 ∷ 0 ∷ 0 ∷ 191 ∷ 0 ∷ 0 ∷ 0 ∷ 64 ∷ 255 ∷ 255 ∷ 255 ∷ 255 ∷ 0 ∷ 0 ∷ 0 ∷ 0 ∷ 0 ∷ 0 ∷ 0
    ∷ 0 ∷ []

-- nothing blocked
input : List ℕ
input = 196 ∷ 0 ∷ 0 ∷ 0 ∷ file ++ (replicate 32 0 ++ seats)

-- `0 placed 0 0 3F800000 3F800000 40000000 0 0 1 1`
-- `1 none 12`
-- `2 placed 0 0 00000000 40000000 40000000 1 5 7 1`
-- `end 2 1`
text : List ℕ
text =
    48 ∷ 32 ∷ 112 ∷ 108 ∷ 97 ∷ 99 ∷ 101 ∷ 100 ∷ 32 ∷ 48 ∷ 32 ∷ 48 ∷ 32 ∷ 51 ∷ 70 ∷ 56 ∷ 48 ∷ 48 ∷ 48 ∷ 48 ∷ 48 ∷ 32 ∷ 51 ∷ 70 ∷ 56 ∷ 48 ∷ 48
    ∷ 48 ∷ 48 ∷ 48 ∷ 32 ∷ 52 ∷ 48 ∷ 48 ∷ 48 ∷ 48 ∷ 48 ∷ 48 ∷ 48 ∷ 32 ∷ 48 ∷ 32 ∷ 48 ∷ 32 ∷ 49 ∷ 32 ∷ 49 ∷ 10
    ∷ 49 ∷ 32 ∷ 110 ∷ 111 ∷ 110 ∷ 101 ∷ 32 ∷ 49 ∷ 50 ∷ 10
    ∷ 50 ∷ 32 ∷ 112 ∷ 108 ∷ 97 ∷ 99 ∷ 101 ∷ 100 ∷ 32 ∷ 48 ∷ 32 ∷ 48 ∷ 32 ∷ 48 ∷ 48 ∷ 48 ∷ 48 ∷ 48 ∷ 48 ∷ 48 ∷ 48 ∷ 32 ∷ 52 ∷ 48 ∷ 48 ∷ 48 ∷
    48 ∷ 48 ∷ 48 ∷ 48 ∷ 32 ∷ 52 ∷ 48 ∷ 48 ∷ 48 ∷ 48 ∷ 48 ∷ 48 ∷ 48 ∷ 32 ∷ 49 ∷ 32 ∷ 53 ∷ 32 ∷ 55 ∷ 32 ∷ 49 ∷ 10
    ∷ 101 ∷ 110 ∷ 100 ∷ 32 ∷ 50 ∷ 32 ∷ 49 ∷ 10
    ∷ []

worked_example : seatlist_text input ≡ text
unfolding file seats input text seatlist_text list_text question21 refused_line number_of seat_lines placed_in unplaced_in seat_line none_fields placed_fields end_line decimal decimal_from hex hex_from height_along sum_from height_from mean_height height_in side_of in_range in_bounding_box on_segment edge_test_of edges_from point_in_polygon directions u32_at rows every collect sum_of check_each question14 question17 blocks_at deck_at decode size_at_most reach_allowed point_of corners_of height_of polygon_points polygon_corners end_to_end question1 question2 question3 question4 question5 question6 question7 question8 question9 question10 question11 question12 question13 header_check blocks_check deck_check first_no polygon_hit sample_hit turn tried_before best_of first_step seat_record choice_of is_blocked is_open nearer passes_at height_on sample_on place_of shown_from run_check seat_run seat_at question14_seats kind_allowed question16_seat seat_check of_int of_bits div add sub mul lt le eq round sum neg units odd size climb span of_fields to_bits
worked_example = refl

-- no bytes: `refused 21`
no_input : seatlist_text [] ≡ 114 ∷ 101 ∷ 102 ∷ 117 ∷ 115 ∷ 101 ∷ 100 ∷ 32 ∷ 50 ∷ 49 ∷ 10 ∷ []
unfolding seatlist_text question21 u32_at refused_line number_of decimal decimal_from
no_input = refl

-- a file of no bytes: `refused 1`
no_file : seatlist_text (replicate 36 0) ≡ 114 ∷ 101 ∷ 102 ∷ 117 ∷ 115 ∷ 101 ∷ 100 ∷ 32 ∷ 49 ∷ 10 ∷ []
unfolding seatlist_text list_text question21 u32_at run_check first_no header_check question1 refused_line number_of decimal decimal_from
no_file = refl
