-- Document 01, section 7: the worked example, and a seat of kind 1 over two overlapping decks, as definitions evaluated on bytes.
use Prim.Native.Nat.{ℕ}
use mathlib.Core.Path.{◌≡◌, refl}
use mathlib.Core.List.{List, [], ◌∷◌, ◌++◌}
use lib.ListN.{take, replicate}
use lib.Ieee.{of_int, of_bits, div, add, sub, mul, lt, le, eq, round, sum, neg, units, odd, size, climb, span, of_fields, to_bits}
use Rattle.geometry.specs.Plane.{side_of, in_range, in_bounding_box, on_segment}
use Rattle.geometry.specs.Polygon.{edge_test_of, edges_from, point_in_polygon}
use Rattle.geometry.specs.Heights.{height_along, sum_from, height_from, mean_height, height_in}
use Rattle.ring.specs.Table.{directions}
use Rattle.words.specs.Bytes.{u32_at, bytes4, joined}
use Rattle.words.specs.Rows.{rows, every, collect, sum_of}
use Rattle.answers.specs.Checks.{check_each}
use Rattle.answers.specs.Questions.{question14, question17, question20}
use Rattle.answers.specs.Replies.{reply_check, answer_to}
use Rattle.std.specs.Prelude.{Ok, Err}
use Rattle.answers.specs.declared.Refusal.TheVariants.{HeaderCut, BlocksNotEndToEnd, NoSuchDeck, NoRoom}
use Rattle.records.specs.declared.SeatRecord.{SeatRecord}
use Rattle.records.specs.Record.{record_bytes}
use Rattle.hits.specs.Hits.{polygon_hit, sample_hit}
use Rattle.ship.specs.Layout.{blocks_at}
use Rattle.ship.specs.Model.{point_of, corners_of, height_of, polygon_points, polygon_corners}
use Rattle.ship.specs.Decode.{deck_at, decode}
use Rattle.ship.specs.Floats.{size_at_most, reach_allowed}
use Rattle.ship.specs.Questions.{end_to_end, question1, question2, question3, question4, question5, question6, question7, question8, question9, question10, question11, question12, question13, header_check, blocks_check, deck_check, first_no}
use Rattle.survey.specs.Wishes.{choice_of, is_blocked, is_open, nearer}
use Rattle.survey.specs.Search.{turn, tried_before, best_of, first_step, seat_record}
use Rattle.search.specs.OnDeck.{passes_at, height_on}
use Rattle.walking.specs.Sees.{sample_on, place_of, shown_from}
use Rattle.seat_run.specs.SeatFile.{seat_at, seats_of, question14_seats, kind_allowed, question16_seat, seat_check}
use Rattle.seat_run.specs.Run.{run_check, seat_run, run_reply}

-- L 1, reach 0.5, S 2, offset 0, the square (0,0) (4,0) (4,4) (0,4), heights 1 1 3 3, each N list [0, all ones]
file : List ℕ
file =
    1 ∷ 0 ∷ 0 ∷ 0 ∷ 0 ∷ 0 ∷ 0 ∷ 63 ∷ 2 ∷ 0 ∷ 0 ∷ 0 ∷ 52 ∷ 0 ∷ 0 ∷ 0 ∷ 72 ∷ 0 ∷ 0 ∷ 0 ∷ 124 ∷ 0 ∷ 0 ∷ 0 ∷ 32 ∷ 0 ∷ 0 ∷ 0 ∷ 156 ∷ 0 ∷ 0 ∷ 0 ∷ 8 ∷
    0 ∷ 0 ∷ 0 ∷ 164 ∷ 0 ∷ 0 ∷ 0 ∷ 16 ∷ 0 ∷ 0 ∷ 0 ∷ 180 ∷ 0 ∷ 0 ∷ 0 ∷ 16 ∷ 0 ∷ 0 ∷ 0 ∷ 0 ∷ 0 ∷ 0 ∷ 0 ∷ 0 ∷ 0 ∷ 0 ∷ 0 ∷ 0 ∷ 0 ∷ 0 ∷ 0 ∷ 0 ∷ 0 ∷ 0
    ∷ 0 ∷ 0 ∷ 0 ∷ 0 ∷ 0 ∷ 2 ∷ 0 ∷ 0 ∷ 0 ∷ 0 ∷ 0 ∷ 128 ∷ 64 ∷ 0 ∷ 0 ∷ 0 ∷ 0 ∷ 2 ∷ 0 ∷ 0 ∷ 0 ∷ 2 ∷ 0 ∷ 0 ∷ 0 ∷ 0 ∷ 0 ∷ 128 ∷ 64 ∷ 0 ∷ 0 ∷ 128 ∷ 64
    ∷ 4 ∷ 0 ∷ 0 ∷ 0 ∷ 2 ∷ 0 ∷ 0 ∷ 0 ∷ 0 ∷ 0 ∷ 0 ∷ 0 ∷ 0 ∷ 0 ∷ 128 ∷ 64 ∷ 6 ∷ 0 ∷ 0 ∷ 0 ∷ 2 ∷ 0 ∷ 0 ∷ 0 ∷ 0 ∷ 0 ∷ 0 ∷ 0 ∷ 255 ∷ 255 ∷ 255 ∷ 255 ∷
    0 ∷ 0 ∷ 0 ∷ 0 ∷ 255 ∷ 255 ∷ 255 ∷ 255 ∷ 0 ∷ 0 ∷ 0 ∷ 0 ∷ 255 ∷ 255 ∷ 255 ∷ 255 ∷ 0 ∷ 0 ∷ 0 ∷ 0 ∷ 255 ∷ 255 ∷ 255 ∷ 255 ∷ 0 ∷ 0 ∷ 0 ∷ 0 ∷ 4 ∷
    0 ∷ 0 ∷ 0 ∷ 0 ∷ 0 ∷ 0 ∷ 0 ∷ 1 ∷ 0 ∷ 0 ∷ 0 ∷ 2 ∷ 0 ∷ 0 ∷ 0 ∷ 3 ∷ 0 ∷ 0 ∷ 0 ∷ 0 ∷ 0 ∷ 128 ∷ 63 ∷ 0 ∷ 0 ∷ 128 ∷ 63 ∷ 0 ∷ 0 ∷ 64 ∷ 64 ∷ 0 ∷ 0 ∷
    64 ∷ 64 ∷ []

-- kind 0, deck open: (1,1) (5,5) (-0.5,2)
seats : List ℕ
seats =
    0 ∷ 0 ∷ 128 ∷ 63 ∷ 0 ∷ 0 ∷ 128 ∷ 63 ∷ 255 ∷ 255 ∷ 255 ∷ 255 ∷ 0 ∷ 0 ∷ 0 ∷ 0 ∷ 0 ∷ 0 ∷ 0 ∷ 0 ∷ 0 ∷ 0 ∷ 160 ∷ 64 ∷ 0 ∷ 0 ∷ 160 ∷ 64 ∷ 255 ∷
    255 ∷ 255 ∷ 255 ∷ 0 ∷ 0 ∷ 0 ∷ 0 ∷ 0 ∷ 0 ∷ 0 ∷ 0 ∷ 0 ∷ 0 ∷ 0 ∷ 191 ∷ 0 ∷ 0 ∷ 0 ∷ 64 ∷ 255 ∷ 255 ∷ 255 ∷ 255 ∷ 0 ∷ 0 ∷ 0 ∷ 0 ∷ 0 ∷ 0 ∷ 0 ∷ 0 ∷
    []

-- the square twice, the second deck with heights 5 5 5 5
two_decks : List ℕ
two_decks =
    2 ∷ 0 ∷ 0 ∷ 0 ∷ 0 ∷ 0 ∷ 0 ∷ 63 ∷ 2 ∷ 0 ∷ 0 ∷ 0 ∷ 92 ∷ 0 ∷ 0 ∷ 0 ∷ 72 ∷ 0 ∷ 0 ∷ 0 ∷ 164 ∷ 0 ∷ 0 ∷ 0 ∷ 32 ∷ 0 ∷ 0 ∷ 0 ∷ 196 ∷ 0 ∷ 0 ∷ 0 ∷ 8 ∷
    0 ∷ 0 ∷ 0 ∷ 204 ∷ 0 ∷ 0 ∷ 0 ∷ 16 ∷ 0 ∷ 0 ∷ 0 ∷ 220 ∷ 0 ∷ 0 ∷ 0 ∷ 16 ∷ 0 ∷ 0 ∷ 0 ∷ 236 ∷ 0 ∷ 0 ∷ 0 ∷ 72 ∷ 0 ∷ 0 ∷ 0 ∷ 52 ∷ 1 ∷ 0 ∷ 0 ∷ 32 ∷ 0
    ∷ 0 ∷ 0 ∷ 84 ∷ 1 ∷ 0 ∷ 0 ∷ 8 ∷ 0 ∷ 0 ∷ 0 ∷ 92 ∷ 1 ∷ 0 ∷ 0 ∷ 16 ∷ 0 ∷ 0 ∷ 0 ∷ 108 ∷ 1 ∷ 0 ∷ 0 ∷ 16 ∷ 0 ∷ 0 ∷ 0 ∷ 0 ∷ 0 ∷ 0 ∷ 0 ∷ 0 ∷ 0 ∷ 0 ∷
    0 ∷ 0 ∷ 0 ∷ 0 ∷ 0 ∷ 0 ∷ 0 ∷ 0 ∷ 0 ∷ 0 ∷ 0 ∷ 0 ∷ 0 ∷ 2 ∷ 0 ∷ 0 ∷ 0 ∷ 0 ∷ 0 ∷ 128 ∷ 64 ∷ 0 ∷ 0 ∷ 0 ∷ 0 ∷ 2 ∷ 0 ∷ 0 ∷ 0 ∷ 2 ∷ 0 ∷ 0 ∷ 0 ∷ 0 ∷ 0
    ∷ 128 ∷ 64 ∷ 0 ∷ 0 ∷ 128 ∷ 64 ∷ 4 ∷ 0 ∷ 0 ∷ 0 ∷ 2 ∷ 0 ∷ 0 ∷ 0 ∷ 0 ∷ 0 ∷ 0 ∷ 0 ∷ 0 ∷ 0 ∷ 128 ∷ 64 ∷ 6 ∷ 0 ∷ 0 ∷ 0 ∷ 2 ∷ 0 ∷ 0 ∷ 0 ∷ 0 ∷ 0 ∷ 0
    ∷ 0 ∷ 255 ∷ 255 ∷ 255 ∷ 255 ∷ 0 ∷ 0 ∷ 0 ∷ 0 ∷ 255 ∷ 255 ∷ 255 ∷ 255 ∷ 0 ∷ 0 ∷ 0 ∷ 0 ∷ 255 ∷ 255 ∷ 255 ∷ 255 ∷ 0 ∷ 0 ∷ 0 ∷ 0 ∷ 255 ∷ 255 ∷
    255 ∷ 255 ∷ 0 ∷ 0 ∷ 0 ∷ 0 ∷ 4 ∷ 0 ∷ 0 ∷ 0 ∷ 0 ∷ 0 ∷ 0 ∷ 0 ∷ 1 ∷ 0 ∷ 0 ∷ 0 ∷ 2 ∷ 0 ∷ 0 ∷ 0 ∷ 3 ∷ 0 ∷ 0 ∷ 0 ∷ 0 ∷ 0 ∷ 128 ∷ 63 ∷ 0 ∷ 0 ∷ 128 ∷
    63 ∷ 0 ∷ 0 ∷ 64 ∷ 64 ∷ 0 ∷ 0 ∷ 64 ∷ 64 ∷ 0 ∷ 0 ∷ 0 ∷ 0 ∷ 0 ∷ 0 ∷ 0 ∷ 0 ∷ 0 ∷ 0 ∷ 0 ∷ 0 ∷ 0 ∷ 0 ∷ 0 ∷ 0 ∷ 0 ∷ 0 ∷ 0 ∷ 0 ∷ 2 ∷ 0 ∷ 0 ∷ 0 ∷ 0 ∷
    0 ∷ 128 ∷ 64 ∷ 0 ∷ 0 ∷ 0 ∷ 0 ∷ 2 ∷ 0 ∷ 0 ∷ 0 ∷ 2 ∷ 0 ∷ 0 ∷ 0 ∷ 0 ∷ 0 ∷ 128 ∷ 64 ∷ 0 ∷ 0 ∷ 128 ∷ 64 ∷ 4 ∷ 0 ∷ 0 ∷ 0 ∷ 2 ∷ 0 ∷ 0 ∷ 0 ∷ 0 ∷ 0 ∷
    0 ∷ 0 ∷ 0 ∷ 0 ∷ 128 ∷ 64 ∷ 6 ∷ 0 ∷ 0 ∷ 0 ∷ 2 ∷ 0 ∷ 0 ∷ 0 ∷ 0 ∷ 0 ∷ 0 ∷ 0 ∷ 255 ∷ 255 ∷ 255 ∷ 255 ∷ 0 ∷ 0 ∷ 0 ∷ 0 ∷ 255 ∷ 255 ∷ 255 ∷ 255 ∷ 0
    ∷ 0 ∷ 0 ∷ 0 ∷ 255 ∷ 255 ∷ 255 ∷ 255 ∷ 0 ∷ 0 ∷ 0 ∷ 0 ∷ 255 ∷ 255 ∷ 255 ∷ 255 ∷ 0 ∷ 0 ∷ 0 ∷ 0 ∷ 4 ∷ 0 ∷ 0 ∷ 0 ∷ 0 ∷ 0 ∷ 0 ∷ 0 ∷ 1 ∷ 0 ∷ 0 ∷ 0
    ∷ 2 ∷ 0 ∷ 0 ∷ 0 ∷ 3 ∷ 0 ∷ 0 ∷ 0 ∷ 0 ∷ 0 ∷ 160 ∷ 64 ∷ 0 ∷ 0 ∷ 160 ∷ 64 ∷ 0 ∷ 0 ∷ 160 ∷ 64 ∷ 0 ∷ 0 ∷ 160 ∷ 64 ∷ []

-- kind 1, deck open, at (1,1), wishing a height of 4.5
wishing : List ℕ
wishing =
    0 ∷ 0 ∷ 128 ∷ 63 ∷ 0 ∷ 0 ∷ 128 ∷ 63 ∷ 255 ∷ 255 ∷ 255 ∷ 255 ∷ 1 ∷ 0 ∷ 0 ∷ 0 ∷ 0 ∷ 0 ∷ 144 ∷ 64 ∷ []

-- kind 0, all at (1,1): deck 1 named, deck 0 named, deck open
naming : List ℕ
naming =
    0 ∷ 0 ∷ 128 ∷ 63 ∷ 0 ∷ 0 ∷ 128 ∷ 63 ∷ 1 ∷ 0 ∷ 0 ∷ 0 ∷ 0 ∷ 0 ∷ 0 ∷ 0 ∷ 0 ∷ 0 ∷ 0 ∷ 0 ∷
    0 ∷ 0 ∷ 128 ∷ 63 ∷ 0 ∷ 0 ∷ 128 ∷ 63 ∷ 0 ∷ 0 ∷ 0 ∷ 0 ∷ 0 ∷ 0 ∷ 0 ∷ 0 ∷ 0 ∷ 0 ∷ 0 ∷ 0 ∷
    0 ∷ 0 ∷ 128 ∷ 63 ∷ 0 ∷ 0 ∷ 128 ∷ 63 ∷ 255 ∷ 255 ∷ 255 ∷ 255 ∷ 0 ∷ 0 ∷ 0 ∷ 0 ∷ 0 ∷ 0 ∷ 0 ∷ 0 ∷ []

-- L 0, reach 0.5, S 2
hull : List ℕ
hull = 0 ∷ 0 ∷ 0 ∷ 0 ∷ 0 ∷ 0 ∷ 0 ∷ 63 ∷ 2 ∷ 0 ∷ 0 ∷ 0 ∷ []

nothing_blocked : List ℕ
nothing_blocked = replicate 32 0

deck_1_blocked : List ℕ
deck_1_blocked = 2 ∷ replicate 31 0

-- the nine numbers in the record's order
abbrev numbers : ℕ → ℕ → ℕ → ℕ → ℕ → ℕ → ℕ → ℕ → ℕ → SeatRecord
numbers p x y k h s i t c = record { polygon = p; x = x; y = y; kind = k; height = h; step = s; sample = i; tried = t; candidates = c }

files_pass : (first_no file ≡ Ok tt) × (first_no two_decks ≡ Ok tt)
unfolding file two_decks check_each end_to_end every question1 question2 question3 question4 question5 question6 question7 question8 question9 question10 question11 question12 question13 header_check blocks_check deck_check first_no u32_at blocks_at size_at_most reach_allowed of_bits le
files_pass = (refl, refl)

runs_pass : (run_check file nothing_blocked seats ≡ Ok tt) × (run_check two_decks nothing_blocked wishing ≡ Ok tt)
unfolding file seats two_decks wishing nothing_blocked question14 question14_seats kind_allowed question16_seat question17 seat_check run_check check_each end_to_end every question1 question2 question3 question4 question5 question6 question7 question8 question9 question10 question11 question12 question13 header_check blocks_check deck_check first_no u32_at blocks_at size_at_most reach_allowed of_bits le
runs_pass = (refl, refl)

worked_example : seat_run (decode file) nothing_blocked (seats_of seats)
    ≡ numbers 0 0x3F80_0000 0x3F80_0000 1 0x4000_0000 0 0 1 1
    ∷ numbers 0xFFFF_FFFF 0 0 0 0 0 0 12 0
    ∷ numbers 0 0 0x4000_0000 1 0x4000_0000 1 5 7 1
    ∷ []
unfolding file seats nothing_blocked seat_run seat_at rows u32_at blocks_at deck_at decode point_of corners_of height_of polygon_points polygon_corners is_blocked is_open nearer polygon_hit sample_hit collect sum_of turn tried_before best_of first_step seat_record choice_of sample_on place_of shown_from passes_at height_on directions side_of in_range in_bounding_box on_segment edge_test_of edges_from point_in_polygon height_along sum_from height_from mean_height height_in of_int of_bits div add sub mul lt le eq round sum neg units odd size climb span of_fields to_bits
worked_example = refl

-- heights 2 and 5, and the wish 4.5: the later deck is chosen
wish_chooses : seat_run (decode two_decks) nothing_blocked (seats_of wishing) ≡ numbers 0x0100_0000 0x3F80_0000 0x3F80_0000 1 0x40A0_0000 0 0 2 2 ∷ []
unfolding two_decks wishing nothing_blocked seat_run seat_at rows u32_at blocks_at deck_at decode point_of corners_of height_of polygon_points polygon_corners is_blocked is_open nearer polygon_hit sample_hit collect sum_of turn tried_before best_of first_step seat_record choice_of sample_on place_of shown_from passes_at height_on directions side_of in_range in_bounding_box on_segment edge_test_of edges_from point_in_polygon height_along sum_from height_from mean_height height_in of_int of_bits div add sub mul lt le eq round sum neg units odd size climb span of_fields to_bits
wish_chooses = refl

-- the blocked set comes first: the seat that names deck 1 is unplaced with nothing tried, the others have deck 0 alone
blocked_comes_first : seat_run (decode two_decks) deck_1_blocked (seats_of naming)
    ≡ numbers 0xFFFF_FFFF 0 0 0 0 0 0 0 0
    ∷ numbers 0 0x3F80_0000 0x3F80_0000 1 0x4000_0000 0 0 1 1
    ∷ numbers 0 0x3F80_0000 0x3F80_0000 1 0x4000_0000 0 0 1 1
    ∷ []
unfolding two_decks naming deck_1_blocked seat_run seat_at rows u32_at blocks_at deck_at decode point_of corners_of height_of polygon_points polygon_corners is_blocked is_open nearer polygon_hit sample_hit collect sum_of turn tried_before best_of first_step seat_record choice_of sample_on place_of shown_from passes_at height_on directions side_of in_range in_bounding_box on_segment edge_test_of edges_from point_in_polygon height_along sum_from height_from mean_height height_in of_int of_bits div add sub mul lt le eq round sum neg units odd size climb span of_fields to_bits
blocked_comes_first = refl

-- 36 bytes a seat are room enough, and a byte less is not
room : (answer_to (run_reply file nothing_blocked seats) (replicate 108 0) ≡ Ok 3) × (answer_to (run_reply file nothing_blocked seats) (replicate 107 0) ≡ Err NoRoom)
unfolding answer_to reply_check question20 joined record_bytes bytes4 file seats nothing_blocked seat_run seat_at rows u32_at blocks_at deck_at decode point_of corners_of height_of polygon_points polygon_corners is_blocked is_open nearer polygon_hit sample_hit collect sum_of turn tried_before best_of first_step seat_record choice_of sample_on place_of shown_from passes_at height_on directions side_of in_range in_bounding_box on_segment edge_test_of edges_from point_in_polygon height_along sum_from height_from mean_height height_in of_int of_bits div add sub mul lt le eq round sum neg units odd size climb span of_fields to_bits question14 question14_seats kind_allowed question16_seat question17 seat_check run_check check_each end_to_end every question1 question2 question3 question4 question5 question6 question7 question8 question9 question10 question11 question12 question13 header_check blocks_check deck_check first_no size_at_most reach_allowed
room = (refl, refl)

-- document 02, point 5: 12 bytes pass, 11 and 13 do not; no seat is placed, nothing is tried, and a deck that is named is not there
hull_asked : (first_no hull ≡ Ok tt) × ((first_no (take 11 hull) ≡ Err HeaderCut) × (first_no (hull ++ 0 ∷ []) ≡ Err BlocksNotEndToEnd))
unfolding hull check_each end_to_end question1 question2 question3 question4 question5 question6 header_check first_no u32_at size_at_most reach_allowed of_bits le
hull_asked = (refl, (refl, refl))

hull_run : (run_check hull nothing_blocked seats ≡ Ok tt) × (run_check hull nothing_blocked naming ≡ Err NoSuchDeck)
unfolding hull seats naming nothing_blocked question14 question14_seats kind_allowed question16_seat question17 seat_check run_check check_each end_to_end question1 question2 question3 question4 question5 question6 header_check first_no u32_at size_at_most reach_allowed of_bits le
hull_run = (refl, refl)

hull_records : seat_run (decode hull) nothing_blocked (seats_of seats)
    ≡ numbers 0xFFFF_FFFF 0 0 0 0 0 0 0 0 ∷ numbers 0xFFFF_FFFF 0 0 0 0 0 0 0 0 ∷ numbers 0xFFFF_FFFF 0 0 0 0 0 0 0 0 ∷ []
unfolding hull seats nothing_blocked seat_run seat_at rows u32_at decode is_blocked is_open collect sum_of tried_before first_step seat_record choice_of shown_from of_bits
hull_records = refl
