-- The theorem on a hull with no decks: nothing is laid out, call by call.
use Prim.Native.Nat.{ℕ, zero, suc, ◌+◌}
use native.Mathlib.Omega.{arith}
use mathlib.Core.Path.{◌≡◌, refl, ap, ◌∙◌}
use mathlib.Core.Bool.{Bool, true, false, ◌||◌, cond}
use mathlib.Core.List.{List, [], ◌∷◌, append-nil}
use lib.Dec.{eqb}
use lib.Seq.{take_all}
use Rattle.geometry.specs.declared.Vec2.{Vec2}
use Rattle.geometry.specs.declared.Height.TheVariants.{None}
use Rattle.words.specs.Bytes.{all_ones, joined, counts_of}
use Rattle.words.specs.Rows.{rows, collect, collect_all, sum_of, count_of}
use Rattle.answers.specs.Questions.{question17}
use Rattle.answers.specs.Checks.{ask, check_each}
use Rattle.answers.proofs.Asking.{below_none, none_there, after_passed}
use Rattle.std.specs.Prelude.{Ok, Err}
use Rattle.answers.specs.declared.Refusal.TheVariants.{CallFloatOutOfRange, NoSuchDeck, NoSuchPolygon, NoDirection}
use Rattle.records.specs.declared.SeatRecord.{SeatRecord}
use Rattle.records.specs.Record.{is_unplaced, unplaced_record}
use Rattle.ship.specs.Layout.{header_size, decks_in, steps_in}
use Rattle.ship.specs.Model.{polygons_before}
use Rattle.ship.specs.Decode.{decode}
use Rattle.ship.specs.Packed.{packed_deck}
use Rattle.ship.specs.Questions.{first_no}
use Rattle.ship.proofs.NoDecks.{header_long, no_decks, no_deck_below}
use Rattle.survey.specs.Search.{found_in}
use Rattle.survey.proofs.NoneOpen.{found_nowhere}
use Rattle.search.specs.OnDeck.{height_on}
use Rattle.walking.specs.Sees.{seen_by}
use Rattle.calls.specs.Closest.{question16, query_check, asked_at, closest_points, closest_point}
use Rattle.calls.specs.HeightCall.{question17_height, question18, height_check, height_call}
use Rattle.towards.specs.Towards.{question22, towards_check, step_gives, all_given, place_towards, closest_towards}
use Rattle.direction.specs.Direction.{direction_of}
use Rattle.locating.specs.Locating.{point_layer, point_location, point_check, location_of}
use Rattle.touching.specs.Reach.{merged}
use Rattle.candidates.specs.Candidates.{candidate_check, found_polygons, candidate_polygons}
use Rattle.islands.specs.Islands.{question17_islands, islands_check}
use Rattle.stitching.specs.Points.{stitch_points}
use Rattle.unstitched.specs.declared.Stitches.{Stitches}
use Rattle.unstitched.specs.NewFile.{pairs, new_table, all_blocks, new_file}
use Rattle.seat_run.specs.SeatFile.{seat_count}
use Rattle.seat_run.specs.Run.{record_of_seat, run_check, run_records}
use Rattle.seat_run.proofs.RunRecords.{run_rows}
use Rattle.seat_run.proofs.NoDecksTheorem.{no_decks_reply_lem, seat_untried}
use Rattle.loads.specs.Loads.{labels_check, loads_check, run_sheet}
use Rattle.loads.specs.Sheet.{ship_labels, each_polygon, sheet_of, unplaced_load}
use Rattle.no_decks.specs.Hull.{asked, names_none, NothingLaidOut}

collect_nothing : {A : Type 0} (f : ℕ → List A) → ((i : ℕ) → f i ≡ []) → (n i : ℕ) → collect_all f i n ≡ []
unfolding collect
collect_nothing f h zero i = refl
collect_nothing f h (suc n) i = rw (h i) (collect_nothing f h n (i + 1))

unplaced_all : (f : ℕ → SeatRecord) → ((i : ℕ) → f i ≡ unplaced_record 0) → (n i : ℕ) → count_of is_unplaced (rows f i n) ≡ n
unfolding count_of rows
unplaced_all f h zero i = refl
unplaced_all f h (suc n) i = rw (h i) (ap suc (unplaced_all f h n (i + 1)))

-- 18 is not asked where 17 says no, and passes where nothing is named
asked_17 : (named there : Bool) → ask (named || false) NoSuchDeck (ask (named || there) NoSuchPolygon (Ok tt)) ≡ ask named NoSuchDeck (Ok tt)
asked_17 true there = refl
asked_17 false there = refl

same_both : {A : Type 0} (b : Bool) (x : A) → cond b x x ≡ x
same_both true x = refl
same_both false x = refl

module _ (file : List ℕ) (none : decks_in file ≡ 0) (passed : first_no file ≡ Ok tt) where
  -- ---- the closest points
  found_none : (p : Vec2) (deck : ℕ) (blocked : List ℕ) → closest_points file p deck blocked ≡ []
  unfolding closest_points
  found_none p deck blocked =
      ap found_in (found_nowhere (seen_by file blocked (asked_at p deck)) (λ d l. absurd (no_deck_below file none l)) 0 (steps_in file))

  query_asked : (p : Vec2) (deck : ℕ) (blocked : List ℕ) → query_check file p deck blocked ≡ asked p blocked (names_none deck (Ok tt))
  unfolding query_check
  query_asked p deck blocked = rw (passed, none, none_there deck)

  step_none : (p direction : Vec2) (deck s : ℕ) → step_gives (decode file) p direction deck s ≡ []
  unfolding step_gives collect
  step_none p direction deck s = rw (no_decks file none)

  towards_none : (p towards : Vec2) (deck : ℕ) → closest_towards file p towards deck ≡ []
  unfolding closest_towards place_towards all_given
  towards_none p towards deck =
      let direction = direction_of p towards in
      rw (collect_nothing (step_gives (decode file) p direction deck) (step_none p direction deck) (decode file).steps 0)

  towards_asked : (p towards : Vec2) (deck : ℕ)
      → towards_check file p towards deck ≡ ask (question16 p) CallFloatOutOfRange (ask (question16 towards) CallFloatOutOfRange (names_none deck (ask (question22 p towards) NoDirection (Ok tt))))
  unfolding towards_check
  towards_asked p towards deck = rw (passed, none, none_there deck)

  -- ---- the height
  height_asked : (p : Vec2) (polygon : ℕ) → height_check file p polygon ≡ ask (question16 p) CallFloatOutOfRange (names_none polygon (Ok tt))
  unfolding height_check question17_height question18
  height_asked p polygon = rw (passed, none, below_none (packed_deck polygon), asked_17 (eqb polygon all_ones) _)

  height_none : (p : Vec2) (polygon : ℕ) → height_call file p polygon ≡ None
  unfolding height_call height_on
  height_none p polygon = rw (no_decks file none) (same_both (eqb polygon all_ones) None)

  -- ---- section 8
  point_asked : (p : Vec2) → point_check file p ≡ ask (question16 p) CallFloatOutOfRange (Ok tt)
  unfolding point_check
  point_asked p = rw passed

  candidates_asked : (p : Vec2) (blocked : List ℕ) → candidate_check file p blocked ≡ asked p blocked (Ok tt)
  unfolding candidate_check
  candidates_asked p blocked = rw passed

  layer_none : (p : Vec2) (deck : ℕ) → point_layer file p deck ≡ []
  unfolding point_layer collect
  layer_none p deck = rw none

  polygons_none : (p : Vec2) (deck : ℕ) (blocked : List ℕ) → found_polygons file p deck blocked ≡ []
  unfolding found_polygons
  polygons_none p deck blocked = rw (found_none p deck blocked) (same_both (question17 (decks_in file) deck) [])

  merged_none : (p : Vec2) (deck polygon : ℕ) (blocked : List ℕ) → candidate_polygons file p deck polygon blocked ≡ cond (eqb polygon all_ones) [] (polygon ∷ [])
  unfolding candidate_polygons merged collect
  merged_none p deck polygon blocked = rw (polygons_none p deck blocked)

  islands_17 : (deck : ℕ) → islands_check file deck ≡ Err NoSuchDeck
  unfolding islands_check question17_islands
  islands_17 deck = rw (passed, none, below_none deck)

  stitches_none : stitch_points (decode file) ≡ []
  unfolding stitch_points collect
  stitches_none = rw (no_decks file none)

  file_kept : (which : Stitches) → new_file which file ≡ file
  unfolding new_file new_table all_blocks pairs collect joined
  file_kept which = rw none (simp append-nil) ∙ take_all header_size file (omega (arith, header_long file none passed))

  -- ---- the load sheet
  labels_asked : (blocked seats : List ℕ) → loads_check file blocked seats ≡ run_check file blocked seats
  unfolding loads_check labels_check check_each
  labels_asked blocked seats = rw (no_decks file none) (after_passed (run_check file blocked seats))

  labels_none : ship_labels (decode file) ≡ []
  unfolding ship_labels
  labels_none = rw (no_decks file none)

  all_unplaced : (blocked seats : List ℕ) → unplaced_load (run_records file blocked seats) ≡ seat_count seats
  all_unplaced blocked seats =
      rw (run_rows (decode file) blocked seats)
      (unplaced_all (record_of_seat (decode file) blocked seats) (seat_untried file blocked seats none) (seat_count seats) 0)

  one_count : (blocked seats : List ℕ) → run_sheet file blocked seats ≡ seat_count seats ∷ []
  unfolding each_polygon sheet_of collect rows
  one_count blocked seats = rw (labels_none, all_unplaced blocked seats)

  -- ---- the theorem
  pub nothing_laid_out : NothingLaidOut file
  unfolding joined polygons_before sum_of closest_point closest_points location_of point_location
  nothing_laid_out =
      record {
        run = λ blocked seats. no_decks_reply_lem file blocked seats none;
        run_loads = λ blocked seats. rw (labels_asked blocked seats) (no_decks_reply_lem file blocked seats none);
        sheet = λ blocked seats. ap counts_of (one_count blocked seats);
        sheet_work = rw (no_decks file none);
        closest_points = λ p deck blocked. rw (query_asked p deck blocked, found_none p deck blocked);
        closest_point = λ p deck blocked. rw (query_asked p deck blocked, found_none p deck blocked);
        closest_towards = λ p towards deck. rw (towards_asked p towards deck, towards_none p towards deck);
        height = λ p polygon. rw (height_asked p polygon, height_none p polygon);
        islands = islands_17;
        location = λ p deck. rw (point_asked p, layer_none p deck);
        layer = λ p deck. rw (point_asked p, layer_none p deck);
        candidates = λ p deck polygon blocked. rw (candidates_asked p blocked, merged_none p deck polygon blocked);
        work_of_candidates = rw (no_decks file none);
        stitch_points = rw (passed, stitches_none);
        removal = λ which. rw (passed, file_kept which, header_long file none passed);
      }
