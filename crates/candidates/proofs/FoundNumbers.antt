-- The polygons around a point: from the record of the seat that asks to the numbers of its step, and the call over all cases.
use Prim.Native.Nat.{ℕ, ◌*◌, ◌≤◌, ◌<◌}
use native.Mathlib.Omega.{arith}
use mathlib.Core.Path.{◌≡◌, refl, ap}
use mathlib.Core.Bool.{Bool, true, false, not}
use mathlib.Core.List.{List, [], map}
use lib.ListN.{length}
use Rattle.geometry.specs.declared.Vec2.{Vec2}
use Rattle.words.specs.Rows.{collect}
use Rattle.answers.specs.Questions.{question17, question20}
use Rattle.answers.specs.Replies.{Answer}
use Rattle.std.specs.Prelude.{Ok}
use Rattle.records.specs.declared.SeatRecord.{SeatRecord}
use Rattle.records.specs.Record.{is_unplaced}
use Rattle.ship.specs.Layout.{number_size, decks_in, steps_in}
use Rattle.ship.specs.Model.{polygon_total}
use Rattle.ship.specs.Decode.{decode}
use Rattle.survey.specs.declared.Seat.{Seat}
use Rattle.survey.specs.Search.{seat_record, candidates}
use Rattle.walking.specs.Sees.{seen_by, SearchReady}
use Rattle.walking.specs.Lists.{Sifted, WalkReady}
use Rattle.calls.specs.Closest.{asked_at, closest_points}
use Rattle.calls.proofs.Queries.{query_ready, query_walk}
use Rattle.calls.proofs.ClosestCalls.{no_points, points_are, points_count, step_below}
use Rattle.touching.specs.Touching.{touches}
use Rattle.touching.specs.Reach.{merged}
use Rattle.touching.proofs.Reaching.{merged_sound}
use Rattle.numbering.specs.Numbers.{packed_candidate, step_numbers, step_merged}
use Rattle.numbering.proofs.NumberLoop.{numbers_length}
use Rattle.candidates.specs.Candidates.{candidate_check, found_polygons, CandidatesMerged}
use Rattle.candidates.specs.Written.{NumbersWorked, FoundReady, found_merged}
use Rattle.candidates.proofs.CandidateAsks.{query_asked}
use Rattle.candidates.proofs.PolygonTotal.{numbers_few}
use Rattle.candidates.proofs.CandidateReplies.{deck_there, call_wide}

-- ---- `put_found`
module _ {file : List ℕ} {p : Vec2} {deck : ℕ} {blocked work : List ℕ} (ready : FoundReady file p deck blocked work) {seat : Seat} (is : seat ≡ asked_at p deck) where
  pub found_ready : SearchReady blocked seat
  found_ready = query_ready file p deck blocked ready.passed is

  pub found_walk : {kept : List ℕ} → Sifted file seat.place kept → WalkReady file blocked seat kept
  found_walk sifted = query_walk file p deck blocked ready.passed refl is sifted

  module _ {found : SeatRecord} {u : Bool} (placed : found ≡ seat_record (seen_by file blocked seat) (decode file).steps) (asked : u ≡ is_unplaced found) where
    pub found_none : u ≡ true → {out out' work' : List ℕ} {r : Answer} → NumbersWorked [] out out' work work' r
        → NumbersWorked (found_merged file p deck blocked) out out' work work' r
    unfolding merged collect
    found_none none h = rw (no_points file p deck blocked is placed asked ready.passed none) h

    module _ (some : u ≡ false) where
      pub found_below : found.step < steps_in file
      found_below = step_below file p deck blocked is placed asked ready.passed some

      pub found_count : found.candidates ≡ length (candidates (seen_by file blocked seat) found.step)
      found_count = points_count file p deck blocked is placed asked some

      pub found_fits : number_size * found.candidates ≤ length work
      found_fits =
          omega (arith, found_count, numbers_length file blocked seat found.step, numbers_few file blocked seat found.step, ready.wide)

      numbers_are : map packed_candidate (closest_points file p deck blocked) ≡ step_numbers file blocked seat found.step
      unfolding step_numbers
      numbers_are = ap (map packed_candidate) (points_are file p deck blocked is placed asked some)

      pub found_some : {out out' work' : List ℕ} {r : Answer} → NumbersWorked (step_merged file blocked seat found.step) out out' work work' r
          → NumbersWorked (found_merged file p deck blocked) out out' work work' r
      found_some h = rw numbers_are h

-- ---- `candidate_polygons`
pub call_ready : (file : List ℕ) (p : Vec2) (deck : ℕ) (blocked work : List ℕ) → candidate_check file p blocked ≡ Ok tt
    → {total : ℕ} {fits : Bool} → total ≡ polygon_total (decode file) → fits ≡ question20 (number_size * total) (length work) → not fits ≡ false
    → {decks : ℕ} {there : Bool} → decks ≡ decks_in file → there ≡ question17 decks deck → not there ≡ false → FoundReady file p deck blocked work
call_ready file p deck blocked work passed all said room count told t =
    record { passed = query_asked file p blocked passed deck (deck_there file deck count told t); wide = call_wide file work all said room }

pub call_merged : (file : List ℕ) (p : Vec2) (deck : ℕ) (blocked : List ℕ) → CandidatesMerged file p deck blocked
call_merged file p deck blocked = merged_sound (touches (decode file)) (found_polygons file p deck blocked)
