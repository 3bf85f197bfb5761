-- Each call's answer over C: how many entries it wrote fits an i64, since each has more than two bytes.
use Prim.Native.Nat.{ℕ, ◌^◌, ◌<◌}
use native.Mathlib.Omega.{arith}
use mathlib.Core.Path.{◌≡◌}
use mathlib.Core.List.{List}
use lib.ListN.{length}
use Rattle.geometry.specs.declared.Vec2.{Vec2}
use Rattle.words.proofs.Numbers.{length_words}
use Rattle.answers.specs.Replies.{Answer, Replied, AnswerFits}
use Rattle.answers.proofs.Replying.{replied_fits, replied_code, worked_code, worked_length, tabled_code, tabled_length}
use Rattle.ship.specs.Decode.{decode}
use Rattle.walking.specs.Sees.{shown_by}
use Rattle.calls.specs.Closest.{closest_points, closest_point, closest_points_reply, closest_point_reply}
use Rattle.calls.specs.HeightCall.{height_entry, height_call, height_reply}
use Rattle.calls.proofs.EntryLoop.{length_candidates}
use Rattle.direction.specs.Direction.{direction_of}
use Rattle.towards.specs.Towards.{closest_towards, towards_reply}
use Rattle.towards.proofs.Turns.{length_places}
use Rattle.towards.proofs.SnapTheorem.{snapped_code}
use Rattle.locating.specs.Locating.{point_layer, layer_reply}
use Rattle.candidates.specs.Candidates.{candidate_polygons, CandidatesWorked}
use Rattle.islands.specs.Islands.{IslandsWorked}
use Rattle.islands.proofs.IslandsCall.{islands_long}
use Rattle.stitching.specs.Points.{stitch_points, stitch_points_reply}
use Rattle.stitching.proofs.Putting.{length_stitches}
use Rattle.removal.proofs.Codes.{removal_fits}
use Rattle.records.proofs.ReadBack.{records_length}
use Rattle.seat_run.specs.Run.{run_records, run_reply}
use Rattle.seat_run.proofs.SurveyTheorem.{surveyed_code}
use Rattle.seat_run.proofs.BlockedTheorem.{blocked_unplaced_code}
use Rattle.seat_run.proofs.NoDecksTheorem.{no_decks_code}
use Rattle.loads.specs.Loads.{LoadsReplied, lent_of, SurveyedLoads, UnplacedLoads}
use Rattle.loads.specs.Totals.{TotalledCode}
use Rattle.loads.specs.Portions.{PortionedCode}
use Rattle.loads.proofs.LoadsSurvey.{loads_surveyed_code, loads_unplaced_code}
use Rattle.loads.proofs.TotalsTheorem.{totalled_code}
use Rattle.loads.proofs.PortionsTheorem.{portioned_code}

module _ (file : List ℕ) (p : Vec2) (deck : ℕ) (blocked : List ℕ) {out out' : List ℕ} {r : Answer} where
  pub points_code : Replied (closest_points_reply file p deck blocked) out out' r → length out < 2 ^ 64 → AnswerFits r
  points_code h l = replied_fits h (omega (arith, length_candidates (shown_by file p) (closest_points file p deck blocked))) l

  pub point_code : Replied (closest_point_reply file p deck blocked) out out' r → length out < 2 ^ 64 → AnswerFits r
  point_code h l = replied_fits h (omega (arith, length_candidates (shown_by file p) (closest_point file p deck blocked))) l

pub towards_code : (file : List ℕ) (p towards : Vec2) (deck : ℕ) {out out' : List ℕ} {r : Answer} → Replied (towards_reply file p towards deck) out out' r → length out < 2 ^ 64 → AnswerFits r
towards_code file p towards deck h l =
    replied_fits h (omega (arith, length_places (decode file) p (direction_of p towards) (closest_towards file p towards deck))) l

pub height_code : (file : List ℕ) (p : Vec2) (polygon : ℕ) {out out' : List ℕ} {r : Answer} → Replied (height_reply file p polygon) out out' r → length out < 2 ^ 64 → AnswerFits r
height_code file p polygon h l = replied_fits h (omega (arith, length_words (height_entry (height_call file p polygon)))) l

pub run_code : (file blocked seats : List ℕ) {out out' : List ℕ} {r : Answer} → Replied (run_reply file blocked seats) out out' r → length out < 2 ^ 64 → AnswerFits r
run_code file blocked seats h l = replied_fits h (omega (arith, records_length (run_records file blocked seats))) l

-- the run with a load sheet
module _ (file blocked seats out table work : List ℕ) {out' table' work' : List ℕ} {r : Answer} (h : LoadsReplied file blocked seats out out' table table' work work' r) where
  pub loads_code : length out < 2 ^ 64 → AnswerFits r
  loads_code l = replied_fits h.worked.replied (omega (arith, records_length (run_records file blocked seats))) l

  pub loads_table : length table' ≡ length table
  loads_table = tabled_length h

  pub loads_work : length work' ≡ length work
  loads_work = worked_length h.worked

  pub surveyed_loads : SurveyedLoads file blocked (lent_of seats out table work) out'
  surveyed_loads = loads_surveyed_code file blocked (lent_of seats out table work) h

  pub unplaced_loads : UnplacedLoads file blocked (lent_of seats out table work) out'
  unplaced_loads = loads_unplaced_code file blocked (lent_of seats out table work) h

  pub totalled_loads : TotalledCode file blocked (lent_of seats out table work) out' table'
  totalled_loads = totalled_code file blocked (lent_of seats out table work) h

  pub portioned_loads : PortionedCode file blocked (lent_of seats out table work) out' table'
  portioned_loads = portioned_code file blocked (lent_of seats out table work) h

-- ---- section 8
pub layer_code : (file : List ℕ) (p : Vec2) (deck : ℕ) {out out' : List ℕ} {r : Answer} → Replied (layer_reply file p deck) out out' r → length out < 2 ^ 64 → AnswerFits r
layer_code file p deck h l = replied_fits h (omega (arith, length_words (point_layer file p deck))) l

pub islands_code : (file : List ℕ) (deck : ℕ) {out out' work work' : List ℕ} {r : Answer} → IslandsWorked file deck out out' work work' r → length out < 2 ^ 64 → AnswerFits r
islands_code file deck h l = replied_fits h.replied (omega (arith, islands_long file deck)) l

pub candidates_code : (file : List ℕ) (p : Vec2) (deck polygon : ℕ) (blocked : List ℕ) {out out' work work' : List ℕ} {r : Answer}
    → CandidatesWorked file p deck polygon blocked out out' work work' r → length out < 2 ^ 64 → AnswerFits r
candidates_code file p deck polygon blocked h l =
    replied_fits h.replied (omega (arith, length_words (candidate_polygons file p deck polygon blocked))) l

pub stitches_code : (file : List ℕ) {out out' : List ℕ} {r : Answer} → Replied (stitch_points_reply file) out out' r → length out < 2 ^ 64 → AnswerFits r
stitches_code file h l = replied_fits h (omega (arith, length_stitches (stitch_points (decode file)))) l

pub ruleset codes = (points_code, point_code, height_code, layer_code, stitches_code, replied_code)

pub ruleset work_codes = (islands_code, candidates_code, worked_code, worked_length)

pub ruleset removal_codes = (removal_fits, replied_code)

pub ruleset towards_codes = (towards_code, replied_code, snapped_code)

pub ruleset loads_codes = (loads_code, tabled_code, loads_table, loads_work, surveyed_loads, unplaced_loads, totalled_loads, portioned_loads)

pub ruleset run_codes = (run_code, replied_code, surveyed_code, blocked_unplaced_code, no_decks_code)
