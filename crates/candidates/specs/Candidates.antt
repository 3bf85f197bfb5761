-- Document 01, section 8, `candidate_polygons`: its questions and its entries.
use Rattle.std.specs.Prelude.{ℕ, ◌*◌, cond, List, [], ◌∷◌, map, eqb, ℤ, Float, Ok}
use Rattle.geometry.specs.declared.Vec2.{Vec2}
use Rattle.words.specs.Bytes.{all_ones, bytes4}
use Rattle.answers.specs.Checks.{ask, after, Check}
use Rattle.answers.specs.Questions.{question14, question17}
use Rattle.answers.specs.Replies.{Reply, reply_of, Worked, WorkedCode, Answer}
use Rattle.answers.specs.declared.Refusal.TheVariants.{WrongLength, CallFloatOutOfRange}
use Rattle.ship.specs.Layout.{number_size, decks_in}
use Rattle.ship.specs.Model.{polygon_total}
use Rattle.ship.specs.Decode.{decode}
use Rattle.ship.specs.Questions.{first_no}
use Rattle.calls.specs.Closest.{point_of_parts, question16, closest_points}
use Rattle.touching.specs.Touching.{touches}
use Rattle.touching.specs.Reach.{merged, MergedSound}
use Rattle.numbering.specs.Numbers.{packed_candidate}

-- 14 and 16; an absent deck is no refusal here
unfoldable pub candidate_check : List ℕ → Vec2 → List ℕ → Check
candidate_check file p blocked = after (first_no file) (ask (question14 blocked) WrongLength (ask (question16 p) CallFloatOutOfRange (Ok tt)))

-- 'as 5, packed, except that .. an absent one gives nothing'; a blocked one is not open in 5 and gives nothing there
unfoldable pub found_polygons : List ℕ → Vec2 → ℕ → List ℕ → List ℕ
found_polygons file p deck blocked = cond (question17 (decks_in file) deck) (map packed_candidate (closest_points file p deck blocked)) []

-- 'a polygon already named comes back unchecked'; otherwise those found, merged
unfoldable pub candidate_polygons : List ℕ → Vec2 → ℕ → ℕ → List ℕ → List ℕ
candidate_polygons file p deck polygon blocked =
    cond (eqb polygon all_ones) (merged (touches (decode file)) (found_polygons file p deck blocked)) (polygon ∷ [])

abbrev pub candidates_reply : List ℕ → Vec2 → ℕ → ℕ → List ℕ → Reply
candidates_reply file p deck polygon blocked = reply_of (candidate_check file p blocked) bytes4 (candidate_polygons file p deck polygon blocked)

-- 20 wants work of 4 bytes a polygon of all decks
abbrev pub candidates_work : List ℕ → ℕ
candidates_work file = number_size * polygon_total (decode file)

abbrev pub CandidatesWorked : List ℕ → Vec2 → ℕ → ℕ → List ℕ → List ℕ → List ℕ → List ℕ → List ℕ → Answer → Type 0
CandidatesWorked file p deck polygon blocked out out' work work' r =
    Worked (candidates_reply file p deck polygon blocked) (candidates_work file) out out' work work' r

abbrev pub CandidatesCode : List ℕ → Float → Float → ℕ → ℕ → List ℕ → List ℕ → List ℕ → List ℕ → List ℕ → ℤ → Type 0
CandidatesCode file x y deck polygon blocked out out' work work' r =
    WorkedCode (candidates_reply file (point_of_parts x y) deck polygon blocked) (candidates_work file) out out' work work' r

-- what drops out is what an earlier one reaches by a chain through the list
abbrev pub CandidatesMerged : List ℕ → Vec2 → ℕ → List ℕ → Type 0
CandidatesMerged file p deck blocked = MergedSound (touches (decode file)) (found_polygons file p deck blocked)
