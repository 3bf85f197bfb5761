-- What the functions below `candidate_polygons` need and promise.
use Rattle.std.specs.Prelude.{ℕ, ◌*◌, ◌≤◌, ◌≡◌, List, map, length, Ok}
use Rattle.geometry.specs.declared.Vec2.{Vec2}
use Rattle.words.specs.Bytes.{bytes4, slice, words_of}
use Rattle.answers.specs.Replies.{reply_of, Worked, Answer}
use Rattle.ship.specs.Layout.{number_size}
use Rattle.ship.specs.Decode.{decode}
use Rattle.calls.specs.Closest.{query_check, closest_points}
use Rattle.touching.specs.Touching.{touches}
use Rattle.touching.specs.Reach.{merged}
use Rattle.numbering.specs.Numbers.{packed_candidate}
use Rattle.candidates.specs.Candidates.{candidates_work}

-- a list of polygons as the answer, once all questions but 20 of the output have passed
abbrev pub NumbersWorked : List ℕ → List ℕ → List ℕ → List ℕ → List ℕ → Answer → Type 0
NumbersWorked polygons out out' work work' r = Worked (reply_of (Ok tt) bytes4 polygons) 0 out out' work work' r

-- those of the numbers that stay stand first in the list
pub record NumbersMerged (polygons list list' : List ℕ) (r : ℕ) : Type 0 where
  pub count : r ≡ length polygons
  pub first : slice list' 0 (number_size * r) ≡ words_of polygons
  pub long : length list' ≡ length list

-- what is found around p, merged
abbrev pub found_merged : List ℕ → Vec2 → ℕ → List ℕ → List ℕ
found_merged file p deck blocked = merged (touches (decode file)) (map packed_candidate (closest_points file p deck blocked))

-- a query that passed, and work that is wide enough
pub record FoundReady (file : List ℕ) (p : Vec2) (deck : ℕ) (blocked work : List ℕ) : Type 0 where
  pub passed : query_check file p deck blocked ≡ Ok tt
  pub wide : candidates_work file ≤ length work
