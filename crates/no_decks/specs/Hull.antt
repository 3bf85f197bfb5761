-- Document 02, point 5: what each call replies on a hull with no decks yet, that is on a file with L 0 that passes.
use Rattle.std.specs.Prelude.{ℕ, ◌≡◌, cond, List, [], ◌∷◌, eqb, Ok, Err}
use Rattle.geometry.specs.declared.Vec2.{Vec2}
use Rattle.words.specs.Bytes.{all_ones, bytes4, counts_of}
use Rattle.answers.specs.Checks.{Check, ask}
use Rattle.answers.specs.Questions.{question14}
use Rattle.answers.specs.Replies.{Reply, answer_for, reply_of}
use Rattle.answers.specs.declared.Refusal.TheVariants.{WrongLength, CallFloatOutOfRange, NoSuchDeck, NoDirection}
use Rattle.calls.specs.Closest.{question16, closest_points_reply, closest_point_reply}
use Rattle.calls.specs.HeightCall.{height_reply}
use Rattle.towards.specs.Towards.{question22, towards_reply}
use Rattle.locating.specs.Locating.{location_of, layer_reply}
use Rattle.candidates.specs.Candidates.{candidates_reply, candidates_work}
use Rattle.islands.specs.Islands.{islands_check}
use Rattle.stitching.specs.Points.{stitch_points_reply}
use Rattle.unstitched.specs.declared.Stitches.{Stitches}
use Rattle.unstitched.specs.NewFile.{removal_reply}
use Rattle.seat_run.specs.SeatFile.{seat_count}
use Rattle.seat_run.specs.Run.{run_reply}
use Rattle.seat_run.specs.NoDecks.{no_decks_reply}
use Rattle.loads.specs.Loads.{loads_reply, sheet_bytes, loads_work}

-- a reply without entries, once these questions have passed
abbrev pub nothing : Check → Reply
nothing check = record { check = check; count = 0; bytes = [] }

-- 14 and 16 of a query
abbrev pub asked : Vec2 → List ℕ → Check → Check
asked p blocked later = ask (question14 blocked) WrongLength (ask (question16 p) CallFloatOutOfRange later)

-- 17: none may be named
abbrev pub names_none : ℕ → Check → Check
names_none deck later = ask (eqb deck all_ones) NoSuchDeck later

pub record NothingLaidOut (file : List ℕ) : Type 0 where
  -- 'no seat is placed, nothing is tried', with a load sheet or without; the sheet is one count, that of the unplaced: all seats
  pub run : (blocked seats : List ℕ) → run_reply file blocked seats ≡ no_decks_reply file blocked seats
  pub run_loads : (blocked seats : List ℕ) → loads_reply file blocked seats ≡ no_decks_reply file blocked seats
  pub sheet : (blocked seats : List ℕ) → sheet_bytes file blocked seats ≡ counts_of (seat_count seats ∷ [])
  pub sheet_work : loads_work file ≡ 0
  -- where 17 is asked, a call that names a deck gets it, and one that names none finds nothing
  pub closest_points : (p : Vec2) (deck : ℕ) (blocked : List ℕ)
      → closest_points_reply file p deck blocked ≡ nothing (asked p blocked (names_none deck (Ok tt)))
  pub closest_point : (p : Vec2) (deck : ℕ) (blocked : List ℕ)
      → closest_point_reply file p deck blocked ≡ nothing (asked p blocked (names_none deck (Ok tt)))
  pub closest_towards : (p towards : Vec2) (deck : ℕ)
      → towards_reply file p towards deck
      ≡ nothing
      (ask (question16 p) CallFloatOutOfRange
      (ask (question16 towards) CallFloatOutOfRange (names_none deck (ask (question22 p towards) NoDirection (Ok tt)))))
  pub height : (p : Vec2) (polygon : ℕ)
      → height_reply file p polygon ≡ nothing (ask (question16 p) CallFloatOutOfRange (names_none polygon (Ok tt)))
  -- islands are of a named deck always
  pub islands : (deck : ℕ) → islands_check file deck ≡ Err NoSuchDeck
  -- where 17 is not asked, nothing is found, as on any absent deck; a polygon already named comes back
  pub location : (p : Vec2) (deck : ℕ)
      → location_of file p deck ≡ answer_for (ask (question16 p) CallFloatOutOfRange (Ok tt)) all_ones
  pub layer : (p : Vec2) (deck : ℕ) → layer_reply file p deck ≡ nothing (ask (question16 p) CallFloatOutOfRange (Ok tt))
  pub candidates : (p : Vec2) (deck polygon : ℕ) (blocked : List ℕ)
      → candidates_reply file p deck polygon blocked
      ≡ reply_of (asked p blocked (Ok tt)) bytes4 (cond (eqb polygon all_ones) [] (polygon ∷ []))
  pub work_of_candidates : candidates_work file ≡ 0
  -- 'there are no stitch points', and a removal leaves the file as it is
  pub stitch_points : stitch_points_reply file ≡ nothing (Ok tt)
  pub removal : (which : Stitches) → removal_reply which file ≡ record { check = Ok tt; count = 12; bytes = file }
