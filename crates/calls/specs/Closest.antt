-- Document 01, section 5: `get_closest_points_on_layers` and `get_closest_point_on_layers`, their questions and their entries.
use Rattle.std.specs.Prelude.{ℕ, ◌*◌, ◌≤◌, ◌≡◌, Bool, ◌&&◌, List, [], ◌∷◌, ◌++◌, length, take, drop, ℤ, Float, Ok}
use Rattle.std.specs.Float.{binary32}
use Rattle.std.specs.Float.Ieee.{to_bits}
use Rattle.geometry.specs.declared.Vec2.{Vec2}
use Rattle.words.specs.Bytes.{joined, words_of}
use Rattle.answers.specs.Checks.{ask, after, Check}
use Rattle.answers.specs.Questions.{question14, question17}
use Rattle.answers.specs.Replies.{Reply, reply_of, Replied, RepliedCode, Answer}
use Rattle.answers.specs.declared.Refusal.TheVariants.{WrongLength, CallFloatOutOfRange, NoSuchDeck}
use Rattle.hits.specs.declared.Candidate.{Candidate}
use Rattle.ship.specs.Layout.{decks_in, steps_in}
use Rattle.ship.specs.Floats.{in_size}
use Rattle.ship.specs.Packed.{packed_of}
use Rattle.ship.specs.Questions.{first_no}
use Rattle.survey.specs.declared.Seat.{Seat}
use Rattle.survey.specs.declared.Wish.TheVariants.{NoWish}
use Rattle.survey.specs.Wishes.{choice_of}
use Rattle.survey.specs.View.{Shown, View}
use Rattle.survey.specs.Search.{candidates, first_step, found_in}
use Rattle.walking.specs.Sees.{shown_by, seen_by}

abbrev pub point_of_parts : Float → Float → Vec2
point_of_parts x y = record { x = x; y = y }

-- 16 floats as in 11?
unfoldable pub question16 : Vec2 → Bool
question16 p = in_size p.x && in_size p.y

-- the questions of a query before 20
unfoldable pub query_check : List ℕ → Vec2 → ℕ → List ℕ → Check
query_check file p deck blocked =
    after (first_no file)
    (ask (question14 blocked) WrongLength (ask (question16 p) CallFloatOutOfRange (ask (question17 (decks_in file) deck) NoSuchDeck (Ok tt))))

-- a call asks as a seat without a wish
abbrev pub asked_at : Vec2 → ℕ → Seat
asked_at p deck = record { place = p; choice = choice_of deck; wish = NoWish }

-- the candidates of the last step, in order
unfoldable pub closest_points : List ℕ → Vec2 → ℕ → List ℕ → List Candidate
closest_points file p deck blocked = found_in (first_step (seen_by file blocked (asked_at p deck)) 0 (steps_in file))

-- the first candidate, or none
unfoldable pub closest_point : List ℕ → Vec2 → ℕ → List ℕ → List Candidate
closest_point file p deck blocked = take 1 (closest_points file p deck blocked)

-- a candidate is written as packed polygon, x, y
abbrev pub entry_size : ℕ
entry_size = 12

unfoldable pub entry_bytes : ℕ → Vec2 → List ℕ
entry_bytes polygon place = words_of (polygon ∷ to_bits binary32 place.x ∷ to_bits binary32 place.y ∷ [])

unfoldable pub candidate_bytes : Shown → Candidate → List ℕ
candidate_bytes w c = entry_bytes (packed_of c.deck c.polygon) (w.place c)

abbrev pub closest_points_reply : List ℕ → Vec2 → ℕ → List ℕ → Reply
closest_points_reply file p deck blocked =
    reply_of (query_check file p deck blocked) (candidate_bytes (shown_by file p)) (closest_points file p deck blocked)

abbrev pub closest_point_reply : List ℕ → Vec2 → ℕ → List ℕ → Reply
closest_point_reply file p deck blocked =
    reply_of (query_check file p deck blocked) (candidate_bytes (shown_by file p)) (closest_point file p deck blocked)

-- what the two calls promise, and over C
abbrev pub PointsReplied : List ℕ → Vec2 → ℕ → List ℕ → List ℕ → List ℕ → Answer → Type 0
PointsReplied file p deck blocked out out' r = Replied (closest_points_reply file p deck blocked) out out' r

abbrev pub PointReplied : List ℕ → Vec2 → ℕ → List ℕ → List ℕ → List ℕ → Answer → Type 0
PointReplied file p deck blocked out out' r = Replied (closest_point_reply file p deck blocked) out out' r

abbrev pub PointsCode : List ℕ → Float → Float → ℕ → List ℕ → List ℕ → List ℕ → ℤ → Type 0
PointsCode file x y deck blocked out out' r = RepliedCode (closest_points_reply file (point_of_parts x y) deck blocked) out out' r

abbrev pub PointCode : List ℕ → Float → Float → ℕ → List ℕ → List ℕ → List ℕ → ℤ → Type 0
PointCode file x y deck blocked out out' r = RepliedCode (closest_point_reply file (point_of_parts x y) deck blocked) out out' r

-- ---- the candidates of a step: the room for them, that they stand in the output from its first byte on, and how many they are
abbrev pub StepFits : View → ℕ → List ℕ → Type 0
StepFits v s out = entry_size * length (candidates v s) ≤ length out

abbrev pub StepPut : View → ℕ → List ℕ → List ℕ → Type 0
StepPut v s out out' = out' ≡ joined (candidate_bytes v.shown) (candidates v s) ++ drop (entry_size * length (candidates v s)) out

abbrev pub StepCount : View → ℕ → ℕ → Type 0
StepCount v s count = count ≡ length (candidates v s)

abbrev pub step_reply : View → ℕ → Reply
step_reply v s = reply_of (Ok tt) (candidate_bytes v.shown) (candidates v s)

abbrev pub StepReplied : View → ℕ → List ℕ → List ℕ → Answer → Type 0
StepReplied v s out out' r = Replied (step_reply v s) out out' r
