-- The calls for closest points: from the record of the seat that asks to the reply.
use Prim.Native.Nat.{ℕ, ◌≤◌, ◌<◌}
use mathlib.Core.Path.{◌≡◌, refl, sym, ap, ◌∙◌}
use mathlib.Core.Bool.{Bool, true, false, not}
use mathlib.Core.List.{List, [], ◌∷◌, ◌++◌}
use native.Mathlib.Omega.{arith}
use lib.ListN.{length, drop}
use lib.Ieee.{binary32, to_bits}
use Rattle.geometry.specs.declared.Vec2.{Vec2}
use Rattle.words.specs.Bytes.{all_ones, bytes4, joined, words_of, splice}
use Rattle.answers.specs.Questions.{question20}
use Rattle.answers.specs.Replies.{Replied, Answer}
use Rattle.answers.proofs.Asking.{said_no, said_yes, q20_short, q20_fits}
use Rattle.answers.proofs.Replying.{replied_refused, replied_short, replied_written, replied_none}
use Rattle.std.specs.Prelude.{Ok, Err}
use Rattle.answers.specs.declared.Refusal.TheVariants.{NoRoom}
use Rattle.records.specs.declared.SeatRecord.{SeatRecord}
use Rattle.records.specs.Record.{is_unplaced}
use Rattle.hits.specs.declared.Candidate.{Candidate}
use Rattle.ship.specs.Layout.{steps_in}
use Rattle.ship.specs.Decode.{decode}
use Rattle.ship.specs.Packed.{packed_of}
use Rattle.ship.specs.Questions.{first_no}
use Rattle.ship.proofs.Facts.{decks_few}
use Rattle.ship.proofs.ModelFacts.{decks_length}
use Rattle.survey.specs.declared.Seat.{Seat}
use Rattle.survey.specs.Wishes.{is_blocked}
use Rattle.survey.specs.View.{Shown}
use Rattle.survey.specs.Search.{seat_record, candidates, found_in}
use Rattle.survey.proofs.NoneOpen.{none_open, found_nowhere}
use Rattle.survey.proofs.Recorded.{Recorded, RecordedFirst, nothing_found, recorded, recorded_first}
use Rattle.walking.specs.Sees.{shown_by, seen_by}
use Rattle.walking.proofs.ShownLaws.{polygons_few}
use Rattle.calls.specs.Closest.{asked_at, closest_points, closest_point, entry_size, entry_bytes, candidate_bytes, query_check, closest_points_reply, closest_point_reply, StepCount, step_reply}
use Rattle.calls.proofs.Queries.{query_passed, query_ready}
use Rattle.calls.proofs.EntryLoop.{length_candidates}

-- the first three numbers of a record, written, are the entry of the candidate that they name
first_written : (w : Shown) (c : Candidate) (out : List ℕ) {polygon x y : ℕ} → polygon ≡ packed_of c.deck c.polygon → x ≡ to_bits binary32 (w.place c).x → y ≡ to_bits binary32 (w.place c).y
    → splice out 0 (words_of (polygon ∷ x ∷ y ∷ [])) ≡ joined (candidate_bytes w) (c ∷ []) ++ drop (length (joined (candidate_bytes w) (c ∷ []))) out
unfolding splice joined candidate_bytes entry_bytes bytes4
first_written w c out a b d = rw (a, b, d)

-- a blocked deck that is named is not searched
pub blocked_finds_none : (file : List ℕ) (p : Vec2) (deck : ℕ) (blocked : List ℕ) → (deck ≡ all_ones → ⊥) → is_blocked blocked deck ≡ true
    → closest_points file p deck blocked ≡ []
unfolding closest_points
blocked_finds_none file p deck blocked named shut =
    ap found_in (found_nowhere (seen_by file blocked (asked_at p deck)) (λ d l. none_open blocked deck named shut d) 0 (steps_in file))

-- ---- the record of the seat that asks; u is whether it is unplaced
module _ (file : List ℕ) (p : Vec2) (deck : ℕ) (blocked : List ℕ) {seat : Seat} {found : SeatRecord} {u : Bool} (is : seat ≡ asked_at p deck)
    (placed : found ≡ seat_record (seen_by file blocked seat) (decode file).steps) (asked : u ≡ is_unplaced found) where
  record_is : found ≡ seat_record (seen_by file blocked (asked_at p deck)) (steps_in file)
  unfolding decode
  record_is = placed ∙ rw is

  module _ (passed : query_check file p deck blocked ≡ Ok tt) where
    file_passed : first_no file ≡ Ok tt
    file_passed = query_passed file p deck blocked passed

    module _ (none : u ≡ true) where
      pub no_points : closest_points file p deck blocked ≡ []
      unfolding closest_points
      no_points =
          nothing_found (seen_by file blocked (asked_at p deck)) (steps_in file) record_is (omega (arith, decks_length file, decks_few file file_passed))
          (polygons_few file file_passed p) (sym asked ∙ none)

      no_point : closest_point file p deck blocked ≡ []
      unfolding closest_point
      no_point = rw no_points

      pub points_none : {out : List ℕ} → Replied (closest_points_reply file p deck blocked) out out (Ok 0)
      points_none = replied_none _ _ refl passed no_points

      pub point_none : {out : List ℕ} → Replied (closest_point_reply file p deck blocked) out out (Ok 0)
      point_none = replied_none _ _ refl passed no_point

    pub step_below : u ≡ false → found.step < steps_in file
    step_below some = (recorded (seen_by file blocked (asked_at p deck)) (steps_in file) record_is (sym asked ∙ some)).below

  module _ (some : u ≡ false) where
    step_found : Recorded (seen_by file blocked (asked_at p deck)) (steps_in file) found
    step_found = recorded (seen_by file blocked (asked_at p deck)) (steps_in file) record_is (sym asked ∙ some)

    pub points_are : closest_points file p deck blocked ≡ candidates (seen_by file blocked seat) found.step
    unfolding closest_points
    points_are = step_found.all ∙ rw is

    pub points_count : StepCount (seen_by file blocked seat) found.step found.candidates
    unfolding closest_points
    points_count = step_found.count ∙ ap length points_are

    -- ---- the first alone
    first_found : RecordedFirst (seen_by file blocked (asked_at p deck)) (steps_in file) found
    first_found = recorded_first (seen_by file blocked (asked_at p deck)) (steps_in file) record_is refl (sym asked ∙ some)

    point_is : closest_point file p deck blocked ≡ first_found.candidate ∷ []
    unfolding closest_point closest_points
    point_is = first_found.first

    point_count : 1 ≡ length (closest_point file p deck blocked)
    point_count = rw point_is

    point_long : length (closest_point_reply file p deck blocked).bytes ≡ entry_size
    point_long = length_candidates (shown_by file p) (closest_point file p deck blocked) ∙ rw point_is

    module _ (out : List ℕ) {fits : Bool} (room : fits ≡ question20 entry_size (length out)) where
      point_short : not fits ≡ true → length out < length (closest_point_reply file p deck blocked).bytes
      point_short no_room = rw point_long (q20_short entry_size (length out) (said_no room no_room))

      module _ (has_room : not fits ≡ false) where
        pub point_room : entry_size ≤ length out
        point_room = q20_fits entry_size (length out) (said_yes room has_room)

        point_fits : length (closest_point_reply file p deck blocked).bytes ≤ length out
        point_fits = rw point_long point_room

    point_written : (out : List ℕ) {out' : List ℕ} → out' ≡ splice out 0 (words_of (found.polygon ∷ found.x ∷ found.y ∷ []))
        → out' ≡ (closest_point_reply file p deck blocked).bytes ++ drop (length (closest_point_reply file p deck blocked).bytes) out
    point_written out o =
        o
        ∙ first_written (shown_by file p) first_found.candidate out first_found.polygon_is first_found.x_is first_found.y_is
        ∙ ap (λ (l : List Candidate). joined (candidate_bytes (shown_by file p)) l ++ drop (length (joined (candidate_bytes (shown_by file p)) l)) out) (sym point_is)

-- ---- the replies
pub points_replied : (file : List ℕ) (p : Vec2) (deck : ℕ) (blocked : List ℕ) {seat : Seat} {found : SeatRecord} {u : Bool} → seat ≡ asked_at p deck
    → found ≡ seat_record (seen_by file blocked seat) (decode file).steps → u ≡ is_unplaced found → u ≡ false
    → query_check file p deck blocked ≡ Ok tt → {out out' : List ℕ} {a : Answer}
    → Replied (step_reply (seen_by file blocked seat) found.step) out out' a → Replied (closest_points_reply file p deck blocked) out out' a
points_replied file p deck blocked is placed asked some passed h =
    let at = ap (λ (s : Seat). s.place) is in
    rw (passed, points_are file p deck blocked is placed asked some, ← at) h

module _ (file : List ℕ) (p : Vec2) (deck : ℕ) (blocked : List ℕ) {seat : Seat} {found : SeatRecord} {u : Bool} (is : seat ≡ asked_at p deck)
    (placed : found ≡ seat_record (seen_by file blocked seat) (decode file).steps) (asked : u ≡ is_unplaced found) (some : u ≡ false)
    (passed : query_check file p deck blocked ≡ Ok tt) (out : List ℕ) {fits : Bool} where
  module _ (room : fits ≡ question20 entry_size (length out)) where
    pub point_refused : not fits ≡ true → Replied (closest_point_reply file p deck blocked) out out (Err NoRoom)
    point_refused no_room = replied_short refl passed (point_short file p deck blocked is placed asked some out room no_room)

    pub point_replied : not fits ≡ false → {out' : List ℕ} → out' ≡ splice out 0 (words_of (found.polygon ∷ found.x ∷ found.y ∷ []))
        → Replied (closest_point_reply file p deck blocked) out out' (Ok 1)
    point_replied has_room o =
        replied_written refl passed (point_fits file p deck blocked is placed asked some out room has_room) (point_count file p deck blocked is placed asked some)
        (point_written file p deck blocked is placed asked some out o)

pub ruleset all_points = (query_ready, replied_refused, points_none, step_below, points_count, points_replied)

pub ruleset first_point = (query_ready, replied_refused, point_none, point_room, point_refused, point_replied)
