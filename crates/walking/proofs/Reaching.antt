-- Every sample of a search lies in the box that its lists are kept over: so a list serves each step, and one sifted with a step's own box serves that step.
use Prim.Native.Nat.{ℕ, ◌-◌, ◌≤◌, ◌<◌}
use native.Mathlib.Omega.{arith}
use mathlib.Core.Path.{◌≡◌}
use mathlib.Core.List.{List}
use lib.Ieee.{Float, binary32}
use lib.Ieee.Bits.{of_bits-fits}
use Rattle.geometry.specs.declared.Vec2.{Vec2}
use Rattle.geometry.specs.Plane.{sub_of}
use Rattle.geometry.specs.Bounds.{PointWithin}
use Rattle.geometry.proofs.Bounds.{held, by_test, sub_within}
use Rattle.ring.specs.Sample.{sample_of}
use Rattle.boxes.specs.declared.BoundingBox.{BoundingBox}
use Rattle.boxes.specs.Box.{InBox}
use Rattle.boxes.specs.StepBox.{step_box, ReachAllowed}
use Rattle.boxes.proofs.Samples.{sample_in_box, box_in_later}
use Rattle.words.specs.Bytes.{u32_at}
use Rattle.hits.specs.declared.Candidate.{Candidate}
use Rattle.std.specs.Prelude.{Option, Ok}
use Rattle.hits.specs.declared.Hit.{Hit}
use Rattle.ship.specs.Layout.{reach_position, decks_in, steps_in}
use Rattle.ship.specs.Model.{Deck, deck_of}
use Rattle.ship.specs.Decode.{decode}
use Rattle.ship.specs.Questions.{first_no}
use Rattle.ship.specs.Within.{DeckWithin}
use Rattle.ship.proofs.Facts.{decks_few, reach_from_zero, steps_range}
use Rattle.ship.proofs.ModelFacts.{deck_of_within, decode_reach}
use Rattle.keeping.specs.Kept.{KeptAt}
use Rattle.keeping.specs.Lists.{list_at, numbers_at, LiesIn, ListsRoom}
use Rattle.sifting.specs.Sifted.{KeptOver, Around}
use Rattle.sifting.proofs.SiftLoop.{over_at}
use Rattle.survey.specs.Search.{turn}
use Rattle.search.specs.OnDeck.{deck_turn}
use Rattle.survey.specs.declared.Seat.{Seat}
use Rattle.walking.specs.Sees.{sample_on, shown_by, TurnIn, CandidateIn}
use Rattle.walking.specs.Lists.{search_box, WalkReady, TurnReady}
use Rattle.walking.proofs.ShownLaws.{turn_shown, step_few}

-- ---- the reach, and a point in a deck's coordinates
module _ (file : List ℕ) (passed : first_no file ≡ Ok tt) where
  pub reach_allowed : ReachAllowed (decode file).reach
  unfolding decode
  reach_allowed =
      record {
        within = decode_reach file passed;
        from_zero = record { holds = reach_from_zero file passed };
        held = of_bits-fits binary32 (u32_at file reach_position);
      }

pub around_within : {p o : Vec2} → PointWithin 1000000 p → PointWithin 1000000 o → PointWithin 3000000 (sub_of p o)
unfolding held
around_within w o = record { x = sub_within (by_test 3000000 tt) (omega arith) w.x o.x; y = sub_within (by_test 3000000 tt) (omega arith) w.y o.y }

-- ---- a box that lies in another
pub over_inner : {deck : Deck} {bounds inner : BoundingBox} {numbers : List ℕ} {rest : ℕ} → KeptOver deck bounds numbers rest
    → ((q : Vec2) → InBox inner q → InBox bounds q) → KeptOver deck inner numbers rest
over_inner over h = record { list = over.list; others = λ q i. over.others q (h q i) }

-- ---- deck d, read, and the point around which its samples lie
-- p in the coordinates of deck d
abbrev pub on_deck : List ℕ → Vec2 → ℕ → Vec2
on_deck file p d = sub_of p (deck_of (decode file) d).offset

module _ (file : List ℕ) {d : ℕ} {p : Vec2} (passed : first_no file ≡ Ok tt) (there : d < decks_in file) (within : PointWithin 1000000 p) {s : ℕ} (step : s < steps_in file) where
  close : PointWithin 3000000 (on_deck file p d)
  close = around_within within (deck_of_within file d passed there).offset

  pub in_search : (q : Vec2) → InBox (step_box (on_deck file p d) (decode file).reach s) q → InBox (search_box file p d) q
  unfolding search_box
  in_search q i =
      let last : s ≤ steps_in file - 1 = omega arith in
      let few : steps_in file - 1 < 16 = omega (arith, (steps_range file passed).1) in
      box_in_later close (reach_allowed file passed) last few i

  pub sample_in_search : (i : ℕ) → InBox (search_box file p d) (sample_of (on_deck file p d) (decode file).reach s i)
  sample_in_search i =
      in_search (sample_of (on_deck file p d) (decode file).reach s i) (sample_in_box close (reach_allowed file passed) (step_few file passed step) i)

-- ---- `deck_turn`
pub turn_here : {file blocked : List ℕ} {seat : Seat} {array : List ℕ} {d s : ℕ} → WalkReady file blocked seat array → TurnIn file d s
    → TurnReady file seat.place d s array
turn_here ready turn =
    record { file_passed = ready.file_passed; place_within = ready.search_ready.place_within; turn = turn; sifted = ready.sifted }

module _ {file : List ℕ} {p : Vec2} {d s : ℕ} {array : List ℕ} (ready : TurnReady file p d s array) where
  pub turn_room : ListsRoom array
  turn_room = ready.sifted.room

  pub turn_lies : LiesIn array (list_at array d)
  turn_lies = (ready.sifted.lists d ready.turn.deck).inside

  pub turn_step : s < 16
  turn_step = step_few file ready.file_passed ready.turn.step

  pub turn_deck : d < 256
  turn_deck = omega (arith, ready.turn.deck, decks_few file ready.file_passed)

  module _ {deck : Deck} {offset around : Vec2} {reach : Float} (is : deck ≡ deck_of (decode file) d) (read : offset ≡ deck.offset) (moved : around ≡ sub_of p offset)
      (reached : reach ≡ (decode file).reach) where
    pub turn_around : DeckWithin deck → Around around reach
    turn_around within =
        record { point_within = rw (moved, read) (around_within ready.place_within within.offset); reach_allowed = rw reached (reach_allowed file ready.file_passed) }

    pub turn_kept : {numbers : List ℕ} {rest : ℕ} → numbers ≡ numbers_at array (list_at array d) → rest ≡ (list_at array d).rest
        → KeptOver deck (step_box around reach s) numbers rest
    turn_kept l r =
        rw (l, r, moved, read, reached, is)
        (over_inner (ready.sifted.lists d ready.turn.deck).over (in_search file ready.file_passed ready.turn.deck ready.place_within ready.turn.step))

    pub turn_found : {hit : Option Hit} → hit ≡ deck_turn deck around reach s → hit ≡ turn (shown_by file p) s d
    turn_found e = turn_shown file d is p read moved reached s e

pub ruleset turns = (turn_step, turn_room, turn_lies, turn_deck, turn_around, turn_kept)

-- ---- `after`: what is searched on the candidate's deck
pub passing_kept : {file : List ℕ} {p : Vec2} {c : Candidate} {array : List ℕ} {deck : Deck} {q : Vec2} {numbers : List ℕ} {rest : ℕ}
    → TurnReady file p c.deck c.step array → CandidateIn file c → deck ≡ deck_of (decode file) c.deck → q ≡ sample_on (decode file) p c → numbers ≡ numbers_at array (list_at array c.deck)
    → rest ≡ (list_at array c.deck).rest → KeptAt deck numbers rest q
unfolding sample_on
passing_kept {file} {c = c} ready on is at l r =
    let turn = ready.turn in
    rw (l, r, at, is)
    (over_at (ready.sifted.lists c.deck turn.deck).over (sample_in_search file ready.file_passed turn.deck ready.place_within turn.step c.sample))

pub ruleset nexts = (turn_room, turn_lies, turn_deck, passing_kept)
