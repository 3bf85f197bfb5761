-- What the decks of a passed file show, as the readers read it, and how large it is.
use Prim.Native.Nat.{ℕ, ◌+◌, ◌-◌, ◌*◌, ◌<◌, ◌≤◌}
use mathlib.Core.Path.{◌≡◌, refl, ◌∙◌}
use mathlib.Core.Bool.{Bool, true, false}
use mathlib.Core.List.{List}
use native.Mathlib.Omega.{arith}
use native.Mathlib.Nat.{mul-le-mul}
use mir.Syntax.{w64}
use mir.Val.{Fits}
use lib.ListN.{length, get_or-eq_default}
use lib.Dec.{ltb}
use lib.Ieee.{Float}
use borrow.Author.Tests.{ltb-true, ltb-false}
use Rattle.geometry.specs.declared.Vec2.{Vec2}
use Rattle.geometry.specs.declared.Height.{Height}
use Rattle.geometry.specs.Plane.{add_of, sub_of}
use Rattle.geometry.specs.Bounds.{PointWithin}
use Rattle.ring.specs.Sample.{sample_of}
use Rattle.ring.proofs.SampleBounds.{place_within}
use Rattle.hits.specs.declared.Candidate.{Candidate}
use Rattle.std.specs.Prelude.{Option, Ok}
use Rattle.hits.specs.declared.Hit.{Hit}
use Rattle.hits.proofs.HitLoops.{polygon_hit_same}
use Rattle.ship.specs.Layout.{decks_in, steps_in}
use Rattle.ship.specs.Model.{Deck, no_deck, deck_of}
use Rattle.ship.specs.Decode.{decode}
use Rattle.ship.specs.Questions.{first_no}
use Rattle.ship.specs.Within.{DeckWithin}
use Rattle.ship.proofs.Facts.{decks_few, steps_range}
use Rattle.ship.proofs.ModelFacts.{decks_length, deck_of_within, decode_reach}
use Rattle.survey.specs.declared.Seat.{Seat}
use Rattle.survey.specs.Search.{turn, candidates, tried_in}
use Rattle.survey.proofs.Loops.{candidates_bound, tried_in_bound}
use Rattle.search.specs.OnDeck.{deck_turn, next_hit, height_on}
use Rattle.search.proofs.HeightBound.{height_within}
use Rattle.walking.specs.Sees.{sample_on, place_of, shown_from, shown_by, seen_by, CandidateIn, CandidateWithin}
use Rattle.walking.specs.Walk.{passing_after}

pub polygons_shown : (file : List ℕ) (d : ℕ) (p : Vec2) → (shown_by file p).polygons d ≡ length (deck_of (decode file) d).polygons
unfolding shown_from
polygons_shown file d p = refl

-- ---- `deck_turn`
pub turn_shown : (file : List ℕ) (d : ℕ) {deck : Deck} → deck ≡ deck_of (decode file) d → (p : Vec2) {o around : Vec2} {reach : Float} → o ≡ deck.offset → around ≡ sub_of p o
    → reach ≡ (decode file).reach → (s : ℕ) {hit : Option Hit} → hit ≡ deck_turn deck around reach s → hit ≡ turn (shown_by file p) s d
unfolding shown_from turn deck_turn sample_on
turn_shown file d is p offset moved reached s e = e ∙ rw (moved, offset, reached, is)

-- ---- `sample`
pub sample_shown : (file : List ℕ) (p : Vec2) (c : Candidate) {deck : Deck} {o around q : Vec2} {reach : Float} → deck ≡ deck_of (decode file) c.deck
    → o ≡ deck.offset → around ≡ sub_of p o → reach ≡ (decode file).reach → q ≡ sample_of around reach c.step c.sample → q ≡ sample_on (decode file) p c
unfolding sample_on
sample_shown file p c is eo ea er eq = eq ∙ rw (ea, eo, er, is)

module _ (file : List ℕ) (p : Vec2) (c : Candidate) {deck : Deck} (is : deck ≡ deck_of (decode file) c.deck) where
  pub polygon_there : CandidateIn file c → c.polygon < length deck.polygons
  polygon_there on = rw is on.polygon

  -- ---- `place`
  pub place_shown : {q o place : Vec2} → q ≡ sample_on (decode file) p c → o ≡ deck.offset → place ≡ add_of q o → place ≡ (shown_by file p).place c
  unfolding shown_from place_of
  place_shown eq eo e = e ∙ rw (eq, eo, is)

  -- ---- `height`
  pub height_shown : {place : Vec2} {h : Height} → place ≡ (shown_by file p).place c → h ≡ height_on deck c.polygon place → h ≡ (shown_by file p).height c
  unfolding shown_from
  height_shown at e = e ∙ rw (at, is)

  -- ---- `after`
  pub next_fits : CandidateIn file c → DeckWithin deck → Fits w64 (c.polygon + 1)
  next_fits on within = record { fits = omega (arith, polygon_there on, within.few_polygons) }

  pub next_shown : {q : Vec2} {hit : Option Hit} → q ≡ sample_on (decode file) p c → hit ≡ next_hit deck q c.sample (c.polygon + 1)
      → hit ≡ passing_after (shown_by file p) c
  unfolding shown_from passing_after next_hit sample_on
  next_shown {q} at e =
      e ∙ rw (at, is) (polygon_hit_same _ _ c.sample (λ k. refl) (c.polygon + 1) (length (deck_of (decode file) c.deck).polygons - (c.polygon + 1)))

-- ---- `spot`: what a spot of a search says is of the candidate
module _ {file ship : List ℕ} {p at : Vec2} {c c' : Candidate} (same : ship ≡ file) (spot : (at ≡ p) × (c' ≡ c)) where
  pub spot_sample : {q : Vec2} → q ≡ sample_on (decode ship) at c' → q ≡ sample_on (decode file) p c
  spot_sample e = e ∙ rw (same, spot.0, spot.1)

  pub spot_place : {place : Vec2} → place ≡ (shown_by ship at).place c' → place ≡ (shown_by file p).place c
  spot_place e = e ∙ rw (same, spot.0, spot.1)

  pub spot_height : {h : Height} → h ≡ (shown_by ship at).height c' → h ≡ (shown_by file p).height c
  spot_height e = e ∙ rw (same, spot.0, spot.1)

-- a step of a passed file is one of sixteen
pub step_few : (file : List ℕ) → first_no file ≡ Ok tt → {s : ℕ} → s < steps_in file → s < 16
step_few file passed h = omega (arith, (steps_range file passed).1)

pub step_small : {file : List ℕ} {c : Candidate} → first_no file ≡ Ok tt → CandidateIn file c → c.step < 16
step_small {file} passed on = step_few file passed on.turn.step

pub ruleset shows = (step_small, turn_shown, sample_shown, polygon_there, place_shown, height_shown, next_fits, next_shown)

-- ---- sizes
-- a deck that is not there has no polygons
pub polygons_few : (file : List ℕ) → first_no file ≡ Ok tt → (p : Vec2) (d : ℕ) → (shown_by file p).polygons d ≤ 16777215
unfolding shown_from
polygons_few file passed p d = go (ltb d (decks_in file)) refl
  where
    go : (b : Bool) → ltb d (decks_in file) ≡ b → length (deck_of (decode file) d).polygons ≤ 16777215
    go true e = (deck_of_within file d passed (ltb-true d (decks_in file) e)).few_polygons
    go false e =
        let past : length (decode file).decks ≤ d = omega (arith, decks_length file, ltb-false d (decks_in file) e) in
        rw (get_or-eq_default (decode file).decks no_deck past) (omega arith)

module _ {file : List ℕ} {c : Candidate} (passed : first_no file ≡ Ok tt) (on : CandidateIn file c) {p : Vec2} (within : PointWithin 1000000 p) where
  deck : DeckWithin (deck_of (decode file) c.deck)
  deck = deck_of_within file c.deck passed on.turn.deck

  place_small : PointWithin 3015000 ((shown_by file p).place c)
  unfolding shown_from place_of sample_on
  place_small =
      place_within p (deck_of (decode file) c.deck).offset (decode file).reach c.step c.sample (step_few file passed on.turn.step)
      (decode_reach file passed) within deck.offset

  pub candidate_within : CandidateWithin c ((shown_by file p).place c) ((shown_by file p).height c)
  unfolding shown_from
  candidate_within =
      record {
        step = step_few file passed on.turn.step;
        deck = omega (arith, on.turn.deck, decks_few file passed);
        sample = omega (arith, step_few file passed on.turn.step, on.sample);
        polygon = omega (arith, on.polygon, deck.few_polygons);
        place_within = place_small;
        height_within = height_within deck c.polygon ((shown_by file p).place c) place_small;
      }

-- ---- the numbers of a step: at most 256 decks of at most 151 samples, and at most 16,777,215 polygons a deck
module _ (file blocked : List ℕ) (seat : Seat) (s : ℕ) (passed : first_no file ≡ Ok tt) where
  few_decks : (seen_by file blocked seat).decks ≤ 256
  few_decks = omega (arith, decks_length file, decks_few file passed)

  pub few_tried : s < 16 → tried_in (seen_by file blocked seat) s ≤ 38656
  few_tried l =
      let ring : 10 * s + 1 ≤ 151 = omega arith in
      omega (arith, tried_in_bound (seen_by file blocked seat) s, mul-le-mul few_decks ring)

  pub few_candidates : length (candidates (seen_by file blocked seat) s) ≤ 4294967040
  few_candidates =
      let each : 16777215 ≤ 16777215 = omega arith in
      omega (arith, candidates_bound (seen_by file blocked seat) 16777215 (polygons_few file passed seat.place) s, mul-le-mul few_decks each)
