-- What a seat sees of a ship (document 01, sections 5 to 7).
use Rattle.std.specs.Prelude.{ℕ, ◌*◌, ◌≤◌, ◌<◌, ◌^◌, ◌≡◌, List, length}
use Rattle.geometry.specs.declared.Vec2.{Vec2}
use Rattle.geometry.specs.declared.Height.{Height}
use Rattle.geometry.specs.Plane.{add_of, sub_of}
use Rattle.geometry.specs.Bounds.{PointWithin, HeightWithin}
use Rattle.ring.specs.Sample.{sample_of}
use Rattle.hits.specs.declared.Candidate.{Candidate}
use Rattle.ship.specs.Layout.{decks_in, steps_in}
use Rattle.ship.specs.Decode.{decode}
use Rattle.ship.specs.Model.{Ship, deck_of}
use Rattle.survey.specs.declared.Seat.{Seat}
use Rattle.survey.specs.Wishes.{is_open}
use Rattle.survey.specs.View.{Shown, View}
use Rattle.search.specs.OnDeck.{passes_at, height_on}

-- a sample of (p - deck offset)
unfoldable pub sample_on : Ship → Vec2 → Candidate → Vec2
sample_on ship p c = sample_of (sub_of p (deck_of ship c.deck).offset) ship.reach c.step c.sample

-- sample + deck offset
unfoldable pub place_of : Ship → Vec2 → Candidate → Vec2
place_of ship p c = add_of (sample_on ship p c) (deck_of ship c.deck).offset

-- what the decks show around p
unfoldable pub shown_from : Ship → Vec2 → Shown
shown_from ship p =
    record {
      polygons = λ d. length (deck_of ship d).polygons;
      passes = λ c. passes_at (deck_of ship c.deck) (sample_on ship p c) c.polygon;
      place = place_of ship p;
      height = λ c. height_on (deck_of ship c.deck) c.polygon (place_of ship p c);
    }

abbrev pub view : Ship → List ℕ → Seat → View
view ship blocked seat =
    record { shown = shown_from ship seat.place; decks = length ship.decks; opens = is_open blocked seat.choice; wish = seat.wish }

abbrev pub shown_by : List ℕ → Vec2 → Shown
shown_by file p = shown_from (decode file) p

abbrev pub seen_by : List ℕ → List ℕ → Seat → View
seen_by file blocked seat = view (decode file) blocked seat

-- ---- what the functions of a search need
-- a whole blocked set, and a seat that passed question 16
pub record SearchReady (blocked : List ℕ) (seat : Seat) : Type 0 where
  pub blocked_long : length blocked ≡ 32
  pub place_within : PointWithin 1000000 seat.place

-- deck d's turn in step s
pub record TurnIn (file : List ℕ) (d s : ℕ) : Type 0 where
  pub deck : d < decks_in file
  pub step : s < steps_in file

-- a candidate of a ring sample and of a polygon that are there
pub record CandidateIn (file : List ℕ) (c : Candidate) : Type 0 where
  pub turn : TurnIn file c.deck c.step
  pub sample : c.sample ≤ 10 * c.step
  pub polygon : c.polygon < length (deck_of (decode file) c.deck).polygons

-- so that a record's numbers fit, and its floats have bits
pub record CandidateWithin (c : Candidate) (place : Vec2) (h : Height) : Type 0 where
  pub step : c.step < 16
  pub deck : c.deck < 256
  pub sample : c.sample ≤ 150
  pub polygon : c.polygon < 16777215
  pub place_within : PointWithin 3015000 place
  pub height_within : HeightWithin (2 ^ 121) h
