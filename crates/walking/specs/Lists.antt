-- What the kept lists of a seat's search promise, deck by deck.
use Rattle.std.specs.Prelude.{ℕ, ◌+◌, ◌-◌, ◌≤◌, ◌<◌, ◌≡◌, List, length, Ok}
use Rattle.geometry.specs.declared.Vec2.{Vec2}
use Rattle.geometry.specs.Plane.{sub_of}
use Rattle.geometry.specs.Bounds.{PointWithin}
use Rattle.boxes.specs.declared.BoundingBox.{BoundingBox}
use Rattle.boxes.specs.StepBox.{step_box}
use Rattle.ship.specs.Layout.{decks_in, steps_in}
use Rattle.ship.specs.Questions.{first_no}
use Rattle.ship.specs.Model.{deck_of}
use Rattle.ship.specs.Decode.{decode}
use Rattle.keeping.specs.declared.ListPlace.{ListPlace}
use Rattle.keeping.specs.Lists.{lists_size, list_at, numbers_at, LiesIn, ListsRoom}
use Rattle.sifting.specs.declared.Remaining.{Remaining}
use Rattle.sifting.specs.Sifted.{KeptOver, SiftedInto}
use Rattle.survey.specs.declared.Seat.{Seat}
use Rattle.walking.specs.Sees.{SearchReady, TurnIn}

-- deck d's box of the last step, in its own coordinates: every sample of a search around p lies in it
unfoldable pub search_box : List ℕ → Vec2 → ℕ → BoundingBox
search_box file p d = step_box (sub_of p (deck_of (decode file) d).offset) (decode file).reach (steps_in file - 1)

-- a list of deck d lies in the array, and is one over that box
pub record DeckKept (file : List ℕ) (p : Vec2) (array : List ℕ) (d : ℕ) (list : ListPlace) : Type 0 where
  pub inside : LiesIn array list
  pub over : KeptOver (deck_of (decode file) d) (search_box file p d) (numbers_at array list) list.rest

-- every deck has such a list
pub record Sifted (file : List ℕ) (p : Vec2) (array : List ℕ) : Type 0 where
  pub room : ListsRoom array
  pub lists : (d : ℕ) → d < decks_in file → DeckKept file p array d (list_at array d)

-- ---- what the functions of a walk need
pub record WalkReady (file blocked : List ℕ) (seat : Seat) (array : List ℕ) : Type 0 where
  pub file_passed : first_no file ≡ Ok tt
  pub search_ready : SearchReady blocked seat
  pub sifted : Sifted file seat.place array

-- deck d's turn in step s
pub record TurnReady (file : List ℕ) (p : Vec2) (d s : ℕ) (array : List ℕ) : Type 0 where
  pub file_passed : first_no file ≡ Ok tt
  pub place_within : PointWithin 1000000 p
  pub turn : TurnIn file d s
  pub sifted : Sifted file p array

-- a point, and an array for the lists
pub record ListsReady (p : Vec2) (array : List ℕ) : Type 0 where
  pub place_within : PointWithin 1000000 p
  pub room : ListsRoom array

-- such a list, whose numbers stand behind those of the decks and before `at`
pub record DeckList (file : List ℕ) (p : Vec2) (array : List ℕ) (at d : ℕ) (list : ListPlace) : Type 0 where
  pub kept : DeckKept file p array d list
  pub past : lists_size ≤ list.start
  pub below : list.start + list.count ≤ at

-- the decks of a passed file below e have theirs
pub record ListsBelow (file : List ℕ) (p : Vec2) (array : List ℕ) (at e : ℕ) : Type 0 where
  pub file_passed : first_no file ≡ Ok tt
  pub ready : ListsReady p array
  pub past : lists_size ≤ at
  pub inside : at ≤ length array
  pub lists : (d : ℕ) → d < e → DeckList file p array at d (list_at array d)

-- ---- a list for deck d is made
pub record DeckReady (file : List ℕ) (p : Vec2) (d : ℕ) : Type 0 where
  pub place_within : PointWithin 1000000 p
  pub there : d < decks_in file

-- its numbers stand at the front of the room that was lent for them
abbrev pub DeckListed : List ℕ → Vec2 → ℕ → List ℕ → List ℕ → Remaining → Type 0
DeckListed file p d before after list = SiftedInto (deck_of (decode file) d) (search_box file p d) before after list
