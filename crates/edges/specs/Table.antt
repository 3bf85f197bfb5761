-- Document 01, 'Edges of the behaviour': the table's rows, each a definition and the value that it has.
use Rattle.std.specs.Prelude.{ℕ, ◌≡◌, List, [], ◌∷◌, true, false, pos, Float}
use Rattle.std.specs.Float.{binary32}
use Rattle.std.specs.Float.Ieee.{of_int, round}
use Rattle.geometry.specs.declared.Vec2.{Vec2}
use Rattle.geometry.specs.Polygon.{point_in_polygon}
use Rattle.words.specs.Bytes.{all_ones}
use Rattle.ship.specs.Model.{Vertex, Deck, Ship, no_point, no_deck, neighbours_of, deck_of}
use Rattle.ship.specs.Packed.{packed_of, packed_deck, packed_polygon}
use Rattle.islands.specs.Islands.{deck_labels}
use Rattle.unstitched.specs.declared.Stitches.TheVariants.{All}
use Rattle.unstitched.specs.Removal.{removed}

-- ---- polygons
abbrev point : Float → Float → Vec2
point x y = record { x = x; y = y }

abbrev whole : ℕ → Float
whole n = of_int binary32 (pos n)

-- the decimal -1 / n, as the nearest f32
abbrev less : ℕ → Float
less n = round binary32 true 1 n

-- 'P is the square'
abbrev square : List Vec2
square = point (whole 0) (whole 0) ∷ point (whole 4) (whole 0) ∷ point (whole 4) (whole 4) ∷ point (whole 0) (whole 4) ∷ []

abbrev reversed : List Vec2
reversed = point (whole 0) (whole 4) ∷ point (whole 4) (whole 4) ∷ point (whole 4) (whole 0) ∷ point (whole 0) (whole 0) ∷ []

abbrev single : List Vec2
single = point (whole 0) (whole 0) ∷ []

abbrev pair : List Vec2
pair = point (whole 0) (whole 0) ∷ point (whole 4) (whole 0) ∷ []

-- ---- lists
-- a vertex of which only its list counts
abbrev listed : List ℕ → Vertex
listed list = record { point = no_point; neighbours = list }

-- deck 1 has one vertex with this list
abbrev stitched : Ship
stitched =
    record {
      decks = no_deck ∷ record { offset = no_point; vertices = listed (all_ones ∷ 0x01000002 ∷ 0x00000005 ∷ []) ∷ []; polygons = []; heights = [] } ∷ [];
      reach = whole 0;
      steps = 1;
    }

abbrev list_on_deck1 : Ship → List ℕ
list_on_deck1 ship = neighbours_of (deck_of ship 1) 0

-- 'polygons 0, 1, 2 where only 1 names others, 0 and 2'
abbrev three_polygons : Deck
three_polygons =
    record {
      offset = no_point;
      vertices = listed [] ∷ listed (0 ∷ 2 ∷ []) ∷ listed [] ∷ [];
      polygons = (0 ∷ []) ∷ (1 ∷ []) ∷ (2 ∷ []) ∷ [];
      heights = [];
    }

-- ---- the table
pub record EdgesOfTheBehaviour : Type 0 where
  pub inside : point_in_polygon (point (whole 1) (whole 1)) square ≡ true
  pub on_an_edge : point_in_polygon (point (whole 0) (whole 2)) square ≡ true
  pub outside : point_in_polygon (point (whole 5) (whole 5)) square ≡ false
  pub just_outside : point_in_polygon (point (whole 2) (less 100000)) square ≡ true
  pub too_far_outside : point_in_polygon (point (whole 2) (less 10000)) square ≡ false
  pub turned_round : point_in_polygon (point (whole 1) (whole 1)) reversed ≡ false
  pub one_vertex : point_in_polygon (point (whole 9) (whole 9)) single ≡ true
  pub two_vertices : point_in_polygon (point (whole 9) (whole 0)) pair ≡ true
  pub off_their_line : point_in_polygon (point (whole 9) (whole 1)) pair ≡ false
  pub deck_of_packed : packed_deck 0x03000007 ≡ 3
  pub polygon_of_packed : packed_polygon 0x03000007 ≡ 7
  pub packed : packed_of 3 7 ≡ 0x03000007
  pub removed_once : list_on_deck1 (removed All stitched) ≡ all_ones ∷ 2 ∷ []
  pub removed_twice : list_on_deck1 (removed All (removed All stitched)) ≡ all_ones ∷ []
  pub islands : deck_labels three_polygons ≡ 0 ∷ 1 ∷ 1 ∷ []
