-- Document 01, section 8, `candidate_polygons`: 'a reaches b if an edge of a has packed b in both ends' N lists'.
use Rattle.std.specs.Prelude.{ℕ, ◌+◌, ◌<◌, Bool, ◌&&◌, cond, List, eqb, length, get_or}
use Rattle.words.specs.Rows.{some, has}
use Rattle.ship.specs.Layout.{decks_in}
use Rattle.ship.specs.Decode.{decode}
use Rattle.ship.specs.Model.{Deck, Ship, neighbours_of, corners_of, deck_of}
use Rattle.ship.specs.Packed.{packed_deck, packed_polygon}

-- whether the list of polygon k's vertex j has b. The entries are taken as they are: a plain number is no packed one, unless of deck 0.
abbrev pub corner_has : Deck → ℕ → ℕ → ℕ → Bool
corner_has deck k b j = has (neighbours_of deck (get_or (corners_of deck k) j 0)) b

-- the other end of the edge that begins at vertex j of n: edges in list order, then last to first
abbrev pub edge_end : ℕ → ℕ → ℕ
edge_end n j = cond (eqb (j + 1) n) 0 (j + 1)

unfoldable pub touches_on : Deck → ℕ → ℕ → Bool
touches_on deck k b =
    let n = length (corners_of deck k) in
    some (λ j. corner_has deck k b j && corner_has deck k b (edge_end n j)) 0 n

-- a and b are packed; one-way
unfoldable pub touches : Ship → ℕ → ℕ → Bool
touches ship a b = touches_on (deck_of ship (packed_deck a)) (packed_polygon a) b

-- a packed number of a polygon that is there
pub record PolygonThere (file : List ℕ) (a : ℕ) : Type 0 where
  pub deck : packed_deck a < decks_in file
  pub polygon : packed_polygon a < length (deck_of (decode file) (packed_deck a)).polygons
