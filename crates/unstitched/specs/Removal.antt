-- Document 01, section 8, `remove_stitches` and `remove_stitches_to_layer`, on the model.
use Rattle.std.specs.Prelude.{ℕ, Bool, true, not, ◌&&◌, ◌||◌, cond, List, [], ◌∷◌, map, eqb, length}
use Rattle.words.specs.Bytes.{all_ones}
use Rattle.words.specs.Rows.{rows}
use Rattle.ship.specs.Model.{Vertex, Deck, Ship, deck_of}
use Rattle.ship.specs.Packed.{packed_deck, packed_polygon}
use Rattle.unstitched.specs.declared.Stitches.{Stitches}
use Rattle.unstitched.specs.declared.Stitches.TheVariants.{All, ToLayer}

-- ---- one entry in a list of deck d
-- 'keep entries whose deck is d', 'drop the rest'; to layer t: 'so in deck t; elsewhere drop entries whose deck is t'
abbrev pub keeps_polygon : Stitches → ℕ → ℕ → Bool
keeps_polygon All d e = eqb (packed_deck e) d
keeps_polygon (ToLayer t) d e = cond (eqb d t) (eqb (packed_deck e) d) (not (eqb (packed_deck e) t))

-- 'keep all ones', in every deck, also for t = 255
unfoldable pub keeps : Stitches → ℕ → ℕ → Bool
keeps which d e = eqb e all_ones || keeps_polygon which d e

-- whether deck d's entries become plain numbers
abbrev pub plain_in : Stitches → ℕ → Bool
plain_in All d = true
plain_in (ToLayer t) d = eqb d t

-- 'as plain number'
unfoldable pub written_as : Stitches → ℕ → ℕ → ℕ
written_as which d e = cond (eqb e all_ones || not (plain_in which d)) e (packed_polygon e)

-- ---- a list, a vertex, a deck, the ship
unfoldable pub kept_of : Stitches → ℕ → List ℕ → List ℕ
kept_of which d [] = []
kept_of which d (e ∷ l) = let later = kept_of which d l in cond (keeps which d e) (written_as which d e ∷ later) later

abbrev pub with_lists : (List ℕ → List ℕ) → Deck → Deck
with_lists f deck =
    record {
      offset = deck.offset;
      vertices = map (λ (v : Vertex). record { point = v.point; neighbours = f v.neighbours }) deck.vertices;
      polygons = deck.polygons;
      heights = deck.heights;
    }

-- the ship with the lists of each deck changed by a rule of that deck
abbrev pub with_deck_lists : (ℕ → List ℕ → List ℕ) → Ship → Ship
with_deck_lists f ship =
    record { decks = rows (λ d. with_lists (f d) (deck_of ship d)) 0 (length ship.decks); reach = ship.reach; steps = ship.steps }

unfoldable pub removed : Stitches → Ship → Ship
removed which ship = with_deck_lists (kept_of which) ship

-- ---- a second removal
-- The plain numbers of the first one read as entries of deck 0, so in the decks above 0 that have them only all ones is left.
unfoldable pub outside_of : List ℕ → List ℕ
outside_of [] = []
outside_of (e ∷ l) = let later = outside_of l in cond (eqb e all_ones) (e ∷ later) later

abbrev pub kept_twice : Stitches → ℕ → List ℕ → List ℕ
kept_twice which d l = cond (plain_in which d && not (eqb d 0)) (outside_of l) (kept_of which d l)

unfoldable pub removed_twice : Stitches → Ship → Ship
removed_twice which ship = with_deck_lists (kept_twice which) ship
