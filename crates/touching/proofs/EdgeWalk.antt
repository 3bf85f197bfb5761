-- `touches`: what the walk over a polygon's edges finds, and the packed polygon's deck.
use Prim.Native.Nat.{ℕ, suc, zero, ◌+◌, ◌-◌, ◌<◌, ◌≤◌}
use native.Mathlib.Omega.{arith}
use mathlib.Core.Path.{◌≡◌, refl, ◌∙◌}
use mathlib.Core.Bool.{Bool, true, false, ◌&&◌, ◌||◌}
use mathlib.Core.List.{List, ◌∷◌, map}
use lib.Dec.{eqb}
use lib.ListN.{length, drop, length-map, drop_of_length-le}
use borrow.Author.Tests.{eq-eqb, ne_eqb}
use Rattle.std.specs.Prelude.{Option, Some, None, slice_get, is_some, cond}
use Rattle.std.specs.Option.{option_or}
use Rattle.words.specs.Rows.{some, has}
use Rattle.geometry.specs.EdgeWalk.{first_from, first_of_edges}
use Rattle.geometry.proofs.EdgeLoop.{from_item, made_at}
use Rattle.ship.specs.Layout.{decks_in}
use Rattle.ship.specs.Decode.{decode}
use Rattle.ship.specs.Model.{Deck, neighbours_of, corners_of, deck_of}
use Rattle.ship.specs.Packed.{packed_deck, packed_polygon}
use Rattle.touching.specs.Touching.{corner_has, edge_end, touches_on, touches, PolygonThere}

-- ---- the edges: each vertex's list is looked at once
abbrev pub edge_says : Bool → Bool → Option (Unit {0})
edge_says start end = cond (start && end) (Some tt) None

last : (t : Bool) → is_some (cond {0} t (Some (tt {0})) None) ≡ (t || false)
last true = refl
last false = refl

more : (t : Bool) (later : Option (Unit {0})) {r : Bool} → is_some later ≡ r → is_some (option_or (cond t (Some tt) None) later) ≡ (t || r)
more true later e = refl
more false later e = e

module _ (deck : Deck) (k b : ℕ) where
  abbrev n : ℕ
  n = length (corners_of deck k)

  -- whether the list of vertex j has b, and both lists of the edge that begins there
  abbrev holds : ℕ → Bool
  holds j = corner_has deck k b j

  abbrev edge : ℕ → Bool
  edge i = holds i && holds (edge_end n i)

  unfoldable pub ends : List Bool
  ends = map (λ v. has (neighbours_of deck v) b) (corners_of deck k)

  pub ends_long : {count : ℕ} → count ≡ n → length ends ≡ count
  unfolding ends
  ends_long h = rw (length-map, h)

  pub end_at : {j : ℕ} {r : Bool} → j < length ends → r ≡ holds j → slice_get ends j ≡ Some r
  unfolding ends
  end_at h e = made_at (λ v. has (neighbours_of deck v) b) (corners_of deck k) h e

  found_from : (i m : ℕ) → i + suc m ≡ n
      → is_some (first_from edge_says (holds 0) (holds i) (drop (i + 1) ends)) ≡ some edge i (suc m)
  unfolding first_from some
  found_from i zero h =
      let ends_here : eqb (i + 1) n ≡ true = eq-eqb (i + 1) n (omega arith) in
      rw (drop_of_length-le ends {i = i + 1} (omega (arith, ends_long refl)), ends_here) (last (holds i && holds 0))
  found_from i (suc m) h =
      let apart : eqb (i + 1) n ≡ false = ne_eqb (i + 1) n (λ e. absurd (omega arith)) in
      rw (from_item ends (i + 1) (end_at {j = i + 1} (omega (arith, ends_long refl)) refl), apart)
      (more (holds i && holds (i + 1)) _ (found_from (i + 1) m (omega arith)))

  pub touches_on_is : {count : ℕ} {found : Option (Unit {0})} {r : Bool} → count ≡ n → 1 ≤ count
      → found ≡ first_of_edges edge_says ends → r ≡ is_some found → r ≡ touches_on deck k b
  unfolding touches_on first_of_edges
  touches_on_is {count} h some_there e f =
      let from : drop 0 ends ≡ holds 0 ∷ drop 1 ends = from_item ends 0 (end_at {j = 0} (omega (arith, ends_long h)) refl) in
      let all : suc (n - 1) ≡ n = omega arith in
      f ∙ rw (e, from) (rw all at (found_from 0 (n - 1) (omega arith)))

pub ruleset edging = (ends_long, end_at, touches_on_is)

-- ---- a packed polygon's deck
module _ {file : List ℕ} {a : ℕ} (t : PolygonThere file a) where
  pub touch_deck : packed_deck a < decks_in file
  touch_deck = t.deck

  module _ {deck : Deck} {d : ℕ} (e : d ≡ packed_deck a) (f : deck ≡ deck_of (decode file) d) {k : ℕ} (g : k ≡ packed_polygon a) where
    pub touch_polygon : k < length deck.polygons
    touch_polygon = rw (f, e, g) t.polygon

    pub touch_is : (b : ℕ) {r : Bool} → r ≡ touches_on deck k b → r ≡ touches (decode file) a b
    unfolding touches
    touch_is b s = s ∙ rw (f, e, g)

pub ruleset touching = (touch_deck, touch_polygon, touch_is)
