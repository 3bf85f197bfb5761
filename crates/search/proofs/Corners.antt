-- A polygon's vertices: what is read of one by its number, and the lists that are made of them, from vertex j on.
use Prim.Native.Nat.{ℕ, ◌+◌, ◌≤◌, ◌<◌}
use native.Mathlib.Numerals.{add-one}
use mathlib.Core.Path.{◌≡◌}
use mathlib.Core.List.{List, [], ◌∷◌, map}
use lib.ListN.{length, get_or, drop, length-map, drop_of_length-le, get_or-map}
use lib.Ieee.{Float}
use lib.Seq.{drop-cons}
use Rattle.geometry.specs.declared.Vec2.{Vec2}
use Rattle.ship.specs.Model.{Deck, point_of, height_of}

-- ---- a vertex whose number was read first
module _ (deck : Deck) {i n : ℕ} where
  pub point_read : {p : Vec2} → p ≡ point_of deck i → i ≡ n → p ≡ point_of deck n
  point_read h e = rw e at h

  pub height_read : {h : Float} → h ≡ height_of deck i → i ≡ n → h ≡ height_of deck n
  height_read h e = rw e at h

pub ruleset corners = (point_read, height_read)

-- ---- a list with an entry for each of count vertices
module _ {A : Type 0} (f : ℕ → A) (l : List ℕ) {count j : ℕ} (n : count ≡ length l) where
  pub made_more : j < count → drop j (map f l) ≡ f (get_or l j 0) ∷ drop (j + 1) (map f l)
  made_more h = rw (add-one, ← get_or-map f l j 0) (drop-cons (map f l) j (f 0) (rw length-map (rw n at h)))

  pub made_none : count ≤ j → drop j (map f l) ≡ []
  made_none h = drop_of_length-le (map f l) {i = j} (rw length-map (rw n at h))
