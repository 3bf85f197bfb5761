-- A kept list of a deck's polygons: which of them a search looks at, and what is promised of the others. How the list was found is said nowhere here.
use Rattle.std.specs.Prelude.{ℕ, ◌+◌, ◌-◌, ◌≤◌, ◌<◌, ◌≡◌, false, cond, List, ltb, length, get_or, Float}
use Rattle.geometry.specs.declared.Vec2.{Vec2}
use Rattle.ring.specs.Sample.{sample_of}
use Rattle.ship.specs.Model.{Deck}
use Rattle.search.specs.OnDeck.{passes_at}

-- the polygons that are looked at, in their order: those of the list, and then every one from `rest` on
abbrev pub sought_at : List ℕ → ℕ → ℕ → ℕ
sought_at numbers rest j = cond (ltb j (length numbers)) (get_or numbers j 0) (rest + (j - length numbers))

-- how many they are
abbrev pub sought_count : ℕ → List ℕ → ℕ → ℕ
sought_count polygons numbers rest = length numbers + (polygons - rest)

-- the list's numbers rise, and they lie below `rest`
pub record ListIn (polygons : ℕ) (numbers : List ℕ) (rest : ℕ) : Type 0 where
  pub rising : (i j : ℕ) → i < j → j < length numbers → get_or numbers i 0 < get_or numbers j 0
  pub below : (j : ℕ) → j < length numbers → get_or numbers j 0 < rest
  pub few : length numbers ≤ rest
  pub there : rest ≤ polygons

-- a polygon below `rest` that is not in the list does not pass at q
abbrev pub OthersFail : Deck → List ℕ → ℕ → Vec2 → Type 0
OthersFail deck numbers rest q =
    (k : ℕ) → k < rest → ((j : ℕ) → j < length numbers → get_or numbers j 0 ≡ k → ⊥) → passes_at deck q k ≡ false

-- the law of a kept list, at one point: a search that looks at its polygons alone misses none
pub record KeptAt (deck : Deck) (numbers : List ℕ) (rest : ℕ) (q : Vec2) : Type 0 where
  pub list : ListIn (length deck.polygons) numbers rest
  pub others : OthersFail deck numbers rest q

-- at every sample of step s around p
pub record RingKept (deck : Deck) (numbers : List ℕ) (rest : ℕ) (p : Vec2) (reach : Float) (s : ℕ) : Type 0 where
  pub at : (i : ℕ) → KeptAt deck numbers rest (sample_of p reach s i)
