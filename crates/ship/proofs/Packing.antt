-- A packed number's deck and polygon are read back (document 01, section 2).
use Prim.Native.Nat.{ℕ, ◌<◌, ◌^◌}
use native.Mathlib.Omega.{arith}
use mathlib.Core.Path.{◌≡◌}
use Rattle.ship.specs.Packed.{packed_of, packed_deck, packed_polygon}

module _ (deck polygon : ℕ) (h : polygon < 2 ^ 24) where
  pub packed_deck_lem : packed_deck (packed_of deck polygon) ≡ deck
  packed_deck_lem = omega arith

  pub packed_polygon_lem : packed_polygon (packed_of deck polygon) ≡ polygon
  packed_polygon_lem = omega arith
