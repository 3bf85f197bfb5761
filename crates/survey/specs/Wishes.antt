-- Document 01, sections 5 and 7, and document 02, point 1: which decks are open to a seat, and which of two heights it prefers.
use Rattle.std.specs.Prelude.{ℕ, ◌/◌, ◌%◌, ◌^◌, List, Bool, true, false, not, cond, ◌&&◌, eqb, get_or, Float}
use Rattle.std.specs.Float.{binary32}
use Rattle.std.specs.Float.Ieee.{sub, lt}
use Rattle.geometry.specs.declared.Height.{Height}
use Rattle.geometry.specs.declared.Height.TheVariants.{Known, None}
use Rattle.geometry.specs.Plane.{abs_of}
use Rattle.words.specs.Bytes.{all_ones}
use Rattle.survey.specs.declared.DeckChoice.{DeckChoice}
use Rattle.survey.specs.declared.DeckChoice.TheVariants.{AnyDeck, Named}
use Rattle.survey.specs.declared.Wish.{Wish}
use Rattle.survey.specs.declared.Wish.TheVariants.{NoWish, Wished}

-- all ones: any deck
unfoldable pub choice_of : ℕ → DeckChoice
choice_of deck = cond (eqb deck all_ones) AnyDeck (Named deck)

-- bit 0 is the lowest
abbrev pub bit_of : ℕ → ℕ → Bool
bit_of byte place = eqb (byte / 2 ^ place % 2) 1

-- deck d is bit d % 8 of byte d / 8
unfoldable pub is_blocked : List ℕ → ℕ → Bool
is_blocked blocked d = bit_of (get_or blocked (d / 8) 0) (d % 8)

-- not in the blocked set and, where a deck is named, that one
unfoldable pub is_open : List ℕ → DeckChoice → ℕ → Bool
is_open blocked AnyDeck d = not (is_blocked blocked d)
is_open blocked (Named n) d = not (is_blocked blocked d) && eqb n d

-- |candidate height - wished| in f32
abbrev pub gap_of : Float → Float → Float
gap_of h w = abs_of (sub binary32 h w)

-- kind 0 has no preference by height; kind 1 prefers one with a height to one without, and of two with heights the one nearer its wish
unfoldable pub nearer : Wish → Height → Height → Bool
nearer NoWish a b = false
nearer (Wished w) None b = false
nearer (Wished w) (Known a) None = true
nearer (Wished w) (Known a) (Known b) = lt (gap_of a w) (gap_of b w)
