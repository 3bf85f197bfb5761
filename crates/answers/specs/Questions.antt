-- Document 01, 'The questions, in order': their numbers, and those of a call that need no file.
use Rattle.std.specs.Prelude.{ℕ, List, Bool, ◌||◌, eqb, leb, ltb, length}
use Rattle.words.specs.Bytes.{all_ones}
use Rattle.answers.specs.declared.Refusal.{Refusal}
use Rattle.answers.specs.declared.Refusal.TheVariants.{HeaderCut, TooManyDecks, ReachOutOfRange, StepsOutOfRange, TableCut, BlocksNotEndToEnd, PartialEntry, EmptyMesh, TooManyPolygons, MismatchedHeights, DeckFloatOutOfRange, ListsNotEndToEnd, NoSuchVertex, WrongLength, KindNotAllowed, CallFloatOutOfRange, NoSuchDeck, NoSuchPolygon, NoSuchNeighbour, NoRoom, WrongInput, NoDirection}

-- the number for a no; 22 is of document 02, point 2
unfoldable pub number_of : Refusal → ℕ
number_of HeaderCut = 1
number_of TooManyDecks = 2
number_of ReachOutOfRange = 3
number_of StepsOutOfRange = 4
number_of TableCut = 5
number_of BlocksNotEndToEnd = 6
number_of PartialEntry = 7
number_of EmptyMesh = 8
number_of TooManyPolygons = 9
number_of MismatchedHeights = 10
number_of DeckFloatOutOfRange = 11
number_of ListsNotEndToEnd = 12
number_of NoSuchVertex = 13
number_of WrongLength = 14
number_of KindNotAllowed = 15
number_of CallFloatOutOfRange = 16
number_of NoSuchDeck = 17
number_of NoSuchPolygon = 18
number_of NoSuchNeighbour = 19
number_of NoRoom = 20
number_of WrongInput = 21
number_of NoDirection = 22

-- 14 Blocked set 32 bytes?
unfoldable pub question14 : List ℕ → Bool
question14 blocked = eqb (length blocked) 32

-- 17 the named deck there? All ones names none.
unfoldable pub question17 : ℕ → ℕ → Bool
question17 decks deck = eqb deck all_ones || ltb deck decks

-- a search that names this deck, or none, looks at deck d: the named one alone, or all
unfoldable pub looks_at : ℕ → ℕ → Bool
looks_at deck d = eqb deck all_ones || eqb deck d

-- 20 Output at least as long as this very answer?
unfoldable pub question20 : ℕ → ℕ → Bool
question20 bytes room = leb bytes room
