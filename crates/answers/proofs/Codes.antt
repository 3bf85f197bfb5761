-- The numbers of the questions.
use Prim.Native.Nat.{◌+◌}
use mathlib.Core.Path.{◌≡◌, refl}
use denote.Enum.Declared.{tag_of}
use Rattle.answers.specs.declared.Refusal.{Refusal}
use Rattle.answers.specs.declared.Refusal.TheVariants.{HeaderCut, TooManyDecks, ReachOutOfRange, StepsOutOfRange, TableCut, BlocksNotEndToEnd, PartialEntry, EmptyMesh, TooManyPolygons, MismatchedHeights, DeckFloatOutOfRange, ListsNotEndToEnd, NoSuchVertex, WrongLength, KindNotAllowed, CallFloatOutOfRange, NoSuchDeck, NoSuchPolygon, NoSuchNeighbour, NoRoom, WrongInput, NoDirection}
use Rattle.answers.specs.contracts.Refusal.{the_type}
use Rattle.answers.specs.Questions.{number_of}

-- the number that the code gives each question
pub number_is : (refusal : Refusal) → tag_of the_type refusal + 1 ≡ number_of refusal
unfolding number_of
number_is HeaderCut = refl
number_is TooManyDecks = refl
number_is ReachOutOfRange = refl
number_is StepsOutOfRange = refl
number_is TableCut = refl
number_is BlocksNotEndToEnd = refl
number_is PartialEntry = refl
number_is EmptyMesh = refl
number_is TooManyPolygons = refl
number_is MismatchedHeights = refl
number_is DeckFloatOutOfRange = refl
number_is ListsNotEndToEnd = refl
number_is NoSuchVertex = refl
number_is WrongLength = refl
number_is KindNotAllowed = refl
number_is CallFloatOutOfRange = refl
number_is NoSuchDeck = refl
number_is NoSuchPolygon = refl
number_is NoSuchNeighbour = refl
number_is NoRoom = refl
number_is WrongInput = refl
number_is NoDirection = refl
