-- Document 01, section 8, `bake_islands_detection` on a ship file's deck: its questions and its entries.
use Rattle.std.specs.Prelude.{ℕ, ◌*◌, ◌≡◌, Bool, not, ◌&&◌, ◌||◌, List, eqb, ltb, ℤ, length, get_or, Ok}
use Rattle.words.specs.Bytes.{all_ones, bytes4}
use Rattle.words.specs.Rows.{every, some, has}
use Rattle.answers.specs.Checks.{ask, after, Check}
use Rattle.answers.specs.Replies.{Reply, reply_of, Worked, WorkedCode, Answer}
use Rattle.answers.specs.declared.Refusal.TheVariants.{NoSuchDeck, NoSuchNeighbour}
use Rattle.ship.specs.Layout.{number_size, decks_in}
use Rattle.ship.specs.Model.{Deck, neighbours_of, corners_of, deck_of}
use Rattle.ship.specs.Decode.{decode}
use Rattle.ship.specs.Questions.{first_no}
use Rattle.islands.specs.Reach.{Labels}
use Rattle.islands.specs.Labels.{labels_by}

-- the list of polygon k's vertex c
abbrev pub list_of : Deck → ℕ → ℕ → List ℕ
list_of deck k c = neighbours_of deck (get_or (corners_of deck k) c 0)

-- whether b is in the list of a vertex of a; the outside is no polygon
unfoldable pub names : Deck → ℕ → ℕ → Bool
names deck a b = not (eqb b all_ones) && some (λ c. has (list_of deck a c) b) 0 (length (corners_of deck a))

abbrev pub polygon_count : Deck → ℕ
polygon_count deck = length deck.polygons

-- one label a polygon
unfoldable pub deck_labels : Deck → List ℕ
deck_labels deck = labels_by (names deck) (polygon_count deck)

-- ---- 19 every entry at a used vertex all ones or below the deck's polygon count?
unfoldable pub list_inside : ℕ → List ℕ → Bool
list_inside n l = every (λ j. eqb (get_or l j 0) all_ones || ltb (get_or l j 0) n) 0 (length l)

unfoldable pub polygon_inside : Deck → ℕ → ℕ → Bool
polygon_inside deck n k = every (λ c. list_inside n (list_of deck k c)) 0 (length (corners_of deck k))

unfoldable pub question19 : Deck → Bool
question19 deck = every (polygon_inside deck (polygon_count deck)) 0 (polygon_count deck)

-- 17 the named deck there? This call names one always, so all ones is no deck.
unfoldable pub question17_islands : List ℕ → ℕ → Bool
question17_islands file deck = ltb deck (decks_in file)

-- ---- the call
unfoldable pub islands_check : List ℕ → ℕ → Check
islands_check file deck =
    after (first_no file) (ask (question17_islands file deck) NoSuchDeck (ask (question19 (deck_of (decode file) deck)) NoSuchNeighbour (Ok tt)))

abbrev pub islands_reply : List ℕ → ℕ → Reply
islands_reply file deck = reply_of (islands_check file deck) bytes4 (deck_labels (deck_of (decode file) deck))

-- 20 wants work of 4 bytes a polygon of the deck
abbrev pub islands_work : List ℕ → ℕ → ℕ
islands_work file deck = number_size * polygon_count (deck_of (decode file) deck)

abbrev pub IslandsWorked : List ℕ → ℕ → List ℕ → List ℕ → List ℕ → List ℕ → Answer → Type 0
IslandsWorked file deck out out' work work' r = Worked (islands_reply file deck) (islands_work file deck) out out' work work' r

abbrev pub IslandsCode : List ℕ → ℕ → List ℕ → List ℕ → List ℕ → List ℕ → ℤ → Type 0
IslandsCode file deck out out' work work' r = WorkedCode (islands_reply file deck) (islands_work file deck) out out' work work' r

-- what is written are the least numbers that reach
abbrev pub LabelsLeast : List ℕ → ℕ → Type 0
LabelsLeast file deck =
    islands_check file deck ≡ Ok tt
    → Labels (names (deck_of (decode file) deck)) (polygon_count (deck_of (decode file) deck)) (deck_labels (deck_of (decode file) deck))
