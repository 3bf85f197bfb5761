-- Document 01, section 6: the separate height call, which takes a place and a packed polygon, whose deck it uses.
use Rattle.std.specs.Prelude.{ℕ, List, [], ◌∷◌, Bool, ◌||◌, cond, eqb, ltb, length, ℤ, Float, Ok}
use Rattle.std.specs.Float.{binary32}
use Rattle.std.specs.Float.Ieee.{to_bits}
use Rattle.geometry.specs.declared.Vec2.{Vec2}
use Rattle.geometry.specs.declared.Height.{Height}
use Rattle.geometry.specs.declared.Height.TheVariants.{Known, None}
use Rattle.words.specs.Bytes.{all_ones, bytes4}
use Rattle.answers.specs.Checks.{ask, after, Check}
use Rattle.answers.specs.Replies.{Reply, reply_of, RepliedCode}
use Rattle.answers.specs.declared.Refusal.TheVariants.{CallFloatOutOfRange, NoSuchDeck, NoSuchPolygon}
use Rattle.ship.specs.Layout.{decks_in}
use Rattle.ship.specs.Decode.{decode}
use Rattle.ship.specs.Model.{deck_of}
use Rattle.ship.specs.Packed.{packed_deck, packed_polygon}
use Rattle.ship.specs.Questions.{first_no}
use Rattle.search.specs.OnDeck.{height_on}
use Rattle.calls.specs.Closest.{point_of_parts, question16}

-- 17 the named deck there? All ones passes.
unfoldable pub question17_height : List ℕ → ℕ → Bool
question17_height file polygon = eqb polygon all_ones || ltb (packed_deck polygon) (decks_in file)

-- 18 polygon there? All ones passes.
unfoldable pub question18 : List ℕ → ℕ → Bool
question18 file polygon =
    eqb polygon all_ones || ltb (packed_polygon polygon) (length (deck_of (decode file) (packed_deck polygon)).polygons)

-- the questions of a height call before 20
unfoldable pub height_check : List ℕ → Vec2 → ℕ → Check
height_check file p polygon =
    after (first_no file)
    (ask (question16 p) CallFloatOutOfRange (ask (question17_height file polygon) NoSuchDeck (ask (question18 file polygon) NoSuchPolygon (Ok tt))))

-- for all ones there is no height
unfoldable pub height_call : List ℕ → Vec2 → ℕ → Height
height_call file p polygon =
    cond (eqb polygon all_ones) None (height_on (deck_of (decode file) (packed_deck polygon)) (packed_polygon polygon) p)

-- one entry, the height's bits, or none
abbrev pub height_entry : Height → List ℕ
height_entry None = []
height_entry (Known h) = to_bits binary32 h ∷ []

abbrev pub height_reply : List ℕ → Vec2 → ℕ → Reply
height_reply file p polygon = reply_of (height_check file p polygon) bytes4 (height_entry (height_call file p polygon))

abbrev pub HeightCode : List ℕ → Float → Float → ℕ → List ℕ → List ℕ → ℤ → Type 0
HeightCode file x y polygon out out' r = RepliedCode (height_reply file (point_of_parts x y) polygon) out out' r
