-- Document 02, point 2: `get_closest_point_towards`, its search, its questions and its entry.
use Rattle.std.specs.Prelude.{ℕ, ◌<◌, ◌^◌, Bool, not, List, [], ◌∷◌, ℤ, length, take, Option, Some, None, Ok}
use Rattle.std.specs.Float.Ieee.{eq}
use Rattle.geometry.specs.declared.Vec2.{Vec2}
use Rattle.geometry.specs.Plane.{zero32, add_of, sub_of}
use Rattle.geometry.specs.Bounds.{PointWithin}
use Rattle.ring.specs.Sample.{along_of}
use Rattle.direction.specs.Direction.{squared_distance, direction_of}
use Rattle.words.specs.Rows.{collect, collect_all}
use Rattle.answers.specs.Checks.{Check, ask, after}
use Rattle.answers.specs.Questions.{question17, looks_at}
use Rattle.answers.specs.Replies.{Answer, Reply, reply_of, Replied, RepliedCode}
use Rattle.answers.specs.declared.Refusal.TheVariants.{CallFloatOutOfRange, NoSuchDeck, NoDirection}
use Rattle.ship.specs.Layout.{decks_in}
use Rattle.ship.specs.Model.{Ship, deck_of}
use Rattle.ship.specs.Decode.{decode}
use Rattle.ship.specs.Packed.{packed_of}
use Rattle.ship.specs.Questions.{first_no}
use Rattle.search.specs.OnDeck.{passes_at}
use Rattle.calls.specs.Closest.{question16, entry_bytes}
use Rattle.towards.specs.declared.Place.{Place}

-- ---- the search: step by step from p along a direction, on each deck in the deck's own coordinates
abbrev pub place_at : ℕ → ℕ → ℕ → Place
place_at s d k = record { step = s; deck = d; polygon = k }

module _ (ship : Ship) (p direction : Vec2) where
  -- the sample of step s on deck d: (p - deck offset) + direction * reach * s
  unfoldable pub sample_towards : ℕ → ℕ → Vec2
  sample_towards s d = along_of (sub_of p (deck_of ship d).offset) direction ship.reach s

  -- sample + deck offset
  unfoldable pub point_towards : ℕ → ℕ → Vec2
  point_towards s d = add_of (sample_towards s d) (deck_of ship d).offset

  -- whether polygon k of deck d passes at it
  abbrev pub passes_towards : ℕ → ℕ → ℕ → Bool
  passes_towards s d k = passes_at (deck_of ship d) (sample_towards s d) k

  -- all that pass, in order: on a deck by rising number, in a step by rising deck (the named one alone, or all), and the steps rising
  abbrev pub deck_gives : ℕ → ℕ → List Place
  deck_gives s d = collect (passes_towards s d) (λ k. place_at s d k ∷ []) 0 (length (deck_of ship d).polygons)

  unfoldable pub step_gives : ℕ → ℕ → List Place
  step_gives deck s = collect (looks_at deck) (deck_gives s) 0 (length ship.decks)

  unfoldable pub all_given : ℕ → List Place
  all_given deck = collect_all (step_gives deck) 0 ship.steps

  -- the first of them, or none: the whole search ends at the first hit
  unfoldable pub place_towards : ℕ → List Place
  place_towards deck = take 1 (all_given deck)

  -- written as packed polygon, x, y
  unfoldable pub place_bytes : Place → List ℕ
  place_bytes c = entry_bytes (packed_of c.deck c.polygon) (point_towards c.step c.deck)

-- the first of a list, as the functions of the search return it
abbrev pub first_of : List Place → Option Place
first_of [] = None
first_of (c ∷ rest) = Some c

-- ---- the call
-- 22 the squared distance not 0, as computed?
unfoldable pub question22 : Vec2 → Vec2 → Bool
question22 p towards = not (eq (squared_distance p towards) zero32)

-- the questions before 20, in their order; 16 of both points
unfoldable pub towards_check : List ℕ → Vec2 → Vec2 → ℕ → Check
towards_check file p towards deck =
    after (first_no file)
    (ask (question16 p) CallFloatOutOfRange
    (ask (question16 towards) CallFloatOutOfRange
    (ask (question17 (decks_in file) deck) NoSuchDeck (ask (question22 p towards) NoDirection (Ok tt)))))

unfoldable pub closest_towards : List ℕ → Vec2 → Vec2 → ℕ → List Place
closest_towards file p towards deck = place_towards (decode file) p (direction_of p towards) deck

abbrev pub towards_reply : List ℕ → Vec2 → Vec2 → ℕ → Reply
towards_reply file p towards deck =
    reply_of (towards_check file p towards deck)
    (place_bytes (decode file) p (direction_of p towards))
    (closest_towards file p towards deck)

-- what the call promises, and over C
abbrev pub TowardsReplied : List ℕ → Vec2 → Vec2 → ℕ → List ℕ → List ℕ → Answer → Type 0
TowardsReplied file p towards deck out out' r = Replied (towards_reply file p towards deck) out out' r

abbrev pub TowardsCode : List ℕ → Vec2 → Vec2 → ℕ → List ℕ → List ℕ → ℤ → Type 0
TowardsCode file p towards deck out out' r = RepliedCode (towards_reply file p towards deck) out out' r

-- ---- what the functions of the search need
-- deck d's turn in step s
pub record TurnReady (file : List ℕ) (s d : ℕ) : Type 0 where
  pub deck : d < decks_in file
  pub step : s < 16

-- so that a place can be written: its polygon can be packed, and its point has bits
pub record PlaceReady (file : List ℕ) (p direction : Vec2) (c : Place) : Type 0 where
  pub turn_ready : TurnReady file c.step c.deck
  pub polygon : c.polygon < 2 ^ 24
  pub point_within : PointWithin 1000000 p
  pub direction_within : PointWithin 2 direction

-- the reply with this place alone
abbrev pub place_reply : List ℕ → Vec2 → Vec2 → Place → Reply
place_reply file p direction c = reply_of (Ok tt) (place_bytes (decode file) p direction) (c ∷ [])
