-- Document 02, point 2, of bytes: when a place is missing, where it is otherwise, and that more steps keep it. Nothing here searches:
-- a step hits on a deck or it does not, and the call with more steps is known by its reply.
use Rattle.std.specs.Prelude.{ℕ, ◌≤◌, ◌<◌, ◌≡◌, ◌↔◌, List, T, length, take, Ok, Err}
use Rattle.geometry.specs.declared.Vec2.{Vec2}
use Rattle.direction.specs.Direction.{direction_of}
use Rattle.answers.specs.Questions.{looks_at}
use Rattle.answers.specs.Replies.{answer_to, output_to, Answer}
use Rattle.ship.specs.Layout.{steps_in}
use Rattle.ship.specs.Model.{Ship, deck_of}
use Rattle.ship.specs.Decode.{decode, with_steps_bytes}
use Rattle.ship.specs.Packed.{packed_of}
use Rattle.calls.specs.Closest.{entry_size, entry_bytes}
use Rattle.towards.specs.Towards.{passes_towards, point_towards, towards_reply}

-- deck d is there, and it is the named one, or none is named
abbrev pub Looked : Ship → ℕ → ℕ → Type 0
Looked ship deck d = (d < length ship.decks) × T (looks_at deck d)

module _ (ship : Ship) (p direction : Vec2) where
  -- polygon k is there, and passes the polygon test at the sample of step s on deck d
  abbrev pub Passes : ℕ → ℕ → ℕ → Type 0
  Passes s d k = (k < length (deck_of ship d).polygons) × T (passes_towards ship p direction s d k)

  -- step s does not hit on deck d
  abbrev pub Misses : ℕ → ℕ → Type 0
  Misses s d = (k : ℕ) → Passes s d k → ⊥

  -- no step below S hits on the named deck, or on any deck where none is named
  abbrev pub NoHit : ℕ → ℕ → Type 0
  NoHit deck S = (s : ℕ) → s < S → (d : ℕ) → Looked ship deck d → Misses s d

  -- the entry of a place: at the earliest step with a hit, on the lowest deck with one there, in the least polygon number, at these bits
  pub record Snapped (deck S : ℕ) (entry : List ℕ) : Type 0 where
    pub step : ℕ
    pub on_deck : ℕ
    pub polygon : ℕ
    pub below : step < S
    pub looked : Looked ship deck on_deck
    pub passes : Passes step on_deck polygon
    pub earliest : NoHit deck step
    pub lowest : (d : ℕ) → d < on_deck → Looked ship deck d → Misses step d
    pub least : (k : ℕ) → k < polygon → Passes step on_deck k → ⊥
    pub bits : entry ≡ entry_bytes (packed_of on_deck polygon) (point_towards ship p direction step on_deck)

-- What holds of a call on these bytes that answered so and left this output. A refused call says nothing of places.
abbrev pub SnapSurveyed : List ℕ → Vec2 → Vec2 → ℕ → Answer → List ℕ → Type 0
SnapSurveyed file p towards deck (Err refusal) out = Unit {0}
SnapSurveyed file p towards deck (Ok n) out =
    ((n ≡ 0) ↔ NoHit (decode file) p (direction_of p towards) deck (steps_in file))
    × ((n ≡ 0 → ⊥) → (n ≡ 1) × Snapped (decode file) p (direction_of p towards) deck (steps_in file) (take entry_size out))
    × (n ≡ 1 → (S : ℕ) → steps_in file ≤ S → S ≤ 16 → (out' : List ℕ) → length out ≤ length out'
    → (answer_to (towards_reply (with_steps_bytes file S) p towards deck) out' ≡ Ok 1)
    × (take entry_size (output_to (towards_reply (with_steps_bytes file S) p towards deck) out') ≡ take entry_size out))

-- the same of a call over C, whose answer is a number
abbrev pub SnapSurveyedCode : List ℕ → Vec2 → Vec2 → ℕ → List ℕ → List ℕ → Type 0
SnapSurveyedCode file p towards deck out out' = SnapSurveyed file p towards deck (answer_to (towards_reply file p towards deck) out) out'
