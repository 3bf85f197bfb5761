-- A deck's turn in a step: the first polygon that passes at its sample, and the place's point and entry.
use Prim.Native.Nat.{ℕ, zero, suc, ◌+◌, ◌-◌, ◌*◌, ◌<◌, ◌≤◌, ◌^◌}
use mathlib.Core.Path.{◌≡◌, refl, sym, ◌∙◌}
use mathlib.Core.Bool.{Bool, true, false, not, cond}
use mathlib.Core.List.{List, [], ◌∷◌}
use native.Mathlib.Omega.{arith}
use lib.ListN.{length}
use Rattle.geometry.specs.declared.Vec2.{Vec2}
use Rattle.geometry.specs.Bounds.{PointWithin}
use Rattle.geometry.proofs.Bounds.{held, by_test}
use Rattle.ring.proofs.SampleBounds.{Bounding, place_along}
use Rattle.words.specs.Bytes.{bytes4, joined, splice}
use Rattle.words.specs.Rows.{collect}
use Rattle.words.proofs.Writing.{length_joined}
use Rattle.answers.specs.Questions.{question20}
use Rattle.answers.specs.Replies.{Replied}
use Rattle.answers.proofs.Replying.{replied_short, replied_written, room_short, room_fits}
use Rattle.std.specs.Prelude.{Option, Some, None, Ok, Err}
use Rattle.answers.specs.declared.Refusal.TheVariants.{NoRoom}
use Rattle.hits.specs.declared.Hit.{Hit}
use Rattle.hits.specs.Candidates.{hit as hit_at}
use Rattle.hits.specs.Hits.{polygon_hit}
use Rattle.ship.specs.Model.{Deck, Ship, deck_of}
use Rattle.ship.specs.Decode.{decode}
use Rattle.ship.specs.Packed.{packed_of}
use Rattle.ship.specs.Questions.{first_no}
use Rattle.ship.proofs.Facts.{decks_few}
use Rattle.ship.proofs.ModelFacts.{deck_of_within, decode_reach}
use Rattle.search.specs.OnDeck.{next_hit}
use Rattle.calls.specs.Closest.{entry_size, entry_bytes}
use Rattle.towards.specs.declared.Place.{Place}
use Rattle.towards.specs.Towards.{place_at, sample_towards, point_towards, passes_towards, deck_gives, place_bytes, first_of, PlaceReady, place_reply}

-- ---- the first that passes, as a hit and as the first of all that pass
abbrev found_on : ℕ → ℕ → Option Hit → Option Place
found_on s d (Some h) = Some (place_at s d h.polygon)
found_on s d None = None

first_passing_lem : (passes : ℕ → Bool) (s d k n : ℕ) → first_of (collect passes (λ j. place_at s d j ∷ []) k n) ≡ found_on s d (polygon_hit (λ i j. passes j) s k n)
unfolding collect polygon_hit
first_passing_lem passes s d k zero = refl
first_passing_lem passes s d k (suc n) = go (passes k) (first_passing_lem passes s d (k + 1) n)
  where
    later : List Place
    later = collect passes (λ j. place_at s d j ∷ []) (k + 1) n

    go : (b : Bool) → first_of later ≡ found_on s d (polygon_hit (λ i j. passes j) s (k + 1) n)
        → first_of (cond b (place_at s d k ∷ later) later) ≡ found_on s d (cond b (Some (hit_at s k)) (polygon_hit (λ i j. passes j) s (k + 1) n))
    go true e = refl
    go false e = e

-- ---- `deck_hit`
module _ (file : List ℕ) (p direction : Vec2) (s d : ℕ) {deck : Deck} (is : deck ≡ deck_of (decode file) d) {q : Vec2}
    (at : q ≡ sample_towards (decode file) p direction s d) {hit : Option Hit} (found : hit ≡ next_hit deck q s 0) where
  first_is : found_on s d hit ≡ first_of (deck_gives (decode file) p direction s d)
  unfolding next_hit
  first_is =
      let e : length (deck_of (decode file) d).polygons - 0 ≡ length (deck_of (decode file) d).polygons = omega arith in
      rw (found, at, is, e) (sym (first_passing_lem (passes_towards (decode file) p direction s d) s d 0 (length (deck_of (decode file) d).polygons)))

  pub deck_missed : hit ≡ None → None ≡ first_of (deck_gives (decode file) p direction s d)
  deck_missed e = rw e at first_is

  pub deck_found : {h : Hit} → hit ≡ Some h → Some (place_at s d h.polygon) ≡ first_of (deck_gives (decode file) p direction s d)
  deck_found e = rw e at first_is

pub ruleset turns = (deck_missed, deck_found)

-- ---- entries
length_place : (ship : Ship) (p direction : Vec2) (c : Place) → length (place_bytes ship p direction c) ≡ entry_size
unfolding place_bytes entry_bytes joined bytes4
length_place ship p direction c = refl

pub length_places : (ship : Ship) (p direction : Vec2) (l : List Place) → length (joined (place_bytes ship p direction) l) ≡ entry_size * length l
length_places ship p direction = length_joined (place_bytes ship p direction) entry_size (length_place ship p direction)

-- ---- `put_place`
bounds_towards : Bounding 2
unfolding held
bounds_towards = record { once = by_test 2000 tt; all = by_test 30000 tt; sample = by_test 2030000 tt; place = by_test 3030000 tt }

module _ (file : List ℕ) (p direction : Vec2) {c : Place} (ready : PlaceReady file p direction c) where
  pub ready_deck : first_no file ≡ Ok tt → c.deck < 256
  ready_deck passed = omega (arith, ready.turn_ready.deck, decks_few file passed)

  pub ready_polygon : c.polygon < 2 ^ 24
  ready_polygon = ready.polygon

  -- no sample and no place is a NaN or infinite
  pub ready_point : first_no file ≡ Ok tt → {point : Vec2} → point ≡ point_towards (decode file) p direction c.step c.deck → PointWithin 3030000 point
  unfolding point_towards sample_towards
  ready_point passed at =
      let turn = ready.turn_ready in
      let within = deck_of_within file c.deck passed turn.deck in
      rw at (place_along bounds_towards ready.direction_within (decode_reach file passed) turn.step ready.point_within within.offset)

  entry_long : length (place_reply file p direction c).bytes ≡ entry_size * 1
  entry_long = length_places (decode file) p direction (c ∷ [])

  module _ (out : List ℕ) {fits : Bool} (room : fits ≡ question20 (entry_size * 1) (length out)) where
    pub place_short : not fits ≡ true → Replied (place_reply file p direction c) out out (Err NoRoom)
    place_short no_room = replied_short refl refl (room_short (place_reply file p direction c) out entry_size 1 entry_long room no_room)

    module _ (has_room : not fits ≡ false) where
      pub place_room : entry_size * 0 + entry_size ≤ length out
      place_room = omega (arith, entry_long, room_fits (place_reply file p direction c) out entry_size 1 entry_long room has_room)

      pub place_written : {point : Vec2} {polygon : ℕ} {out' : List ℕ} → point ≡ point_towards (decode file) p direction c.step c.deck
          → polygon ≡ packed_of c.deck c.polygon → out' ≡ splice out (entry_size * 0) (entry_bytes polygon point)
          → Replied (place_reply file p direction c) out out' (Ok 1)
      unfolding joined place_bytes entry_bytes bytes4 splice
      place_written at packed put =
          replied_written refl refl (room_fits (place_reply file p direction c) out entry_size 1 entry_long room has_room) refl (put ∙ rw (at, packed))

pub ruleset placing = (ready_deck, ready_polygon, ready_point, place_short, place_room, place_written)
