-- The blocks of a deck, part by part, and the loop over the decks.
use Prim.Native.Nat.{ℕ, ◌+◌, ◌*◌, ◌-◌, ◌≤◌, ◌<◌, ◌^◌}
use native.Mathlib.Omega.{arith}
use mathlib.Core.Path.{◌≡◌, refl, ◌∙◌}
use mathlib.Core.Bool.{true}
use mathlib.Core.List.{List, ◌++◌}
use mir.Syntax.{w64}
use mir.Val.{Fits}
use lib.ListN.{length, length-append}
use Rattle.words.specs.Bytes.{slice, splice, Put}
use Rattle.words.proofs.Copying.{put_put, put_long}
use Rattle.ship.specs.declared.Blocks.{Blocks}
use Rattle.ship.specs.Layout.{number_size, header_size, deck_row_size, decks_in, blocks_position, blocks_at}
use Rattle.ship.specs.Questions.{first_no, DeckOfPassed}
use Rattle.ship.proofs.Facts.{sound}
use Rattle.unstitched.specs.declared.Stitches.{Stitches}
use Rattle.unstitched.specs.NewFile.{new_v, new_n, new_blocks, rest_size, rest_of, all_blocks, new_file}
use Rattle.removal.specs.Parts.{DeckReady}
use Rattle.removal.proofs.PutLoop.{PiecesPut, pieces_all, pieces_none, pieces_room, pieces_yes}
use Rattle.unstitched.proofs.OldPlaces.{deck_laid}
use Rattle.unstitched.proofs.Pieces.{slice_length}
use Rattle.unstitched.proofs.NewPlaces.{blocks_in, parts_length}
use Rattle.std.specs.Prelude.{Ok}

-- ---- `put_rest`
module _ {s : List ℕ} {b : Blocks} (deck : DeckOfPassed s b) where
  rest_is : b.h + number_size * b.heights ≡ b.p + rest_size b
  rest_is = let l = deck_laid deck in omega (arith, l.c_next, l.h_next)

  size_is : b.h + number_size * b.heights - b.p ≡ rest_size b
  size_is = omega (arith, rest_is)

  all_inside : b.p + rest_size b ≤ length s
  all_inside = omega (arith, rest_is, (sound deck).inside.h_inside)

  pub rest_below : b.p ≤ b.h + number_size * b.heights
  rest_below = omega (arith, rest_is)

  pub rest_inside : b.p + (b.h + number_size * b.heights - b.p) ≤ length s
  rest_inside = omega (arith, size_is, all_inside)

  pub rest_room : (out : List ℕ) (at : ℕ) → at + length (rest_of s b) ≤ length out → at + (b.h + number_size * b.heights - b.p) ≤ length out
  rest_room out at room = omega (arith, size_is, room, slice_length s b.p (rest_size b) all_inside)

  module _ (l : length s < 2 ^ 64) where
    pub heights_fit : Fits w64 (number_size * b.heights)
    heights_fit = record { fits = omega (arith, (sound deck).inside.h_inside) }

    pub end_fits : Fits w64 (b.h + number_size * b.heights)
    end_fits = record { fits = omega (arith, (sound deck).inside.h_inside) }

  pub rest_put : {out : List ℕ} {at : ℕ} {out' : List ℕ} {n : ℕ} → Put out at (slice s b.p (b.h + number_size * b.heights - b.p)) out' n → Put out at (rest_of s b) out' n
  rest_put p = rw size_is at p

pub ruleset rest = (rest_below, rest_inside, rest_room, heights_fit, end_fits, rest_put)

-- ---- `put_deck`
-- what is read of the deck
pub ready_read : {which which' : Stitches} {s s' : List ℕ} {d d' : ℕ} {out : List ℕ} {at : ℕ} → (s' ≡ s) × ((which' ≡ which) × (d' ≡ d)) → DeckReady which s d out at
    → DeckReady which' s' d' out at
ready_read e h = rw (e.0, e.1.0, e.1.1) h

module _ {which : Stitches} {s : List ℕ} {d : ℕ} {out : List ℕ} {at : ℕ} (h : DeckReady which s d out at) {b : Blocks} (is : b ≡ blocks_at s d) where
  room : at + (length (new_v which s d b) + length (new_n which s d b) + length (rest_of s b)) ≤ length out
  unfolding new_blocks
  room =
      let r : at + length (new_blocks which s d b) ≤ length out = rw is h.room in
      omega (arith, r, length-append (new_v which s d b ++ new_n which s d b) (rest_of s b), length-append (new_v which s d b) (new_n which s d b))

  pub v_room : at + length (new_v which s d b) ≤ length out
  v_room = omega (arith, room)

  module _ {mid : List ℕ} {n : ℕ} (p : Put out at (new_v which s d b) mid n) where
    v_long : length mid ≡ length out
    v_long = put_long p (omega (arith, room))

    pub n_room : n + length (new_n which s d b) ≤ length mid
    n_room = omega (arith, room, v_long, p.next_is)

    module _ {mid2 : List ℕ} {m : ℕ} (q : Put mid n (new_n which s d b) mid2 m) where
      n_long : length mid2 ≡ length out
      n_long = put_long q (omega (arith, room, v_long, p.next_is)) ∙ v_long

      pub rest_fits : m + length (rest_of s b) ≤ length mid2
      rest_fits = omega (arith, room, n_long, p.next_is, q.next_is)

      module _ {out' : List ℕ} {next : ℕ} (r : Put mid2 m (rest_of s b) out' next) where
        pub deck_put : Put out at (new_blocks which s d (blocks_at s d)) out' next
        unfolding new_blocks
        deck_put =
            let vn = put_put p (omega (arith, room, p.next_is)) q in
            rw is at (put_put vn (omega (arith, room, vn.next_is, length-append (new_v which s d b) (new_n which s d b))) r)

-- ---- `put_decks`: the decks before d are put
pub record DecksPut (which : Stitches) (s out₀ out : List ℕ) (at d : ℕ) : Type 0 where
  pub passed : first_no s ≡ Ok tt
  pub put : PiecesPut (λ k. true) (blocks_in which s) (decks_in s) out₀ (blocks_position s) out at d

pub decks_all : {which : Stitches} {s out : List ℕ} {n : ℕ} → first_no s ≡ Ok tt → length (new_file which s) ≤ length out → n ≡ decks_in s → DecksPut which s out out (header_size + deck_row_size * n) 0
unfolding all_blocks
decks_all {which} {s} passed h e = rw e (record { passed = passed; put = pieces_all (omega (arith, h, parts_length which s passed)) })

module _ {which : Stitches} {s out₀ out : List ℕ} {at d n : ℕ} (c : DecksPut which s out₀ out at d) (e : n ≡ decks_in s) where
  pub decks_long : length out ≡ length out₀
  decks_long = c.put.long

  pub decks_none : n ≤ d → out ≡ splice out₀ (blocks_position s) (all_blocks which s)
  unfolding all_blocks
  decks_none h = (pieces_none c.put (omega arith)).out_is

  module _ (h : d < n) where
    pub deck_ready : DeckReady which s d out at
    deck_ready = record { there = omega arith; room = pieces_room c.put (omega arith) refl }

    pub decks_more : {out' : List ℕ} {next : ℕ} → Put out at (new_blocks which s d (blocks_at s d)) out' next → DecksPut which s out₀ out' next (d + 1)
    decks_more p = record { passed = c.passed; put = pieces_yes c.put (omega arith) refl p.out_is p.next_is }

pub ruleset decks = (decks_all, decks_long, decks_none, deck_ready, decks_more)
