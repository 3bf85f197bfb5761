-- How many bytes are left out: of a deck's N, of each block, and of the whole file.
use Prim.Native.Nat.{ℕ, zero, suc, ◌+◌, ◌-◌, ◌*◌, ◌/◌, ◌%◌, ◌≤◌, ◌<◌, ◌^◌}
use native.Mathlib.Omega.{arith}
use mathlib.Core.Path.{◌≡◌, refl, sym, ap, ◌∙◌}
use mathlib.Core.Bool.{true}
use mathlib.Core.List.{List}
use mir.Syntax.{w64}
use mir.Val.{Fits}
use lib.ListN.{length, get_or, length-append, get_or-append}
use lib.Seq.{get_or-append-add}
use Rattle.words.specs.Rows.{collect, collect_all}
use Rattle.words.proofs.Collecting.{collect_yes, collect_none}
use Rattle.ship.specs.declared.Blocks.{Blocks}
use Rattle.ship.specs.Layout.{number_size, blocks_per_deck, decks_in, blocks_position, extent_at, block_at, row_position, pair_size, blocks_at}
use Rattle.ship.specs.Questions.{first_no, DeckOfPassed}
use Rattle.ship.proofs.Facts.{sound}
use Rattle.unstitched.specs.declared.Stitches.{Stitches}
use Rattle.unstitched.specs.NewFile.{kept_from, new_lengths, new_file, all_blocks, block_lengths}
use Rattle.removal.specs.Parts.{LostInBlock, LostInDeck}
use Rattle.unstitched.proofs.Entries.{kept_few}
use Rattle.unstitched.proofs.OldPlaces.{block_start, block_first, block_end, Laid, laid, deck_start, deck_end, counts, count_is}
use Rattle.unstitched.proofs.NewDeck.{blocks_length}
use Rattle.unstitched.proofs.NewPlaces.{blocks_in, lengths_length, parts_length}
use Rattle.std.specs.Prelude.{Ok}

-- ---- `lost_in_deck`
module _ {s : List ℕ} {b : Blocks} (deck : DeckOfPassed s b) where
  pub all_inside : b.n + number_size * (0 + b.neighbours) ≤ length s
  all_inside = omega (arith, (sound deck).inside.n_inside)

  pub less_fits : length s < 2 ^ 64 → (kept : ℕ) → Fits w64 (number_size * (b.neighbours - kept))
  less_fits l kept = record { fits = omega (arith, (sound deck).inside.n_inside) }

pub deck_less : {which : Stitches} {s : List ℕ} {d : ℕ} {b : Blocks} {kept : ℕ} → b ≡ blocks_at s d → kept ≡ length (kept_from which s d b 0 b.neighbours)
    → LostInDeck which s d (number_size * (b.neighbours - kept))
deck_less {which} {s} {d} {b} is count = rw (count, is) (record { is = omega (arith, kept_few which s d (blocks_at s d) (blocks_at s d).neighbours 0) })

-- what is read of the deck
pub less_read : {which which' : Stitches} {s s' : List ℕ} {d d' less : ℕ} → (s' ≡ s) × ((which' ≡ which) × (d' ≡ d)) → LostInDeck which' s' d' less → LostInDeck which s d less
less_read e l = rw (← e.0, ← e.1.0, ← e.1.1) l

-- ---- `lost_in_block`
-- entry k of list d, where each list has `size` entries
in_list : {A : Type 0} (f : ℕ → List A) (size : ℕ) → ((k : ℕ) → length (f k) ≡ size) → (n i d k : ℕ) (z : A) → d < n → k < size
    → get_or (collect_all f i n) (size * d + k) z ≡ get_or (f (i + d)) k z
unfolding collect
in_list f size each zero i d k z h l = absurd (omega arith)
in_list f size each (suc n) i zero k z h l =
    let e : size * 0 + k ≡ k = omega arith in
    let j : i + 0 ≡ i = omega arith in
    rw (e, j) (get_or-append (f i) (collect_all f (i + 1) n) z k (omega (arith, each i)))
in_list f size each (suc n) i (suc d) k z h l =
    let e : size * suc d + k ≡ length (f i) + (size * d + k) = omega (arith, each i) in
    let j : i + suc d ≡ i + 1 + d = omega arith in
    rw (e, j) (get_or-append-add (f i) (collect_all f (i + 1) n) (size * d + k) z ∙ in_list f size each n (i + 1) d k z (omega arith) l)

module _ (which : Stitches) (s : List ℕ) (passed : first_no s ≡ Ok tt) where
  length_at : (d k : ℕ) → d < decks_in s → k < blocks_per_deck → get_or (block_lengths which s) (blocks_per_deck * d + k) 0 ≡ get_or (new_lengths which s d (blocks_at s d)) k 0
  length_at d k h l =
      let e : 0 + d ≡ d = omega arith in
      rw e at (in_list (λ j. new_lengths which s j (blocks_at s j)) blocks_per_deck (lengths_length which s) (decks_in s) 0 d k 0 h l)

  module _ (d : ℕ) (h : d < decks_in s) where
    old_count : (k : ℕ) → k < blocks_per_deck → (block_at s (blocks_per_deck * d + k)).count ≡ (extent_at s (row_position d) pair_size k).count
    old_count k l = sym (count_is s passed d h k l)

    -- the blocks but N stay as long as they are
    others : (k : ℕ) → k < blocks_per_deck → (k ≡ 1 → ⊥) → (block_at s (blocks_per_deck * d + k)).count ≡ get_or (new_lengths which s d (blocks_at s d)) k 0
    unfolding new_lengths
    others zero l other = old_count 0 l ∙ (counts s passed d h).v_bytes
    others (suc zero) l other = absurd (other refl)
    others (suc (suc zero)) l other = old_count 2 l ∙ (counts s passed d h).p_bytes
    others (suc (suc (suc zero))) l other = old_count 3 l ∙ (counts s passed d h).c_bytes
    others (suc (suc (suc (suc zero)))) l other = old_count 4 l ∙ (counts s passed d h).h_bytes
    others (suc (suc (suc (suc (suc k))))) l other = absurd (omega arith)

    neighbours_less : {less : ℕ} → LostInDeck which s d less → (block_at s (blocks_per_deck * d + 1)).count ≡ get_or (new_lengths which s d (blocks_at s d)) 1 0 + less
    unfolding new_lengths
    neighbours_less l = old_count 1 (omega arith) ∙ (counts s passed d h).n_bytes ∙ l.is

  module _ {j : ℕ} (h : j < blocks_per_deck * decks_in s) where
    deck_there : j / blocks_per_deck < decks_in s
    deck_there = omega arith

    place : blocks_per_deck * (j / blocks_per_deck) + j % blocks_per_deck ≡ j
    place = omega arith

    new_length : get_or (block_lengths which s) j 0 ≡ get_or (new_lengths which s (j / blocks_per_deck) (blocks_at s (j / blocks_per_deck))) (j % blocks_per_deck) 0
    new_length = rw place at (length_at (j / blocks_per_deck) (j % blocks_per_deck) deck_there (omega arith))

    pub block_same : (j % blocks_per_deck ≡ 1 → ⊥) → LostInBlock which s j 0
    block_same other =
        record { is = rw place at (others (j / blocks_per_deck) deck_there (j % blocks_per_deck) (omega arith) other) ∙ sym new_length ∙ omega arith }

    pub block_less : {less : ℕ} → j % blocks_per_deck ≡ 1 → LostInDeck which s (j / blocks_per_deck) less → LostInBlock which s j less
    block_less {less} e l =
        let p : blocks_per_deck * (j / blocks_per_deck) + 1 ≡ j = omega arith in
        record { is = rw p at (neighbours_less (j / blocks_per_deck) deck_there l) ∙ sym (ap (λ (n : ℕ). n + less) (rw e at new_length)) }

pub ruleset block_losses = (block_same, block_less)

-- ---- `new_size`: the decks before d lost so many bytes
pub record Shrunk (which : Stitches) (s : List ℕ) (lost d : ℕ) : Type 0 where
  pub passed : first_no s ≡ Ok tt
  pub fits : length s < 2 ^ 64
  pub below : d ≤ decks_in s
  pub few : lost ≤ block_start s (blocks_per_deck * d)
  pub same : blocks_position s + length (all_blocks which s) + lost
      ≡ block_start s (blocks_per_deck * d) + length (collect_all (blocks_in which s) d (decks_in s - d))

-- t is what is read of the ship
pub shrunk_all : (which : Stitches) {s t : List ℕ} → first_no s ≡ Ok tt → t ≡ s → length t < 2 ^ 64 → Shrunk which s 0 0
unfolding all_blocks
shrunk_all which {s} passed same small =
    let e : decks_in s - 0 ≡ decks_in s = omega arith in
    record { passed = passed; fits = rw same at small; below = omega arith; few = omega arith; same = rw e (omega (arith, block_first s passed)) }

module _ {which : Stitches} {s : List ℕ} {lost d n : ℕ} (c : Shrunk which s lost d) (all : n ≡ decks_in s) where
  module _ (h : n ≤ d) where
    at_end : block_start s (blocks_per_deck * d) ≡ length s
    at_end = let e : d ≡ decks_in s = omega (arith, c.below) in rw e (block_end s)

    pub lost_below : {t : List ℕ} → t ≡ s → lost ≤ length t
    lost_below same = rw same (omega (arith, c.few, at_end))

    pub size_is : {t : List ℕ} → t ≡ s → length t - lost ≡ length (new_file which s)
    size_is same =
        rw same
        (omega (
          arith,
          c.same,
          at_end,
          ap length (collect_none (λ k. true) (blocks_in which s) d (decks_in s) (omega arith)),
          parts_length which s c.passed,
        ))

  module _ (h : d < n) where
    lie : Laid s (blocks_at s d)
    lie = laid s c.passed d (omega arith)

    -- where the deck's blocks begin and end
    from : block_start s (blocks_per_deck * d) ≡ (blocks_at s d).v
    from = deck_start s c.passed d (omega arith)

    to : block_start s (blocks_per_deck * (d + 1)) ≡ (blocks_at s d).h + number_size * (blocks_at s d).heights
    to = deck_end s c.passed d (omega arith)

    module _ {less : ℕ} (l : LostInDeck which s d less) where
      next_few : lost + less ≤ block_start s (blocks_per_deck * (d + 1))
      next_few = omega (arith, c.few, l.is, from, to, lie.n_next, lie.p_next, lie.c_next, lie.h_next)

      pub lost_fits : Fits w64 (lost + less)
      lost_fits = record { fits = omega (arith, c.fits, next_few, to, lie.inside.h_inside) }

      shorter : length (blocks_in which s d) + less + block_start s (blocks_per_deck * d) ≡ block_start s (blocks_per_deck * (d + 1))
      unfolding new_lengths
      shorter =
          omega (arith, l.is, from, to, lie.n_next, lie.p_next, lie.c_next, lie.h_next, blocks_length which s d (blocks_at s d) lie)

      pub shrunk_more : Shrunk which s (lost + less) (d + 1)
      shrunk_more =
          let later = collect_all (blocks_in which s) (d + 1) (decks_in s - (d + 1)) in
          let next = collect_yes (λ k. true) (blocks_in which s) d (decks_in s) (omega arith) refl in
          record {
            passed = c.passed;
            fits = c.fits;
            below = omega arith;
            few = next_few;
            same = omega (arith, c.same, shorter, ap length next, length-append (blocks_in which s d) later);
          }

pub ruleset shrinking = (shrunk_all, lost_below, size_is, lost_fits, shrunk_more)
