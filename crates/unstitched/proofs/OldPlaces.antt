-- A passed file: where its blocks begin and how long they are, that a deck's blocks lie inside it, each where the one before it ends.
use Prim.Native.Nat.{ℕ, ◌+◌, ◌-◌, ◌*◌, ◌%◌, ◌<◌}
use native.Mathlib.Omega.{arith}
use mathlib.Core.Path.{◌≡◌, sym, ap, ◌∙◌, subst⁻¹}
use mathlib.Core.Bool.{true, ◌&&◌}
use mathlib.Core.List.{List}
use lib.Dec.{eqb, leb}
use lib.ListN.{length}
use borrow.Author.Tests.{eqb-true, leb-true}
use Rattle.words.proofs.TableRows.{both}
use Rattle.ship.specs.declared.Blocks.{Blocks}
use Rattle.ship.specs.declared.DeckRow.{DeckRow}
use Rattle.ship.specs.declared.Extent.{Extent}
use Rattle.ship.specs.Layout.{number_size, header_size, pair_size, blocks_per_deck, deck_offset_size, vertex_size, decks_in, blocks_position, extent_at, block_at, row_position, deck_row, blocks_at, neighbour_extent, BlocksInside}
use Rattle.ship.specs.Questions.{end_to_end, question7, question12, first_no, DeckOfPassed}
use Rattle.ship.proofs.Passed.{deck_all_yes, passed_header, passed_deck}
use Rattle.ship.proofs.Inside.{blocks_chain}
use Rattle.ship.proofs.Facts.{blocks_inside}
use Rattle.unstitched.proofs.Chains.{start_of, start_here, start_end, start_first, start_next}
use Rattle.std.specs.Prelude.{Ok}

-- ---- where block j begins; past the last one, the file's end
abbrev pub block_start : List ℕ → ℕ → ℕ
block_start s j = start_of (block_at s) (length s) (blocks_per_deck * decks_in s) j

module _ (s : List ℕ) (passed : first_no s ≡ Ok tt) where
  pub block_first : block_start s 0 ≡ blocks_position s
  block_first = start_first (block_at s) (length s) (blocks_position s) (blocks_per_deck * decks_in s) (blocks_chain s (passed_header s passed))

  pub block_next : (j : ℕ) → j < blocks_per_deck * decks_in s → block_start s (j + 1) ≡ block_start s j + (block_at s j).count
  block_next = start_next (block_at s) (length s) (blocks_position s) (blocks_per_deck * decks_in s) (blocks_chain s (passed_header s passed))

pub block_here : (s : List ℕ) (j : ℕ) → j < blocks_per_deck * decks_in s → block_start s j ≡ (block_at s j).start
block_here s j h = start_here (block_at s) (length s) (blocks_per_deck * decks_in s) j h

pub block_end : (s : List ℕ) → block_start s (blocks_per_deck * decks_in s) ≡ length s
block_end s = start_end (block_at s) (length s) (blocks_per_deck * decks_in s)

-- ---- a deck's blocks, by their rows
-- pair k of a deck is block 5·d + k of the file
pair_is : (s : List ℕ) (d k : ℕ) → extent_at s (row_position d) pair_size k ≡ block_at s (blocks_per_deck * d + k)
pair_is s d k =
    let e : row_position d + pair_size * k ≡ header_size + pair_size * (blocks_per_deck * d + k) = omega arith in
    rw e

-- how many bytes the blocks of b have
pub record RowCounts (row : DeckRow) (b : Blocks) : Type 0 where
  pub v_bytes : row.v.count ≡ deck_offset_size + vertex_size * b.vertices
  pub n_bytes : row.n.count ≡ number_size * b.neighbours
  pub p_bytes : row.p.count ≡ pair_size * b.polygons
  pub c_bytes : row.c.count ≡ number_size * b.corners
  pub h_bytes : row.h.count ≡ number_size * b.heights

pub row_counts : (s : List ℕ) (d : ℕ) → question7 s d ≡ true → RowCounts (deck_row s d) (blocks_at s d)
unfolding question7 blocks_at
row_counts s d q =
    let row = deck_row s d in
    let v = both (leb deck_offset_size row.v.count && eqb ((row.v.count - deck_offset_size) % vertex_size) 0) _ q in
    let v2 = both (leb deck_offset_size row.v.count) _ v.0 in
    let n = both (eqb (row.n.count % number_size) 0) _ v.1 in
    let p = both (eqb (row.p.count % pair_size) 0) _ n.1 in
    let c = both (eqb (row.c.count % number_size) 0) (eqb (row.h.count % number_size) 0) p.1 in
    record {
      v_bytes = omega (arith, leb-true deck_offset_size row.v.count v2.0, eqb-true ((row.v.count - deck_offset_size) % vertex_size) 0 v2.1);
      n_bytes = omega (arith, eqb-true (row.n.count % number_size) 0 n.0);
      p_bytes = omega (arith, eqb-true (row.p.count % pair_size) 0 p.0);
      c_bytes = omega (arith, eqb-true (row.c.count % number_size) 0 c.0);
      h_bytes = omega (arith, eqb-true (row.h.count % number_size) 0 c.1);
    }

-- ---- where the blocks of a deck lie
pub record Laid (s : List ℕ) (b : Blocks) : Type 0 where
  pub inside : BlocksInside s b
  pub n_next : b.n ≡ b.v + (deck_offset_size + vertex_size * b.vertices)
  pub p_next : b.p ≡ b.n + number_size * b.neighbours
  pub c_next : b.c ≡ b.p + pair_size * b.polygons
  pub h_next : b.h ≡ b.c + number_size * b.corners

module _ (s : List ℕ) (passed : first_no s ≡ Ok tt) (d : ℕ) (there : d < decks_in s) where
  whole : question7 s d ≡ true
  whole = (deck_all_yes s d (passed_deck s passed d there)).0

  pub counts : RowCounts (deck_row s d) (blocks_at s d)
  counts = row_counts s d whole

  module _ (k : ℕ) (h : k < blocks_per_deck) where
    pub count_is : (extent_at s (row_position d) pair_size k).count ≡ (block_at s (blocks_per_deck * d + k)).count
    count_is = ap (λ (x : Extent). x.count) (pair_is s d k)

    pair_start : block_start s (blocks_per_deck * d + k) ≡ (extent_at s (row_position d) pair_size k).start
    pair_start = block_here s (blocks_per_deck * d + k) (omega arith) ∙ sym (ap (λ (x : Extent). x.start) (pair_is s d k))

    pair_next : block_start s (blocks_per_deck * d + (k + 1)) ≡ (extent_at s (row_position d) pair_size k).start + (extent_at s (row_position d) pair_size k).count
    pair_next =
        let e : blocks_per_deck * d + (k + 1) ≡ blocks_per_deck * d + k + 1 = omega arith in
        rw e (omega (arith, block_next s passed (blocks_per_deck * d + k) (omega arith), pair_start, count_is))

  pub laid : Laid s (blocks_at s d)
  unfolding blocks_at
  laid =
      record {
        inside = blocks_inside s d (passed_header s passed) there whole;
        n_next = omega (arith, pair_next 0 (omega arith), pair_start 1 (omega arith), counts.v_bytes);
        p_next = omega (arith, pair_next 1 (omega arith), pair_start 2 (omega arith), counts.n_bytes);
        c_next = omega (arith, pair_next 2 (omega arith), pair_start 3 (omega arith), counts.p_bytes);
        h_next = omega (arith, pair_next 3 (omega arith), pair_start 4 (omega arith), counts.c_bytes);
      }

  pub deck_start : block_start s (blocks_per_deck * d) ≡ (blocks_at s d).v
  unfolding blocks_at
  deck_start = let e : blocks_per_deck * d + 0 ≡ blocks_per_deck * d = omega arith in rw e at (pair_start 0 (omega arith))

  pub deck_end : block_start s (blocks_per_deck * (d + 1)) ≡ (blocks_at s d).h + number_size * (blocks_at s d).heights
  unfolding blocks_at
  deck_end =
      let e : blocks_per_deck * (d + 1) ≡ blocks_per_deck * d + 5 = omega arith in
      rw e (omega (arith, pair_next 4 (omega arith), counts.h_bytes))

-- ---- the same of a deck that a function was handed
module _ {s : List ℕ} {b : Blocks} (deck : DeckOfPassed s b) where
  pub deck_laid : Laid s b
  deck_laid = subst⁻¹ (Laid s) deck.is (laid s deck.passed deck.number deck.there)

  pub lists_chain : end_to_end (neighbour_extent s b) b.neighbours 0 0 b.vertices ≡ true
  unfolding question12
  lists_chain =
      let yes12 = (deck_all_yes s deck.number (passed_deck s deck.passed deck.number deck.there)).1.yes12 in
      subst⁻¹ (λ (c : Blocks). end_to_end (neighbour_extent s c) c.neighbours 0 0 c.vertices ≡ true) deck.is (both _ _ yes12).0
