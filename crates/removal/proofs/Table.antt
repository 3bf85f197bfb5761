-- The loop over the table: pairs of offset and length, each less what is left out before it.
use Prim.Native.Nat.{ℕ, ◌+◌, ◌*◌, ◌-◌, ◌≤◌, ◌<◌}
use native.Mathlib.Omega.{arith}
use native.Mathlib.Numerals.{add-one}
use mathlib.Core.Path.{◌≡◌, refl, sym, ap, ◌∙◌}
use mathlib.Core.List.{List, [], ◌∷◌, ◌++◌}
use mir.Syntax.{w64}
use mir.Val.{Fits}
use lib.ListN.{length, get_or, drop, drop_of_length-le}
use lib.Seq.{drop-cons}
use Rattle.words.specs.Bytes.{bytes4, joined, words_of, splice}
use Rattle.words.proofs.Splice.{length_splice, splice_splice, splice_nil}
use Rattle.ship.specs.declared.Extent.{Extent}
use Rattle.ship.specs.Layout.{header_size, pair_size, blocks_per_deck, decks_in, blocks_position, extent_at, block_at}
use Rattle.ship.specs.Questions.{first_no}
use Rattle.ship.proofs.Passed.{passed_header}
use Rattle.ship.proofs.Inside.{table_there}
use Rattle.unstitched.specs.declared.Stitches.{Stitches}
use Rattle.unstitched.specs.NewFile.{pairs, new_table, new_file, block_lengths}
use Rattle.removal.specs.Parts.{LostInBlock}
use Rattle.unstitched.proofs.OldPlaces.{block_start, block_first, block_next, block_here}
use Rattle.unstitched.proofs.NewPlaces.{all_lengths, parts_length}
use Rattle.std.specs.Prelude.{Ok}

two_words : (a n : ℕ) (rest : List ℕ) → words_of (a ∷ n ∷ rest) ≡ words_of (a ∷ n ∷ []) ++ words_of rest
unfolding joined bytes4
two_words a n rest = refl

two_long : (a n : ℕ) → length (words_of (a ∷ n ∷ [])) ≡ pair_size
unfolding joined bytes4
two_long a n = refl

-- the pairs before number j are put; block j begins at `next` now
pub record TablePut (which : Stitches) (s out₀ out : List ℕ) (lost j : ℕ) : Type 0 where
  pub passed : first_no s ≡ Ok tt
  pub room : blocks_position s ≤ length out₀
  pub long : length out ≡ length out₀
  pub next : ℕ
  pub next_is : next + lost ≡ block_start s j
  pub same : splice out₀ header_size (new_table which s) ≡ splice out (header_size + pair_size * j) (words_of (pairs next (drop j (block_lengths which s))))

pub table_all : {which : Stitches} {s out : List ℕ} → first_no s ≡ Ok tt → length (new_file which s) ≤ length out → TablePut which s out out 0 0
unfolding new_table
table_all {which} {s} passed h =
    record {
      passed = passed;
      room = omega (arith, h, parts_length which s passed);
      long = refl;
      next = blocks_position s;
      next_is = omega (arith, block_first s passed);
      same = refl;
    }

module _ {which : Stitches} {s out₀ out : List ℕ} {lost j n : ℕ} (c : TablePut which s out₀ out lost j) (all : n ≡ decks_in s) where
  pub table_long : length out ≡ length out₀
  table_long = c.long

  pub table_none : blocks_per_deck * n ≤ j → out ≡ splice out₀ header_size (new_table which s)
  unfolding pairs joined
  table_none h =
      let past : length (block_lengths which s) ≤ j = omega (arith, all_lengths which s) in
      sym (c.same ∙ rw (drop_of_length-le (block_lengths which s) past, splice_nil))

  module _ (h : j < blocks_per_deck * n) where
    pub block_there : j < blocks_per_deck * decks_in s
    block_there = omega arith

    -- t is what is read of the ship
    pub pair_inside : {t : List ℕ} → t ≡ s → header_size + pair_size * j + pair_size ≤ length t
    pair_inside same = rw same (omega (arith, table_there s (passed_header s c.passed)))

    pub pair_room : header_size + pair_size * j + pair_size ≤ length out
    pair_room = omega (arith, c.room, c.long)

    start_is : c.next + lost ≡ (block_at s j).start
    start_is = c.next_is ∙ block_here s j block_there

    module _ {block : Extent} (read : block ≡ block_at s j) where
      pub lost_low : lost ≤ block.start
      lost_low = rw read (omega (arith, start_is))

      module _ {less : ℕ} (l : LostInBlock which s j less) where
        pub less_low : less ≤ block.count
        less_low = rw read (omega (arith, l.is))

        pub lost_fits : block.start < 4294967296 → block.count < 4294967296 → Fits w64 (lost + less)
        lost_fits p q = record { fits = omega (arith, lost_low, less_low) }

        pub table_more : {out' : List ℕ} → out' ≡ splice out (header_size + pair_size * j) (words_of ((block.start - lost) ∷ (block.count - less) ∷ []))
            → TablePut which s out₀ out' (lost + less) (j + 1)
        unfolding pairs
        table_more {out'} w =
            let at = header_size + pair_size * j in
            let x = get_or (block_lengths which s) j 0 in
            let a : block.start - lost ≡ c.next = rw read (omega (arith, start_is)) in
            let b : block.count - less ≡ x = rw read (omega (arith, l.is)) in
            let two = words_of (c.next ∷ x ∷ []) in
            let later = drop (j + 1) (block_lengths which s) in
            let d : drop j (block_lengths which s) ≡ x ∷ later = rw add-one (drop-cons (block_lengths which s) j 0 (omega (arith, all_lengths which s))) in
            let w' : out' ≡ splice out at two = rw (a, b) at w in
            let fits : at + length two ≤ length out = omega (arith, pair_room, two_long c.next x) in
            let q : at + length two ≡ header_size + pair_size * (j + 1) = omega (arith, two_long c.next x) in
            record {
              passed = c.passed;
              room = c.room;
              long = rw w' (length_splice out at two fits ∙ c.long);
              next = c.next + x;
              next_is = omega (arith, c.next_is, block_next s c.passed j block_there, l.is);
              same =
                  c.same
                  ∙ ap (λ (t : List ℕ). splice out at (words_of (pairs c.next t))) d
                  ∙ ap (splice out at) (two_words c.next x (pairs (c.next + x) later))
                  ∙ sym (splice_splice out at two fits (words_of (pairs (c.next + x) later)))
                  ∙ rw (w', q);
            }

pub pair_read : {s t : List ℕ} {block : Extent} (j : ℕ) → t ≡ s → block ≡ extent_at t header_size pair_size j → block ≡ block_at s j
pair_read j same read = read ∙ rw same

pub ruleset table = (pair_read, table_all, table_long, table_none, block_there, pair_inside, pair_room, lost_low, less_low, lost_fits, table_more)
