-- Records in turn: the lines of the first of them, and how many of those are placed.
use Prim.Native.Nat.{ℕ, zero, suc, ◌+◌, ◌*◌, ◌≤◌, ◌<◌}
use native.Mathlib.Omega.{arith}
use native.Mathlib.Numerals.{add-one}
use mathlib.Core.Path.{◌≡◌, refl, sym, ap, ◌∙◌}
use mathlib.Core.Bool.{Bool, true, false, not, cond}
use mathlib.Core.List.{List, [], ◌∷◌, ◌++◌, append_assoc, append-nil}
use lib.ListN.{length}
use Rattle.std.specs.List.{filter, range_with_len}
use Rattle.words.specs.Bytes.{Put}
use Rattle.words.specs.Rows.{rows}
use Rattle.words.proofs.Splice.{length_splice, splice_nil}
use Rattle.words.proofs.TableRows.{length_rows}
use Rattle.records.specs.declared.SeatRecord.{SeatRecord}
use Rattle.records.specs.Record.{record_at, records_in, is_unplaced}
use Rattle.lines.specs.Lines.{seat_line}
use Rattle.words.proofs.Copying.{put_put}
use Rattle.listing.specs.Listing.{seat_lines, placed_in, unplaced_in}
use Rattle.listing.specs.Sizes.{most_seats, text_size}

-- ---- one record more
module _ (f : ℕ → SeatRecord) where
  lines_last : (n i : ℕ) → seat_lines i (rows f i (suc n)) ≡ seat_lines i (rows f i n) ++ seat_line (i + n) (f (i + n))
  unfolding seat_lines rows
  lines_last zero i = let e : i + 0 ≡ i = omega arith in rw (append-nil, e)
  lines_last (suc n) i =
      let e : i + suc n ≡ i + 1 + n = omega arith in
      rw (e, append_assoc) (ap (λ (l : List ℕ). seat_line i (f i) ++ l) (lines_last n (i + 1)))

-- ---- put_seats
-- the lines of the first i records are put
pub record ListPlace (records text₀ text : List ℕ) (at i : ℕ) : Type 0 where
  pub long : length text ≡ length text₀
  pub few : at ≤ 128 * i
  pub put : Put text₀ 0 (seat_lines 0 (records_in records i)) text at

module _ {records text₀ : List ℕ} where
  pub listed_none : ListPlace records text₀ text₀ 0 0
  unfolding seat_lines rows
  listed_none = record { long = refl; few = omega arith; put = record { out_is = sym (splice_nil text₀ 0); next_is = refl } }

  module _ {text : List ℕ} {at i : ℕ} (l : ListPlace records text₀ text at i) where
    pub listed_more : {text' : List ℕ} {count n : ℕ} {r : SeatRecord} → i < count → count ≤ most_seats → text_size ≤ length text₀
        → r ≡ record_at records i → Put text at (seat_line i r) text' n → n ≤ at + 128
        → ListPlace records text₀ text' n (i + 1)
    listed_more {text'} {count} {n} {r} more few room e p h =
        let z : 0 + i ≡ i = omega arith in
        let fits : at + length (seat_line i r) ≤ length text = omega (arith, p.next_is, l.long, l.few) in
        let q = put_put l.put (omega (arith, l.few)) p in
        record {
          long = rw p.out_is (length_splice text at (seat_line i r) fits ∙ l.long);
          few = omega (arith, l.few);
          put = rw (add-one, lines_last (record_at records) i 0, z, ← e) q;
        }

pub ruleset listing = (listed_none, listed_more)

-- ---- those that are not placed are the others
pub all_counted : (rs : List SeatRecord) → placed_in rs + unplaced_in rs ≡ length rs
unfolding placed_in unplaced_in
all_counted [] = refl
all_counted (r ∷ rs) = go (is_unplaced r) (placed_in rs) (unplaced_in rs) ∙ ap suc (all_counted rs)
  where
    go : (unplaced : Bool) (a b : ℕ) → cond unplaced a (suc a) + cond unplaced (suc b) b ≡ suc (a + b)
    go true a b = omega arith
    go false a b = omega arith

-- ---- count_placed
module _ (records : List ℕ) where
  abbrev pub placed_at : ℕ → Bool
  placed_at i = not (is_unplaced (record_at records i))

  placed_from : (n i : ℕ) → length (filter placed_at (range_with_len i n)) ≡ placed_in (rows (record_at records) i n)
  unfolding placed_in rows
  placed_from zero i = refl
  placed_from (suc n) i = go (is_unplaced (record_at records i)) _ (placed_from n (i + 1))
    where
      go : (unplaced : Bool) (l : List ℕ) {b : ℕ} → length l ≡ b → length (cond (not unplaced) (i ∷ l) l) ≡ cond unplaced b (suc b)
      go true l e = e
      go false l e = ap suc e

  pub placed_counted : (n : ℕ) {count : ℕ} → count ≡ length (filter placed_at (range_with_len 0 n)) → (count ≡ placed_in (records_in records n)) × (count ≤ n)
  placed_counted n e = (e ∙ placed_from n 0, omega (arith, e, placed_from n 0, all_counted (records_in records n), length_rows (record_at records) n 0))
