-- A list of bytes that stands in another: its parts, and the numbers that are read there.
use Prim.Native.Nat.{ℕ, zero, suc, ◌+◌, ◌*◌, ◌≤◌, ◌<◌}
use native.Mathlib.Omega.{arith}
use native.Mathlib.Nat.{add_assoc}
use mathlib.Core.Path.{◌≡◌, ◌∙◌}
use mathlib.Core.Bool.{true}
use mathlib.Core.List.{List, [], ◌∷◌, ◌++◌}
use lib.ListN.{length, get_or, drop, length-append, length-drop, get_or-append}
use lib.Seq.{length-take-le, get_or-take, get_or-drop, get_or-append-add}
use Rattle.words.specs.Bytes.{u32_at, bytes4, joined, words_of, slice}
use Rattle.words.specs.Rows.{collect, collect_all, sum_of, sum_all}
use Rattle.words.proofs.Collecting.{length_collect}
use Rattle.words.proofs.Writing.{length_bytes4}

-- ---- xs stands in s from a position on
pub record Piece (s : List ℕ) (at : ℕ) (xs : List ℕ) : Type 0 where
  pub byte : (k : ℕ) → k < length xs → get_or s (at + k) 0 ≡ get_or xs k 0

pub piece_whole : (s : List ℕ) → Piece s 0 s
piece_whole s = record { byte = λ k h. let e : 0 + k ≡ k = omega arith in rw e }

module _ {s : List ℕ} {at : ℕ} (xs ys : List ℕ) (p : Piece s at (xs ++ ys)) where
  pub piece_left : Piece s at xs
  piece_left =
      record {
        byte = λ k h. p.byte k (omega (arith, length-append xs ys)) ∙ get_or-append xs ys 0 k h;
      }

  pub piece_right : Piece s (at + length xs) ys
  piece_right =
      record {
        byte = λ k h. rw add_assoc (p.byte (length xs + k) (omega (arith, length-append xs ys)) ∙ get_or-append-add xs ys k 0);
      }

-- the list of number k among those that stand one after the other
pub piece_collect : (f : ℕ → List ℕ) {s : List ℕ} (at i n : ℕ) → Piece s at (collect_all f i n)
    → (k : ℕ) → k < n → Piece s (at + sum_all (λ j. length (f j)) i k) (f (i + k))
unfolding collect sum_of
piece_collect f at i zero p k h = absurd (omega arith)
piece_collect f at i (suc n) p zero h =
    let e : i + 0 ≡ i = omega arith in
    let z : at + 0 ≡ at = omega arith in
    rw (e, z) (piece_left (f i) (collect_all f (i + 1) n) p)
piece_collect f at i (suc n) p (suc k) h =
    let e : i + suc k ≡ i + 1 + k = omega arith in
    let later = sum_all (λ j. length (f j)) (i + 1) k in
    let z : at + (length (f i) + later) ≡ at + length (f i) + later = omega arith in
    rw (e, z) (piece_collect f (at + length (f i)) (i + 1) n (piece_right (f i) (collect_all f (i + 1) n) p) k (omega arith))

-- the sum of sizes that are all the same
sum_rows : (f : ℕ → ℕ) (size i n : ℕ) → ((k : ℕ) → i ≤ k → k < i + n → f k ≡ size) → sum_all f i n ≡ size * n
unfolding sum_of
sum_rows f size i zero e = omega arith
sum_rows f size i (suc n) e = omega (arith, e i (omega arith) (omega arith), sum_rows f size (i + 1) n (λ k a l. e k (omega arith) (omega arith)))

module _ (f : ℕ → List ℕ) (size n : ℕ) (long : (k : ℕ) → k < n → length (f k) ≡ size) where
  pub rows_length : length (collect_all f 0 n) ≡ size * n
  rows_length = length_collect (λ k. true) f 0 n ∙ sum_rows (λ j. length (f j)) size 0 n (λ k a l. long k (omega arith))

  pub piece_row : {s : List ℕ} (at : ℕ) → Piece s at (collect_all f 0 n) → (k : ℕ) → k < n → Piece s (at + size * k) (f k)
  piece_row at p k h =
      let z : 0 + k ≡ k = omega arith in
      let e = sum_rows (λ j. length (f j)) size 0 k (λ j a l. long j (omega arith)) in
      rw (z, e) at (piece_collect f at 0 n p k h)

-- ---- numbers
-- from the same four bytes
u32_at_moved : (s t : List ℕ) (at from : ℕ) → ((k : ℕ) → k < 4 → get_or s (at + k) 0 ≡ get_or t (from + k) 0) → u32_at s at ≡ u32_at t from
unfolding u32_at
u32_at_moved s t at from e =
    let a : at + 0 ≡ at = omega arith in
    let f : from + 0 ≡ from = omega arith in
    rw (rw (a, f) at (e 0 (omega arith)), e 1 (omega arith), e 2 (omega arith), e 3 (omega arith))

-- of a part of another list
pub slice_length : (s : List ℕ) (from n : ℕ) → from + n ≤ length s → length (slice s from n) ≡ n
slice_length s from n h = length-take-le n (drop from s) (omega (arith, length-drop from s))

pub piece_slice : {t : List ℕ} {at : ℕ} (s : List ℕ) (from n : ℕ) → from + n ≤ length s → Piece t at (slice s from n)
    → (k : ℕ) → k + 4 ≤ n → u32_at t (at + k) ≡ u32_at s (from + k)
piece_slice {t} {at} s from n fit p k h =
    u32_at_moved t s (at + k) (from + k)
    (λ j b. simp add_assoc (p.byte (k + j) (omega (arith, slice_length s from n fit))
    ∙ get_or-take n (drop from s) (k + j) 0 (omega arith)
    ∙ get_or-drop from s (k + j) 0))

-- of a list of numbers
word : {s : List ℕ} {at : ℕ} (x : ℕ) → Piece s at (bytes4 x) → u32_at s at ≡ x
unfolding u32_at bytes4
word {s} {at} x p =
    let z : at + 0 ≡ at = omega arith in
    rw (rw z at (p.byte 0 (omega arith)), p.byte 1 (omega arith), p.byte 2 (omega arith), p.byte 3 (omega arith)) (omega arith)

pub piece_word : {s : List ℕ} {at : ℕ} (xs : List ℕ) → Piece s at (words_of xs) → (i : ℕ) → i < length xs → u32_at s (at + 4 * i) ≡ get_or xs i 0
unfolding joined
piece_word {at = at} [] p i h = absurd (omega arith)
piece_word {at = at} (x ∷ xs) p zero h = let z : at + 4 * 0 ≡ at = omega arith in rw z (word x (piece_left (bytes4 x) (words_of xs) p))
piece_word {at = at} (x ∷ xs) p (suc i) h =
    let z : at + 4 * suc i ≡ at + 4 + 4 * i = omega arith in
    rw z (piece_word {at = at + 4} xs (rw length_bytes4 at (piece_right (bytes4 x) (words_of xs) p)) i (omega arith))
