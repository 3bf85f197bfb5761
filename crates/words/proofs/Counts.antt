-- Counts of eight bytes, one after the other: their length, what is read back, one that is put at a place.
use Prim.Native.Nat.{ℕ, zero, suc, ◌+◌, ◌*◌, ◌/◌, ◌%◌, ◌^◌, ◌<◌}
use native.Mathlib.Omega.{arith}
use mathlib.Core.Path.{◌≡◌, refl, ◌∙◌}
use mathlib.Core.List.{List, [], ◌∷◌, ◌++◌, append_assoc}
use lib.ListN.{length, get_or, set}
use Rattle.words.specs.Bytes.{u32_at, u64_at, bytes4, bytes8, joined, counts_of, count_at, put_u64}
use Rattle.words.proofs.Writing.{length_joined}
use Rattle.words.proofs.Numbers.{word_back, u32_at_past, joined_write}

-- ---- lengths
pub length_bytes8 : (x : ℕ) → length (bytes8 x) ≡ 8
unfolding bytes8 bytes4
length_bytes8 x = refl

pub length_counts : (l : List ℕ) → length (counts_of l) ≡ 8 * length l
length_counts l = length_joined bytes8 8 length_bytes8 l

-- ---- read back
u64_at_past : (p q : List ℕ) (at : ℕ) → u64_at (p ++ q) (length p + at) ≡ u64_at q at
unfolding u64_at
u64_at_past p q at = let e : length p + at + 4 ≡ length p + (at + 4) = omega arith in rw (e, u32_at_past p q at, u32_at_past p q (at + 4))

u64_at_first : (x : ℕ) (t : List ℕ) → u64_at (bytes8 x ++ t) 0 ≡ x
unfolding u64_at bytes8 bytes4 u32_at
u64_at_first x t = rw (word_back (x % 2 ^ 32), word_back (x / 2 ^ 32)) (omega arith)

next : (k x : ℕ) → 8 * suc k ≡ length (bytes8 x) + 8 * k
next k x = omega (arith, length_bytes8 x)

pub counts_read : (l t : List ℕ) (k : ℕ) → k < length l → count_at (counts_of l ++ t) k ≡ get_or l k 0
unfolding joined
counts_read [] t k h = absurd (omega arith)
counts_read (x ∷ l) t zero h = rw append_assoc (u64_at_first x (counts_of l ++ t))
counts_read (x ∷ l) t (suc k) h = rw (append_assoc, next k x) (u64_at_past (bytes8 x) (counts_of l ++ t) (8 * k) ∙ counts_read l t k (omega arith))

-- ---- written over
pub counts_write : (l t : List ℕ) (k x : ℕ) → k < length l → put_u64 (counts_of l ++ t) (8 * k) x ≡ counts_of (set l k x) ++ t
counts_write = joined_write bytes8 8 length_bytes8
