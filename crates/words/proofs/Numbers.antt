-- Numbers of four bytes, one after the other: their length, what is read back, one that is put at a place.
use Prim.Native.Nat.{ℕ, zero, suc, ◌+◌, ◌*◌, ◌/◌, ◌%◌, ◌<◌, ◌≤◌}
use native.Mathlib.Omega.{arith}
use native.Mathlib.Nat.{add_assoc, mul-suc}
use mathlib.Core.Path.{◌≡◌, sym, ap, ◌∙◌}
use mathlib.Core.Logic.{◌⊎◌, inl, inr}
use mathlib.Core.List.{List, [], ◌∷◌, ◌++◌, append_assoc}
use lib.ListN.{length, get_or, drop, set}
use lib.Seq.{take-append-add, drop-append_seam, drop-append-add, get_or-append-add}
use Rattle.words.specs.Bytes.{byte_at, u32_at, number_at, bytes4, joined, words_of, splice, put_u32}
use Rattle.words.proofs.Splice.{length_splice, get_d_splice_before, u32_at_splice_before, u32_at_splice_after, u32_at_bytes4}
use Rattle.words.proofs.Writing.{length_bytes4, length_joined}
use Rattle.words.proofs.Collecting.{three}

pub length_words : (l : List ℕ) → length (words_of l) ≡ 4 * length l
length_words l = length_joined bytes4 4 length_bytes4 l

pub splice_front : (s xs : List ℕ) → splice s 0 xs ≡ xs ++ drop (length xs) s
unfolding splice
splice_front s xs = let e : 0 + length xs ≡ length xs = omega arith in rw e

-- ---- read back
pub word_back : (x : ℕ) → x % 256 + 256 * (x / 256 % 256) + 65536 * (x / 65536 % 256) + 16777216 * (x / 16777216) ≡ x
word_back x = omega arith

pub u32_at_past : (p q : List ℕ) (at : ℕ) → u32_at (p ++ q) (length p + at) ≡ u32_at q at
unfolding u32_at
u32_at_past p q at = simp (add_assoc, get_or-append-add)

next : (k x : ℕ) → 4 * suc k ≡ length (bytes4 x) + 4 * k
next k x = omega (arith, length_bytes4 x)

pub words_read : (l t : List ℕ) (k : ℕ) → k < length l → number_at (words_of l ++ t) k ≡ get_or l k 0
unfolding joined bytes4 u32_at
words_read [] t k h = absurd (omega arith)
words_read (x ∷ l) t zero h = word_back x
words_read (x ∷ l) t (suc k) h = rw (next k x) (u32_at_past (bytes4 x) (words_of l ++ t) (4 * k) ∙ words_read l t k (omega arith))

-- ---- written over
pub splice_past : (p s : List ℕ) (at : ℕ) (xs : List ℕ) → splice (p ++ s) (length p + at) xs ≡ p ++ splice s at xs
unfolding splice
splice_past p s at xs =
    let e : length p + at + length xs ≡ length p + (at + length xs) = omega arith in
    rw (e, take-append-add, drop-append-add) (simp append_assoc)

splice_first : (xs ys s : List ℕ) → length xs ≡ length ys → splice (ys ++ s) 0 xs ≡ xs ++ s
unfolding splice
splice_first xs ys s e = let z : 0 + length xs ≡ length ys = omega arith in rw z (ap (λ (r : List ℕ). xs ++ r) (drop-append_seam ys s))

-- of pieces of one size, the one at a place
pub joined_write : {A : Type 0} (f : A → List ℕ) (size : ℕ) → ((x : A) → length (f x) ≡ size) → (l : List A) (t : List ℕ) (k : ℕ) (x : A) → k < length l
    → splice (joined f l ++ t) (size * k) (f x) ≡ joined f (set l k x) ++ t
unfolding joined
joined_write f size sz [] t k x h = absurd (omega arith)
joined_write f size sz (y ∷ l) t zero x h =
    let z : size * 0 ≡ 0 = omega arith in
    rw (append_assoc, z) (splice_first (f x) (f y) (joined f l ++ t) (omega (arith, sz x, sz y)) ∙ sym (append_assoc (f x) (joined f l) t))
joined_write f size sz (y ∷ l) t (suc k) x h =
    let e : size * suc k ≡ length (f y) + size * k = mul-suc size k ∙ omega (arith, sz y) in
    rw (append_assoc, e)
    (splice_past (f y) (joined f l ++ t) (size * k) (f x) ∙ rw (joined_write f size sz l t k x (omega arith)) (sym (append_assoc (f y) (joined f (set l k x)) t)))

pub words_write : (l t : List ℕ) (k x : ℕ) → k < length l → put_u32 (words_of l ++ t) (4 * k) x ≡ words_of (set l k x) ++ t
words_write = joined_write bytes4 4 length_bytes4

-- ---- a number that is put at a place
pub record PutAt (list list' : List ℕ) (i x : ℕ) : Type 0 where
  pub long : length list' ≡ length list
  pub before : (k : ℕ) → k < 4 * i → byte_at list' k ≡ byte_at list k
  pub there : number_at list' i ≡ x
  pub others : (k : ℕ) → (k ≡ i → ⊥) → number_at list' k ≡ number_at list k

pub put_at : {list list' : List ℕ} {i x : ℕ} → 4 * i + 4 ≤ length list → list' ≡ put_u32 list (4 * i) x → PutAt list list' i x
put_at {list} {list'} {i} {x} room e =
    record {
      long = rw e (length_splice list (4 * i) (bytes4 x) fits);
      before = λ k h. rw e (get_d_splice_before list (4 * i) (bytes4 x) k (omega arith) h);
      there = rw e (u32_at_bytes4 list (4 * i) x room);
      others = λ k d. rw e (other k d (three k i));
    }
  where
    fits : 4 * i + length (bytes4 x) ≤ length list
    fits = omega (arith, length_bytes4 x)

    other : (k : ℕ) → (k ≡ i → ⊥) → (k < i) ⊎ (k ≡ i) ⊎ (i < k) → number_at (put_u32 list (4 * i) x) k ≡ number_at list k
    other k d (inl l) = u32_at_splice_before list (4 * i) (bytes4 x) (4 * k) (omega arith) (omega arith)
    other k d (inr (inl q)) = absurd (d q)
    other k d (inr (inr l)) = u32_at_splice_after list (4 * i) (bytes4 x) (4 * k) fits (omega (arith, length_bytes4 x))
