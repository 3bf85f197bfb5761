-- The first numbers of a slice: read, and one written over.
use Prim.Native.Nat.{ℕ, zero, suc, ◌*◌, ◌<◌, ◌≤◌}
use native.Mathlib.Omega.{arith}
use mathlib.Core.Path.{◌≡◌, refl, sym, ap, ◌∙◌}
use mathlib.Core.List.{List, ◌++◌}
use lib.ListN.{length, get_or, drop, set, replicate, length-append, length-drop, length-set, length-replicate, get_or-replicate}
use lib.Seq.{drop_at}
use Rattle.words.specs.Bytes.{number_at, bytes4, joined, words_of, put_u32}
use Rattle.words.proofs.Numbers.{length_words, words_read, words_write}
use Rattle.ship.specs.Layout.{number_size}
use Rattle.islands.specs.Walk.{no_label, Numbers}

-- what is made of numbers and a rest
module _ {n : ℕ} (l t : List ℕ) (long : length l ≡ n) {s : List ℕ} (e : s ≡ words_of l ++ t) where
  pub words_rest : drop (number_size * n) s ≡ t
  words_rest = rw e (drop_at (words_of l) t (number_size * n) (length_words l ∙ ap (λ (m : ℕ). number_size * m) long))

  pub words_numbers : Numbers n s
  words_numbers = record { numbers = l; long = long; bytes = e ∙ ap (λ (r : List ℕ). words_of l ++ r) (sym words_rest) }

-- ---- the first n of a slice
module _ {n : ℕ} {s : List ℕ} (h : Numbers n s) where
  pub number_read : (k : ℕ) → k < n → number_at s k ≡ get_or h.numbers k 0
  number_read k l = rw h.bytes (words_read h.numbers (drop (number_size * n) s) k (omega (arith, h.long)))

  module _ (k x : ℕ) (l : k < n) {s' : List ℕ} (put : s' ≡ put_u32 s (number_size * k) x) where
    written : s' ≡ words_of (set h.numbers k x) ++ drop (number_size * n) s
    written =
        put
        ∙ ap (λ (o : List ℕ). put_u32 o (number_size * k) x) h.bytes
        ∙ words_write h.numbers (drop (number_size * n) s) k x (omega (arith, h.long))

    pub number_written : Numbers n s'
    number_written = words_numbers (set h.numbers k x) (drop (number_size * n) s) (length-set h.numbers k x ∙ h.long) written

    pub rest_kept : drop (number_size * n) s' ≡ drop (number_size * n) s
    rest_kept = words_rest (set h.numbers k x) (drop (number_size * n) s) (length-set h.numbers k x ∙ h.long) written

-- ---- `no_labels`: its bytes
pub words_filled : (n : ℕ) → words_of (replicate n no_label) ≡ replicate (number_size * n) 255
unfolding joined bytes4
words_filled zero = refl
words_filled (suc n) =
    let e : number_size * suc n ≡ suc (suc (suc (suc (number_size * n)))) = omega arith in
    rw (e, words_filled n)

-- and then none has one
module _ (n : ℕ) (out : List ℕ) (room : number_size * n ≤ length out) {out' : List ℕ} (filled : out' ≡ words_of (replicate n no_label) ++ drop (number_size * n) out) where
  pub filled_numbers : Numbers n out'
  filled_numbers = words_numbers (replicate n no_label) (drop (number_size * n) out) (length-replicate n no_label) filled

  pub filled_rest : drop (number_size * n) out' ≡ drop (number_size * n) out
  filled_rest = words_rest (replicate n no_label) (drop (number_size * n) out) (length-replicate n no_label) filled

  pub filled_long : length out' ≡ length out
  filled_long = rw filled (simp (length-append, length_words, length-replicate, length-drop) (omega arith))

  pub filled_none : (k : ℕ) → k < n → number_at out' k ≡ no_label
  filled_none k l = rw filled (words_read (replicate n no_label) (drop (number_size * n) out) k (rw length-replicate l) ∙ get_or-replicate n k no_label 0 l)
