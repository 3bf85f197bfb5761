-- The numbers of a list, those of them that stay, and their bytes.
use Prim.Native.Nat.{ℕ, zero, suc, ◌+◌, ◌-◌, ◌<◌, ◌≤◌}
use native.Mathlib.Omega.{arith}
use mathlib.Core.Path.{◌≡◌, refl, sym, ◌∙◌}
use mathlib.Core.Bool.{Bool, true, false, not}
use mathlib.Core.List.{List, [], ◌∷◌, ◌++◌, append_assoc, append-nil}
use lib.Dec.{T}
use lib.Ieee.Bits.{is_true}
use lib.ListN.{length, get_or, take, length-append}
use lib.Seq.{ext_get_or, get_or-take, length-take-le, take_at}
use Rattle.words.specs.Bytes.{byte_at, bytes4, joined, words_of, splice, put_u32, number_at}
use Rattle.words.specs.Rows.{has, collect}
use Rattle.words.proofs.TableRows.{length_rows, get_d_rows}
use Rattle.words.proofs.Collecting.{holds, collect_yes, collect_no}
use Rattle.words.proofs.Writing.{length_bytes4}
use Rattle.ship.specs.Decode.{decode}
use Rattle.touching.specs.Touching.{touches}
use Rattle.touching.specs.Reach.{Drops, drops, merged, MergedSound}
use Rattle.touching.proofs.Reaching.{has_at, has_which, merged_sound}
use Rattle.merging.specs.Merging.{numbers_in, staying}
use Rattle.merging.specs.Flood.{StandsIn}

-- ---- the numbers of a list
module _ (list : List ℕ) (n : ℕ) where
  pub number_is : (k : ℕ) → k < n → get_or (numbers_in list n) k 0 ≡ number_at list k
  number_is k h = let z : 0 + k ≡ k = omega arith in rw z at (get_d_rows (number_at list) n 0 k 0 h)

  pub numbers_have : (k : ℕ) → k < n → T (has (numbers_in list n) (number_at list k))
  numbers_have k h = rw (number_is k h) at (has_at (numbers_in list n) k (omega (arith, length_rows (number_at list) n 0)))

  pub numbers_which : (x : ℕ) → T (has (numbers_in list n) x) → StandsIn list 0 n x
  numbers_which x t =
      let r = has_which (numbers_in list n) x t in
      let small : r.0 < n = omega (arith, r.1, length_rows (number_at list) n 0) in
      record { place = r.0; low = omega arith; high = small; is = sym r.2 ∙ number_is r.0 small }

-- none of those from a up to b passes
collect_skip : (p : ℕ → Bool) (f : ℕ → List ℕ) (n d a : ℕ) → a + d ≤ n → ((j : ℕ) → a ≤ j → j < a + d → p j ≡ false)
    → collect p f a (n - a) ≡ collect p f (a + d) (n - (a + d))
collect_skip p f n zero a l h = let e : a + 0 ≡ a = omega arith in rw e
collect_skip p f n (suc d) a l h =
    let e : a + suc d ≡ a + 1 + d = omega arith in
    rw e (collect_no p f a n (omega arith) (h a (omega arith) (omega arith)) ∙ collect_skip p f n d (a + 1) (omega arith) (λ j b c. h j (omega arith) (omega arith)))

-- ---- bytes
pub words_snoc : (l : List ℕ) (x : ℕ) → words_of (l ++ x ∷ []) ≡ words_of l ++ bytes4 x
unfolding joined
words_snoc [] x = append-nil (bytes4 x)
words_snoc (y ∷ l) x = rw (words_snoc l x, append_assoc)

pub take_same : (m : ℕ) (s t : List ℕ) → length s ≡ length t → m ≤ length s → ((k : ℕ) → k < m → byte_at s k ≡ byte_at t k) → take m s ≡ take m t
take_same m s t long l e =
    let ls = length-take-le m s l in
    let lt = length-take-le m t (omega arith) in
    ext_get_or 0 (take m s) (take m t) (ls ∙ sym lt)
    (λ k h. get_or-take m s k 0 (omega arith) ∙ e k (omega arith) ∙ sym (get_or-take m t k 0 (omega arith)))

pub take_put : (s : List ℕ) (at x : ℕ) → at + 4 ≤ length s → take (at + 4) (put_u32 s at x) ≡ take at s ++ bytes4 x
unfolding splice
take_put s at x h =
    let l = length-take-le at s (omega arith) in
    take_at (take at s ++ bytes4 x) _ (at + 4) (length-append (take at s) (bytes4 x) ∙ rw (l, length_bytes4 x))

-- ---- what stays
module _ (file list : List ℕ) (n : ℕ) where
  abbrev pub Dropped : ℕ → Type 0
  Dropped j = Drops (touches (decode file)) (numbers_in list n) j

  abbrev pub stays : ℕ → Bool
  stays j = not (drops (touches (decode file)) (numbers_in list n) j)

  -- from place m on
  abbrev pub staying_from : ℕ → List ℕ
  staying_from m = collect stays (λ j. get_or (numbers_in list n) j 0 ∷ []) m (n - m)

  pub staying_all : staying file list n ≡ staying_from 0
  unfolding merged
  staying_all = let e : n - 0 ≡ n = omega arith in rw (length_rows (number_at list) n 0, e)

  module _ (j : ℕ) (h : j < n) where
    sound : MergedSound (touches (decode file)) (numbers_in list n)
    sound = merged_sound (touches (decode file)) (numbers_in list n)

    below : j < length (numbers_in list n)
    below = omega (arith, length_rows (number_at list) n 0)

    pub stays_yes : (Dropped j → ⊥) → stays j ≡ true
    stays_yes d = go (drops (touches (decode file)) (numbers_in list n) j) refl
      where
        go : (b : Bool) → drops (touches (decode file)) (numbers_in list n) j ≡ b → stays j ≡ true
        go true e = absurd (d (sound.chained j below (holds _ e)))
        go false e = rw e

    pub stays_no : Dropped j → stays j ≡ false
    stays_no d = rw (is_true (drops (touches (decode file)) (numbers_in list n) j) (sound.dropped j below d))

  -- the place m stays, and none of those after it up to m'
  pub staying_step : (m m' : ℕ) → m < m' → m' ≤ n → stays m ≡ true → ((j : ℕ) → m < j → j < m' → stays j ≡ false)
      → staying_from m ≡ number_at list m ∷ staying_from m'
  staying_step m m' a b e h =
      let q : m + 1 + (m' - (m + 1)) ≡ m' = omega arith in
      let skip = collect_skip stays (λ j. get_or (numbers_in list n) j 0 ∷ []) n (m' - (m + 1)) (m + 1) (omega arith) (λ j c d. h j (omega arith) (omega arith)) in
      collect_yes stays (λ j. get_or (numbers_in list n) j 0 ∷ []) m n (omega arith) e ∙ rw (number_is list n m (omega arith), skip, q)
