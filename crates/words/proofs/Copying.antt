-- A loop that writes the bytes of a slice one by one, and parts put one after another.
use Prim.Native.Nat.{ℕ, ◌+◌, ◌≤◌, ◌<◌}
use native.Mathlib.Omega.{arith}
use native.Mathlib.Numerals.{add-one}
use native.Mathlib.Nat.{add_assoc}
use mathlib.Core.Path.{◌≡◌, refl, sym, ap, ◌∙◌}
use mathlib.Core.List.{List, [], ◌∷◌, ◌++◌}
use lib.ListN.{length, length-append, get_or, drop, set, length-set, drop_of_length-le}
use lib.Seq.{sets-eq, drop-cons}
use Rattle.words.specs.Bytes.{splice, Put}
use Rattle.words.proofs.Splice.{length_splice, splice_splice, splice_nil}

-- ---- a store
module _ (s : List ℕ) (at x : ℕ) (h : at < length s) where
  set_splice : set s at x ≡ splice s at (x ∷ [])
  unfolding splice
  set_splice = sets-eq (x ∷ []) s at (omega arith)

  pub store_first : (xs : List ℕ) → splice (set s at x) (at + 1) xs ≡ splice s at (x ∷ xs)
  store_first xs = rw set_splice (splice_splice s at (x ∷ []) (omega arith) xs)

-- ---- the bytes of a slice
-- What they write is what those from i on write into what stands there now.
pub record Copied (text₀ : List ℕ) (at : ℕ) (bytes text : List ℕ) (i : ℕ) : Type 0 where
  pub long : length text ≡ length text₀
  pub same : splice text₀ at bytes ≡ splice text (at + i) (drop i bytes)

module _ {text₀ : List ℕ} {at : ℕ} {bytes : List ℕ} where
  pub copied_all : Copied text₀ at bytes text₀ 0
  copied_all = record { long = refl; same = let e : at + 0 ≡ at = omega arith in rw e }

  module _ {text : List ℕ} {i : ℕ} (c : Copied text₀ at bytes text i) where
    pub copied_more : i < length bytes → at + length bytes ≤ length text₀ → Copied text₀ at bytes (set text (at + i) (get_or bytes i 0)) (i + 1)
    copied_more h fit =
        let l : length text ≡ length text₀ = c.long in
        let x = get_or bytes i 0 in
        let d : drop i bytes ≡ x ∷ drop (i + 1) bytes = rw add-one (drop-cons bytes i 0 h) in
        record {
          long = length-set text (at + i) x ∙ l;
          same = c.same ∙ ap (splice text (at + i)) d ∙ sym (store_first text (at + i) x (omega arith) (drop (i + 1) bytes)) ∙ rw add_assoc;
        }

    pub copied_none : length bytes ≤ i → text ≡ splice text₀ at bytes
    copied_none h = sym (c.same ∙ rw (drop_of_length-le bytes h, splice_nil))

pub ruleset copying = (copied_all, copied_more, copied_none)

-- ---- one part after another
pub put_put : {s t u : List ℕ} {at n m : ℕ} {xs ys : List ℕ} → Put s at xs t n → n ≤ length s → Put t n ys u m → Put s at (xs ++ ys) u m
put_put {s} {t} {u} {at} {n} {m} {xs} {ys} p room q =
    let fits : at + length xs ≤ length s = rw p.next_is at room in
    record {
      out_is = q.out_is ∙ rw (p.out_is, p.next_is) (splice_splice s at xs fits ys);
      next_is = q.next_is ∙ rw p.next_is (simp (length-append, add_assoc));
    }

pub put_long : {s t : List ℕ} {at n : ℕ} {xs : List ℕ} → Put s at xs t n → at + length xs ≤ length s → length t ≡ length s
put_long {s} {at = at} {xs = xs} p room = rw p.out_is (length_splice s at xs room)
