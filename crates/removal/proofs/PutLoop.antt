-- A loop that puts pieces of any lengths into the output, one after the other, for those of the numbers below n that pass a test.
use Prim.Native.Nat.{ℕ, ◌+◌, ◌-◌, ◌≤◌, ◌<◌}
use native.Mathlib.Omega.{arith}
use mathlib.Core.Path.{◌≡◌, refl, sym, ap, ◌∙◌}
use mathlib.Core.Bool.{Bool, true, false}
use mathlib.Core.List.{List}
use lib.ListN.{length, length-append}
use Rattle.words.specs.Bytes.{splice, Put}
use Rattle.words.specs.Rows.{collect}
use Rattle.words.proofs.Splice.{length_splice, splice_splice, splice_nil}
use Rattle.words.proofs.Collecting.{collect_yes, collect_no, collect_none}

-- what all pieces write is what those from i on write into what stands there now
pub record PiecesPut (p : ℕ → Bool) (f : ℕ → List ℕ) (n : ℕ) (out₀ : List ℕ) (at₀ : ℕ) (out : List ℕ) (at i : ℕ) : Type 0 where
  pub long : length out ≡ length out₀
  pub fits : at + length (collect p f i (n - i)) ≤ length out₀
  pub same : splice out₀ at₀ (collect p f 0 n) ≡ splice out at (collect p f i (n - i))
  pub ends : at + length (collect p f i (n - i)) ≡ at₀ + length (collect p f 0 n)

module _ {p : ℕ → Bool} {f : ℕ → List ℕ} {n : ℕ} {out₀ : List ℕ} {at₀ : ℕ} where
  pub pieces_all : at₀ + length (collect p f 0 n) ≤ length out₀ → PiecesPut p f n out₀ at₀ out₀ at₀ 0
  pieces_all h = let e : n - 0 ≡ n = omega arith in record { long = refl; fits = rw e h; same = rw e; ends = rw e }

  module _ {out : List ℕ} {at i : ℕ} (c : PiecesPut p f n out₀ at₀ out at i) where
    pub pieces_none : n ≤ i → Put out₀ at₀ (collect p f 0 n) out at
    pieces_none h =
        record {
          out_is = sym (c.same ∙ rw (collect_none p f i n h, splice_nil));
          next_is = sym (sym c.ends ∙ rw (collect_none p f i n h) (omega arith));
        }

    module _ (h : i < n) where
      pub pieces_no : p i ≡ false → PiecesPut p f n out₀ at₀ out at (i + 1)
      pieces_no e =
          let s = collect_no p f i n h e in
          record { long = c.long; fits = rw s at c.fits; same = rw s at c.same; ends = rw s at c.ends }

      module _ (e : p i ≡ true) where
        left_is : length (collect p f i (n - i)) ≡ length (f i) + length (collect p f (i + 1) (n - (i + 1)))
        left_is = ap length (collect_yes p f i n h e) ∙ length-append (f i) (collect p f (i + 1) (n - (i + 1)))

        pub pieces_room : at + length (f i) ≤ length out
        pieces_room = omega (arith, left_is, c.fits, c.long)

        pub pieces_yes : {out' : List ℕ} {at' : ℕ} → out' ≡ splice out at (f i) → at' ≡ at + length (f i) → PiecesPut p f n out₀ at₀ out' at' (i + 1)
        pieces_yes {out'} {at'} w q =
            let later = collect p f (i + 1) (n - (i + 1)) in
            record {
              long = rw w (length_splice out at (f i) pieces_room ∙ c.long);
              fits = omega (arith, left_is, c.fits);
              same = c.same ∙ ap (splice out at) (collect_yes p f i n h e) ∙ sym (splice_splice out at (f i) pieces_room later) ∙ rw (w, q);
              ends = omega (arith, left_is, c.ends);
            }
