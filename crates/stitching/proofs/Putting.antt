-- One stitch point counted and written, and what a loop over a list of them says at its start, in a turn and at its end.
use Prim.Native.Nat.{ℕ, ◌+◌, ◌*◌, ◌/◌, ◌^◌, ◌≤◌, ◌<◌}
use native.Mathlib.Omega.{arith}
use mathlib.Core.Path.{◌≡◌, refl, sym, ap, ◌∙◌}
use mathlib.Core.List.{List, [], ◌∷◌, ◌++◌}
use mir.Syntax.{w64}
use mir.Val.{Fits}
use lib.ListN.{length, length-append}
use lib.Ieee.{binary32, to_bits}
use Rattle.geometry.specs.declared.Vec2.{Vec2}
use Rattle.geometry.proofs.Bounds.{not_nan}
use Rattle.words.specs.Bytes.{bytes4, joined, words_of, splice}
use Rattle.words.proofs.Splice.{length_splice, splice_splice, splice_nil}
use Rattle.words.proofs.Writing.{length_joined, joined_append}
use Rattle.stitching.specs.Points.{StitchPoint, stitch_size, stitch_bytes}
use Rattle.stitching.specs.Walk.{stitch_point, largest, counted, StitchesPut}

-- ---- lengths
pub length_stitch : (p : StitchPoint) → length (stitch_bytes p) ≡ stitch_size
unfolding stitch_bytes joined bytes4
length_stitch p = refl

pub length_stitches : (l : List StitchPoint) → length (joined stitch_bytes l) ≡ stitch_size * length l
length_stitches = length_joined stitch_bytes stitch_size length_stitch

-- ---- `put_point`
module _ (out : List ℕ) (n a b : ℕ) (p : Vec2) where
  pub point_counted : {r : ℕ} → length out / stitch_size ≤ n → r ≡ counted (n + 1) → StitchesPut (stitch_point a b p ∷ []) n out out r
  point_counted full e = record { count = e; long = refl; written = λ room. absurd (omega arith) }

  module _ (fits : n < length out / stitch_size) where
    pub point_room : stitch_size * n + stitch_size ≤ length out
    point_room = omega arith

    pub point_put : {out' : List ℕ} {x y : ℕ} → x ≡ a → y ≡ b → length out < 2 ^ 64
        → out' ≡ splice out (stitch_size * n) (words_of (x ∷ y ∷ to_bits binary32 p.x ∷ to_bits binary32 p.y ∷ []))
        → StitchesPut (stitch_point a b p ∷ []) n out out' (n + 1)
    unfolding stitch_bytes joined bytes4
    point_put d e small put = record { count = omega arith; long = ap length put ∙ length_splice out (stitch_size * n) _ (omega arith); written = λ room. put ∙ rw (d, e) }

pub ruleset point = (not_nan, point_counted, point_room, point_put)

-- ---- a count may be cut on the way
counted_on : (n x y : ℕ) → counted (counted (n + x) + y) ≡ counted (n + (x + y))
counted_on n x y = omega arith

-- ---- the loops: what the whole list counts and writes is what its rest counts and writes after n points
pub record Putting (whole : List StitchPoint) (n₀ : ℕ) (out₀ : List ℕ) (rest : List StitchPoint) (n : ℕ) (out : List ℕ) : Type 0 where
  pub long : length out ≡ length out₀
  pub small : length out₀ < 2 ^ 64
  pub fits : n ≤ largest
  pub count : counted (n₀ + length whole) ≡ counted (n + length rest)
  pub written : stitch_size * (n₀ + length whole) ≤ length out₀
      → (n + length rest ≡ n₀ + length whole)
      × (splice out₀ (stitch_size * n₀) (joined stitch_bytes whole) ≡ splice out (stitch_size * n) (joined stitch_bytes rest))

pub putting_start : (whole : List StitchPoint) {n : ℕ} {out : List ℕ} → Fits w64 n → length out < 2 ^ 64 → Putting whole n out whole n out
putting_start whole l small = record { long = refl; small = small; fits = omega (arith, l.fits); count = refl; written = λ room. (refl, refl) }

module _ {whole : List StitchPoint} {n₀ : ℕ} {out₀ : List ℕ} {n : ℕ} {out : List ℕ} where
  pub putting_long : {rest : List StitchPoint} → Putting whole n₀ out₀ rest n out → length out ≡ length out₀
  putting_long h = h.long

  pub putting_end : Putting whole n₀ out₀ [] n out → StitchesPut whole n₀ out₀ out n
  unfolding joined
  putting_end h =
      record { count = omega (arith, h.count); long = h.long; written = λ room. sym ((h.written room).1 ∙ splice_nil out (stitch_size * n)) }

  pub putting_turn : (xs rest : List StitchPoint) {n' : ℕ} {out' : List ℕ} → Putting whole n₀ out₀ (xs ++ rest) n out → StitchesPut xs n out out' n'
      → Putting whole n₀ out₀ rest n' out'
  putting_turn xs rest {n'} {out'} h t =
      let both = length-append xs rest in
      record {
        long = t.long ∙ h.long;
        small = h.small;
        fits = omega (arith, t.count);
        count = h.count ∙ rw (both, t.count) (sym (counted_on n (length xs) (length rest)));
        written = λ room.
            let w = h.written room in
            let here : stitch_size * (n + length xs) ≤ length out = omega (arith, w.0, h.long) in
            let next : n' ≡ n + length xs = omega (arith, t.count, h.small, h.long) in
            let bytes = length_stitches xs in
            let place : stitch_size * n + length (joined stitch_bytes xs) ≡ stitch_size * n' = omega arith in (
              omega (arith, w.0),
              w.1
                  ∙ rw joined_append
                  (sym (splice_splice out (stitch_size * n) (joined stitch_bytes xs) (omega arith) (joined stitch_bytes rest)) ∙ rw (← t.written here, place)),
            );
      }
