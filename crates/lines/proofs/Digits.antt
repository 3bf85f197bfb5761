-- Digits as `io` has them, the hexadecimal ones in capitals.
use Prim.Native.Nat.{ℕ, zero, suc, ◌+◌, ◌-◌, ◌/◌, ◌%◌, ◌^◌, ◌≤◌, ◌<◌}
use native.Mathlib.Omega.{arith}
use native.Mathlib.Nat.{pow-suc, pow-le-pow_right}
use mathlib.Core.Path.{◌≡◌, refl, sym, ap, ◌∙◌}
use mathlib.Core.Bool.{Bool, true, false}
use mathlib.Core.List.{List, [], ◌∷◌, ◌++◌, append_assoc, append-nil, map, map-append}
use lib.Dec.{ltb}
use lib.ListN.{length, take, length-take}
use borrow.Author.Tests.{ltb-true, ltb-false, lt-ltb, le-ltb}
use Rattle.std.specs.Char.{to_ascii_uppercase}
use Rattle.std.proofs.lemmas.List.{take-map}
use Rattle.std.proofs.lemmas.Bool.Decides.{nat_tests}
use Rattle.io.specs.Digits.{hex_digit_ascii, last_digits, IsDigitCount}
use Rattle.lines.specs.Text.{decimal_from, decimal, glyph, hex_from, hex}

by_test : {P : Type 0} (b : Bool) (n m : ℕ) → ltb n m ≡ b → (n < m → P) → (m ≤ n → P) → P
by_test true n m e below above = below (ltb-true n m e)
by_test false n m e below above = above (ltb-false n m e)

pub below_or_not : {P : Type 0} (n m : ℕ) → (n < m → P) → (m ≤ n → P) → P
below_or_not n m below above = by_test (ltb n m) n m refl below above

-- ---- hexadecimal
capital : (d : ℕ) → d < 16 → to_ascii_uppercase (hex_digit_ascii d) ≡ glyph d
capital d h = grind (arith, nat_tests)

hex_from_is : (k n : ℕ) (rest : List ℕ) → hex_from k n rest ≡ map to_ascii_uppercase (last_digits 16 k n) ++ rest
unfolding hex_from
hex_from_is zero n rest = refl
hex_from_is (suc k) n rest =
    let xs = last_digits 16 k (n / 16) in
    let d = hex_digit_ascii (n % 16) in
    rw (map-append to_ascii_uppercase xs (d ∷ []), capital (n % 16) (omega arith), append_assoc (map to_ascii_uppercase xs) (glyph (n % 16) ∷ []) rest)
    (hex_from_is k (n / 16) (glyph (n % 16) ∷ rest))

length_hex_from : (k n : ℕ) (rest : List ℕ) → length (hex_from k n rest) ≡ k + length rest
unfolding hex_from
length_hex_from zero n rest = omega arith
length_hex_from (suc k) n rest = omega (arith, length_hex_from k (n / 16) (glyph (n % 16) ∷ rest))

pub hex_long : (n : ℕ) → length (hex n) ≡ 8
unfolding hex
hex_long n = length_hex_from 8 n []

hex_is : (n : ℕ) → map to_ascii_uppercase (last_digits 16 8 n) ≡ hex n
unfolding hex
hex_is n = sym (hex_from_is 8 n [] ∙ append-nil (map to_ascii_uppercase (last_digits 16 8 n)))

module _ {n k : ℕ} (small : n < 2 ^ 32) (f : IsDigitCount 16 8 n k) where
  eight : k ≡ 8
  eight =
      below_or_not 8 k
      (λ l. absurd (omega (arith, f.2 l, pow-le-pow_right {n = 16} (omega arith) {i = 8} {j = k - 1} (omega arith))))
      (λ l. omega (arith, f.0))

  pub hex_seen : (out low : List ℕ) → take k low ≡ last_digits 16 k n → out ≡ map to_ascii_uppercase low → take k out ≡ hex n
  hex_seen out low w m =
      ap (take k) m
      ∙ take-map to_ascii_uppercase k low
      ∙ ap (map to_ascii_uppercase) w
      ∙ ap (λ (j : ℕ). map to_ascii_uppercase (last_digits 16 j n)) eight
      ∙ hex_is n

  pub hex_few : (out low : List ℕ) → take k low ≡ last_digits 16 k n → out ≡ map to_ascii_uppercase low → length (take k out) ≡ 8
  hex_few out low w m = ap length (hex_seen out low w m) ∙ hex_long n

pub ruleset hexes = (hex_seen, hex_few)

-- ---- decimal
-- the fewest digits that hold a number are those of the definition
from_fewest : (k fuel n : ℕ) (rest : List ℕ) → k ≤ fuel → IsDigitCount 10 1 n k → decimal_from fuel n rest ≡ last_digits 10 k n ++ rest
unfolding decimal_from
from_fewest zero fuel n rest l f = absurd (omega (arith, f.0))
from_fewest (suc k) zero n rest l f = absurd (omega arith)
from_fewest (suc zero) (suc fuel) n rest l f =
    let h : n < 10 = omega (arith, f.1) in
    let e : n % 10 ≡ n = omega arith in
    rw (e, lt-ltb n 10 h)
from_fewest (suc (suc k)) (suc fuel) n rest l f =
    let e : suc (suc k) - 1 ≡ suc k = omega arith in
    let g : 10 ^ suc k ≤ n = rw e at (f.2 (omega arith)) in
    let h : 10 ≤ n = omega (arith, pow-le-pow_right {n = 10} (omega arith) {i = 1} {j = suc k} (omega arith)) in
    let d : n % 10 < 10 = omega arith in
    let later = from_fewest (suc k) fuel (n / 10) ((48 + n % 10) ∷ rest) (omega arith) (omega arith, omega (arith, f.1, pow-suc 10 (suc k)), λ m. let o : suc k - 1 ≡ k = omega arith in rw o (omega (arith, pow-suc 10 k))) in
    rw (le-ltb n 10 h, lt-ltb (n % 10) 10 d, append_assoc (last_digits 10 (suc k) (n / 10)) ((48 + n % 10) ∷ []) rest) later

module _ {n k : ℕ} (small : n < 2 ^ 32) (f : IsDigitCount 10 1 n k) where
  at_most_ten : k ≤ 10
  at_most_ten =
      below_or_not k 11
      (λ l. omega arith)
      (λ l. absurd (omega (arith, f.2 (omega arith), pow-le-pow_right {n = 10} (omega arith) {i = 10} {j = k - 1} (omega arith))))

  decimal_is : last_digits 10 k n ≡ decimal n
  unfolding decimal
  decimal_is = let l = at_most_ten in sym (from_fewest k 20 n [] (omega arith) f ∙ append-nil (last_digits 10 k n))

  pub decimal_seen : (out : List ℕ) → take k out ≡ last_digits 10 k n → take k out ≡ decimal n
  decimal_seen out w = w ∙ decimal_is

  pub decimal_few : (out : List ℕ) → take k out ≡ last_digits 10 k n → length (take k out) ≤ 10
  decimal_few out w = let l = at_most_ten in omega (arith, length-take k out)

pub ruleset decimals = (decimal_seen, decimal_few)
