-- A number is read back from its digits: no two numbers have the same ones.
use Prim.Native.Nat.{ℕ, zero, suc, ◌+◌, ◌-◌, ◌*◌, ◌/◌, ◌%◌, ◌^◌, ◌<◌}
use native.Mathlib.Omega.{arith}
use native.Mathlib.Nat.{pow-suc}
use mathlib.Core.Path.{◌≡◌, ap, ◌∙◌}
use mathlib.Core.Bool.{cond}
use mathlib.Core.List.{List, [], ◌∷◌}
use lib.Dec.{ltb}
use borrow.Author.Tests.{lt-ltb, le-ltb}
use Rattle.lines.specs.Text.{decimal_from, decimal, glyph, hex_from, hex}
use Rattle.lines.proofs.Digits.{below_or_not}

-- what a sign stands for
abbrev pub meant : ℕ → ℕ
meant c = cond (ltb c 58) (c - 48) (c - 55)

-- n, and then each sign in turn
unfoldable pub read_from : ℕ → ℕ → List ℕ → ℕ
read_from base n [] = n
read_from base n (c ∷ cs) = read_from base (n * base + meant c) cs

meant_low : (d : ℕ) → d < 10 → meant (48 + d) ≡ d
meant_low d h = rw (lt-ltb (48 + d) 58 (omega arith)) (omega arith)

meant_glyph : (d : ℕ) → d < 16 → meant (glyph d) ≡ d
meant_glyph d h =
    below_or_not d 10
    (λ l. rw (lt-ltb d 10 l) (meant_low d l))
    (λ l. rw (le-ltb d 10 l, le-ltb (55 + d) 58 (omega arith)) (omega arith))

hex_from_read : (k n : ℕ) (rest : List ℕ) → n < 16 ^ k → read_from 16 0 (hex_from k n rest) ≡ read_from 16 n rest
unfolding hex_from read_from
hex_from_read zero n rest h = let z : n ≡ 0 = omega arith in rw z
hex_from_read (suc k) n rest h =
    let e : n / 16 * 16 + meant (glyph (n % 16)) ≡ n = omega (arith, meant_glyph (n % 16) (omega arith)) in
    hex_from_read k (n / 16) (glyph (n % 16) ∷ rest) (omega (arith, pow-suc 16 k)) ∙ ap (λ (m : ℕ). read_from 16 m rest) e

pub hex_read : (n : ℕ) → n < 2 ^ 32 → read_from 16 0 (hex n) ≡ n
unfolding hex read_from
hex_read n h = hex_from_read 8 n [] (omega arith)

decimal_from_read : (fuel n : ℕ) (rest : List ℕ) → n < 10 ^ fuel → read_from 10 0 (decimal_from fuel n rest) ≡ read_from 10 n rest
unfolding decimal_from read_from
decimal_from_read zero n rest h = let z : n ≡ 0 = omega arith in rw z
decimal_from_read (suc fuel) n rest h =
    below_or_not n 10
    (λ l. let e : 0 * 10 + meant (48 + n) ≡ n = omega (arith, meant_low n l) in rw (lt-ltb n 10 l) (ap (λ (m : ℕ). read_from 10 m rest) e))
    (λ l.
    let e : n / 10 * 10 + meant (48 + n % 10) ≡ n = omega (arith, meant_low (n % 10) (omega arith)) in
    rw (le-ltb n 10 l) (decimal_from_read fuel (n / 10) ((48 + n % 10) ∷ rest) (omega (arith, pow-suc 10 fuel)) ∙ ap (λ (m : ℕ). read_from 10 m rest) e))

pub decimal_read : (n : ℕ) → n < 2 ^ 32 → read_from 10 0 (decimal n) ≡ n
unfolding decimal read_from
decimal_read n h = decimal_from_read 20 n [] (omega arith)
