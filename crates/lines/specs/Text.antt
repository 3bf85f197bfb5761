-- Numbers and words as ASCII bytes.
use Rattle.std.specs.Prelude.{ℕ, zero, suc, ◌+◌, ◌/◌, ◌%◌, cond, List, [], ◌∷◌, ltb}

-- n's decimal digits, and then rest; the fuel is more digits than n has
unfoldable pub decimal_from : ℕ → ℕ → List ℕ → List ℕ
decimal_from zero n rest = rest
decimal_from (suc fuel) n rest =
    let more = decimal_from fuel (n / 10) ((48 + n % 10) ∷ rest) in
    cond (ltb n 10) ((48 + n) ∷ rest) more

-- with no zero in front; 20 digits are more than any number here has
unfoldable pub decimal : ℕ → List ℕ
decimal n = decimal_from 20 n []

-- 0 to 9, then A to F
abbrev pub glyph : ℕ → ℕ
glyph d = cond (ltb d 10) (48 + d) (55 + d)

-- the last k hexadecimal digits of n, and then rest
unfoldable pub hex_from : ℕ → ℕ → List ℕ → List ℕ
hex_from zero n rest = rest
hex_from (suc k) n rest = hex_from k (n / 16) (glyph (n % 16) ∷ rest)

-- a u32's bits: eight digits
unfoldable pub hex : ℕ → List ℕ
hex n = hex_from 8 n []
