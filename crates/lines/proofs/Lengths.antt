-- No line is longer than 192 bytes, whatever its numbers: a number has at most 20 digits.
use Prim.Native.Nat.{ℕ, zero, suc, ◌+◌, ◌/◌, ◌%◌, ◌^◌, ◌≤◌}
use native.Mathlib.Omega.{arith}
use mathlib.Core.Bool.{Bool, true, false, cond}
use mathlib.Core.List.{List, [], ◌∷◌}
use lib.Dec.{eqb}
use lib.ListN.{length, length-append}
use borrow.Author.Tests.{lt-ltb, le-ltb}
use Rattle.records.specs.declared.SeatRecord.{SeatRecord}
use Rattle.records.specs.Record.{is_unplaced}
use Rattle.lines.specs.Text.{decimal_from, decimal, hex}
use Rattle.lines.specs.Lines.{height_field, placed_fields, none_fields, seat_line, end_line, refused_line}
use Rattle.lines.proofs.Digits.{below_or_not, hex_long}

from_long : (fuel n : ℕ) (rest : List ℕ) → length (decimal_from fuel n rest) ≤ fuel + length rest
unfolding decimal_from
from_long zero n rest = omega arith
from_long (suc fuel) n rest =
    below_or_not n 10
    (λ h. rw (lt-ltb n 10 h) (omega arith))
    (λ h. rw (le-ltb n 10 h) (omega (arith, from_long fuel (n / 10) ((48 + n % 10) ∷ rest))))

number_long : (n : ℕ) → length (decimal n) ≤ 20
unfolding decimal
number_long n = from_long 20 n []

height_long : (kind bits : ℕ) → length (height_field kind bits) ≤ 8
height_long kind bits = go (eqb kind 0)
  where
    go : (none : Bool) → length (cond none (45 ∷ []) (hex bits)) ≤ 8
    go true = omega arith
    go false = omega (arith, hex_long bits)

placed_long : (r : SeatRecord) → length (placed_fields r) ≤ 160
unfolding placed_fields
placed_long r =
    simp length-append
    (omega (
      arith,
      number_long (r.polygon / 2 ^ 24),
      number_long (r.polygon % 2 ^ 24),
      hex_long r.x,
      hex_long r.y,
      height_long r.kind r.height,
      number_long r.step,
      number_long r.sample,
      number_long r.tried,
      number_long r.candidates,
    ))

none_long : (r : SeatRecord) → length (none_fields r) ≤ 160
unfolding none_fields
none_long r = omega (arith, number_long r.tried)

pub seat_long : (i : ℕ) (r : SeatRecord) → length (seat_line i r) ≤ 192
unfolding seat_line
seat_long i r = simp length-append (omega (arith, number_long i, go (is_unplaced r)))
  where
    go : (unplaced : Bool) → length (cond unplaced (none_fields r) (placed_fields r)) ≤ 160
    go true = none_long r
    go false = placed_long r

pub end_long : (placed unplaced : ℕ) → length (end_line placed unplaced) ≤ 192
unfolding end_line
end_long placed unplaced = simp length-append (omega (arith, number_long placed, number_long unplaced))

pub refused_long : (number : ℕ) → length (refused_line number) ≤ 192
unfolding refused_line
refused_long number = simp length-append (omega (arith, number_long number))
