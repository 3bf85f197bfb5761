-- What the bit patterns of the specifications stand for.
use mathlib.Core.Path.{◌≡◌, refl}
use lib.IntN.{pos, neg_ℤ}
use lib.Ieee.{binary32, of_bits, of_int}
use Prim.Native.Nat.{◌^◌}
use Rattle.ring.specs.Probe.{none, plus, minus}

pub divisor : of_bits binary32 0x4b800000 ≡ of_int binary32 (pos (2 ^ 24))
unfolding of_bits of_int
divisor = refl

pub zero_multiple : none ≡ of_int binary32 (pos 0)
unfolding of_bits of_int
zero_multiple = refl

pub one_multiple : plus ≡ of_int binary32 (pos 1)
unfolding of_bits of_int
one_multiple = refl

pub minus_one_multiple : minus ≡ of_int binary32 (neg_ℤ (pos 1))
unfolding of_bits of_int
minus_one_multiple = refl
