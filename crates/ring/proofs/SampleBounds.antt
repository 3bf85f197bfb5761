-- Where samples and probes lie, for a reach of up to 1,000: in each component, a sample along a direction of size k at most 15,000 * k from its
-- centre, a ring sample 15,000, and a probe 1,000.
use mathlib.Core.Bool.{false}
use mathlib.Core.List.{List, []}
use Prim.Native.Nat.{ℕ, ◌+◌, ◌*◌, ◌^◌, ◌<◌, ◌≤◌}
use native.Mathlib.Omega.{arith}
use lib.Dec.{leb, leb→le}
use lib.IntN.{ℤ, pos, nat_abs}
use lib.ListN.{get_or}
use lib.Ieee.{Float, nan, inf, fin, up, down, of_bits}
use Rattle.geometry.specs.declared.Vec2.{Vec2}
use Rattle.geometry.specs.Plane.{add_of, sub_of}
use Rattle.geometry.specs.Bounds.{Within, PointWithin}
use Rattle.geometry.proofs.Bounds.{Held, held, by_test, add_within, sub_within, mul_within, div_within, of_int_within}
use Rattle.ring.specs.Sample.{pair_number, direction_a, direction_b, fraction_of, multiple, along_of, ring_direction, sample_of}
use Rattle.ring.specs.Probe.{none, probes, probe_of}
use Rattle.ring.proofs.Tests.{Tested, both, each}
use Rattle.ring.proofs.Sizes.{size}

sum_within : {k a b : ℕ} {p q : Vec2} → Held k → a + b ≤ k → PointWithin a p → PointWithin b q → PointWithin k (add_of p q)
sum_within H h p q = record { x = add_within H h p.x q.x; y = add_within H h p.y q.y }

-- ---- along a direction
-- binary32 holds the bounds that follow from a direction whose parts are at most k in size
pub record Bounding (k : ℕ) : Type 0 where
  pub once : Held (k * 1000)
  pub all : Held (k * 15000)
  pub sample : Held (2000000 + k * 15000)
  pub place : Held (3000000 + k * 15000)

module _ {k : ℕ} (B : Bounding k) {direction : Vec2} (d : PointWithin k direction) {reach : Float} (r : Within 1000 reach) {s : ℕ} (few : s < 16) where
  multiple_within : {part : Float} → Within k part → Within (k * 15000) (multiple part reach s)
  unfolding held
  multiple_within p =
      mul_within B.all (omega arith) (mul_within B.once (omega arith) p r) (of_int_within (by_test 15 tt) (pos s) (omega arith))

  pub along_within : {p : Vec2} → PointWithin 2000000 p → PointWithin (2000000 + k * 15000) (along_of p direction reach s)
  along_within w = sum_within B.sample (omega arith) w (record { x = multiple_within d.x; y = multiple_within d.y })

  -- section 5: a search is around p less the deck's offset, which is then added again
  pub place_along : {p offset : Vec2} → PointWithin 1000000 p → PointWithin 1000000 offset
      → PointWithin (3000000 + k * 15000) (add_of (along_of (sub_of p offset) direction reach s) offset)
  unfolding held
  place_along w o =
      sum_within B.place (omega arith)
      (along_within
      (record {
        x = sub_within (by_test 2000000 tt) (omega arith) w.x o.x;
        y = sub_within (by_test 2000000 tt) (omega arith) w.y o.y;
      })) o

-- ---- ring samples
fraction_within : (z : ℤ) → nat_abs z ≤ 2 ^ 24 → Within 1 (fraction_of z)
unfolding held of_bits
fraction_within z h =
    div_within (by_test 1 tt) false 1 (pos 24) (2 ^ 24) (omega arith) (omega arith) (omega arith)
    (of_int_within (by_test (2 ^ 24) tt) z h)

pub ring_within : (s i : ℕ) → PointWithin 1 (ring_direction s i)
ring_within s i =
    record {
      x = fraction_within (direction_a s i) (size (2 * pair_number s i));
      y = fraction_within (direction_b s i) (size (2 * pair_number s i + 1));
    }

bounds_of_ring : Bounding 1
unfolding held
bounds_of_ring = record { once = by_test 1000 tt; all = by_test 15000 tt; sample = by_test 2015000 tt; place = by_test 3015000 tt }

pub place_within : (p offset : Vec2) (reach : Float) (s i : ℕ) → s < 16 → Within 1000 reach → PointWithin 1000000 p → PointWithin 1000000 offset
    → PointWithin 3015000 (add_of (sample_of (sub_of p offset) reach s i) offset)
place_within p offset reach s i h r w o = place_along bounds_of_ring (ring_within s i) r h w o

-- ---- probes
unit : (x : Float) → Tested (Within 1 x)
unit nan = record { pass = false; holds = λ t. absurd t }
unit (inf s) = record { pass = false; holds = λ t. absurd t }
unit (fin s m e) = record { pass = leb (m * up e) (1 * down e); holds = λ t. record { bound = leb→le (m * up e) (1 * down e) t } }

multiples : (k : ℕ) → Within 1 (get_or (get_or probes k []) 0 none) × Within 1 (get_or (get_or probes k []) 1 none)
unfolding probes unit of_bits
multiples = (each [] probes (λ (m : List Float). both (unit (get_or m 0 none)) (unit (get_or m 1 none)))).holds tt

pub probe_within : (p : Vec2) (reach : Float) (k : ℕ) → k < 9 → Within 1000 reach → PointWithin 2000000 p
    → PointWithin 2001000 (probe_of p reach k)
unfolding held
probe_within p reach k h r w =
    sum_within (by_test 2001000 tt) (omega arith) w
    (record {
      x = mul_within (by_test 1000 tt) (omega arith) (multiples k).0 r;
      y = mul_within (by_test 1000 tt) (omega arith) (multiples k).1 r;
    })
