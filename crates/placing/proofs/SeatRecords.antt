-- The record of a placed seat, from what the functions that make it return.
use Prim.Native.Nat.{ℕ, ◌^◌}
use mathlib.Core.Path.{◌≡◌, subst}
use mathlib.Core.Bool.{not}
use lib.Dec.{T}
use lib.Ieee.{Float, binary32, is_nan, to_bits}
use Rattle.geometry.specs.declared.Vec2.{Vec2}
use Rattle.geometry.specs.declared.Height.{Height}
use Rattle.geometry.specs.declared.Height.TheVariants.{Known, None}
use Rattle.geometry.specs.Bounds.{HeightWithin}
use Rattle.geometry.proofs.Bounds.{not_nan}
use Rattle.hits.specs.declared.Candidate.{Candidate}
use Rattle.ship.specs.Packed.{packed_of}
use Rattle.survey.specs.Record.{height_kind, height_bits, record_at_place}

-- ---- `height_words`
module _ {g : Height} where
  pub height_none : g ≡ None → ◌≡◌ {A = ℕ × ℕ} (0, 0) (height_kind g, height_bits g)
  height_none e = rw e

  module _ {x : Float} (e : g ≡ Known x) where
    pub height_number : HeightWithin (2 ^ 121) g → T (not (is_nan x))
    height_number h = not_nan (subst (HeightWithin (2 ^ 121)) e h)

    pub height_known : ◌≡◌ {A = ℕ × ℕ} (1, to_bits binary32 x) (height_kind g, height_bits g)
    height_known = rw e

pub ruleset heights = (height_none, height_number, height_known)

-- ---- `placed_record`
pub record_made : (c : Candidate) (place : Vec2) (h : Height) (tried candidates : ℕ) {packed : ℕ} {words : ℕ × ℕ}
    → packed ≡ packed_of c.deck c.polygon → words ≡ (height_kind h, height_bits h)
    → record {
      polygon = packed;
      x = to_bits binary32 place.x;
      y = to_bits binary32 place.y;
      kind = words.0;
      height = words.1;
      step = c.step;
      sample = c.sample;
      tried = tried;
      candidates = candidates;
    }
    ≡ record_at_place c place h tried candidates
record_made c place h tried candidates e w = rw (e, w)
