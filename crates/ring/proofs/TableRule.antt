-- The rule of the table of directions, by one test that antt computes, a step's row at a time.
use mathlib.Core.Path.{◌≡◌, ap, sym, ◌∙◌, fun_ext, subst₂}
use mathlib.Core.Bool.{Bool, true, false, ◌&&◌, beq}
use mathlib.Core.List.{List}
use Prim.Native.Nat.{ℕ, suc, ◌+◌, ◌*◌, ◌^◌, ◌<◌, ◌≤◌}
use native.Mathlib.Omega.{arith}
use lib.Dec.{T, ltb, ltb→lt, lt→ltb}
use lib.IntN.{ℤ, pos, neg_ℤ, ◌+ℤ◌, ◌-ℤ◌, ◌*ℤ◌}
use lib.Signed.{lt_z, ◌<ℤ◌}
use lib.ListN.{get_or, drop}
use lib.Seq.{get_or-drop}
use lib.Ieee.Fits.{and_i, and_l, and_r}
use Rattle.ring.specs.Table.{directions}
use Rattle.ring.specs.Sample.{pair_number}
use Rattle.ring.specs.Rule.{A, B, Near, TableRule}
use Rattle.ring.proofs.Tests.{Tested, both, at_most, same, from_one, below}

-- ---- the rule of step s, whose pairs are a i and b i
module _ (s : ℕ) (a b : ℕ → ℤ) where
  abbrev Circle : ℕ → Type 0
  Circle i = Near (a i *ℤ a i +ℤ b i *ℤ b i) (pos (2 ^ 48))

  abbrev Half : ℕ → Type 0
  Half i = (pos 0 <ℤ a i → (0 < i) × (i < 5 * (s + 1))) × ((0 < i) × (i < 5 * (s + 1)) → pos 0 <ℤ a i)

  abbrev Turned : ℕ → Type 0
  Turned i = Near (pos (2 ^ 24) *ℤ a (i + 1)) (a i *ℤ b 1 +ℤ b i *ℤ a 1) × Near (pos (2 ^ 24) *ℤ b (i + 1)) (b i *ℤ b 1 -ℤ a i *ℤ a 1)

  abbrev Ahead : Type 0
  Ahead = (a 0 ≡ pos 0) × (b 0 ≡ pos (2 ^ 24))

  abbrev Mirrored : Type 0
  Mirrored = 1 ≤ s → (a (10 * s) ≡ neg_ℤ (a 10)) × (b (10 * s) ≡ b 10)

  abbrev StepRule : Type 0
  StepRule =
      (Ahead × Mirrored) × (((i : ℕ) → i < suc (10 * s) → Circle i × Half i) × ((i : ℕ) → i < 10 * s → Turned i))

-- ---- its test
agree : (x y : Bool) → T (beq x y) → (T x → T y) × (T y → T x)
agree true true t = (λ u. u, λ u. u)
agree true false t = absurd t
agree false true t = absurd t
agree false false t = (λ u. u, λ u. u)

module _ (s : ℕ) (a b : ℕ → ℤ) where
  half : (i : ℕ) → Tested (Half s a b i)
  half i =
      let n = 5 * (s + 1) in
      let x = lt_z (pos 0) (a i) in
      let y = ltb 0 i in
      let z = ltb i n in
      record {
        pass = beq x (y && z);
        holds = λ t. (
          λ g. let u = (agree x (y && z) t).0 g.lt in (ltb→lt 0 i (and_l y z u), ltb→lt i n (and_r y z u)),
          λ g. record { lt = (agree x (y && z) t).1 (and_i y z (lt→ltb 0 i g.0) (lt→ltb i n g.1)) },
        );
      }

  step : Tested (StepRule s a b)
  step =
      both (both (both same same) (from_one (both same same)))
      (both (below (λ (i : ℕ). both at_most (half i))) (below (λ (i : ℕ). both at_most at_most)))

-- ---- a step's numbers are looked up in its row, a tenth as far in as in the table
unfoldable row : ℕ → List ℤ
row s = drop (2 * pair_number s 0) directions

abbrev row_a : List ℤ → ℕ → ℤ
row_a r i = get_or r (2 * i) (pos 0)

abbrev row_b : List ℤ → ℕ → ℤ
row_b r i = get_or r (2 * i + 1) (pos 0)

all_steps : (s : ℕ) → s < 16 → StepRule s (row_a (row s)) (row_b (row s))
unfolding directions row step half
all_steps = (below (λ (s : ℕ). step s (row_a (row s)) (row_b (row s)))).holds tt

in_row : (s j n : ℕ) → n ≡ 2 * pair_number s 0 + j → get_or (row s) j (pos 0) ≡ get_or directions n (pos 0)
unfolding row
in_row s j n e = get_or-drop (2 * pair_number s 0) directions j (pos 0) ∙ ap (λ (m : ℕ). get_or directions m (pos 0)) (sym e)

step_rule : (s : ℕ) → s < 16 → StepRule s (A s) (B s)
step_rule s h =
    subst₂ (StepRule s)
    (fun_ext (λ (i : ℕ). in_row s (2 * i) (2 * pair_number s i) (omega arith)))
    (fun_ext (λ (i : ℕ). in_row s (2 * i + 1) (2 * pair_number s i + 1) (omega arith)))
    (all_steps s h)

pub table_rule : TableRule
table_rule =
    record {
      circle = λ s i h k. ((step_rule s h).1.0 i (omega arith)).0;
      ahead = λ s h. (step_rule s h).0.0;
      turned = λ s i h k. (step_rule s h).1.1 i k;
      half = λ s i h k. ((step_rule s h).1.0 i (omega arith)).1;
      mirrored = λ s g h. (step_rule s h).0.1 g;
    }
