-- Where the parts of an input lie that passed question 21.
use Prim.Native.Nat.{ℕ, ◌+◌, ◌≤◌}
use native.Mathlib.Omega.{arith}
use mathlib.Core.Path.{◌≡◌}
use mathlib.Core.Bool.{true, ◌&&◌}
use mathlib.Core.List.{List}
use borrow.Author.Tests.{leb-true}
use lib.Dec.{leb}
use lib.ListN.{length}
use Rattle.words.specs.Bytes.{u32_at}
use Rattle.words.proofs.TableRows.{both}
use Rattle.lines.specs.Input.{question21}

module _ (input : List ℕ) (h : question21 input ≡ true) where
  sizes : (length input ≤ 65536) × (4 ≤ length input) × (4 + u32_at input 0 + 32 ≤ length input)
  unfolding question21
  sizes =
      let a = both (leb (length input) 65536) (leb 4 (length input) && leb (4 + u32_at input 0 + 32) (length input)) h in
      let b = both (leb 4 (length input)) (leb (4 + u32_at input 0 + 32) (length input)) a.1 in
      (leb-true _ _ a.0, leb-true _ _ b.0, leb-true _ _ b.1)

  pub has_length : 0 + 4 ≤ length input
  has_length = omega (arith, sizes.1)

  pub has_parts : {n : ℕ} → n ≡ u32_at input 0 → 4 + n + 32 ≤ length input
  has_parts e = omega (arith, e, sizes.2)

  -- what the caller of `file_end` has of the whole
  pub input_small : length input ≤ 65536
  input_small = sizes.0

pub ruleset parts = (has_length, has_parts)
