-- The entries of N that stay, counted from one number on.
use Prim.Native.Nat.{ℕ, zero, suc, ◌+◌, ◌-◌, ◌≤◌, ◌<◌}
use native.Mathlib.Omega.{arith}
use mathlib.Core.Path.{◌≡◌, sym, ap, ◌∙◌}
use mathlib.Core.Bool.{Bool, true, false, cond}
use mathlib.Core.List.{List, [], ◌∷◌}
use lib.ListN.{length, length-append}
use Rattle.words.specs.Rows.{rows}
use Rattle.words.proofs.Collecting.{left, none_left}
use Rattle.ship.specs.declared.Blocks.{Blocks}
use Rattle.ship.specs.Layout.{neighbour_entry}
use Rattle.unstitched.specs.declared.Stitches.{Stitches}
use Rattle.unstitched.specs.Removal.{keeps, written_as, kept_of}
use Rattle.unstitched.specs.NewFile.{kept_from}
use Rattle.unstitched.proofs.KeptLists.{kept_rows}

-- ---- the entries of N that stay
module _ (which : Stitches) (s : List ℕ) (d : ℕ) (b : Blocks) where
  abbrev entry : ℕ → ℕ
  entry = neighbour_entry s b

  module _ (i n : ℕ) where
    pub kept_yes : i < n → keeps which d (entry i) ≡ true
        → kept_from which s d b i (n - i) ≡ written_as which d (entry i) ∷ kept_from which s d b (i + 1) (n - (i + 1))
    unfolding kept_from kept_of rows
    kept_yes h e = rw (left n i h, e)

    pub kept_no : i < n → keeps which d (entry i) ≡ false → kept_from which s d b i (n - i) ≡ kept_from which s d b (i + 1) (n - (i + 1))
    unfolding kept_from kept_of rows
    kept_no h e = rw (left n i h, e)

    pub kept_none : n ≤ i → kept_from which s d b i (n - i) ≡ []
    unfolding kept_from kept_of rows
    kept_none h = rw (none_left n i h)

  -- a list of N after another
  pub kept_join : (n i m : ℕ) → length (kept_from which s d b i (n + m)) ≡ length (kept_from which s d b i n) + length (kept_from which s d b (i + n) m)
  unfolding kept_from
  kept_join n i m = ap length (kept_rows which d entry i n m) ∙ length-append (kept_of which d (rows entry i n)) (kept_of which d (rows entry (i + n) m))

  pub kept_few : (n i : ℕ) → length (kept_from which s d b i n) ≤ n
  unfolding kept_from kept_of rows
  kept_few zero i = omega arith
  kept_few (suc n) i = go (keeps which d (entry i)) (kept_few n (i + 1))
    where
      go : (t : Bool) → length (kept_from which s d b (i + 1) n) ≤ n
          → length (cond t (written_as which d (entry i) ∷ kept_from which s d b (i + 1) n) (kept_from which s d b (i + 1) n)) ≤ suc n
      go true h = omega arith
      go false h = omega arith

-- ---- `kept_in`: `kept` of the entries before i stay
pub record Counted (which : Stitches) (s : List ℕ) (d : ℕ) (b : Blocks) (first n kept i : ℕ) : Type 0 where
  pub same : length (kept_from which s d b first n) ≡ kept + length (kept_from which s d b i (first + n - i))
  pub low : kept + first ≤ i
  pub high : i ≤ first + n

module _ {which : Stitches} {s : List ℕ} {d : ℕ} {b : Blocks} {first n : ℕ} where
  pub counted_all : Counted which s d b first n 0 first
  counted_all = let e : first + n - first ≡ n = omega arith in record { same = rw e (omega arith); low = omega arith; high = omega arith }

  module _ {kept i : ℕ} (c : Counted which s d b first n kept i) where
    module _ {e : ℕ} {r : Bool} (h : i < first + n) (read : e ≡ neighbour_entry s b i) (asked : r ≡ keeps which d e) where
      pub counted_yes : r ≡ true → Counted which s d b first n (kept + 1) (i + 1)
      counted_yes y =
          let t : keeps which d (neighbour_entry s b i) ≡ true = rw read at (sym asked ∙ y) in
          record {
            same = c.same ∙ rw (kept_yes which s d b i (first + n) h t) (omega arith);
            low = omega (arith, c.low);
            high = omega arith;
          }

      pub counted_no : r ≡ false → Counted which s d b first n kept (i + 1)
      counted_no y =
          let t : keeps which d (neighbour_entry s b i) ≡ false = rw read at (sym asked ∙ y) in
          record { same = c.same ∙ rw (kept_no which s d b i (first + n) h t); low = omega (arith, c.low); high = omega arith }

    module _ (h : first + n ≤ i) where
      pub counted_none : kept ≡ length (kept_from which s d b first n)
      counted_none = sym (c.same ∙ rw (kept_none which s d b i (first + n) h) (omega arith))

      pub counted_few : kept ≤ n
      counted_few = omega (arith, c.low, c.high)

pub ruleset counting = (counted_all, counted_yes, counted_no, counted_none, counted_few)
