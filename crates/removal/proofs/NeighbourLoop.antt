-- The loop that puts what stays of N into the output, a word an entry.
use Prim.Native.Nat.{ℕ, zero, suc, ◌+◌, ◌*◌, ◌≤◌, ◌<◌, ◌^◌}
use native.Mathlib.Omega.{arith}
use mathlib.Core.Path.{◌≡◌, refl, sym, ap, ◌∙◌}
use mathlib.Core.Bool.{Bool, true, false, cond}
use mathlib.Core.List.{List, ◌∷◌, ◌++◌}
use mir.Syntax.{w64}
use mir.Val.{Fits}
use lib.ListN.{length}
use Rattle.words.specs.Bytes.{bytes4, joined, words_of, put_u32, Put}
use Rattle.words.specs.Rows.{rows, collect}
use Rattle.words.proofs.Writing.{length_bytes4}
use Rattle.ship.specs.declared.Blocks.{Blocks}
use Rattle.ship.specs.Layout.{number_size, neighbour_entry}
use Rattle.ship.proofs.Facts.{sound}
use Rattle.unstitched.specs.declared.Stitches.{Stitches}
use Rattle.unstitched.specs.Removal.{keeps, written_as, kept_of}
use Rattle.unstitched.specs.NewFile.{kept_from, new_n}
use Rattle.ship.specs.Questions.{DeckOfPassed}
use Rattle.removal.proofs.PutLoop.{PiecesPut, pieces_all, pieces_none, pieces_no, pieces_room, pieces_yes}

module _ (which : Stitches) (s : List ℕ) (d : ℕ) (b : Blocks) where
  abbrev stays : ℕ → Bool
  stays k = keeps which d (neighbour_entry s b k)

  abbrev entry_bytes : ℕ → List ℕ
  entry_bytes k = bytes4 (written_as which d (neighbour_entry s b k))

  kept_words : (n i : ℕ) → words_of (kept_from which s d b i n) ≡ collect stays entry_bytes i n
  unfolding kept_from kept_of rows collect joined
  kept_words zero i = refl
  kept_words (suc n) i = go (stays i) (kept_words n (i + 1))
    where
      later : List ℕ
      later = kept_from which s d b (i + 1) n

      go : (t : Bool) → words_of later ≡ collect stays entry_bytes (i + 1) n
          → words_of (cond t (written_as which d (neighbour_entry s b i) ∷ later) later)
          ≡ cond t (entry_bytes i ++ collect stays entry_bytes (i + 1) n) (collect stays entry_bytes (i + 1) n)
      go true e = ap (λ (l : List ℕ). entry_bytes i ++ l) e
      go false e = e

-- the entries of N before i are done
pub record NeighboursPut (which : Stitches) (s : List ℕ) (d : ℕ) (b : Blocks) (out₀ : List ℕ) (at : ℕ) (out : List ℕ) (next i : ℕ) : Type 0 where
  pub inside : b.n + number_size * b.neighbours ≤ length s
  pub put : PiecesPut (stays which s d b) (entry_bytes which s d b) b.neighbours out₀ at out next i

module _ {which : Stitches} {s : List ℕ} {d : ℕ} {b : Blocks} {out₀ : List ℕ} {at : ℕ} where
  pub neighbours_all : DeckOfPassed s b → at + length (new_n which s d b) ≤ length out₀ → NeighboursPut which s d b out₀ at out₀ at 0
  neighbours_all deck room = record { inside = (sound deck).inside.n_inside; put = pieces_all (rw (kept_words which s d b b.neighbours 0) at room) }

  module _ {out : List ℕ} {next i : ℕ} (c : NeighboursPut which s d b out₀ at out next i) where
    pub neighbours_long : length out ≡ length out₀
    neighbours_long = c.put.long

    pub neighbours_none : b.neighbours ≤ i → Put out₀ at (new_n which s d b) out next
    neighbours_none h = rw (kept_words which s d b b.neighbours 0) (pieces_none c.put h)

    module _ (h : i < b.neighbours) where
      pub entry_inside : b.n + number_size * i + number_size ≤ length s
      entry_inside = omega (arith, c.inside)

      module _ {e : ℕ} {r : Bool} (read : e ≡ neighbour_entry s b i) (asked : r ≡ keeps which d e) where
        pub neighbours_no : r ≡ false → NeighboursPut which s d b out₀ at out next (i + 1)
        neighbours_no y = record { inside = c.inside; put = pieces_no c.put h (rw read at (sym asked ∙ y)) }

        module _ (y : r ≡ true) where
          stays_here : stays which s d b i ≡ true
          stays_here = rw read at (sym asked ∙ y)

          pub neighbours_room : next + number_size ≤ length out
          neighbours_room = rw length_bytes4 at (pieces_room c.put h stays_here)

          pub next_fits : length out₀ < 2 ^ 64 → Fits w64 (next + number_size)
          next_fits l = record { fits = omega (arith, neighbours_room, c.put.long) }

          pub neighbours_yes : {x : ℕ} {out' : List ℕ} → x ≡ written_as which d e → out' ≡ put_u32 out next x
              → NeighboursPut which s d b out₀ at out' (next + number_size) (i + 1)
          neighbours_yes w o =
              record { inside = c.inside; put = pieces_yes c.put h stays_here (o ∙ rw (w, read)) (rw length_bytes4) }

pub ruleset neighbours = (neighbours_all, neighbours_long, neighbours_none, entry_inside, neighbours_no, neighbours_room, next_fits, neighbours_yes)
