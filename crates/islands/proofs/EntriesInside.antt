-- Question 19: what a yes says.
use Prim.Native.Nat.{ℕ, ◌<◌}
use mathlib.Core.Path.{◌≡◌, sym, subst, ◌∙◌}
use mathlib.Core.Bool.{true, ◌||◌}
use mathlib.Core.Logic.{⊎_elim}
use lib.Dec.{T, eqb, ltb}
use lib.ListN.{length, get_or}
use borrow.Author.Tests.{eqb-true, ltb-true}
use Rattle.words.specs.Bytes.{all_ones}
use Rattle.words.proofs.TableRows.{every_at, or_cases}
use Rattle.ship.specs.Model.{Deck, corners_of}
use Rattle.islands.specs.Islands.{list_of, names, polygon_count, list_inside, polygon_inside, question19}
use Rattle.islands.proofs.ListLoops.{names_entry}

-- a yes: what a polygon names is one
pub names_inside : (deck : Deck) → question19 deck ≡ true → (a b : ℕ) → a < polygon_count deck → T (names deck a b) → b < polygon_count deck
unfolding question19 polygon_inside list_inside
names_inside deck passed a b l t =
    let n = polygon_count deck in
    let h = names_entry deck a b t in
    let list = list_of deck a h.corner in
    let x = get_or list h.entry.at 0 in
    let p = every_at (polygon_inside deck n) n passed a l in
    let q = every_at (λ c. list_inside n (list_of deck a c)) (length (corners_of deck a)) p h.corner h.there in
    let r = every_at (λ j. eqb (get_or list j 0) all_ones || ltb (get_or list j 0) n) (length list) q h.entry.at h.entry.there in
    subst (λ (m : ℕ). m < n) h.entry.is
    (⊎_elim (λ y. absurd (h.entry.polygon (sym h.entry.is ∙ eqb-true x all_ones y))) (λ y. ltb-true x n y) (or_cases (eqb x all_ones) (ltb x n) r))
