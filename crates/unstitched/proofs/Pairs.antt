-- Laws of `pairs`: they are a chain, and those of lists in a row stand in a row.
use Prim.Native.Nat.{ℕ, zero, suc, ◌+◌, ◌*◌, ◌≤◌, ◌<◌}
use native.Mathlib.Omega.{arith}
use mathlib.Core.Path.{◌≡◌, refl, sym, subst, ap, ◌∙◌}
use mathlib.Core.Bool.{true}
use mathlib.Core.List.{List, [], ◌∷◌, ◌++◌}
use lib.ListN.{length, get_or}
use borrow.Author.Tests.{eq-eqb}
use Rattle.words.specs.Bytes.{bytes4, joined, words_of}
use Rattle.words.specs.Rows.{collect, collect_all, sum_of, sum_all}
use Rattle.words.proofs.Writing.{joined_append}
use Rattle.ship.specs.declared.Extent.{Extent}
use Rattle.ship.specs.Questions.{end_to_end}
use Rattle.unstitched.specs.NewFile.{pairs}

-- ---- lengths
abbrev pub total : List ℕ → ℕ
total [] = 0
total (n ∷ rest) = n + total rest

total_append : (xs ys : List ℕ) → total (xs ++ ys) ≡ total xs + total ys
total_append [] ys = omega arith
total_append (x ∷ xs) ys = omega (arith, total_append xs ys)

pub total_collect : (f : ℕ → List ℕ) (i n : ℕ) → total (collect_all f i n) ≡ sum_all (λ k. total (f k)) i n
unfolding collect sum_of
total_collect f i zero = refl
total_collect f i (suc n) = omega (arith, total_append (f i) (collect_all f (i + 1) n), total_collect f (i + 1) n)

pub pairs_length : (at : ℕ) (ls : List ℕ) → length (pairs at ls) ≡ 2 * length ls
unfolding pairs
pairs_length at [] = refl
pairs_length at (n ∷ rest) = omega (arith, pairs_length (at + n) rest)

-- ---- the pairs are a chain
pub pairs_chain : (extent : ℕ → Extent) (ls : List ℕ) (at i : ℕ)
    → ((j : ℕ) → j < length ls → ((extent (i + j)).start ≡ get_or (pairs at ls) (2 * j) 0) × ((extent (i + j)).count ≡ get_or (pairs at ls) (2 * j + 1) 0))
    → end_to_end extent (at + total ls) at i (length ls) ≡ true
unfolding end_to_end pairs
pairs_chain extent [] at i e = eq-eqb at (at + 0) (omega arith)
pairs_chain extent (n ∷ rest) at i e =
    let first = e 0 (omega arith) in
    let z : i + 0 ≡ i = omega arith in
    let start : (extent i).start ≡ at = rw z at first.0 in
    let count : (extent i).count ≡ n = rw z at first.1 in
    let t : at + total (n ∷ rest) ≡ at + n + total rest = omega arith in
    let later = pairs_chain extent rest (at + n) (i + 1)
    (λ j h. let a : i + suc j ≡ i + 1 + j = omega arith in
    let b : 2 * suc j ≡ suc (suc (2 * j)) = omega arith in
    let c : 2 * suc j + 1 ≡ suc (suc (2 * j + 1)) = omega arith in
    let p = e (suc j) (omega arith) in
    (rw (a, b) at p.0, rw (a, c) at p.1)) in
    simp (start, count, eq-eqb at at refl) (subst (λ (x : ℕ). end_to_end extent x (at + n) (i + 1) (length rest) ≡ true) (sym t) later)

-- ---- lists in a row
pairs_append : (at : ℕ) (xs ys : List ℕ) → pairs at (xs ++ ys) ≡ pairs at xs ++ pairs (at + total xs) ys
unfolding pairs
pairs_append at [] ys = let e : at + 0 ≡ at = omega arith in rw e
pairs_append at (n ∷ xs) ys =
    let e : at + (n + total xs) ≡ at + n + total xs = omega arith in
    rw e (rw (pairs_append (at + n) xs ys))

-- the words of the pairs of each number's lengths, which begin at that number's place
pub pairs_rows : (place : ℕ → ℕ) (lengths : ℕ → List ℕ) (i n : ℕ) → ((k : ℕ) → i ≤ k → k < i + n → place (k + 1) ≡ place k + total (lengths k))
    → words_of (pairs (place i) (collect_all lengths i n)) ≡ collect_all (λ k. words_of (pairs (place k) (lengths k))) i n
unfolding pairs collect joined
pairs_rows place lengths i zero e = refl
pairs_rows place lengths i (suc n) e =
    let first = e i (omega arith) (omega arith) in
    let later = pairs_rows place lengths (i + 1) n (λ k a l. e k (omega arith) (omega arith)) in
    ap words_of (pairs_append (place i) (lengths i) (collect_all lengths (i + 1) n))
    ∙ joined_append bytes4 (pairs (place i) (lengths i)) (pairs (place i + total (lengths i)) (collect_all lengths (i + 1) n))
    ∙ ap (λ (r : List ℕ). words_of (pairs (place i) (lengths i)) ++ r) (rw (← first) later)
