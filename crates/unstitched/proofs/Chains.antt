-- Lists that lie end to end: where each begins, and what is mapped to another chain is a chain.
use Prim.Native.Nat.{ℕ, zero, suc, ◌+◌, ◌≤◌, ◌<◌}
use native.Mathlib.Omega.{arith}
use mathlib.Core.Path.{◌≡◌, sym, ap, ◌∙◌}
use mathlib.Core.Bool.{true, cond}
use lib.Dec.{eqb, ltb}
use borrow.Author.Tests.{eqb-true, eq-eqb, lt-ltb, le-ltb}
use Rattle.words.proofs.TableRows.{both}
use Rattle.ship.specs.declared.Extent.{Extent}
use Rattle.ship.specs.Questions.{end_to_end}

module _ (extent : ℕ → Extent) (total : ℕ) where
  -- where list j of n begins; list n would begin where all end
  unfoldable pub start_of : ℕ → ℕ → ℕ
  start_of n j = cond (ltb j n) (extent j).start total

  pub start_here : (n j : ℕ) → j < n → start_of n j ≡ (extent j).start
  unfolding start_of
  start_here n j h = simp (lt-ltb j n h)

  pub start_end : (n : ℕ) → start_of n n ≡ total
  unfolding start_of
  start_end n = let h : n ≤ n = omega arith in simp (le-ltb n n h)

  first_start : (next i n : ℕ) → end_to_end extent total next i n ≡ true → start_of (i + n) i ≡ next
  unfolding end_to_end
  first_start next i zero h = let e : i + 0 ≡ i = omega arith in rw e (start_end i ∙ sym (eqb-true next total h))
  first_start next i (suc n) h = start_here (i + suc n) i (omega arith) ∙ eqb-true (extent i).start next (both (eqb (extent i).start next) _ h).0

  after_list : (next i n : ℕ) → end_to_end extent total next i n ≡ true → (j : ℕ) → j < n → start_of (i + n) (i + j + 1) ≡ (extent (i + j)).start + (extent (i + j)).count
  unfolding end_to_end
  after_list next i zero h j b = absurd (omega arith)
  after_list next i (suc n) h zero b =
      let e : i + suc n ≡ i + 1 + n = omega arith in
      let z : i + 0 ≡ i = omega arith in
      rw (e, z) (first_start ((extent i).start + (extent i).count) (i + 1) n (both (eqb (extent i).start next) _ h).1)
  after_list next i (suc n) h (suc j) b =
      let e : i + suc n ≡ i + 1 + n = omega arith in
      let z : i + suc j ≡ i + 1 + j = omega arith in
      rw (e, z) (after_list ((extent i).start + (extent i).count) (i + 1) n (both (eqb (extent i).start next) _ h).1 j (omega arith))

  module _ (first n : ℕ) (h : end_to_end extent total first 0 n ≡ true) where
    pub start_first : start_of n 0 ≡ first
    start_first = let e : 0 + n ≡ n = omega arith in rw e at (first_start first 0 n h)

    pub start_next : (j : ℕ) → j < n → start_of n (j + 1) ≡ start_of n j + (extent j).count
    start_next j b =
        let e : 0 + n ≡ n = omega arith in
        let z : 0 + j ≡ j = omega arith in
        rw (start_here n j b) (rw (e, z) at (after_list first 0 n h j b))

-- new list j begins and ends at what the begin and the end of the old one are mapped to
pub record Mapped (m : ℕ → ℕ) (old new : Extent) : Type 0 where
  pub begins : new.start ≡ m old.start
  pub ends : new.start + new.count ≡ m (old.start + old.count)

pub chain_mapped : (m : ℕ → ℕ) (old new : ℕ → Extent) (total next i n : ℕ) → ((j : ℕ) → i ≤ j → j < i + n → Mapped m (old j) (new j))
    → end_to_end old total next i n ≡ true → end_to_end new (m total) (m next) i n ≡ true
unfolding end_to_end
chain_mapped m old new total next i zero e h = eq-eqb (m next) (m total) (ap m (eqb-true next total h))
chain_mapped m old new total next i (suc n) e h =
    let first = e i (omega arith) (omega arith) in
    let p = both (eqb (old i).start next) (end_to_end old total ((old i).start + (old i).count) (i + 1) n) h in
    let b : (new i).start ≡ m next = first.begins ∙ ap m (eqb-true (old i).start next p.0) in
    let later = chain_mapped m old new total ((old i).start + (old i).count) (i + 1) n (λ j a l. e j (omega arith) (omega arith)) p.1 in
    rw (eq-eqb (new i).start (m next) b, first.ends) later
