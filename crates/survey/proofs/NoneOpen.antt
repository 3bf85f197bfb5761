-- A seat to which no deck is open, as one that names a blocked deck: D is 0, no step has candidates, and no sample is tried.
use Prim.Native.Nat.{ℕ, zero, suc, ◌+◌, ◌≤◌, ◌<◌}
use mathlib.Core.Path.{◌≡◌, refl, sym, ap, ◌∙◌}
use mathlib.Core.Bool.{Bool, true, false, not, ◌&&◌}
use mathlib.Core.List.{List, []}
use native.Mathlib.Nat.{zero-mul}
use native.Mathlib.Omega.{arith}
use lib.Dec.{eqb}
use borrow.Author.Tests.{eqb-true, ne_eqb}
use Rattle.words.specs.Bytes.{all_ones}
use Rattle.words.specs.Rows.{collect, sum_of}
use Rattle.records.specs.Record.{unplaced_record}
use Rattle.survey.specs.Wishes.{choice_of, is_blocked, is_open}
use Rattle.survey.specs.View.{View}
use Rattle.survey.specs.Search.{turn_gives, candidates, Nowhere, first_step, record_of, seat_record}
use Rattle.survey.specs.Survey.{open_decks}
use Rattle.survey.proofs.Steps.{tried_before_is}

-- the named deck is blocked, and the others are not named
pub none_open : (blocked : List ℕ) (deck : ℕ) → (deck ≡ all_ones → ⊥) → is_blocked blocked deck ≡ true → (d : ℕ) → is_open blocked (choice_of deck) d ≡ false
unfolding is_open choice_of
none_open blocked deck named shut d = rw (ne_eqb deck all_ones named) (go (eqb deck d) refl (is_blocked blocked d) refl)
  where
    go : (same : Bool) → eqb deck d ≡ same → (b : Bool) → is_blocked blocked d ≡ b → (not b && same) ≡ false
    go same e true f = refl
    go false e false f = refl
    go true e false f = sym shut ∙ ap (is_blocked blocked) (eqb-true deck d e) ∙ f

module _ (v : View) (none : (d : ℕ) → d < v.decks → v.opens d ≡ false) where
  none_added : (f : ℕ → ℕ) (d n : ℕ) → d + n ≤ v.decks → sum_of v.opens f d n ≡ 0
  unfolding sum_of
  none_added f d zero l = refl
  none_added f d (suc n) l = rw (none d (omega arith)) (none_added f (d + 1) n (omega arith))

  none_collected : {A : Type 0} (f : ℕ → List A) (d n : ℕ) → d + n ≤ v.decks → collect v.opens f d n ≡ []
  unfolding collect
  none_collected f d zero l = refl
  none_collected f d (suc n) l = rw (none d (omega arith)) (none_collected f (d + 1) n (omega arith))

  pub no_deck_open : open_decks v ≡ 0
  no_deck_open = none_added (λ k. 1) 0 v.decks (omega arith)

  no_candidates : (s : ℕ) → candidates v s ≡ []
  no_candidates s = none_collected (turn_gives v.shown s) 0 v.decks (omega arith)

  pub found_nowhere : (s n : ℕ) → first_step v s n ≡ Nowhere
  unfolding first_step
  found_nowhere s zero = refl
  found_nowhere s (suc n) = rw (no_candidates s) (found_nowhere (s + 1) n)

  pub nothing_tried : (S : ℕ) → seat_record v S ≡ unplaced_record 0
  unfolding seat_record
  nothing_tried S = ap (record_of v S) (found_nowhere 0 S) ∙ ap unplaced_record (tried_before_is v S (λ s l. no_candidates s) ∙ rw no_deck_open (zero-mul _))
