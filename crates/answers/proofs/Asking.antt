-- Questions in their order: from what the tests found to the answer, from a passed chain back to each yes, and the loop over `check_each`.
use Prim.Native.Nat.{ℕ, zero, suc, ◌+◌, ◌-◌, ◌*◌, ◌/◌, ◌≤◌, ◌<◌}
use native.Mathlib.Omega.{arith}
use native.Mathlib.Nat.{le-div_iff_mul-le, div-lt_iff_lt-mul, mul_comm}
use mathlib.Core.Path.{◌≡◌, refl, sym, ap, ap₂, ◌∙◌}
use mathlib.Core.Bool.{Bool, true, false, not, or-false}
use mathlib.Core.List.{List}
use lib.Dec.{eqb, leb, ltb}
use lib.ListN.{length}
use borrow.Author.Tests.{not-true, not-false, eq-eqb, ne_eqb, le-leb, lt-leb, eqb-true, leb-true, leb-false}
use Rattle.words.specs.Bytes.{all_ones}
use Rattle.std.specs.Prelude.{Result, Ok, Err, IsErrAnd}
use Rattle.answers.specs.declared.Refusal.{Refusal}
use Rattle.answers.specs.Checks.{Check, ask, after, check_each}
use Rattle.answers.specs.Questions.{question14, question17, looks_at, question20}

-- ---- a question in its chain
pub ask_no : (refusal : Refusal) (b : Bool) (later : Check) → b ≡ false → Err refusal ≡ ask b refusal later
ask_no refusal b later e = rw e

pub ask_yes : (refusal : Refusal) (b : Bool) (later : Check) {v : Check} → b ≡ true → v ≡ later → v ≡ ask b refusal later
ask_yes refusal b later e f = f ∙ rw e

-- b was asked by a call, and r is what the call returned
pub said_no : {r b : Bool} → r ≡ b → not r ≡ true → b ≡ false
said_no {r} e f = sym e ∙ not-true r f

pub said_yes : {r b : Bool} → r ≡ b → not r ≡ false → b ≡ true
said_yes {r} e f = sym e ∙ not-false r f

-- the first part was asked by a call, and r is what it returned
module _ {r first : Check} (asked : r ≡ first) where
  pub after_no : (later : Check) {refusal : Refusal} {v : Check} → r ≡ Err refusal → v ≡ Err refusal → v ≡ after first later
  after_no later e f = f ∙ rw (sym asked ∙ e)

  pub after_yes : {later v : Check} → r ≡ Ok tt → v ≡ later → v ≡ after first later
  after_yes e f = f ∙ rw (sym asked ∙ e)

  pub said_passed : r ≡ Ok tt → first ≡ Ok tt
  said_passed e = sym asked ∙ e

-- ---- what a `?` hands on: v is what was asked
pub handed_on : {T : Type 0} {v : Result T Refusal} {refusal : Refusal} → IsErrAnd v (λ e. e ≡ refusal) → v ≡ Err refusal
handed_on {v = Ok x} h = absurd h
handed_on {v = Err e} h = ap Err h

pub ruleset asking = (ask_no, ask_yes, said_no, said_yes, after_no, after_yes, said_passed)

-- ---- a passed chain
pub asked_yes : (b : Bool) (refusal : Refusal) (later : Check) → ask b refusal later ≡ Ok tt → (b ≡ true) × (later ≡ Ok tt)
asked_yes true refusal later h = (refl, h)
asked_yes false refusal later h = (cc, cc)

pub both_passed : (first later : Check) → after first later ≡ Ok tt → (first ≡ Ok tt) × (later ≡ Ok tt)
both_passed (Ok passed) later h = (refl, h)
both_passed (Err refusal) later h = (cc, cc)

pub after_passed : (first : Check) → after first (Ok tt) ≡ first
after_passed (Ok passed) = refl
after_passed (Err refusal) = refl

-- ---- one check for each number
module _ (check : ℕ → Check) where
  each_from : (n i : ℕ) → check_each check i n ≡ Ok tt → (k : ℕ) → k < n → check (i + k) ≡ Ok tt
  unfolding check_each
  each_from zero i h k l = absurd (omega arith)
  each_from (suc n) i h zero l =
      let e : i + 0 ≡ i = omega arith in
      rw e (both_passed (check i) (check_each check (i + 1) n) h).0
  each_from (suc n) i h (suc k) l =
      let e : i + suc k ≡ i + 1 + k = omega arith in
      rw e (each_from n (i + 1) (both_passed (check i) (check_each check (i + 1) n) h).1 k (omega arith))

  pub each_passed : (n : ℕ) → check_each check 0 n ≡ Ok tt → (k : ℕ) → k < n → check k ≡ Ok tt
  each_passed n h k l = let e : 0 + k ≡ k = omega arith in rw e at (each_from n 0 h k l)

  passed_from : (n i : ℕ) → ((k : ℕ) → i ≤ k → k < i + n → check k ≡ Ok tt) → check_each check i n ≡ Ok tt
  unfolding check_each
  passed_from zero i h = refl
  passed_from (suc n) i h = rw (h i (omega arith) (omega arith)) (passed_from n (i + 1) (λ k a b. h k (omega arith) (omega arith)))

  pub passed_each : (n : ℕ) → ((k : ℕ) → k < n → check k ≡ Ok tt) → check_each check 0 n ≡ Ok tt
  passed_each n h = passed_from n 0 (λ k a b. h k (omega arith))

-- two checks that say the same of each number
pub each_same : (f g : ℕ → Check) → ((i : ℕ) → f i ≡ g i) → (n i : ℕ) → check_each f i n ≡ check_each g i n
unfolding check_each
each_same f g h zero i = refl
each_same f g h (suc n) i = ap₂ after (h i) (each_same f g h n (i + 1))

-- the numbers below i passed, so the answer for all is the answer for those from i on
pub record Checked (check : ℕ → Check) (n i : ℕ) : Type 0 where
  pub same : check_each check 0 n ≡ check_each check i (n - i)

pub checked_all : {check : ℕ → Check} {n : ℕ} → Checked check n 0
checked_all {check} {n} = record { same = let e : n - 0 ≡ n = omega arith in rw e }

module _ {check : ℕ → Check} {n i : ℕ} (t : Checked check n i) where
  pub checked_none : n ≤ i → Ok tt ≡ check_each check 0 n
  unfolding check_each
  checked_none h = let e : n - i ≡ zero = omega arith in sym (t.same ∙ rw e)

  module _ {r : Check} (h : i < n) (asked : r ≡ check i) where
    checked_step : check_each check 0 n ≡ after r (check_each check (i + 1) (n - (i + 1)))
    unfolding check_each
    checked_step = let e : n - i ≡ suc (n - (i + 1)) = omega arith in t.same ∙ rw (e, asked)

    pub checked_more : r ≡ Ok tt → Checked check n (i + 1)
    checked_more e = record { same = checked_step ∙ rw e }

    pub checked_stop : {refusal : Refusal} {v : Check} → r ≡ Err refusal → v ≡ Err refusal → v ≡ check_each check 0 n
    checked_stop e f = f ∙ sym (checked_step ∙ rw e)

pub ruleset checking = (checked_all, checked_none, checked_more, checked_stop)

-- ---- 14
module _ (blocked : List ℕ) where
  pub whole_is : eqb (length blocked) 32 ≡ question14 blocked
  unfolding question14
  whole_is = refl

  pub blocked_32 : question14 blocked ≡ true → length blocked ≡ 32
  unfolding question14
  blocked_32 e = eqb-true (length blocked) 32 e

-- ---- 17
module _ (decks : ℕ) {deck : ℕ} where
  pub any_deck : deck ≡ all_ones → eqb deck all_ones ≡ question17 decks deck
  unfolding question17
  any_deck e = simp (eq-eqb _ _ e)

  pub named_deck : (deck ≡ all_ones → ⊥) → ltb deck decks ≡ question17 decks deck
  unfolding question17
  named_deck n = simp (ne_eqb _ _ n)

pub ruleset named = (any_deck, named_deck)

pub below_none : (k : ℕ) → ltb k 0 ≡ false
below_none k = lt-leb (suc k) 0 (omega arith)

-- with no deck, none may be named
pub none_there : (deck : ℕ) → question17 0 deck ≡ eqb deck all_ones
unfolding question17
none_there deck = rw (below_none deck) (or-false (eqb deck all_ones))

-- ---- the decks that a search looks at
module _ {deck : ℕ} (d : ℕ) where
  pub looks_any : deck ≡ all_ones → eqb deck all_ones ≡ looks_at deck d
  unfolding looks_at
  looks_any e = simp (eq-eqb _ _ e)

  pub looks_named : (deck ≡ all_ones → ⊥) → eqb deck d ≡ looks_at deck d
  unfolding looks_at
  looks_named n = simp (ne_eqb _ _ n)

pub ruleset looks = (looks_any, looks_named)

-- ---- 20
module _ (bytes room : ℕ) where
  pub q20_no : room < bytes → question20 bytes room ≡ false
  unfolding question20
  q20_no l = lt-leb bytes room l

  pub q20_yes : bytes ≤ room → question20 bytes room ≡ true
  unfolding question20
  q20_yes l = le-leb bytes room l

  pub q20_fits : question20 bytes room ≡ true → bytes ≤ room
  unfolding question20
  q20_fits e = leb-true bytes room e

  pub q20_short : question20 bytes room ≡ false → room < bytes
  unfolding question20
  q20_short e = leb-false bytes room e

-- the product may not fit a number, so the code divides
pub room_is : (size count room : ℕ) → 0 < size → leb count (room / size) ≡ question20 (size * count) room
unfolding question20
room_is size count room pos = go (leb count (room / size)) refl
  where
    go : (b : Bool) → leb count (room / size) ≡ b → b ≡ leb (size * count) room
    go true e = sym (le-leb (size * count) room (rw (mul_comm size count) ((le-div_iff_mul-le pos).0 (leb-true count (room / size) e))))
    go false e = sym (lt-leb (size * count) room (rw (mul_comm size count) ((div-lt_iff_lt-mul pos).0 (leb-false count (room / size) e))))
