-- What a check that opens a ship file says: its refusal, or that it passed and what is handed out is the file.
use mathlib.Core.Path.{◌≡◌, refl, sym, ◌∙◌}
use mathlib.Core.List.{List}
use Prim.Native.Nat.{ℕ}
use Rattle.std.specs.Prelude.{Result, Ok, Err}
use Rattle.answers.specs.declared.Refusal.{Refusal}
use Rattle.answers.specs.Checks.{Check}
use Rattle.decks.specs.Opened.{opened}

-- ---- what a caller learns
pub opened_err : (c : Check) (s : List ℕ) {q : Refusal} → opened c s ≡ Err q → c ≡ Err q
opened_err (Ok passed) s h = cc
opened_err (Err e) s h = cc

pub opened_ok : (c : Check) (s : List ℕ) {t : List ℕ} → opened c s ≡ Ok t → (c ≡ Ok tt) × (t ≡ s)
opened_ok (Ok passed) s h = (refl, cc)
opened_ok (Err e) s h = (cc, cc)

-- r is what the check returned
module _ (c : Check) (s : List ℕ) {r : Result (List ℕ) Refusal} (asked : r ≡ opened c s) where
  pub open_no : {q : Refusal} → r ≡ Err q → c ≡ Err q
  open_no e = opened_err c s (sym asked ∙ e)

  pub open_yes : {t : List ℕ} → r ≡ Ok t → c ≡ Ok tt
  open_yes e = (opened_ok c s (sym asked ∙ e)).0

  pub open_same : {t : List ℕ} → r ≡ Ok t → t ≡ s
  open_same e = (opened_ok c s (sym asked ∙ e)).1

  pub was_opened : {t : List ℕ} → r ≡ Ok t → (c ≡ Ok tt) × (t ≡ s)
  was_opened e = (open_yes e, open_same e)

-- ---- what the check itself owes
pub opens_err : (c : Check) (s : List ℕ) {q : Refusal} → c ≡ Err q → Err q ≡ opened c s
opens_err c s e = rw e

pub opens_ok : (c : Check) (s : List ℕ) {t : List ℕ} → c ≡ Ok tt → t ≡ s → Ok t ≡ opened c s
opens_ok c s e f = rw (e, f)

pub ruleset opening = (opened_err, opened_ok, open_no, open_yes, open_same, opens_err, opens_ok)
