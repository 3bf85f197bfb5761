-- Document 01, 'The questions, in order, and the number for a no': questions asked one after the other, up to the first no.
use Rattle.std.specs.Prelude.{ℕ, zero, suc, ◌+◌, Bool, true, false, Result, Ok, Err}
use Rattle.answers.specs.declared.Refusal.{Refusal}

-- all questions passed, or the first that did not
abbrev pub Check : Type 0
Check = Result (Unit {0}) Refusal

-- a question with the refusal of its no, and what is asked after a yes
abbrev pub ask : Bool → Refusal → Check → Check
ask true refusal later = later
ask false refusal later = Err refusal

-- what is asked once the first have passed
abbrev pub after : Check → Check → Check
after (Ok passed) later = later
after (Err refusal) later = Err refusal

-- one check for each of the n numbers from i on, up to the first no
unfoldable pub check_each : (ℕ → Check) → ℕ → ℕ → Check
check_each check i zero = Ok tt
check_each check i (suc n) = after (check i) (check_each check (i + 1) n)
