-- What a check that opens a ship file hands out: the first refusal, or the file.
use Rattle.std.specs.Prelude.{ℕ, List, Result, Ok, Err}
use Rattle.answers.specs.declared.Refusal.{Refusal}
use Rattle.answers.specs.Checks.{Check}

abbrev pub opened : Check → List ℕ → Result (List ℕ) Refusal
opened (Ok passed) file = Ok file
opened (Err refusal) file = Err refusal
