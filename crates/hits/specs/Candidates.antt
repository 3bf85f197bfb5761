-- A hit by its two numbers, and a candidate by its four.
use Rattle.std.specs.Prelude.{ℕ}
use Rattle.hits.specs.declared.Hit.{Hit}
use Rattle.hits.specs.declared.Candidate.{Candidate}

-- polygon k at sample i
abbrev pub hit : ℕ → ℕ → Hit
hit i k = record { sample = i; polygon = k }

-- polygon k at sample i of step s on deck d
abbrev pub candidate : ℕ → ℕ → ℕ → ℕ → Candidate
candidate s d i k = record { step = s; deck = d; sample = i; polygon = k }
