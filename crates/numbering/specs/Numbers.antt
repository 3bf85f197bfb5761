-- The packed numbers of the candidates of a step, and which of them drop out (document 01, section 8, `candidate_polygons`).
use Rattle.std.specs.Prelude.{ℕ, Bool, List, map}
use Rattle.hits.specs.declared.Candidate.{Candidate}
use Rattle.ship.specs.Decode.{decode}
use Rattle.ship.specs.Packed.{packed_of}
use Rattle.survey.specs.declared.Seat.{Seat}
use Rattle.survey.specs.Search.{candidates}
use Rattle.touching.specs.Touching.{touches}
use Rattle.touching.specs.Reach.{within, drops, merged}
use Rattle.walking.specs.Sees.{seen_by}
use Rattle.walking.specs.declared.Search.{Search}
use Rattle.walking.specs.declared.Step.{Step}

abbrev pub packed_candidate : Candidate → ℕ
packed_candidate c = packed_of c.deck c.polygon

-- those of step s, in order
unfoldable pub step_numbers : List ℕ → List ℕ → Seat → ℕ → List ℕ
step_numbers file blocked seat s = map packed_candidate (candidates (seen_by file blocked seat) s)

-- whether at most t hops through them lead from a to b, whether number j drops out, and those that stay
abbrev pub step_reach : List ℕ → List ℕ → Seat → ℕ → ℕ → ℕ → ℕ → Bool
step_reach file blocked seat s t a b = within (touches (decode file)) (step_numbers file blocked seat s) t a b

abbrev pub step_drops : List ℕ → List ℕ → Seat → ℕ → ℕ → Bool
step_drops file blocked seat s j = drops (touches (decode file)) (step_numbers file blocked seat s) j

abbrev pub step_merged : List ℕ → List ℕ → Seat → ℕ → List ℕ
step_merged file blocked seat s = merged (touches (decode file)) (step_numbers file blocked seat s)

-- ---- the same of a search, and of a step of it
abbrev pub searched : Search → ℕ → List ℕ
searched search s = step_numbers search.ship.now search.blocked.now search.seat s

abbrev pub numbers_of : Step → List ℕ
numbers_of step = searched step.search.now step.number

abbrev pub reach_of : Step → ℕ → ℕ → ℕ → Bool
reach_of step t a b = step_reach step.search.now.ship.now step.search.now.blocked.now step.search.now.seat step.number t a b

abbrev pub drops_of : Step → ℕ → Bool
drops_of step j = step_drops step.search.now.ship.now step.search.now.blocked.now step.search.now.seat step.number j

abbrev pub merged_of : Step → List ℕ
merged_of step = step_merged step.search.now.ship.now step.search.now.blocked.now step.search.now.seat step.number
