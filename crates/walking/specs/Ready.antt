-- What a search needs, and that a candidate is there, are propositions: they hold or not, and in one way.
use Rattle.std.specs.Prelude.{ℕ, List, Float}
use Rattle.std.specs.Float.{nan, inf, fin}
use native.Mathlib.Bridge.{le_prop}
use denote.Struct.Props as logic
use Rattle.std.specs.Coded as coded
use Rattle.geometry.specs.Bounds.{AtMost}
use Rattle.hits.specs.declared.Candidate.{Candidate}
use Rattle.survey.specs.declared.Seat.{Seat}
use Rattle.walking.specs.Sees.{CandidateIn}
use Rattle.walking.specs.Lists.{WalkReady}

at_most_prop : (k : ℕ) (x : Float) → IsProp (AtMost k x)
at_most_prop k nan = hlevel
at_most_prop k (inf s) = hlevel
at_most_prop k (fin s m e) = le_prop

pub ready_prop : (file blocked : List ℕ) (seat : Seat) (array : List ℕ) → IsProp (WalkReady file blocked seat array)
ready_prop file blocked seat array = hlevel (at_most_prop, coded.codes, logic.props)

pub candidate_prop : (file : List ℕ) (c : Candidate) → IsProp (CandidateIn file c)
candidate_prop file c = hlevel (logic.props)
