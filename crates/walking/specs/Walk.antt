-- A walk over the candidates of a step, in their order: where it came to, and what is left.
use Rattle.std.specs.Prelude.{ℕ, ◌+◌, ◌-◌, ◌≡◌, List, [], ◌∷◌, ◌++◌, Option}
use Rattle.hits.specs.declared.Candidate.{Candidate}
use Rattle.hits.specs.declared.Hit.{Hit}
use Rattle.hits.specs.Hits.{polygon_hit}
use Rattle.survey.specs.View.{Shown, View}
use Rattle.survey.specs.Search.{passes_on, passing, candidates_from, candidates, tried_from, tried_in}
use Rattle.walking.specs.declared.Next.{Next}
use Rattle.walking.specs.declared.Next.TheVariants.{Reached, Ended}
use Rattle.walking.specs.Sees.{CandidateIn}

-- the next polygon after c's that passes at its sample
unfoldable pub passing_after : Shown → Candidate → Option Hit
passing_after w c =
    polygon_hit (passes_on w c.step c.deck) c.sample (c.polygon + 1) (w.polygons c.deck - (c.polygon + 1))

-- the candidates of its step that come after c: on its deck, and on the decks after it
unfoldable pub candidates_after : View → Candidate → List Candidate
candidates_after v c =
    passing v.shown c.step c.deck c.sample (c.polygon + 1) (v.shown.polygons c.deck - (c.polygon + 1))
    ++ candidates_from v c.step (c.deck + 1) (v.decks - (c.deck + 1))

-- the samples tried in the turns that come after c's
unfoldable pub tried_after : View → Candidate → ℕ
tried_after v c = tried_from v c.step (c.deck + 1) (v.decks - (c.deck + 1))

-- what is left where the walk came to: the candidates, and the samples of the turns that it took on its last way and of those to come
abbrev pub left_of : View → Next → List Candidate
left_of v (Reached c tried) = c ∷ candidates_after v c
left_of v (Ended tried) = []

abbrev pub left_tried : View → Next → ℕ
left_tried v (Reached c tried) = tried + tried_after v c
left_tried v (Ended tried) = tried

abbrev pub NextIn : List ℕ → Next → Type 0
NextIn file (Reached c tried) = CandidateIn file c
NextIn file (Ended tried) = Unit {0}

-- the walk over these candidates, whose turns try so many samples, came to `next`
pub record Walked (file : List ℕ) (v : View) (l : List Candidate) (tried : ℕ) (next : Next) : Type 0 where
  pub left_is : l ≡ left_of v next
  pub tried_is : tried ≡ left_tried v next
  pub within : NextIn file next

-- over the decks of step s from d on, over the whole step, and after c
abbrev pub WalkedFrom : List ℕ → View → ℕ → ℕ → Next → Type 0
WalkedFrom file v s d next = Walked file v (candidates_from v s d (v.decks - d)) (tried_from v s d (v.decks - d)) next

abbrev pub WalkedStep : List ℕ → View → ℕ → Next → Type 0
WalkedStep file v s next = Walked file v (candidates v s) (tried_in v s) next

abbrev pub WalkedAfter : List ℕ → View → Candidate → Next → Type 0
WalkedAfter file v c next = Walked file v (candidates_after v c) (tried_after v c) next
