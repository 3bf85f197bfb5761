-- The choice among candidates: `choose`, and what the candidates of a step come to.
use mathlib.Core.Path.{◌≡◌, refl, sym, ◌∙◌}
use mathlib.Core.Bool.{Bool, true, false, cond}
use mathlib.Core.List.{List, [], ◌∷◌}
use Rattle.std.specs.Prelude.{Option, Some, None}
use Rattle.hits.specs.declared.Candidate.{Candidate}
use Rattle.survey.specs.declared.Wish.{Wish}
use Rattle.survey.specs.Wishes.{nearer}
use Rattle.survey.specs.View.{View}
use Rattle.survey.specs.Search.{better, best_of}
use Rattle.walking.specs.Sees.{CandidateWithin}
use Rattle.placing.specs.declared.Choice.{Choice}
use Rattle.placing.specs.Tally.{choose_with, shown_choice, best_from, BestWithin}

-- ---- `choose`
module _ (wish : Wish) (next : Choice) {best : Option Choice} where
  pub choose_first : best ≡ None → Some next ≡ choose_with wish best next
  unfolding choose_with
  choose_first e = rw e

  module _ {chosen : Choice} {r : Bool} (e : best ≡ Some chosen) (asked : r ≡ nearer wish next.height chosen.height) where
    pub choose_nearer : r ≡ true → Some next ≡ choose_with wish best next
    unfolding choose_with
    choose_nearer y = rw (e, sym asked ∙ y)

    pub choose_kept : r ≡ false → Some chosen ≡ choose_with wish best next
    unfolding choose_with
    choose_kept n = rw (e, sym asked ∙ n)

pub ruleset chooses = (choose_first, choose_nearer, choose_kept)

-- ---- whichever is chosen is within the bounds
pub chosen_within : (wish : Wish) (best : Option Choice) (next : Choice) → BestWithin best → CandidateWithin next.candidate next.place next.height
    → BestWithin (choose_with wish best next)
unfolding choose_with
chosen_within wish None next p q = q
chosen_within wish (Some chosen) next p q = go (nearer wish next.height chosen.height)
  where
    go : (n : Bool) → BestWithin (cond n (Some next) (Some chosen))
    go true = q
    go false = p

-- ---- what the candidates of a step come to
module _ (v : View) where
  best_from_some : (c : Candidate) (l : List Candidate) → best_from v (Some (shown_choice v c)) l ≡ Some (shown_choice v (best_of v c l))
  unfolding best_from best_of choose_with
  best_from_some c [] = refl
  best_from_some c (d ∷ l) = go (better v d c) (best_from_some d l) (best_from_some c l)
    where
      go : (b : Bool) → best_from v (Some (shown_choice v d)) l ≡ Some (shown_choice v (best_of v d l))
          → best_from v (Some (shown_choice v c)) l ≡ Some (shown_choice v (best_of v c l))
          → best_from v (cond b (Some (shown_choice v d)) (Some (shown_choice v c))) l ≡ Some (shown_choice v (best_of v (cond b d c) l))
      go true p q = p
      go false p q = q

  pub best_from_none : (c : Candidate) (l : List Candidate) → best_from v None (c ∷ l) ≡ Some (shown_choice v (best_of v c l))
  unfolding best_from choose_with
  best_from_none c l = best_from_some c l
