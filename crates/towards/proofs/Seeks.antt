-- The two loops of the search, over the decks of a step and over the steps: the first of what they give one after the other.
use Prim.Native.Nat.{ℕ, zero, suc, ◌+◌, ◌-◌, ◌<◌, ◌≤◌}
use mathlib.Core.Path.{◌≡◌, refl, sym, ap, ◌∙◌}
use mathlib.Core.Logic.{inl}
use mathlib.Core.Bool.{Bool, true, false}
use mathlib.Core.List.{List, [], ◌∷◌, ◌++◌}
use native.Mathlib.Omega.{arith}
use lib.ListN.{take}
use Rattle.geometry.specs.declared.Vec2.{Vec2}
use Rattle.words.specs.Rows.{collect, collect_all}
use Rattle.words.proofs.Collecting.{In, collect_yes, collect_no, collect_none}
use Rattle.answers.specs.Questions.{looks_at}
use Rattle.std.specs.Prelude.{Option, Some, None}
use Rattle.ship.specs.Layout.{decks_in}
use Rattle.ship.specs.Decode.{decode}
use Rattle.ship.proofs.ModelFacts.{decks_length}
use Rattle.towards.specs.declared.Place.{Place}
use Rattle.towards.specs.Towards.{deck_gives, step_gives, all_given, first_of}

-- the first of two lists, one after the other
abbrev or_else : Option Place → Option Place → Option Place
or_else None later = later
or_else (Some c) later = Some c

first_append : (l m : List Place) → first_of (l ++ m) ≡ or_else (first_of l) (first_of m)
first_append [] m = refl
first_append (c ∷ l) m = refl

-- it is all that is taken
pub taken_none : (l : List Place) → first_of l ≡ None → take 1 l ≡ []
taken_none [] e = refl
taken_none (c ∷ rest) e = cc

pub taken_first : (l : List Place) (c : Place) → first_of l ≡ Some c → take 1 l ≡ c ∷ []
taken_first [] c e = cc
taken_first (x ∷ rest) c e = let q : x ≡ c = cc in ap (λ (y : Place). y ∷ []) q

pub first_in : (l : List Place) (c : Place) → first_of l ≡ Some c → In c l
first_in [] c e = let z : ◌≡◌ {A = ℕ} 0 1 = cc in absurd (omega arith)
first_in (x ∷ rest) c e = inl cc

-- what the first numbers give is given first, if they give any
pub longer : (gives : ℕ → List Place) (c : Place) (n m i : ℕ) → n ≤ m → first_of (collect_all gives i n) ≡ Some c → first_of (collect_all gives i m) ≡ Some c
unfolding collect
longer gives c zero m i l e = cc
longer gives c (suc n) zero i l e = absurd (omega arith)
longer gives c (suc n) (suc m) i l e =
    first_append (gives i) (collect_all gives (i + 1) m)
    ∙ go (first_of (gives i)) (sym (first_append (gives i) (collect_all gives (i + 1) n)) ∙ e) (longer gives c n m (i + 1) (omega arith))
  where
    go : (r : Option Place) → or_else r (first_of (collect_all gives (i + 1) n)) ≡ Some c
        → (first_of (collect_all gives (i + 1) n) ≡ Some c → first_of (collect_all gives (i + 1) m) ≡ Some c) → or_else r (first_of (collect_all gives (i + 1) m)) ≡ Some c
    go None h later = later h
    go (Some x) h later = h

-- ---- a loop: `target` is the first of what the numbers from e on give, of those that pass the test
pub record Seeking (target : Option Place) (test : ℕ → Bool) (gives : ℕ → List Place) (n e : ℕ) : Type 0 where
  pub same : target ≡ first_of (collect test gives e (n - e))

module _ {target : Option Place} {test : ℕ → Bool} {gives : ℕ → List Place} {n e : ℕ} (h : Seeking target test gives n e) {count : ℕ} (all : count ≡ n) where
  pub seeking_none : count ≤ e → None ≡ target
  seeking_none l = sym (h.same ∙ rw (collect_none test gives e n (omega arith)))

  module _ (l : e < count) {r : Bool} (asked : r ≡ test e) where
    pub seeking_other : r ≡ false → Seeking target test gives n (e + 1)
    seeking_other t = record { same = h.same ∙ rw (collect_no test gives e n (omega arith) (sym asked ∙ t)) }

    module _ (t : r ≡ true) {hit : Option Place} (found : hit ≡ first_of (gives e)) where
      turn : target ≡ or_else hit (first_of (collect test gives (e + 1) (n - (e + 1))))
      turn =
          let later = collect test gives (e + 1) (n - (e + 1)) in
          let both : first_of (collect test gives e (n - e)) ≡ or_else (first_of (gives e)) (first_of later) =
          rw (collect_yes test gives e n (omega arith) (sym asked ∙ t)) (first_append (gives e) later) in
          h.same ∙ rw found both

      pub seeking_missed : hit ≡ None → Seeking target test gives n (e + 1)
      seeking_missed m = record { same = turn ∙ rw m }

      pub seeking_found : {c : Place} → hit ≡ Some c → Some c ≡ target
      seeking_found m = sym (turn ∙ rw m)

-- ---- `step_hit`
abbrev pub DeckSeeking : List ℕ → Vec2 → Vec2 → ℕ → ℕ → ℕ → Type 0
DeckSeeking file p direction deck s e =
    Seeking (first_of (step_gives (decode file) p direction deck s)) (looks_at deck) (deck_gives (decode file) p direction s) (decks_in file) e

pub decks_start : (file : List ℕ) (p direction : Vec2) (deck s : ℕ) → DeckSeeking file p direction deck s 0
unfolding step_gives
decks_start file p direction deck s = record { same = let e : decks_in file - 0 ≡ decks_in file = omega arith in rw (e, decks_length file) }

pub ruleset seeking_decks = (decks_start, seeking_none, seeking_other, seeking_missed, seeking_found)

-- ---- `first_hit`
abbrev pub StepSeeking : List ℕ → Vec2 → Vec2 → ℕ → ℕ → Type 0
StepSeeking file p direction deck t =
    Seeking (first_of (all_given (decode file) p direction deck)) (λ k. true) (step_gives (decode file) p direction deck) (decode file).steps t

pub steps_start : (file : List ℕ) (p direction : Vec2) (deck : ℕ) → StepSeeking file p direction deck 0
unfolding all_given
steps_start file p direction deck = record { same = let e : (decode file).steps - 0 ≡ (decode file).steps = omega arith in rw e }

module _ (file : List ℕ) (p direction : Vec2) (deck : ℕ) {t : ℕ} (h : StepSeeking file p direction deck t) {count : ℕ} (all : count ≡ (decode file).steps) (l : t < count)
    {hit : Option Place} (found : hit ≡ first_of (step_gives (decode file) p direction deck t)) where
  pub step_missed : hit ≡ None → StepSeeking file p direction deck (t + 1)
  step_missed m = seeking_missed h all l refl refl found m

  pub step_found : {c : Place} → hit ≡ Some c → Some c ≡ first_of (all_given (decode file) p direction deck)
  step_found m = seeking_found h all l refl refl found m

pub ruleset seeking_steps = (steps_start, seeking_none, step_missed, step_found)
