-- What the questions of `candidate_polygons` say of a query, and that a blocked deck that is named gives nothing.
use Prim.Native.Nat.{ℕ}
use mathlib.Core.Path.{◌≡◌, refl}
use mathlib.Core.Bool.{Bool, true, false, cond}
use mathlib.Core.List.{List, []}
use Rattle.geometry.specs.declared.Vec2.{Vec2}
use Rattle.words.specs.Bytes.{all_ones}
use Rattle.answers.specs.Questions.{question14, question17}
use Rattle.answers.proofs.Asking.{asked_yes, both_passed}
use Rattle.std.specs.Prelude.{Ok}
use Rattle.answers.specs.declared.Refusal.TheVariants.{WrongLength, CallFloatOutOfRange}
use Rattle.ship.specs.Layout.{decks_in}
use Rattle.ship.specs.Questions.{first_no}
use Rattle.survey.specs.Wishes.{is_blocked}
use Rattle.calls.specs.Closest.{question16, query_check}
use Rattle.calls.proofs.ClosestCalls.{blocked_finds_none}
use Rattle.candidates.specs.Candidates.{candidate_check, found_polygons}

-- ---- a check that passed: where the deck is there, all that a query asks has passed
pub query_asked : (file : List ℕ) (p : Vec2) (blocked : List ℕ) → candidate_check file p blocked ≡ Ok tt → (deck : ℕ) → question17 (decks_in file) deck ≡ true
    → query_check file p deck blocked ≡ Ok tt
unfolding candidate_check query_check
query_asked file p blocked passed deck there =
    let a = both_passed (first_no file) _ passed in
    let b = asked_yes (question14 blocked) WrongLength _ a.1 in
    let d = asked_yes (question16 p) CallFloatOutOfRange _ b.1 in
    rw (a.0, b.0, d.0, there)

-- ---- 'a blocked named deck .. gives nothing'
pub blocked_gives_nothing : (file : List ℕ) (p : Vec2) (deck : ℕ) (blocked : List ℕ) → (deck ≡ all_ones → ⊥) → is_blocked blocked deck ≡ true
    → found_polygons file p deck blocked ≡ []
unfolding found_polygons
blocked_gives_nothing file p deck blocked named shut = rw (blocked_finds_none file p deck blocked named shut) (nothing (question17 (decks_in file) deck))
  where
    nothing : (b : Bool) → ◌≡◌ {A = List ℕ} (cond b [] []) []
    nothing true = refl
    nothing false = refl
