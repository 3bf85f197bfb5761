-- The questions of a call: from a passed call to what its search needs.
use Prim.Native.Nat.{ℕ}
use mathlib.Core.Path.{◌≡◌}
use mathlib.Core.Bool.{true, false}
use mathlib.Core.List.{List}
use lib.Ieee.{eq}
use borrow.Author.Tests.{not-true}
use Rattle.geometry.specs.declared.Vec2.{Vec2}
use Rattle.geometry.specs.Plane.{zero32}
use Rattle.geometry.specs.Bounds.{PointWithin}
use Rattle.direction.specs.Direction.{squared_distance}
use Rattle.answers.specs.Questions.{question17}
use Rattle.answers.proofs.Asking.{asked_yes, both_passed}
use Rattle.std.specs.Prelude.{Ok}
use Rattle.answers.specs.declared.Refusal.TheVariants.{CallFloatOutOfRange, NoSuchDeck, NoDirection}
use Rattle.ship.specs.Layout.{decks_in}
use Rattle.ship.specs.Questions.{first_no}
use Rattle.calls.specs.Closest.{question16}
use Rattle.calls.proofs.Queries.{size_of_place}
use Rattle.towards.specs.Towards.{question22, towards_check}

-- ---- a passed call
pub record TowardsPassed (file : List ℕ) (p towards : Vec2) (deck : ℕ) : Type 0 where
  pub file_passed : first_no file ≡ Ok tt
  pub from_within : PointWithin 1000000 p
  pub to_within : PointWithin 1000000 towards
  pub yes17 : question17 (decks_in file) deck ≡ true
  pub apart : eq (squared_distance p towards) zero32 ≡ false

module _ (file : List ℕ) (p towards : Vec2) (deck : ℕ) where
  pub towards_yes : towards_check file p towards deck ≡ Ok tt → TowardsPassed file p towards deck
  unfolding towards_check question22
  towards_yes e =
      let f = both_passed (first_no file) _ e in
      let a = asked_yes (question16 p) CallFloatOutOfRange _ f.1 in
      let b = asked_yes (question16 towards) CallFloatOutOfRange _ a.1 in
      let c = asked_yes (question17 (decks_in file) deck) NoSuchDeck _ b.1 in
      let d = asked_yes (question22 p towards) NoDirection (Ok tt) c.1 in
      record {
        file_passed = f.0;
        from_within = size_of_place p a.0;
        to_within = size_of_place towards b.0;
        yes17 = c.0;
        apart = not-true (eq (squared_distance p towards) zero32) d.0;
      }

-- another file that passes, with as many decks
pub same_check : (file file' : List ℕ) (p towards : Vec2) (deck : ℕ) → first_no file' ≡ Ok tt → decks_in file' ≡ decks_in file
    → towards_check file p towards deck ≡ Ok tt → towards_check file' p towards deck ≡ Ok tt
unfolding towards_check
same_check file file' p towards deck a b e = rw (a, b) (both_passed (first_no file) _ e).1
