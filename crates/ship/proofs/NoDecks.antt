-- A file with L 0: what it is asked, and that its model has no deck.
use Prim.Native.Nat.{ℕ, ◌<◌}
use native.Mathlib.Omega.{arith}
use mathlib.Core.Path.{◌≡◌, refl, sym, ◌∙◌}
use mathlib.Core.Bool.{Bool, true, false}
use mathlib.Core.List.{List, []}
use lib.Dec.{eqb}
use lib.ListN.{length}
use borrow.Author.Tests.{eqb-true}
use Rattle.answers.specs.declared.Refusal.TheVariants.{HeaderCut, ReachOutOfRange, StepsOutOfRange, TableCut, BlocksNotEndToEnd}
use Rattle.std.specs.Prelude.{Ok}
use Rattle.words.specs.Rows.{rows}
use Rattle.answers.specs.Checks.{ask, check_each}
use Rattle.answers.proofs.Asking.{asked_yes, after_passed}
use Rattle.ship.specs.Layout.{header_size, decks_in}
use Rattle.ship.specs.Decode.{decode}
use Rattle.ship.specs.Questions.{end_to_end, question1, question2, question3, question4, question5, question6, header_check, first_no, header_alone}

-- 2 passes, and 5 is 1 again
alone : (q1 q3 q4 q6 : Bool)
    → ask q1 HeaderCut (ask q3 ReachOutOfRange (ask q4 StepsOutOfRange (ask q1 TableCut (ask q6 BlocksNotEndToEnd (Ok tt)))))
    ≡ ask q1 HeaderCut (ask q3 ReachOutOfRange (ask q4 StepsOutOfRange (ask q6 BlocksNotEndToEnd (Ok tt))))
alone false q3 q4 q6 = refl
alone true q3 q4 q6 = refl

module _ (s : List ℕ) (none : decks_in s ≡ 0) where
  pub no_decks_asked : first_no s ≡ header_alone s
  unfolding first_no header_alone header_check question1 question2 question5 question6 end_to_end check_each
  no_decks_asked = rw none (after_passed _ ∙ alone (question1 s) (question3 s) (question4 s) (eqb header_size (length s)))

  -- 'question 6 then wants the file to end with its header'
  pub header_long : first_no s ≡ Ok tt → length s ≡ header_size
  unfolding header_alone
  header_long passed =
      let q1 = asked_yes (question1 s) HeaderCut _ (sym no_decks_asked ∙ passed) in
      let q3 = asked_yes (question3 s) ReachOutOfRange _ q1.1 in
      let q4 = asked_yes (question4 s) StepsOutOfRange _ q3.1 in
      sym (eqb-true header_size (length s) (asked_yes (eqb header_size (length s)) BlocksNotEndToEnd (Ok tt) q4.1).0)

  pub no_decks : (decode s).decks ≡ []
  unfolding decode rows
  no_decks = rw none

  pub no_deck_below : {d : ℕ} → d < length (decode s).decks → ⊥
  no_deck_below l = let bare : length (decode s).decks ≡ 0 = rw no_decks in omega arith
