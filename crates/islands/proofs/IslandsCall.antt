-- `bake_islands_detection`: its questions in their order, and its reply.
use Prim.Native.Nat.{ℕ, ◌*◌, ◌<◌, ◌≤◌}
use native.Mathlib.Omega.{arith}
use mathlib.Core.Path.{◌≡◌, refl, sym, ap, ◌∙◌}
use mathlib.Core.Bool.{Bool, true, false}
use mathlib.Core.List.{List}
use lib.ListN.{length}
use borrow.Author.Tests.{lt-ltb, le-ltb, ltb-true}
use Rattle.words.proofs.Numbers.{length_words}
use Rattle.words.proofs.TableRows.{length_rows}
use Rattle.answers.specs.Checks.{ask}
use Rattle.answers.specs.Questions.{question20}
use Rattle.answers.proofs.Asking.{asked_yes, both_passed, q20_short, q20_fits}
use Rattle.answers.proofs.Replying.{worked_refused, worked_narrow, worked_short, worked_written}
use Rattle.std.specs.Prelude.{Result, Ok, Err}
use Rattle.answers.specs.declared.Refusal.{Refusal}
use Rattle.answers.specs.declared.Refusal.TheVariants.{NoSuchDeck, NoSuchNeighbour, NoRoom}
use Rattle.ship.specs.Layout.{number_size, decks_in}
use Rattle.ship.specs.Model.{Deck, deck_of}
use Rattle.ship.specs.Decode.{decode}
use Rattle.ship.specs.Questions.{first_no}
use Rattle.decks.specs.Opened.{opened}
use Rattle.decks.proofs.Opening.{open_no, open_yes, open_same}
use Rattle.islands.specs.Labels.{label_by, labels_by}
use Rattle.islands.specs.Islands.{names, polygon_count, deck_labels, question17_islands, question19, islands_check, islands_reply, IslandsWorked, LabelsLeast}
use Rattle.islands.specs.Walk.{LabelReady, LabelsPut}
use Rattle.islands.proofs.Through.{labels_by_lem}
use Rattle.islands.proofs.EntriesInside.{names_inside}

-- ---- `islands_check`
-- r is what the opening returned
module _ (file : List ℕ) (deck : ℕ) {r : Result (List ℕ) Refusal} (asked : r ≡ opened (first_no file) file) where
  pub file_refused : {refusal : Refusal} → r ≡ Err refusal → islands_check file deck ≡ Err refusal
  unfolding islands_check
  file_refused e = rw (open_no (first_no file) file asked e)

  -- the ship has so many decks
  module _ {ship : List ℕ} (passed : r ≡ Ok ship) {decks : ℕ} (all : decks ≡ decks_in ship) where
    pub deck_refused : decks ≤ deck → islands_check file deck ≡ Err NoSuchDeck
    unfolding islands_check question17_islands
    deck_refused l = rw (open_yes (first_no file) file asked passed, le-ltb deck (decks_in file) (rw (← open_same (first_no file) file asked passed, ← all) l))

    module _ (l : deck < decks) {it : Deck} (is : it ≡ deck_of (decode ship) deck) {inside : Bool} (said : inside ≡ question19 it) where
      entries_asked : islands_check file deck ≡ ask inside NoSuchNeighbour (Ok tt)
      unfolding islands_check question17_islands
      entries_asked =
          rw (open_yes (first_no file) file asked passed, lt-ltb deck (decks_in file) (rw (← open_same (first_no file) file asked passed, ← all) l), said, is, open_same (first_no file) file asked passed)

      pub entries_refused : inside ≡ false → islands_check file deck ≡ Err NoSuchNeighbour
      entries_refused e = entries_asked ∙ rw e

      pub islands_passed : inside ≡ true → islands_check file deck ≡ Ok tt
      islands_passed e = entries_asked ∙ rw e

-- ---- the questions passed
record IslandsYes (file : List ℕ) (deck : ℕ) : Type 0 where
  file_yes : first_no file ≡ Ok tt
  deck_in : deck < decks_in file
  entries_yes : question19 (deck_of (decode file) deck) ≡ true

islands_yes : (file : List ℕ) (deck : ℕ) → islands_check file deck ≡ Ok tt → IslandsYes file deck
unfolding islands_check question17_islands
islands_yes file deck passed =
    let f = both_passed (first_no file) _ passed in
    let d = asked_yes (question17_islands file deck) NoSuchDeck _ f.1 in
    let e = asked_yes (question19 (deck_of (decode file) deck)) NoSuchNeighbour (Ok tt) d.1 in
    record { file_yes = f.0; deck_in = ltb-true deck (decks_in file) d.0; entries_yes = e.0 }

pub labels_least : (file : List ℕ) (deck : ℕ) → LabelsLeast file deck
unfolding deck_labels
labels_least file deck passed =
    let d = deck_of (decode file) deck in
    labels_by_lem (names d) (names_inside d (islands_yes file deck passed).entries_yes)

-- ---- the reply: 4 bytes a label, and a label a polygon
pub islands_long : (file : List ℕ) (deck : ℕ) → length (islands_reply file deck).bytes ≡ number_size * (islands_reply file deck).count
islands_long file deck = length_words (deck_labels (deck_of (decode file) deck))

pub labels_many : (deck : Deck) → length (deck_labels deck) ≡ polygon_count deck
unfolding deck_labels labels_by
labels_many deck = length_rows (label_by (names deck) (polygon_count deck)) (polygon_count deck) 0

-- r is what the check returned
module _ (file : List ℕ) (deck : ℕ) {r : Result (List ℕ) Refusal} (asked : r ≡ opened (islands_check file deck) file) where
  pub call_refused : (out work : List ℕ) {refusal : Refusal} → r ≡ Err refusal → IslandsWorked file deck out out work work (Err refusal)
  call_refused out work e = worked_refused refl (open_no (islands_check file deck) file asked e)

  module _ {ship : List ℕ} (passed : r ≡ Ok ship) where
    all_yes : IslandsYes file deck
    all_yes = islands_yes file deck (open_yes (islands_check file deck) file asked passed)

    pub passed_deck : deck < decks_in ship
    passed_deck = rw (open_same (islands_check file deck) file asked passed) all_yes.deck_in

    -- n is how many polygons the deck has
    module _ {it : Deck} (is : it ≡ deck_of (decode ship) deck) {n : ℕ} (counted : n ≡ length it.polygons) where
      deck_is : it ≡ deck_of (decode file) deck
      deck_is = is ∙ ap (λ (s : List ℕ). deck_of (decode s) deck) (open_same (islands_check file deck) file asked passed)

      polygons_are : polygon_count (deck_of (decode file) deck) ≡ n
      polygons_are = sym (counted ∙ ap (λ (d : Deck). polygon_count d) deck_is)

      count_is : (islands_reply file deck).count ≡ n
      count_is = labels_many (deck_of (decode file) deck) ∙ polygons_are

      module _ (out work : List ℕ) {wide : Bool} (work-said : wide ≡ question20 (number_size * n) (length work)) where
        pub work_narrow : wide ≡ false → IslandsWorked file deck out out work work (Err NoRoom)
        work_narrow no_room =
            worked_narrow refl (open_yes (islands_check file deck) file asked passed) (omega (arith, polygons_are, q20_short (number_size * n) (length work) (sym work-said ∙ no_room)))

        module _ (has-work : wide ≡ true) {fits : Bool} (out-said : fits ≡ question20 (number_size * n) (length out)) where
          work_fits : number_size * n ≤ length work
          work_fits = q20_fits (number_size * n) (length work) (sym work-said ∙ has-work)

          pub out_short : fits ≡ false → IslandsWorked file deck out out work work (Err NoRoom)
          out_short no_room =
              worked_short refl (open_yes (islands_check file deck) file asked passed) (omega (arith, polygons_are, work_fits))
              (omega (arith, islands_long file deck, count_is, q20_short (number_size * n) (length out) (sym out-said ∙ no_room)))

          module _ (has_room : fits ≡ true) where
            out_fits : number_size * n ≤ length out
            out_fits = q20_fits (number_size * n) (length out) (sym out-said ∙ has_room)

            pub label_ready : LabelReady it out work
            label_ready =
                record {
                  entries_inside = ap question19 deck_is ∙ all_yes.entries_yes;
                  room = omega (arith, counted, out_fits);
                  wide = omega (arith, counted, work_fits);
                }

            pub labels_written : {out' work' : List ℕ} → LabelsPut it out out' work work' → IslandsWorked file deck out out' work work' (Ok n)
            labels_written put =
                let long : length (islands_reply file deck).bytes ≡ number_size * n = omega (arith, islands_long file deck, count_is) in
                worked_written refl (open_yes (islands_check file deck) file asked passed) (omega (arith, polygons_are, work_fits)) (omega (arith, long, out_fits)) (sym count_is)
                (put.out_is ∙ rw (long, counted, deck_is)) put.work_is
