-- The theorem of this crate: the new file of a passed one passes, its model is the old one with its lists filtered, and so is that of a second removal.
use Prim.Native.Nat.{ℕ, ◌<◌}
use native.Mathlib.Omega.{arith}
use mathlib.Core.Path.{◌≡◌, ap, ◌∙◌}
use mathlib.Core.List.{List, map-map}
use lib.ListN.{length, get_or}
use borrow.Author.Tests.{le-leb}
use Rattle.words.specs.Rows.{rows}
use Rattle.words.proofs.TableRows.{length_rows, rows_same}
use Rattle.answers.proofs.Asking.{passed_each}
use Rattle.std.specs.Prelude.{Ok}
use Rattle.ship.specs.declared.Blocks.{Blocks}
use Rattle.ship.specs.Layout.{header_size, decks_position, reach_position, steps_position, decks_in, blocks_position, blocks_at}
use Rattle.ship.specs.Model.{Vertex, Deck, Ship, no_deck, deck_of}
use Rattle.ship.specs.Decode.{deck_at, decode}
use Rattle.ship.specs.Questions.{question1, question2, question3, question4, question5, question6, header_check, blocks_check, deck_check, first_no}
use Rattle.ship.proofs.ModelFacts.{row}
use Rattle.ship.proofs.Passed.{header_all_yes, all_yes_header, BlocksYes, deck_all_yes, passed_header, passed_deck}
use Rattle.unstitched.specs.declared.Stitches.{Stitches}
use Rattle.unstitched.specs.Removal.{kept_of, with_lists, with_deck_lists, removed, removed_twice}
use Rattle.unstitched.specs.NewFile.{new_file, RemovalSound}
use Rattle.unstitched.proofs.KeptLists.{kept_twice_lem}
use Rattle.unstitched.proofs.OldPlaces.{laid}
use Rattle.unstitched.proofs.NewDeck.{moved_to, anew}
use Rattle.unstitched.proofs.DeckAnew.{blocks_anew, deck_anew}
use Rattle.unstitched.proofs.NewPlaces.{place, deck_piece, file_length, header_read, chain, blocks_read, whole_read}

blocks_passed : (s : List ℕ) (b : Blocks) → BlocksYes s b → blocks_check s b ≡ Ok tt
unfolding blocks_check
blocks_passed s b y = rw (y.yes8, y.yes9, y.yes10, y.yes11, y.yes12, y.yes13)

-- ---- one removal
module _ (which : Stitches) (s : List ℕ) (passed : first_no s ≡ Ok tt) where
  decks_read : decks_in (new_file which s) ≡ decks_in s
  decks_read = header_read which s passed decks_position (omega arith)

  new_header : header_check (new_file which s) ≡ Ok tt
  unfolding question1 question2 question3 question4 question5 question6
  new_header =
      let y = header_all_yes s (passed_header s passed) in
      let long = file_length which s passed in
      all_yes_header (new_file which s) record {
        yes1 = le-leb header_size (length (new_file which s)) (omega arith);
        yes2 = rw decks_read y.yes2;
        yes3 = rw (header_read which s passed reach_position (omega arith)) y.yes3;
        yes4 = rw (header_read which s passed steps_position (omega arith)) y.yes4;
        yes5 = rw decks_read (le-leb (blocks_position s) (length (new_file which s)) (omega arith));
        yes6 = rw decks_read (chain which s passed);
      }

  module _ (d : ℕ) (there : d < decks_in s) where
    old_yes : BlocksYes s (blocks_at s d)
    old_yes = (deck_all_yes s d (passed_deck s passed d there)).1

    new_deck : deck_check (new_file which s) d ≡ Ok tt
    unfolding deck_check
    new_deck =
        let b = blocks_at s d in
        let r = anew which s d b (laid s passed d there) (deck_piece which s passed d there) in
        rw (whole_read which s passed d there, blocks_read which s passed d there)
        (blocks_passed (new_file which s) (moved_to which s d b (place which s d)) (blocks_anew which s d b (new_file which s) (place which s d) r old_yes))

    deck_read : deck_at (new_file which s) (blocks_at (new_file which s) d) ≡ with_lists (kept_of which d) (deck_at s (blocks_at s d))
    deck_read =
        let b = blocks_at s d in
        let r = anew which s d b (laid s passed d there) (deck_piece which s passed d there) in
        rw (blocks_read which s passed d there) (deck_anew which s d b (new_file which s) (place which s d) r old_yes)

  passes : first_no (new_file which s) ≡ Ok tt
  unfolding first_no
  passes =
      let e = decks_read in
      rw new_header (passed_each (deck_check (new_file which s)) (decks_in (new_file which s)) (λ d h. new_deck d (omega arith)))

  model : decode (new_file which s) ≡ removed which (decode s)
  unfolding decode removed
  model =
      let old : ℕ → Deck = λ d. deck_at s (blocks_at s d) in
      let decks = rows_same (λ d. deck_at (new_file which s) (blocks_at (new_file which s) d)) (λ d. with_lists (kept_of which d) (get_or (rows old 0 (decks_in s)) d no_deck)) (decks_in s) 0
      (λ d a h. rw (row old (decks_in s) d no_deck (omega arith)) (deck_read d (omega arith))) in
      rw (
        decks_read,
        header_read which s passed reach_position (omega arith),
        header_read which s passed steps_position (omega arith),
        length_rows old (decks_in s) 0,
        decks,
      )

-- ---- two removals
lists_twice : (f g : List ℕ → List ℕ) (deck : Deck) → with_lists g (with_lists f deck) ≡ with_lists (λ l. g (f l)) deck
lists_twice f g deck =
    let first : Vertex → Vertex = λ v. record { point = v.point; neighbours = f v.neighbours } in
    let second : Vertex → Vertex = λ v. record { point = v.point; neighbours = g v.neighbours } in
    λ j. record { offset = deck.offset; vertices = map-map second first deck.vertices j; polygons = deck.polygons; heights = deck.heights }

decks_twice : (f g : ℕ → List ℕ → List ℕ) (ship : Ship) → with_deck_lists g (with_deck_lists f ship) ≡ with_deck_lists (λ d l. g d (f d l)) ship
decks_twice f g ship =
    let n = length ship.decks in
    let once : ℕ → Deck = λ d. with_lists (f d) (deck_of ship d) in
    let decks = rows_same (λ d. with_lists (g d) (get_or (rows once 0 n) d no_deck)) (λ d. with_lists (λ l. g d (f d l)) (deck_of ship d)) n 0
    (λ d a h. rw (row once n d no_deck (omega arith)) (lists_twice (f d) (g d) (deck_of ship d))) in
    rw (length_rows once n 0, decks)

removed_twice_lem : (which : Stitches) (ship : Ship) → removed which (removed which ship) ≡ removed_twice which ship
unfolding removed removed_twice
removed_twice_lem which ship = decks_twice (kept_of which) (kept_of which) ship ∙ (λ j. with_deck_lists (λ d l. kept_twice_lem which d l j) ship)

pub removal_sound : (which : Stitches) (file : List ℕ) → RemovalSound which file
removal_sound which file passed =
    record {
      passes = passes which file passed;
      model = model which file passed;
      again = model which (new_file which file) (passes which file passed) ∙ ap (removed which) (model which file passed) ∙ removed_twice_lem which (decode file);
    }
