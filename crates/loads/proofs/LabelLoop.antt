-- Question 19 deck by deck, and the labels of all decks one after the other in the work.
use Prim.Native.Nat.{ℕ, zero, suc, ◌+◌, ◌*◌, ◌-◌, ◌^◌, ◌≤◌, ◌<◌}
use native.Mathlib.Omega.{arith}
use mathlib.Core.Path.{◌≡◌, refl, sym, ap, ◌∙◌}
use mathlib.Core.Bool.{Bool, true, false, not, ◌&&◌}
use mathlib.Core.List.{List, [], ◌++◌, append_assoc, append-nil}
use mir.Syntax.{w64}
use mir.Val.{Fits}
use borrow.Rule.Slice.PartMut.{put_mid}
use lib.ListN.{length, get_or, take, drop, replicate, length-append, length-drop, length-replicate, drop_of_length-le}
use lib.Seq.{length-take-le, drop-drop, take_all}
use Rattle.words.specs.Bytes.{u32_at, bytes4, joined, words_of, splice}
use Rattle.words.specs.Rows.{every, collect_all, sum_all}
use Rattle.words.proofs.Collecting.{collect_yes, collect_none, sum_same, length_collect}
use Rattle.words.proofs.Splice.{splice_splice, splice_nil, length_splice}
use Rattle.words.proofs.Writing.{joined_append}
use Rattle.words.proofs.Numbers.{length_words, splice_front, words_read}
use Rattle.answers.specs.Checks.{ask, after, check_each, Check}
use Rattle.answers.proofs.Asking.{said_no, said_yes, asked_yes, each_passed}
use Rattle.std.specs.Prelude.{Result, Ok, Err}
use Rattle.answers.specs.declared.Refusal.{Refusal}
use Rattle.decks.specs.Opened.{opened}
use Rattle.decks.proofs.Opening.{opened_err, opened_ok}
use Rattle.answers.specs.declared.Refusal.TheVariants.{NoSuchNeighbour}
use Rattle.ship.specs.Layout.{number_size, decks_in}
use Rattle.ship.specs.Model.{Deck, Ship, deck_of, polygons_before, polygon_total}
use Rattle.ship.specs.Decode.{decode}
use Rattle.ship.specs.Within.{DeckWithin}
use Rattle.ship.proofs.ModelFacts.{decks_length}
use Rattle.islands.specs.Islands.{polygon_count, deck_labels, question19}
use Rattle.islands.specs.Walk.{LabelReady, LabelsPut}
use Rattle.islands.proofs.IslandsCall.{labels_many}
use Rattle.seat_run.specs.Run.{run_check}
use Rattle.loads.specs.Sheet.{ship_labels, island_place, polygon_entry, sheet_length}
use Rattle.loads.specs.Loads.{count_size, labels_check, loads_check}
use Rattle.loads.specs.Counting.{all_labels, LabelsIn, DeckReady, DeckLabelled, LabelsReady, LabelsLeft}
use Rattle.loads.proofs.SheetLaws.{entry_inside, in_lists, labels_of}

-- ---- `labels_check`
abbrev pub check19 : List ℕ → ℕ → Check
check19 file d = ask (question19 (deck_of (decode file) d)) NoSuchNeighbour (Ok tt)

-- one question of all decks, since each would refuse alike
one_question : (p : ℕ → Bool) (n i : ℕ) → check_each (λ d. ask (p d) NoSuchNeighbour (Ok tt)) i n ≡ ask (every p i n) NoSuchNeighbour (Ok tt)
unfolding check_each every
one_question p zero i = refl
one_question p (suc n) i = rw (one_question p n (i + 1)) (go (p i))
  where
    go : (b : Bool) → after (ask b NoSuchNeighbour (Ok tt)) (ask (every p (i + 1) n) NoSuchNeighbour (Ok tt)) ≡ ask (b && every p (i + 1) n) NoSuchNeighbour (Ok tt)
    go true = refl
    go false = refl

module _ (file : List ℕ) {inside : Bool} (said : inside ≡ every (λ d. question19 (deck_of (decode file) d)) 0 (decks_in file)) where
  labels_are : ask inside NoSuchNeighbour (Ok tt) ≡ labels_check (decode file)
  unfolding labels_check
  labels_are = rw (said, ← decks_length file) (sym (one_question (λ d. question19 (deck_of (decode file) d)) (length (decode file).decks) 0))

  pub labels_no : not inside ≡ true → Err NoSuchNeighbour ≡ labels_check (decode file)
  labels_no e = rw (said_no refl e) at labels_are

  pub labels_yes : not inside ≡ false → Ok tt ≡ labels_check (decode file)
  labels_yes e = rw (said_yes refl e) at labels_are

pub ruleset label_asks = (labels_no, labels_yes)

-- ---- `loads_check`
module _ (file blocked seats : List ℕ) {r : Result (List ℕ) Refusal} (asked : r ≡ opened (run_check file blocked seats) file) where
  pub loads_no : {refusal : Refusal} → r ≡ Err refusal → Err refusal ≡ opened (loads_check file blocked seats) file
  unfolding loads_check
  loads_no e = rw (opened_err (run_check file blocked seats) file (sym asked ∙ e))

  module _ {ship : List ℕ} (opens : r ≡ Ok ship) {labels : Check} (said : labels ≡ labels_check (decode ship)) where
    last_asked : opened (loads_check file blocked seats) file ≡ opened labels ship
    unfolding loads_check
    last_asked = let o = opened_ok (run_check file blocked seats) file (sym asked ∙ opens) in rw (o.0, said, o.1)

    pub loads_19 : {refusal : Refusal} → labels ≡ Err refusal → Err refusal ≡ opened (loads_check file blocked seats) file
    loads_19 e = sym (last_asked ∙ ap (λ (v : Check). opened v ship) e)

    pub loads_yes : labels ≡ Ok tt → Ok ship ≡ opened (loads_check file blocked seats) file
    loads_yes e = sym (last_asked ∙ ap (λ (v : Check). opened v ship) e)

pub ruleset Load-asks = (loads_no, loads_19, loads_yes)

-- ---- `label_deck`
-- a list put at the front of what is lent from a position on
put_part : (s xs part : List ℕ) (at : ℕ) → at ≤ length s → part ≡ xs ++ drop (length xs) (take (length s - at) (drop at s)) → put_mid at (length s - at) s part ≡ splice s at xs
unfolding splice
put_part s xs part at l e =
    let long : length (drop at s) ≤ length s - at = rw (length-drop at s) (omega arith) in
    let end : length s ≤ at + (length s - at) = omega arith in
    rw (e, take_all (length s - at) (drop at s) long, drop-drop (length xs) at s) (simp (append_assoc, drop_of_length-le, append-nil))

module _ {file table work : List ℕ} {d at : ℕ} (ready : DeckReady file d at table work) where
  pub part_inside : at ≤ length work
  part_inside = omega (arith, ready.room)

  part_long : length (take (length work - at) (drop at work)) ≡ length work - at
  part_long = length-take-le (length work - at) (drop at work) (rw (length-drop at work) (omega arith))

  module _ {deck : Deck} (is : deck ≡ deck_of (decode file) d) where
    polygons_are : polygon_count deck ≡ polygon_count (deck_of (decode file) d)
    polygons_are = ap (λ (k : Deck). polygon_count k) is

    pub part_ready : LabelReady deck (take (length work - at) (drop at work)) table
    part_ready =
        record {
          entries_inside = ap question19 is ∙ ready.yes19;
          room = rw part_long (omega (arith, ready.room, polygons_are));
          wide = omega (arith, ready.wide, polygons_are);
        }

    module _ {n : ℕ} (counted : n ≡ length deck.polygons) where
      pub part_scaled : DeckWithin deck → Fits w64 (number_size * n)
      part_scaled within = record { fits = omega (arith, counted, within.few_polygons) }

      pub part_next : length work < 2 ^ 64 → Fits w64 (at + number_size * n)
      part_next long = record { fits = omega (arith, ready.room, counted, polygons_are) }

      pub part_labelled : {table' part' work' : List ℕ} → LabelsPut deck (take (length work - at) (drop at work)) part' table table'
          → work' ≡ put_mid at (length work - at) work part' → DeckLabelled file d at table table' work work' (at + number_size * n)
      part_labelled {table'} {part'} {work'} put put_back =
          let labels = words_of (deck_labels (deck_of (decode file) d)) in
          let size : length labels ≡ number_size * polygon_count (deck_of (decode file) d) =
          length_words (deck_labels (deck_of (decode file) d)) ∙ ap (λ (m : ℕ). number_size * m) (labels_many (deck_of (decode file) d)) in
          record {
            table_is = put.work_is;
            work_is = put_back ∙ put_part work labels part' at (omega (arith, ready.room)) (put.out_is ∙ rw (is, size));
            next_is = omega (arith, counted, polygons_are);
          }

pub ruleset part_labels = (part_inside, part_ready, part_scaled, part_next, part_labelled)

-- ---- `put_labels`
-- the labels of deck d and of those after it
abbrev labels_from : List ℕ → ℕ → List ℕ
labels_from file d = collect_all (λ j. deck_labels (deck_of (decode file) j)) d (decks_in file - d)

-- those of the decks below d are written
pub record Labelling (file work₀ table work : List ℕ) (at d : ℕ) : Type 0 where
  pub yes19 : labels_check (decode file) ≡ Ok tt
  pub zeros : table ≡ replicate (count_size * sheet_length (decode file)) 0
  pub long : length work ≡ length work₀
  pub left : length (labels_from file d) ≤ polygon_total (decode file)
  pub room : at + number_size * length (labels_from file d) ≤ length work
  pub same : splice work₀ 0 (words_of (all_labels (decode file))) ≡ splice work at (words_of (labels_from file d))

-- a label a polygon
pub all_labels_long : (ship : Ship) → length (all_labels ship) ≡ polygon_total ship
unfolding polygons_before
all_labels_long ship =
    length_collect (λ d. true) (λ d. deck_labels (deck_of ship d)) 0 (length ship.decks)
    ∙ sum_same (λ d. true) (λ d. length (deck_labels (deck_of ship d))) (λ d. length (deck_of ship d).polygons) (length ship.decks) (λ d l q. labels_many (deck_of ship d))

-- and the label of polygon k of deck d stands at its place
pub label_in_work : (ship : Ship) (work : List ℕ) → LabelsIn ship work → (d k : ℕ) → d < length ship.decks → k < polygon_count (deck_of ship d)
    → u32_at work (number_size * polygon_entry ship d k) ≡ island_place (ship_labels ship) d k
unfolding polygons_before
label_in_work ship work labels d k h l =
    let e : 0 + d ≡ d = omega arith in
    let n = length ship.decks in
    let many : (j : ℕ) → length (deck_labels (deck_of ship j)) ≡ polygon_count (deck_of ship j) = λ j. labels_many (deck_of ship j) in
    let sums : sum_all (λ j. length (deck_labels (deck_of ship j))) 0 d ≡ polygons_before ship d =
    sum_same (λ j. true) (λ j. length (deck_labels (deck_of ship j))) (λ j. polygon_count (deck_of ship j)) d (λ j a b. many j) in
    let inside = entry_inside ship d k h l in
    let read : u32_at work (number_size * polygon_entry ship d k) ≡ get_or (all_labels ship) (polygon_entry ship d k) 0 =
    rw labels.1 (words_read (all_labels ship) labels.0 (polygon_entry ship d k) (omega (arith, all_labels_long ship))) in
    let listed : get_or (all_labels ship) (polygon_entry ship d k) 0 ≡ get_or (deck_labels (deck_of ship (0 + d))) k 0 =
    rw (← sums) (in_lists (λ j. deck_labels (deck_of ship j)) n 0 d k 0 h (rw (e, many d) l)) in
    read ∙ listed ∙ rw (e, labels_of ship d)

from_first : (file : List ℕ) → labels_from file 0 ≡ all_labels (decode file)
from_first file = let e : decks_in file - 0 ≡ length (decode file).decks = omega (arith, decks_length file) in rw e

checked_decks : (file : List ℕ) → labels_check (decode file) ≡ Ok tt → check_each (check19 file) 0 (decks_in file) ≡ Ok tt
unfolding labels_check
checked_decks file e = rw (← decks_length file) e

-- no label is left
spliced : (file : List ℕ) (d : ℕ) (work : List ℕ) (at : ℕ) → labels_from file d ≡ [] → splice work at (words_of (labels_from file d)) ≡ splice work at []
unfolding joined
spliced file d work at e = rw e

module _ {file table₀ work : List ℕ} (ready : LabelsReady file table₀ work) where
  pub labelling_all : {table : List ℕ} → table ≡ replicate (length table₀) 0 → Labelling file work table work 0 0
  labelling_all z =
      let long = all_labels_long (decode file) in
      let first = from_first file in
      record {
        yes19 = ready.yes19;
        zeros = z ∙ ap (λ (n : ℕ). replicate n 0) ready.table_long;
        long = refl;
        left = rw first (omega arith);
        room = rw first (omega (arith, ready.wide));
        same = rw first;
      }

  pub labelling_none : {table work' : List ℕ} {at d decks : ℕ} → Labelling file work table work' at d → decks ≡ decks_in file → decks ≤ d → LabelsLeft file table₀ table work work'
  labelling_none {table} {work'} {at} {d} t all h =
      let rest : labels_from file d ≡ [] = collect_none (λ j. true) (λ j. deck_labels (deck_of (decode file) j)) d (decks_in file) (omega arith) in
      record {
        table_is = t.zeros ∙ ap (λ (n : ℕ). replicate n 0) (sym ready.table_long);
        work_is =
            sym (splice_nil work' at)
            ∙ sym (t.same ∙ spliced file d work' at rest)
            ∙ splice_front work (words_of (all_labels (decode file)))
            ∙ ap (λ (n : ℕ). words_of (all_labels (decode file)) ++ drop n work) (length_words (all_labels (decode file)) ∙ ap (λ (n : ℕ). number_size * n) (all_labels_long (decode file)));
      }

-- deck d is next
module _ {file work₀ table work : List ℕ} {at d decks : ℕ} (t : Labelling file work₀ table work at d) (all : decks ≡ decks_in file) (h : d < decks) where
  abbrev here : Deck
  here = deck_of (decode file) d

  from_here : labels_from file d ≡ deck_labels here ++ labels_from file (d + 1)
  from_here = collect_yes (λ j. true) (λ j. deck_labels (deck_of (decode file) j)) d (decks_in file) (omega arith) refl

  from_long : length (labels_from file d) ≡ polygon_count here + length (labels_from file (d + 1))
  from_long = ap length from_here ∙ length-append (deck_labels here) (labels_from file (d + 1)) ∙ rw (labels_many here)

  pub labelling_ready : DeckReady file d at table work
  labelling_ready =
      record {
        there = omega arith;
        yes19 = (asked_yes (question19 here) NoSuchNeighbour (Ok tt) (each_passed (check19 file) (decks_in file) (checked_decks file t.yes19) d (omega arith))).0;
        wide = rw (t.zeros, length-replicate) (omega (arith, t.left, from_long));
        room = omega (arith, t.room, from_long);
      }

  pub labelling_more : {table' work' : List ℕ} {next : ℕ} → DeckLabelled file d at table table' work work' next → Labelling file work₀ table' work' next (d + 1)
  labelling_more {table'} {work'} {next} put =
      let labels = words_of (deck_labels here) in
      let size : length labels ≡ number_size * polygon_count here = length_words (deck_labels here) ∙ rw (labels_many here) in
      let fits : at + length labels ≤ length work = omega (arith, t.room, from_long) in
      let long : length work' ≡ length work = rw put.work_is (length_splice work at labels fits) in
      let end : next ≡ at + length labels = omega (arith, put.next_is) in
      record {
        yes19 = t.yes19;
        zeros = put.table_is ∙ rw t.zeros (ap (λ (n : ℕ). replicate n 0) (length-replicate (count_size * sheet_length (decode file)) 0));
        long = long ∙ t.long;
        left = omega (arith, t.left, from_long);
        room = omega (arith, t.room, from_long, long);
        same =
            t.same
            ∙ rw (from_here, joined_append bytes4 (deck_labels here) (labels_from file (d + 1)), put.work_is, end)
            (sym (splice_splice work at labels fits (words_of (labels_from file (d + 1)))));
      }

pub labelling_long : {file work₀ table work : List ℕ} {at d : ℕ} → Labelling file work₀ table work at d → length work ≡ length work₀
labelling_long t = t.long

pub labelling_wide : {file table₀ work₀ table work : List ℕ} {at d : ℕ} → LabelsReady file table₀ work₀ → Labelling file work₀ table work at d → length table ≡ length table₀
labelling_wide ready t = rw t.zeros (length-replicate (count_size * sheet_length (decode _)) 0 ∙ sym ready.table_long)

pub ruleset labelling = (labelling_all, labelling_none, labelling_ready, labelling_more, labelling_long, labelling_wide)
