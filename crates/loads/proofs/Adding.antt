-- One more in a count, and a seat's counts: that each place is in the table, and that no count is too large.
use Prim.Native.Nat.{ℕ, suc, ◌+◌, ◌*◌, ◌^◌, ◌≤◌, ◌<◌}
use native.Mathlib.Omega.{arith}
use mathlib.Core.Path.{◌≡◌, refl, sym, ap, ◌∙◌}
use mathlib.Core.Bool.{Bool, true, false, cond}
use mathlib.Core.Logic.{⊎_elim}
use mathlib.Core.List.{List, [], ◌∷◌, ◌++◌, append-nil}
use mir.Syntax.{w64}
use mir.Val.{Fits}
use lib.Dec.{eqb}
use lib.ListN.{length, get_or, set, length-append}
use borrow.Author.Tests.{eq-eqb, ne_eqb, eqb-true, eqb-false}
use Rattle.words.specs.Bytes.{all_ones, u32_at, words_of, counts_of, count_at, put_u64}
use Rattle.words.proofs.Numbers.{length_words}
use Rattle.words.proofs.Counts.{length_counts, counts_read, counts_write}
use Rattle.records.specs.declared.SeatRecord.{SeatRecord}
use Rattle.ship.specs.Layout.{number_size, decks_in}
use Rattle.ship.specs.Model.{Ship, deck_of, polygons_before, polygon_total}
use Rattle.ship.specs.Packed.{packed_deck, packed_polygon}
use Rattle.ship.specs.Decode.{decode}
use Rattle.ship.proofs.ModelFacts.{decks_length}
use Rattle.islands.specs.Islands.{polygon_count}
use Rattle.loads.specs.Sheet.{ship_labels, island_place, sheet_of, polygon_entry, island_entry, deck_entry, unplaced_entry, sheet_length}
use Rattle.loads.specs.Loads.{count_size}
use Rattle.loads.specs.Counting.{Tallied, ThreeReady, one_more, Aboard, counted_at, seat_counted, all_labels, PlacedReady, CountReady}
use Rattle.loads.proofs.SheetLaws.{entry_inside, labels_of, sheet_length_lem}
use Rattle.loads.proofs.SheetStep.{raised, length_raised, raised_few, sheet_placed, sheet_unplaced}
use Rattle.loads.proofs.LabelLoop.{all_labels_long, label_in_work}
use Rattle.loads.proofs.LoadSums.{label_below}

-- ---- `add_one`
pub one_more_lem : (table : List ℕ) (k : ℕ) {count : ℕ} {table' : List ℕ} → count ≡ count_at table k → table' ≡ put_u64 table (count_size * k) (count + 1) → table' ≡ one_more table k
unfolding one_more
one_more_lem table k e w = w ∙ rw e

pub ruleset adding = (one_more_lem)

-- ---- one more in a table of counts
whole : (counts : List ℕ) (k : ℕ) → k < length counts → count_at (counts_of counts) k ≡ get_or counts k 0
whole counts k h = rw (append-nil (counts_of counts)) at (counts_read counts [] k h)

pub more_counts : (counts : List ℕ) (k : ℕ) → k < length counts → one_more (counts_of counts) k ≡ counts_of (raised counts k)
unfolding one_more raised
more_counts counts k h =
    rw (whole counts k h) (rw (append-nil (counts_of counts), append-nil (counts_of (set counts k (get_or counts k 0 + 1)))) at (counts_write counts [] k (get_or counts k 0 + 1) h))

module _ {table : List ℕ} {n m : ℕ} (t : Tallied table n (suc m)) {k : ℕ} (h : k < n) where
  there : k < length t.counts
  there = omega (arith, t.long)

  tallied_room : count_size * k + count_size ≤ length table
  tallied_room = rw t.bytes (omega (arith, length_counts t.counts, there))

  tallied_fits : count_at table k + 1 < 2 ^ 64
  tallied_fits = let e : count_at table k ≡ get_or t.counts k 0 = rw t.bytes (whole t.counts k there) in omega (arith, t.fits k)

  tallied_more : {table' : List ℕ} → table' ≡ one_more table k → Tallied table' n m
  tallied_more e =
      record {
        counts = raised t.counts k;
        bytes = e ∙ rw t.bytes (more_counts t.counts k there);
        long = length_raised t.counts k ∙ t.long;
        fits = λ j. omega (arith, t.fits j, raised_few t.counts k j);
      }

-- ---- `add_three`
module _ {table : List ℕ} {a b c : ℕ} (ready : ThreeReady table a b c) where
  pub first_room : count_size * a + count_size ≤ length table
  first_room = tallied_room ready.tallied ready.a_there

  pub first_more : count_at table a + 1 < 2 ^ 64
  first_more = tallied_fits ready.tallied ready.a_there

  module _ {once : List ℕ} (once_is : once ≡ one_more table a) where
    once_tallied : Tallied once ready.many 2
    once_tallied = tallied_more ready.tallied ready.a_there once_is

    pub second_room : count_size * b + count_size ≤ length once
    second_room = tallied_room once_tallied ready.b_there

    pub second_more : count_at once b + 1 < 2 ^ 64
    second_more = tallied_fits once_tallied ready.b_there

    module _ {twice : List ℕ} (twice-is : twice ≡ one_more once b) where
      twice_tallied : Tallied twice ready.many 1
      twice_tallied = tallied_more once_tallied ready.b_there twice-is

      pub third_room : count_size * c + count_size ≤ length twice
      third_room = tallied_room twice_tallied ready.c_there

      pub third_more : count_at twice c + 1 < 2 ^ 64
      third_more = tallied_fits twice_tallied ready.c_there

      pub three_added : {table' : List ℕ} → table' ≡ one_more twice c → table' ≡ one_more (one_more (one_more table a) b) c
      three_added e = e ∙ rw (twice-is, once_is)

pub ruleset three_adding = (first_room, first_more, second_room, second_more, third_room, third_more, three_added)

-- ---- `count_placed`: the polygon's place, its label's, and the three counts
module _ {ship : Ship} {table work : List ℕ} {d k : ℕ} (ready : PlacedReady ship d k table work) where
  -- places among all polygons
  module _ {before : ℕ} (before-is : before ≡ polygons_before ship d) where
    pub own_inside : before + k < polygon_total ship
    own_inside = rw before-is (entry_inside ship d k ready.deck_there ready.polygon_there)

    module _ {label : ℕ} (Label-is : label ≡ u32_at work (number_size * (before + k))) where
      label_place : label ≡ island_place (ship_labels ship) d k
      label_place = Label-is ∙ rw before-is (label_in_work ship work ready.labels d k ready.deck_there ready.polygon_there)

      pub label_inside : before + label < polygon_total ship
      label_inside =
          rw (before-is, label_place)
          (entry_inside ship d (island_place (ship_labels ship) d k) ready.deck_there
          (rw (labels_of ship d) (label_below (deck_of ship d) k ready.polygon_there)))

      pub placed_counted : {total : ℕ} {table' : List ℕ} → total ≡ polygon_total ship
          → table' ≡ one_more (one_more (one_more table (before + k)) (total + (before + label))) (2 * total + d) → table' ≡ counted_at ship d k table
      unfolding counted_at
      placed_counted total_is e = e ∙ rw (before-is, label_place, total_is)

  pub label_room : {x : ℕ} → x < polygon_total ship → number_size * x + 4 ≤ length work
  label_room {x} h =
      let all = all_labels ship in
      rw ready.labels.1 (omega (arith, h, length-append (words_of all) ready.labels.0, length_words all, all_labels_long ship))

  pub three_ready : {a b c : ℕ} → a < sheet_length ship → b < sheet_length ship → c < sheet_length ship → ThreeReady table a b c
  three_ready ha hb hc = record { many = sheet_length ship; tallied = ready.tallied; a_there = ha; b_there = hb; c_there = hc }

  module _ {total : ℕ} (total_is : total ≡ polygon_total ship) where
    -- places in the table
    module _ {x : ℕ} (h : x < polygon_total ship) where
      pub polygon_in : x < sheet_length ship
      polygon_in = omega arith

      pub island_in : total + x < sheet_length ship
      island_in = omega (arith, total_is)

    pub deck_in : 2 * total + d < sheet_length ship
    deck_in = omega (arith, total_is, ready.deck_there)

    -- the numbers on the way
    module _ (few : total < 2 ^ 32) where
      module _ {x : ℕ} (h : x < polygon_total ship) where
        pub inside_fits : Fits w64 x
        inside_fits = record { fits = omega (arith, total_is) }

        pub inside_scaled : Fits w64 (number_size * x)
        inside_scaled = record { fits = omega (arith, total_is) }

        pub island_fits : Fits w64 (total + x)
        island_fits = record { fits = omega (arith, total_is) }

module _ (file : List ℕ) {table work : List ℕ} {d k : ℕ} (ready : PlacedReady (decode file) d k table work) where
  pub placed_deck : d ≤ decks_in file
  placed_deck = omega (arith, ready.deck_there, decks_length file)

  pub deck_fits : {total decks : ℕ} → total < 2 ^ 32 → decks ≡ decks_in file → decks ≤ 256 → Fits w64 (2 * total + d)
  deck_fits few all few_decks = record { fits = omega (arith, placed_deck) }

pub ruleset placed_adding = (placed_deck, own_inside, label_inside, inside_fits, inside_scaled, label_room, island_fits, polygon_in, island_in, deck_fits, deck_in, three_ready, placed_counted)

-- ---- `count_seat`
module _ (file : List ℕ) {table work : List ℕ} {polygon : ℕ} (ready : CountReady (decode file) polygon table work) where
  module _ {total decks : ℕ} (total_is : total ≡ polygon_total (decode file)) (all : decks ≡ decks_in file) where
    last_is : 2 * total + decks ≡ unplaced_entry (decode file)
    last_is = omega (arith, total_is, decks_length file)

    last_there : 2 * total + decks < sheet_length (decode file)
    last_there = omega (arith, last_is)

    pub last_room : count_size * (2 * total + decks) + count_size ≤ length table
    last_room = tallied_room ready.tallied last_there

    pub last_more : count_at table (2 * total + decks) + 1 < 2 ^ 64
    last_more = tallied_fits ready.tallied last_there

    pub none_counted : polygon ≡ all_ones → {table' : List ℕ} → table' ≡ one_more table (2 * total + decks) → table' ≡ seat_counted (decode file) polygon table
    unfolding seat_counted
    none_counted none e = rw (eq-eqb polygon all_ones none) (e ∙ rw last_is)

  module _ (placed : polygon ≡ all_ones → ⊥) {d k : ℕ} (deck : d ≡ packed_deck polygon) (own : k ≡ packed_polygon polygon) where
    pub placed_ready : PlacedReady (decode file) d k table work
    placed_ready =
        ⊎_elim (λ e. absurd (placed e)) (λ h.
        record {
          deck_there = rw deck h.0;
          polygon_there = rw (deck, own) h.1;
          tallied = ready.tallied;
          labels = ready.labels;
        }) ready.aboard

    pub one_counted : {table' : List ℕ} → table' ≡ counted_at (decode file) d k table → table' ≡ seat_counted (decode file) polygon table
    unfolding seat_counted
    one_counted e = rw (ne_eqb polygon all_ones placed) (e ∙ rw (deck, own))

pub ruleset seat_adding = (last_room, last_more, none_counted, placed_ready, one_counted)

-- ---- the sheet's bytes with one seat more
module _ (ship : Ship) (records : List SeatRecord) (r : SeatRecord) where
  abbrev sheet : List ℕ
  sheet = sheet_of (ship_labels ship) records

  step_more : (counts : List ℕ) (k : ℕ) → length counts ≡ sheet_length ship → k < sheet_length ship → one_more (counts_of counts) k ≡ counts_of (raised counts k)
  step_more counts k l h = more_counts counts k (omega arith)

  none_sheet : r.polygon ≡ all_ones → one_more (counts_of sheet) (unplaced_entry ship) ≡ counts_of (sheet_of (ship_labels ship) (records ++ r ∷ []))
  none_sheet none = step_more sheet (unplaced_entry ship) (sheet_length_lem ship records) (omega arith) ∙ ap counts_of (sym (sheet_unplaced ship records r none))

  placed_sheet : (r.polygon ≡ all_ones → ⊥) → packed_deck r.polygon < length ship.decks → packed_polygon r.polygon < polygon_count (deck_of ship (packed_deck r.polygon))
      → counted_at ship (packed_deck r.polygon) (packed_polygon r.polygon) (counts_of sheet) ≡ counts_of (sheet_of (ship_labels ship) (records ++ r ∷ []))
  unfolding counted_at
  placed_sheet placed deck on =
      let d = packed_deck r.polygon in
      let k = packed_polygon r.polygon in
      let m = island_place (ship_labels ship) d k in
      let island : m < polygon_count (deck_of ship d) = rw (labels_of ship d) (label_below (deck_of ship d) k on) in
      let own = entry_inside ship d k deck on in
      let other = entry_inside ship d m deck island in
      let long = sheet_length_lem ship records in
      let first = raised sheet (polygon_entry ship d k) in
      let long1 : length first ≡ sheet_length ship = length_raised sheet (polygon_entry ship d k) ∙ long in
      let second = raised first (island_entry ship d m) in
      let long2 : length second ≡ sheet_length ship = length_raised first (island_entry ship d m) ∙ long1 in
      rw (
        step_more sheet (polygon_entry ship d k) long (omega arith),
        step_more first (island_entry ship d m) long1 (omega arith),
        step_more second (deck_entry ship d) long2 (omega (arith, deck)),
      )
      (ap counts_of (sym (sheet_placed ship records r placed deck on island)))

  pub seat_sheet : Aboard ship r.polygon → seat_counted ship r.polygon (counts_of sheet) ≡ counts_of (sheet_of (ship_labels ship) (records ++ r ∷ []))
  unfolding seat_counted
  seat_sheet aboard = go (eqb r.polygon all_ones) refl
    where
      go : (b : Bool) → eqb r.polygon all_ones ≡ b
          → cond b (one_more (counts_of sheet) (unplaced_entry ship)) (counted_at ship (packed_deck r.polygon) (packed_polygon r.polygon) (counts_of sheet))
          ≡ counts_of (sheet_of (ship_labels ship) (records ++ r ∷ []))
      go true e = none_sheet (eqb-true r.polygon all_ones e)
      go false e = let placed = eqb-false r.polygon all_ones e in ⊎_elim (λ q. absurd (placed q)) (λ h. placed_sheet placed h.0 h.1) aboard
