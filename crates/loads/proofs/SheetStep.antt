-- One seat more: which counts of the sheet have one more, and that the others stay.
use Prim.Native.Nat.{ℕ, zero, suc, ◌+◌, ◌*◌, ◌≤◌, ◌<◌}
use native.Mathlib.Omega.{arith}
use mathlib.Core.Path.{◌≡◌, refl, sym, ap, ap₂, ◌∙◌}
use mathlib.Core.Bool.{Bool, true, false, cond}
use mathlib.Core.List.{List, [], ◌∷◌, ◌++◌}
use lib.ListN.{length, get_or, set, length-append, length-set, get_or-append}
use lib.Seq.{set-append_left}
use borrow.Author.Tests.{eq-eqb, ne_eqb}
use Rattle.words.specs.Bytes.{all_ones}
use Rattle.words.specs.Rows.{rows, collect, collect_all, sum_of, sum_all, count_of}
use Rattle.words.proofs.TableRows.{length_rows, rows_same}
use Rattle.records.specs.declared.SeatRecord.{SeatRecord}
use Rattle.records.specs.Record.{is_unplaced}
use Rattle.ship.specs.Model.{Ship, deck_of, polygon_total}
use Rattle.ship.specs.Packed.{packed_deck, packed_polygon}
use Rattle.islands.specs.Islands.{polygon_count}
use Rattle.loads.specs.Sheet.{ship_labels, on_deck, stands_at, own_place, island_place, polygon_load, island_load, deck_load, unplaced_load, each_polygon, sheet_of, polygon_entry, island_entry, deck_entry, unplaced_entry}
use Rattle.loads.proofs.SheetLaws.{count_append, labels_decks, labels_polygons, entry_inside, row_long, rows_long, each_length}

-- ---- a list with one more at place k
unfoldable pub raised : List ℕ → ℕ → List ℕ
raised l k = set l k (get_or l k 0 + 1)

raised_left : (l m : List ℕ) (k : ℕ) → k < length l → raised (l ++ m) k ≡ raised l k ++ m
unfolding raised
raised_left l m k h = rw (get_or-append l m 0 k h) (set-append_left l m k (get_or l k 0 + 1) h)

raised_right : (l m : List ℕ) (k : ℕ) → raised (l ++ m) (length l + k) ≡ l ++ raised m k
unfolding raised
raised_right [] m k = let e : 0 + k ≡ k = omega arith in rw e
raised_right (x ∷ l) m k = let e : suc (length l) + k ≡ suc (length l + k) = omega arith in rw e (ap (λ (t : List ℕ). x ∷ t) (raised_right l m k))

raised_past : (l m : List ℕ) (n k : ℕ) → length l ≡ n → raised (l ++ m) (n + k) ≡ l ++ raised m k
raised_past l m n k e = rw (← e) (raised_right l m k)

pub length_raised : (l : List ℕ) (k : ℕ) → length (raised l k) ≡ length l
unfolding raised
length_raised l k = length-set l k (get_or l k 0 + 1)

-- no element has more than one more
pub raised_few : (l : List ℕ) (k j : ℕ) → get_or (raised l k) j 0 ≤ get_or l j 0 + 1
unfolding raised
raised_few [] k j = omega arith
raised_few (x ∷ l) zero zero = omega arith
raised_few (x ∷ l) zero (suc j) = omega arith
raised_few (x ∷ l) (suc k) zero = omega arith
raised_few (x ∷ l) (suc k) (suc j) = raised_few l k j

raised_rows : (f g : ℕ → ℕ) (n i k : ℕ) → k < n → g (i + k) ≡ f (i + k) + 1 → ((j : ℕ) → (j ≡ i + k → ⊥) → g j ≡ f j) → rows g i n ≡ raised (rows f i n) k
unfolding rows raised
raised_rows f g zero i k h one same = absurd (omega arith)
raised_rows f g (suc n) i zero h one same =
    let e : i + 0 ≡ i = omega arith in
    ap₂ ◌∷◌ (rw e at one) (rows_same g f n (i + 1) (λ j a b. same j (λ q. omega arith)))
raised_rows f g (suc n) i (suc k) h one same =
    let e : i + suc k ≡ i + 1 + k = omega arith in
    ap₂ ◌∷◌ (same i (λ q. omega arith)) (raised_rows f g n (i + 1) k (omega arith) (rw e at one) (λ j d. same j (λ q. d (omega arith))))

lists_same : (f g : ℕ → List ℕ) (n i : ℕ) → ((j : ℕ) → i ≤ j → g j ≡ f j) → collect_all g i n ≡ collect_all f i n
unfolding collect
lists_same f g zero i same = refl
lists_same f g (suc n) i same = ap₂ ◌++◌ (same i (omega arith)) (lists_same f g n (i + 1) (λ j l. same j (omega arith)))

raised_lists : (f g : ℕ → List ℕ) (n i d k : ℕ) → d < n → k < length (f (i + d)) → g (i + d) ≡ raised (f (i + d)) k → ((j : ℕ) → (j ≡ i + d → ⊥) → g j ≡ f j)
    → collect_all g i n ≡ raised (collect_all f i n) (sum_all (λ j. length (f j)) i d + k)
unfolding collect sum_of
raised_lists f g zero i d k h l one same = absurd (omega arith)
raised_lists f g (suc n) i zero k h l one same =
    let e : i + 0 ≡ i = omega arith in
    let z : 0 + k ≡ k = omega arith in
    rw z (ap₂ ◌++◌ (rw e at one) (lists_same f g n (i + 1) (λ j a. same j (λ q. omega arith)))
    ∙ sym (raised_left (f i) (collect_all f (i + 1) n) k (rw e at l)))
raised_lists f g (suc n) i (suc d) k h l one same =
    let e : i + suc d ≡ i + 1 + d = omega arith in
    let s = sum_all (λ j. length (f j)) (i + 1) d in
    let z : length (f i) + s + k ≡ length (f i) + (s + k) = omega arith in
    rw z (ap₂ ◌++◌ (same i (λ q. omega arith)) (raised_lists f g n (i + 1) d k (omega arith) (rw e at l) (rw e at one) (λ j a. same j (λ q. a (omega arith))))
    ∙ sym (raised_right (f i) (collect_all f (i + 1) n) (s + k)))

-- in one of four lists
module _ (a b c e : List ℕ) where
  first_raised : (k : ℕ) → k < length a → raised (a ++ b ++ c ++ e) k ≡ raised a k ++ b ++ c ++ e
  first_raised k h =
      raised_left (a ++ b ++ c) e k (omega (arith, length-append (a ++ b) c, length-append a b))
      ∙ ap (λ (l : List ℕ). l ++ e) (raised_left (a ++ b) c k (omega (arith, length-append a b)) ∙ ap (λ (l : List ℕ). l ++ c) (raised_left a b k h))

  second_raised : (n k : ℕ) → length a ≡ n → k < length b → raised (a ++ b ++ c ++ e) (n + k) ≡ a ++ raised b k ++ c ++ e
  second_raised n k l h =
      raised_left (a ++ b ++ c) e (n + k) (omega (arith, length-append (a ++ b) c, length-append a b))
      ∙ ap (λ (l : List ℕ). l ++ e) (raised_left (a ++ b) c (n + k) (omega (arith, length-append a b)) ∙ ap (λ (l : List ℕ). l ++ c) (raised_past a b n k l))

  third_raised : (n k : ℕ) → length (a ++ b) ≡ n → k < length c → raised (a ++ b ++ c ++ e) (n + k) ≡ a ++ b ++ raised c k ++ e
  third_raised n k l h =
      raised_left (a ++ b ++ c) e (n + k) (omega (arith, length-append (a ++ b) c))
      ∙ ap (λ (l : List ℕ). l ++ e) (raised_past (a ++ b) c n k l)

  fourth_raised : (n : ℕ) → length (a ++ b ++ c) ≡ n → raised (a ++ b ++ c ++ e) n ≡ a ++ b ++ c ++ raised e 0
  fourth_raised n l = let z : length (a ++ b ++ c) + 0 ≡ n = omega arith in rw (← z) (raised_right (a ++ b ++ c) e 0)

-- ---- a count with one record more
module _ (p : SeatRecord → Bool) (records : List SeatRecord) (r : SeatRecord) where
  count_last : count_of p (records ++ r ∷ []) ≡ count_of p records + cond (p r) 1 0
  unfolding count_of
  count_last = count_append p records (r ∷ [])

  count_yes : p r ≡ true → count_of p (records ++ r ∷ []) ≡ count_of p records + 1
  count_yes e = rw e at count_last

  count_no : p r ≡ false → count_of p (records ++ r ∷ []) ≡ count_of p records
  count_no e = (rw e at count_last) ∙ omega arith

-- ---- where a record stands
module _ (r : SeatRecord) where
  abbrev d : ℕ
  d = packed_deck r.polygon

  abbrev k : ℕ
  k = packed_polygon r.polygon

  unplaced_nowhere : r.polygon ≡ all_ones → (j : ℕ) → on_deck j r ≡ false
  unfolding on_deck
  unplaced_nowhere e j = rw (eq-eqb r.polygon all_ones e)

  unplaced_no_place : r.polygon ≡ all_ones → (place_of : ℕ → ℕ) (j m : ℕ) → stands_at place_of j m r ≡ false
  unfolding stands_at
  unplaced_no_place e place_of j m = rw (unplaced_nowhere e j)

  module _ (placed : r.polygon ≡ all_ones → ⊥) where
    on_deck_lem : on_deck d r ≡ true
    unfolding on_deck
    on_deck_lem = rw (ne_eqb r.polygon all_ones placed, eq-eqb d d refl)

    off_deck : (j : ℕ) → (j ≡ d → ⊥) → on_deck j r ≡ false
    unfolding on_deck
    off_deck j n = rw (ne_eqb r.polygon all_ones placed, ne_eqb d j (λ q. n (sym q)))

    at_place : (place_of : ℕ → ℕ) → stands_at place_of d (place_of k) r ≡ true
    unfolding stands_at
    at_place place_of = rw (on_deck_lem, eq-eqb (place_of k) (place_of k) refl)

    off_place : (place_of : ℕ → ℕ) (m : ℕ) → (m ≡ place_of k → ⊥) → stands_at place_of d m r ≡ false
    unfolding stands_at
    off_place place_of m n = rw (on_deck_lem, ne_eqb (place_of k) m (λ q. n (sym q)))

    off_deck_place : (place_of : ℕ → ℕ) (j m : ℕ) → (j ≡ d → ⊥) → stands_at place_of j m r ≡ false
    unfolding stands_at
    off_deck_place place_of j m n = rw (off_deck j n)

-- ---- the sheet with one record more
module _ (ship : Ship) (records : List SeatRecord) (r : SeatRecord) where
  abbrev labels : List (List ℕ)
  labels = ship_labels ship

  abbrev more : List SeatRecord
  more = records ++ r ∷ []

  -- the counts at the places that `place_of` gives, deck by deck
  abbrev loads : (ℕ → ℕ → ℕ) → List SeatRecord → ℕ → ℕ → ℕ
  loads place_of rs j m = count_of (stands_at (place_of j) j m) rs

  abbrev row : (ℕ → ℕ → ℕ) → List SeatRecord → ℕ → List ℕ
  row place_of rs j = rows (loads place_of rs j) 0 (length (get_or labels j []))

  module _ (placed : r.polygon ≡ all_ones → ⊥) (there : d r < length ship.decks) where
    raised_each : (place_of : ℕ → ℕ → ℕ) → place_of (d r) (k r) < polygon_count (deck_of ship (d r))
        → each_polygon labels (loads place_of more) ≡ raised (each_polygon labels (loads place_of records)) (polygon_entry ship (d r) (place_of (d r) (k r)))
    unfolding each_polygon
    raised_each place_of inside =
        let m = place_of (d r) (k r) in
        let z : 0 + d r ≡ d r = omega arith in
        let zm : 0 + m ≡ m = omega arith in
        let here : row place_of more (0 + d r) ≡ raised (row place_of records (0 + d r)) m =
        rw z (raised_rows (loads place_of records (d r)) (loads place_of more (d r)) (length (get_or labels (d r) [])) 0 m (omega (arith, labels_polygons ship (d r)))
        (rw zm (count_yes (stands_at (place_of (d r)) (d r) m) records r (at_place r placed (place_of (d r)))))
        (λ j n. count_no (stands_at (place_of (d r)) (d r) j) records r (off_place r placed (place_of (d r)) j (λ q. n (q ∙ sym zm))))) in
        let others : (j : ℕ) → (j ≡ 0 + d r → ⊥) → row place_of more j ≡ row place_of records j =
        λ j n. rows_same (loads place_of more j) (loads place_of records j) (length (get_or labels j [])) 0
        (λ i a b. count_no (stands_at (place_of j) j i) records r (off_deck_place r placed (place_of j) j i (λ q. n (q ∙ sym z)))) in
        raised_lists (row place_of records) (row place_of more) (length labels) 0 (d r) m (omega (arith, labels_decks ship))
        (rw z (omega (arith, row_long ship (loads place_of records) (d r)))) here others
        ∙ rw (rows_long ship (loads place_of records) (d r))

    raised_decks : rows (deck_load more) 0 (length labels) ≡ raised (rows (deck_load records) 0 (length labels)) (d r)
    raised_decks =
        let z : 0 + d r ≡ d r = omega arith in
        raised_rows (deck_load records) (deck_load more) (length labels) 0 (d r) (omega (arith, labels_decks ship))
        (rw z (count_yes (on_deck (d r)) records r (on_deck_lem r placed)))
        (λ j n. count_no (on_deck j) records r (off_deck r placed j (λ q. n (q ∙ sym z))))

    -- its polygon's, its island's and its deck's count have one more
    pub sheet_placed : k r < polygon_count (deck_of ship (d r)) → island_place labels (d r) (k r) < polygon_count (deck_of ship (d r))
        → sheet_of labels more
        ≡ raised (raised (raised (sheet_of labels records) (polygon_entry ship (d r) (k r))) (island_entry ship (d r) (island_place labels (d r) (k r)))) (deck_entry ship (d r))
    unfolding sheet_of
    sheet_placed on island =
        let m = island_place labels (d r) (k r) in
        let P = each_polygon labels (polygon_load records) in
        let I = each_polygon labels (island_load labels records) in
        let D = rows (deck_load records) 0 (length labels) in
        let u = unplaced_load records ∷ [] in
        let P' = raised P (polygon_entry ship (d r) (k r)) in
        let I' = raised I (polygon_entry ship (d r) m) in
        let p-long = each_length ship (polygon_load records) in
        let i-long = each_length ship (island_load labels records) in
        let p'-long = length_raised P (polygon_entry ship (d r) (k r)) in
        let i'-long = length_raised I (polygon_entry ship (d r) m) in
        ap (λ (n : ℕ). each_polygon labels (polygon_load more) ++ each_polygon labels (island_load labels more) ++ rows (deck_load more) 0 (length labels) ++ (n ∷ []))
        (count_no is_unplaced records r (ne_eqb r.polygon all_ones placed))
        ∙ rw (raised_each (λ j. own_place) on, raised_each (island_place labels) island, raised_decks)
        (sym (
        rw (
          first_raised P I D u (polygon_entry ship (d r) (k r)) (omega (arith, p-long, entry_inside ship (d r) (k r) there on)),
          second_raised P' I D u (polygon_total ship) (polygon_entry ship (d r) m) (omega (arith, p-long, p'-long)) (omega (arith, i-long, entry_inside ship (d r) m there island)),
          third_raised P' I' D u (2 * polygon_total ship) (d r) (omega (arith, length-append P' I', p-long, p'-long, i-long, i'-long))
              (omega (arith, length_rows (deck_load records) (length labels) 0, labels_decks ship)),
        )
        ))

  module _ (unplaced : r.polygon ≡ all_ones) where
    same_each : (place_of : ℕ → ℕ → ℕ) → each_polygon labels (loads place_of more) ≡ each_polygon labels (loads place_of records)
    unfolding each_polygon
    same_each place_of =
        lists_same (row place_of records) (row place_of more) (length labels) 0
        (λ j a. rows_same (loads place_of more j) (loads place_of records j) (length (get_or labels j [])) 0
        (λ i b c. count_no (stands_at (place_of j) j i) records r (unplaced_no_place r unplaced (place_of j) j i)))

    same_decks : rows (deck_load more) 0 (length labels) ≡ rows (deck_load records) 0 (length labels)
    same_decks = rows_same (deck_load more) (deck_load records) (length labels) 0 (λ j a b. count_no (on_deck j) records r (unplaced_nowhere r unplaced j))

    -- the unplaced have one more
    pub sheet_unplaced : sheet_of labels more ≡ raised (sheet_of labels records) (unplaced_entry ship)
    unfolding sheet_of raised
    sheet_unplaced =
        let P = each_polygon labels (polygon_load records) in
        let I = each_polygon labels (island_load labels records) in
        let D = rows (deck_load records) 0 (length labels) in
        ap (λ (n : ℕ). each_polygon labels (polygon_load more) ++ each_polygon labels (island_load labels more) ++ rows (deck_load more) 0 (length labels) ++ (n ∷ []))
        (count_yes is_unplaced records r (eq-eqb r.polygon all_ones unplaced))
        ∙ rw (same_each (λ j. own_place), same_each (island_place labels), same_decks)
        (sym (fourth_raised P I D (unplaced_load records ∷ []) (unplaced_entry ship)
        (omega (arith, length-append (P ++ I) D, length-append P I, each_length ship (polygon_load records), each_length ship (island_load labels records), length_rows (deck_load records) (length labels) 0, labels_decks ship))
        ))
