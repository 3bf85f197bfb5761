-- What the counts of a list of records add up to, where each record is aboard.
use Prim.Native.Nat.{ℕ, zero, suc, ◌+◌, ◌≤◌, ◌<◌}
use native.Mathlib.Omega.{arith}
use mathlib.Core.Path.{◌≡◌, refl, sym, ap₂, ◌∙◌}
use mathlib.Core.Bool.{Bool, true, false, not, ◌&&◌, cond}
use mathlib.Core.Logic.{inl, inr}
use mathlib.Core.List.{List, [], ◌∷◌}
use lib.Dec.{eqb}
use lib.ListN.{length, get_or}
use borrow.Author.Tests.{eqb-true, eqb-false, eq-eqb, ne_eqb}
use Rattle.words.specs.Bytes.{all_ones}
use Rattle.words.specs.Rows.{rows, sum_of, sum_all, All, count_of}
use Rattle.words.proofs.TableRows.{both, get_d_rows, all_map}
use Rattle.records.specs.declared.SeatRecord.{SeatRecord}
use Rattle.records.specs.Record.{is_unplaced}
use Rattle.ship.specs.Model.{Ship, Deck, deck_of}
use Rattle.ship.specs.Packed.{packed_deck, packed_polygon}
use Rattle.islands.specs.Labels.{first, through, label_by, labels_by}
use Rattle.islands.specs.Islands.{names, polygon_count, deck_labels}
use Rattle.loads.specs.Sheet.{ship_labels, on_deck, stands_at, own_place, island_place, polygon_load, island_load, deck_load, unplaced_load}
use Rattle.loads.specs.Counting.{Aboard}
use Rattle.loads.proofs.SheetLaws.{labels_of}

-- ---- a test as a number
abbrev one : Bool → ℕ
one b = cond b 1 0

module _ {A : Type 0} (p : A → Bool) where
  count_cons : (x : A) (l : List A) → count_of p (x ∷ l) ≡ one (p x) + count_of p l
  unfolding count_of
  count_cons x l = go (p x)
    where
      go : (b : Bool) → cond b (suc (count_of p l)) (count_of p l) ≡ one b + count_of p l
      go true = omega arith
      go false = omega arith

  count_none : (l : List A) → All (λ x. p x ≡ false) l → count_of p l ≡ 0
  unfolding count_of
  count_none [] a = refl
  count_none (x ∷ l) a = rw a.0 (count_none l a.1)

  -- each passes the test or does not
  count_apart : (l : List A) → count_of (λ x. not (p x)) l + count_of p l ≡ length l
  unfolding count_of
  count_apart [] = omega arith
  count_apart (x ∷ l) = go (p x) (count_apart l)
    where
      go : (b : Bool) → count_of (λ y. not (p y)) l + count_of p l ≡ length l
          → cond (not b) (suc (count_of (λ y. not (p y)) l)) (count_of (λ y. not (p y)) l) + cond b (suc (count_of p l)) (count_of p l) ≡ suc (length l)
      go true e = omega arith
      go false e = omega arith

-- ---- sums
sum_zero : (n i : ℕ) → sum_all (λ m. 0) i n ≡ 0
unfolding sum_of
sum_zero zero i = refl
sum_zero (suc n) i = omega (arith, sum_zero n (i + 1))

sum_added : (f g h : ℕ → ℕ) → ((m : ℕ) → h m ≡ f m + g m) → (n i : ℕ) → sum_all h i n ≡ sum_all f i n + sum_all g i n
unfolding sum_of
sum_added f g h e zero i = refl
sum_added f g h e (suc n) i = omega (arith, e i, sum_added f g h e n (i + 1))

-- of all places only a is a, and it is one of them, or it is not
sum_past : (a n i : ℕ) → a < i → sum_all (λ m. one (eqb a m)) i n ≡ 0
unfolding sum_of
sum_past a zero i h = refl
sum_past a (suc n) i h = rw (ne_eqb a i (λ q. omega arith)) (omega (arith, sum_past a n (i + 1) (omega arith)))

sum_there : (a n i : ℕ) → i ≤ a → a < i + n → sum_all (λ m. one (eqb a m)) i n ≡ 1
unfolding sum_of
sum_there a zero i l h = absurd (omega arith)
sum_there a (suc n) i l h = go (eqb a i) refl (λ b c. sum_there a n (i + 1) b c)
  where
    go : (t : Bool) → eqb a i ≡ t → (i + 1 ≤ a → a < i + 1 + n → sum_all (λ m. one (eqb a m)) (i + 1) n ≡ 1) → one t + sum_all (λ m. one (eqb a m)) (i + 1) n ≡ 1
    go true e later = omega (arith, sum_past a n (i + 1) (omega (arith, eqb-true a i e)))
    go false e later =
        let d = eqb-false a i e in
        omega (arith, later (omega (arith, d)) (omega arith))

-- one record stands at one place, or at none
sum_one : (b : Bool) (a n : ℕ) → (b ≡ true → a < n) → sum_all (λ m. one (b && eqb a m)) 0 n ≡ one b
sum_one true a n h = sum_there a n 0 (omega arith) (omega (arith, h refl))
sum_one false a n h = sum_zero n 0

-- so for a list: the counts of all places are the count of those that stand somewhere
sum_counts : {A : Type 0} (q : ℕ → A → Bool) (p : A → Bool) (n : ℕ) (l : List A) → All (λ x. sum_all (λ m. one (q m x)) 0 n ≡ one (p x)) l
    → sum_all (λ m. count_of (q m) l) 0 n ≡ count_of p l
unfolding count_of
sum_counts q p n [] a = sum_zero n 0
sum_counts q p n (x ∷ l) a =
    sum_added (λ m. one (q m x)) (λ m. count_of (q m) l) (λ m. count_of (q m) (x ∷ l)) (λ m. count_cons (q m) x l) n 0
    ∙ ap₂ ◌+◌ a.0 (sum_counts q p n l a.1)
    ∙ sym (count_cons p x l)

-- ---- labels
first_high : (p : ℕ → Bool) (n i : ℕ) → first p i n ≤ i + n
unfolding first
first_high p zero i = omega arith
first_high p (suc n) i = go (p i) (first_high p n (i + 1))
  where
    go : (b : Bool) → first p (i + 1) n ≤ i + 1 + n → cond b i (first p (i + 1) n) ≤ i + suc n
    go true l = omega arith
    go false l = omega arith

-- a label is its polygon at the latest
pub label_below : (deck : Deck) (k : ℕ) → k < polygon_count deck → get_or (deck_labels deck) k 0 < polygon_count deck
unfolding deck_labels labels_by label_by
label_below deck k h =
    let n = polygon_count deck in
    let z : 0 + k ≡ k = omega arith in
    let e : get_or (rows (label_by (names deck) n) 0 n) k 0 ≡ label_by (names deck) n k = get_d_rows (label_by (names deck) n) n 0 k 0 h ∙ rw z in
    omega (arith, e, first_high (λ m. through (names deck) n m k) k 0)

-- ---- records that are aboard
module _ (ship : Ship) where
  abbrev pub AllAboard : List SeatRecord → Type 0
  AllAboard records = All (λ r. Aboard ship r.polygon) records

  module _ (r : SeatRecord) (aboard : Aboard ship r.polygon) where
    placed : not (is_unplaced r) ≡ true → (packed_deck r.polygon < length ship.decks) × (packed_polygon r.polygon < polygon_count (deck_of ship (packed_deck r.polygon)))
    placed e = go aboard
      where
        go : Aboard ship r.polygon → (packed_deck r.polygon < length ship.decks) × (packed_polygon r.polygon < polygon_count (deck_of ship (packed_deck r.polygon)))
        go (inl q) = let t = eq-eqb r.polygon all_ones q in let z : ◌≡◌ {A = ℕ} 0 1 = cc in absurd (omega arith)
        go (inr h) = h

    on_deck_lem : (d : ℕ) → on_deck d r ≡ true → packed_polygon r.polygon < polygon_count (deck_of ship d)
    unfolding on_deck
    on_deck_lem d e =
        let s = both (not (is_unplaced r)) (eqb (packed_deck r.polygon) d) e in
        let q = eqb-true (packed_deck r.polygon) d s.1 in
        rw q at (placed s.0).1

  module _ (records : List SeatRecord) (aboard : AllAboard records) where
    -- by any place that is below the deck's number of polygons
    places_sum : (place_of : ℕ → ℕ) (d : ℕ) → ((k : ℕ) → k < polygon_count (deck_of ship d) → place_of k < polygon_count (deck_of ship d))
        → sum_all (λ m. count_of (stands_at place_of d m) records) 0 (polygon_count (deck_of ship d)) ≡ deck_load records d
    unfolding stands_at
    places_sum place_of d below =
        sum_counts (stands_at place_of d) (on_deck d) (polygon_count (deck_of ship d)) records
        (all_map (λ r. Aboard ship r.polygon) _
        (λ r a. sum_one (on_deck d r) (place_of (packed_polygon r.polygon)) (polygon_count (deck_of ship d)) (λ e. below (packed_polygon r.polygon) (on_deck_lem r a d e)))
        records aboard)

    pub polygons_sum : (d : ℕ) → sum_all (λ k. polygon_load records d k) 0 (polygon_count (deck_of ship d)) ≡ deck_load records d
    polygons_sum d = places_sum own_place d (λ k h. h)

    pub islands_sum : (d : ℕ) → sum_all (λ m. island_load (ship_labels ship) records d m) 0 (polygon_count (deck_of ship d)) ≡ deck_load records d
    islands_sum d = places_sum (island_place (ship_labels ship) d) d (λ k h. rw (labels_of ship d) (label_below (deck_of ship d) k h))

    pub decks_sum : sum_all (λ d. deck_load records d) 0 (length ship.decks) + unplaced_load records ≡ length records
    unfolding on_deck
    decks_sum =
        let somewhere = sum_counts on_deck (λ r. not (is_unplaced r)) (length ship.decks) records
        (all_map (λ r. Aboard ship r.polygon) _
        (λ r a. sum_one (not (is_unplaced r)) (packed_deck r.polygon) (length ship.decks) (λ e. (placed r a e).0)) records aboard) in
        omega (arith, somewhere, count_apart is_unplaced records)

    -- a place that is no polygon's label has no seats
    pub no_label : (d m : ℕ) → ((k : ℕ) → k < polygon_count (deck_of ship d) → get_or (deck_labels (deck_of ship d)) k 0 ≡ m → ⊥)
        → island_load (ship_labels ship) records d m ≡ 0
    unfolding stands_at
    no_label d m none =
        count_none (stands_at (island_place (ship_labels ship) d) d m) records
        (all_map (λ r. Aboard ship r.polygon) _ (λ r a. go r (on_deck d r) (on_deck_lem r a d)) records aboard)
      where
        go : (r : SeatRecord) (b : Bool) → (b ≡ true → packed_polygon r.polygon < polygon_count (deck_of ship d))
            → (b && eqb (island_place (ship_labels ship) d (packed_polygon r.polygon)) m) ≡ false
        go r true h = rw (labels_of ship d) (ne_eqb _ m (λ q. none (packed_polygon r.polygon) (h refl) q))
        go r false h = refl
