-- The load sheet: how long it is, where each count stands in it, and the sheet of a list in two parts.
use Prim.Native.Nat.{ℕ, zero, suc, ◌+◌, ◌*◌, ◌≤◌, ◌<◌}
use native.Mathlib.Omega.{arith}
use mathlib.Core.Path.{◌≡◌, refl, sym, ap, ap₂, ◌∙◌}
use mathlib.Core.Bool.{Bool, true, false, cond}
use mathlib.Core.List.{List, [], ◌∷◌, ◌++◌}
use lib.ListN.{length, get_or, length-append, length-map, get_or-append, get_or-map}
use lib.Seq.{get_or-append-add, get_or-append_seam}
use Rattle.words.specs.Rows.{rows, collect, collect_all, sum_of, sum_all, count_of, added}
use Rattle.words.proofs.TableRows.{length_rows, get_d_rows}
use Rattle.words.proofs.Collecting.{length_collect, sum_same}
use Rattle.records.specs.declared.SeatRecord.{SeatRecord}
use Rattle.records.specs.Record.{is_unplaced}
use Rattle.ship.specs.Model.{Ship, no_deck, deck_of, polygons_before, polygon_total}
use Rattle.islands.specs.Labels.{labels_by}
use Rattle.islands.specs.Islands.{polygon_count, deck_labels}
use Rattle.islands.proofs.IslandsCall.{labels_many}
use Rattle.loads.specs.Sheet.{ship_labels, on_deck, stands_at, own_place, island_place, polygon_load, island_load, deck_load, unplaced_load, each_polygon, sheet_of, polygon_entry, island_entry, deck_entry, unplaced_entry, sheet_length}

-- ---- `count_of`
module _ {A : Type 0} (p : A → Bool) where
  pub count_append : (l m : List A) → count_of p (l ++ m) ≡ count_of p l + count_of p m
  unfolding count_of
  count_append [] m = omega arith
  count_append (x ∷ l) m = go (p x) (count_append l m)
    where
      go : (b : Bool) → count_of p (l ++ m) ≡ count_of p l + count_of p m
          → cond b (suc (count_of p (l ++ m))) (count_of p (l ++ m)) ≡ cond b (suc (count_of p l)) (count_of p l) + count_of p m
      go true e = omega arith
      go false e = e

  pub count_few : (l : List A) → count_of p l ≤ length l
  unfolding count_of
  count_few [] = omega arith
  count_few (x ∷ l) = go (p x) (count_few l)
    where
      go : (b : Bool) → count_of p l ≤ length l → cond b (suc (count_of p l)) (count_of p l) ≤ suc (length l)
      go true e = omega arith
      go false e = omega arith

-- ---- `added`
pub get_d_added : (xs ys : List ℕ) (k : ℕ) → get_or (added xs ys) k 0 ≡ get_or xs k 0 + get_or ys k 0
unfolding added
get_d_added [] ys k = omega arith
get_d_added (x ∷ xs) [] k = omega arith
get_d_added (x ∷ xs) (y ∷ ys) zero = refl
get_d_added (x ∷ xs) (y ∷ ys) (suc k) = get_d_added xs ys k

-- lists made part by part are added part by part, where the parts are equally long
added_append : (xs ys s t : List ℕ) → length xs ≡ length ys → added (xs ++ s) (ys ++ t) ≡ added xs ys ++ added s t
unfolding added
added_append [] [] s t e = refl
added_append [] (y ∷ ys) s t e = absurd (omega arith)
added_append (x ∷ xs) [] s t e = absurd (omega arith)
added_append (x ∷ xs) (y ∷ ys) s t e = ap (λ (l : List ℕ). (x + y) ∷ l) (added_append xs ys s t (omega arith))

added_rows : (f g h : ℕ → ℕ) → ((k : ℕ) → h k ≡ f k + g k) → (n i : ℕ) → rows h i n ≡ added (rows f i n) (rows g i n)
unfolding rows added
added_rows f g h e zero i = refl
added_rows f g h e (suc n) i = ap₂ ◌∷◌ (e i) (added_rows f g h e n (i + 1))

added_lists : (f g h : ℕ → List ℕ) → ((k : ℕ) → length (f k) ≡ length (g k)) → ((k : ℕ) → h k ≡ added (f k) (g k)) → (n i : ℕ)
    → collect_all h i n ≡ added (collect_all f i n) (collect_all g i n)
unfolding collect added
added_lists f g h l e zero i = refl
added_lists f g h l e (suc n) i =
    ap₂ ◌++◌ (e i) (added_lists f g h l e n (i + 1)) ∙ sym (added_append (f i) (g i) (collect_all f (i + 1) n) (collect_all g (i + 1) n) (l i))

-- ---- lists one after the other
-- a place in list d is a place in all of them
sum_inside : (f : ℕ → ℕ) (n i d k : ℕ) → d < n → k < f (i + d) → sum_all f i d + k < sum_all f i n
unfolding sum_of
sum_inside f zero i d k h l = absurd (omega arith)
sum_inside f (suc n) i zero k h l = let e : i + 0 ≡ i = omega arith in let m : k < f i = rw e at l in omega arith
sum_inside f (suc n) i (suc d) k h l =
    let e : i + suc d ≡ i + 1 + d = omega arith in
    omega (arith, sum_inside f n (i + 1) d k (omega arith) (rw e at l))

-- element k of list d
pub in_lists : {A : Type 0} (f : ℕ → List A) (n i d k : ℕ) (z : A) → d < n → k < length (f (i + d))
    → get_or (collect_all f i n) (sum_all (λ j. length (f j)) i d + k) z ≡ get_or (f (i + d)) k z
unfolding collect sum_of
in_lists f zero i d k z h l = absurd (omega arith)
in_lists f (suc n) i zero k z h l =
    let e : i + 0 ≡ i = omega arith in
    let j : 0 + k ≡ k = omega arith in
    rw (e, j) (get_or-append (f i) (collect_all f (i + 1) n) z k (rw e at l))
in_lists f (suc n) i (suc d) k z h l =
    let e : i + suc d ≡ i + 1 + d = omega arith in
    let s = sum_all (λ j. length (f j)) (i + 1) d in
    let j : length (f i) + s + k ≡ length (f i) + (s + k) = omega arith in
    rw (e, j) (get_or-append-add (f i) (collect_all f (i + 1) n) (s + k) z ∙ in_lists f n (i + 1) d k z (omega arith) (rw e at l))

-- ---- the labels
module _ (ship : Ship) where
  pub labels_decks : length (ship_labels ship) ≡ length ship.decks
  unfolding ship_labels
  labels_decks = length-map ship.decks deck_labels

  -- a deck that is not there has none
  pub labels_of : (d : ℕ) → get_or (ship_labels ship) d [] ≡ deck_labels (deck_of ship d)
  unfolding ship_labels deck_labels labels_by rows
  labels_of d = get_or-map deck_labels ship.decks d no_deck

  pub labels_polygons : (d : ℕ) → length (get_or (ship_labels ship) d []) ≡ polygon_count (deck_of ship d)
  labels_polygons d = rw (labels_of d) (labels_many (deck_of ship d))

  -- ---- one a polygon
  pub entry_inside : (d k : ℕ) → d < length ship.decks → k < polygon_count (deck_of ship d) → polygon_entry ship d k < polygon_total ship
  unfolding polygons_before
  entry_inside d k h l =
      let e : 0 + d ≡ d = omega arith in
      sum_inside (λ j. polygon_count (deck_of ship j)) (length ship.decks) 0 d k h (rw e l)

  module _ (load : ℕ → ℕ → ℕ) where
    abbrev deck_rows : ℕ → List ℕ
    deck_rows d = rows (load d) 0 (length (get_or (ship_labels ship) d []))

    pub row_long : (d : ℕ) → length (deck_rows d) ≡ polygon_count (deck_of ship d)
    row_long d = length_rows (load d) (length (get_or (ship_labels ship) d [])) 0 ∙ labels_polygons d

    pub rows_long : (n : ℕ) → sum_all (λ d. length (deck_rows d)) 0 n ≡ polygons_before ship n
    unfolding polygons_before
    rows_long n = sum_same (λ k. true) (λ d. length (deck_rows d)) (λ d. polygon_count (deck_of ship d)) n (λ d h t. row_long d)

    pub each_length : length (each_polygon (ship_labels ship) load) ≡ polygon_total ship
    unfolding each_polygon
    each_length = length_collect (λ k. true) deck_rows 0 (length (ship_labels ship)) ∙ rows_long (length (ship_labels ship)) ∙ ap (polygons_before ship) labels_decks

    each_at : (d k : ℕ) → d < length ship.decks → k < polygon_count (deck_of ship d) → get_or (each_polygon (ship_labels ship) load) (polygon_entry ship d k) 0 ≡ load d k
    unfolding each_polygon
    each_at d k h l =
        let e : 0 + d ≡ d = omega arith in
        let j : 0 + k ≡ k = omega arith in
        let here : k < length (deck_rows (0 + d)) = rw (e, row_long d) l in
        rw (← rows_long d) (in_lists deck_rows (length (ship_labels ship)) 0 d k 0 (omega (arith, labels_decks)) here
        ∙ rw e (get_d_rows (load d) (length (get_or (ship_labels ship) d [])) 0 k 0 (omega (arith, labels_polygons d)) ∙ rw j))

  -- ---- the sheet, whose four parts these are
  module _ (records : List SeatRecord) where
    abbrev polygons : List ℕ
    polygons = each_polygon (ship_labels ship) (polygon_load records)

    abbrev islands : List ℕ
    islands = each_polygon (ship_labels ship) (island_load (ship_labels ship) records)

    abbrev decks : List ℕ
    decks = rows (deck_load records) 0 (length (ship_labels ship))

    abbrev unplaced : List ℕ
    unplaced = unplaced_load records ∷ []

    polygons_long : length polygons ≡ polygon_total ship
    polygons_long = each_length (polygon_load records)

    islands_long : length (polygons ++ islands) ≡ 2 * polygon_total ship
    islands_long = omega (arith, length-append polygons islands, polygons_long, each_length (island_load (ship_labels ship) records))

    decks_long : length (polygons ++ islands ++ decks) ≡ unplaced_entry ship
    decks_long = omega (arith, length-append (polygons ++ islands) decks, islands_long, length_rows (deck_load records) (length (ship_labels ship)) 0, labels_decks)

    pub sheet_length_lem : length (sheet_of (ship_labels ship) records) ≡ sheet_length ship
    unfolding sheet_of
    sheet_length_lem = length-append (polygons ++ islands ++ decks) unplaced ∙ omega (arith, decks_long)

    -- before the decks
    front_at : (k : ℕ) → k < 2 * polygon_total ship → get_or (sheet_of (ship_labels ship) records) k 0 ≡ get_or (polygons ++ islands) k 0
    unfolding sheet_of
    front_at k h =
        get_or-append (polygons ++ islands ++ decks) unplaced 0 k (omega (arith, decks_long))
        ∙ get_or-append (polygons ++ islands) decks 0 k (omega (arith, islands_long))

    pub polygon_at : (d k : ℕ) → d < length ship.decks → k < polygon_count (deck_of ship d)
        → get_or (sheet_of (ship_labels ship) records) (polygon_entry ship d k) 0 ≡ polygon_load records d k
    polygon_at d k h l =
        let inside = entry_inside d k h l in
        front_at (polygon_entry ship d k) (omega arith)
        ∙ get_or-append polygons islands 0 (polygon_entry ship d k) (omega (arith, polygons_long))
        ∙ each_at (polygon_load records) d k h l

    pub island_at : (d k : ℕ) → d < length ship.decks → k < polygon_count (deck_of ship d)
        → get_or (sheet_of (ship_labels ship) records) (island_entry ship d k) 0 ≡ island_load (ship_labels ship) records d k
    island_at d k h l =
        let inside = entry_inside d k h l in
        front_at (island_entry ship d k) (omega arith)
        ∙ rw (← polygons_long) (get_or-append-add polygons islands (polygon_entry ship d k) 0)
        ∙ each_at (island_load (ship_labels ship) records) d k h l

    pub deck_at : (d : ℕ) → d < length ship.decks → get_or (sheet_of (ship_labels ship) records) (deck_entry ship d) 0 ≡ deck_load records d
    unfolding sheet_of
    deck_at d h =
        let e : 0 + d ≡ d = omega arith in
        get_or-append (polygons ++ islands ++ decks) unplaced 0 (deck_entry ship d) (omega (arith, decks_long))
        ∙ rw (← islands_long) (get_or-append-add (polygons ++ islands) decks d 0)
        ∙ get_d_rows (deck_load records) (length (ship_labels ship)) 0 d 0 (omega (arith, labels_decks)) ∙ rw e

    pub unplaced_at : get_or (sheet_of (ship_labels ship) records) (unplaced_entry ship) 0 ≡ unplaced_load records
    unfolding sheet_of
    unplaced_at = rw (← decks_long) (get_or-append_seam (polygons ++ islands ++ decks) (unplaced_load records) [] 0)

-- ---- the sheet of a list in two parts
module _ (labels : List (List ℕ)) where
  abbrev many : ℕ → ℕ
  many d = length (get_or labels d [])

  same_length : (f g : ℕ → ℕ → ℕ) (d : ℕ) → length (rows (f d) 0 (many d)) ≡ length (rows (g d) 0 (many d))
  same_length f g d = length_rows (f d) (many d) 0 ∙ sym (length_rows (g d) (many d) 0)

  each_added : (f g h : ℕ → ℕ → ℕ) → ((d k : ℕ) → h d k ≡ f d k + g d k) → each_polygon labels h ≡ added (each_polygon labels f) (each_polygon labels g)
  unfolding each_polygon
  each_added f g h e =
      added_lists (λ d. rows (f d) 0 (many d)) (λ d. rows (g d) 0 (many d)) (λ d. rows (h d) 0 (many d)) (same_length f g)
      (λ d. added_rows (f d) (g d) (h d) (e d) (many d) 0) (length labels) 0

  each_same_length : (f g : ℕ → ℕ → ℕ) → length (each_polygon labels f) ≡ length (each_polygon labels g)
  unfolding each_polygon
  each_same_length f g =
      length_collect (λ k. true) (λ d. rows (f d) 0 (many d)) 0 (length labels)
      ∙ sum_same (λ k. true) (λ d. length (rows (f d) 0 (many d))) (λ d. length (rows (g d) 0 (many d))) (length labels) (λ d h t. same_length f g d)
      ∙ sym (length_collect (λ k. true) (λ d. rows (g d) 0 (many d)) 0 (length labels))

  -- four parts, each as long as the other list's
  four_added : (a b c e a' b' c' e' : List ℕ) → length a ≡ length a' → length b ≡ length b' → length c ≡ length c'
      → added (a ++ b ++ c ++ e) (a' ++ b' ++ c' ++ e') ≡ added a a' ++ added b b' ++ added c c' ++ added e e'
  four_added a b c e a' b' c' e' p q r =
      let two : length (a ++ b) ≡ length (a' ++ b') = omega (arith, length-append a b, length-append a' b') in
      let three : length (a ++ b ++ c) ≡ length (a' ++ b' ++ c') = omega (arith, length-append (a ++ b) c, length-append (a' ++ b') c') in
      added_append (a ++ b ++ c) (a' ++ b' ++ c') e e' three
      ∙ rw (added_append (a ++ b) (a' ++ b') c c' two, added_append a a' b b' p)

  pub sheet_append : (l m : List SeatRecord) → sheet_of labels (l ++ m) ≡ added (sheet_of labels l) (sheet_of labels m)
  unfolding sheet_of added
  sheet_append l m =
      rw (
        each_added (polygon_load l) (polygon_load m) (polygon_load (l ++ m)) (λ d k. count_append (stands_at own_place d k) l m),
        each_added (island_load labels l) (island_load labels m) (island_load labels (l ++ m)) (λ d k. count_append (stands_at (island_place labels d) d k) l m),
        added_rows (deck_load l) (deck_load m) (deck_load (l ++ m)) (λ d. count_append (on_deck d) l m) (length labels) 0,
        count_append is_unplaced l m,
      )
      (sym (four_added (each_polygon labels (polygon_load l)) (each_polygon labels (island_load labels l)) (rows (deck_load l) 0 (length labels)) (unplaced_load l ∷ [])
      (each_polygon labels (polygon_load m)) (each_polygon labels (island_load labels m)) (rows (deck_load m) 0 (length labels)) (unplaced_load m ∷ [])
      (each_same_length (polygon_load l) (polygon_load m)) (each_same_length (island_load labels l) (island_load labels m))
      (length_rows (deck_load l) (length labels) 0 ∙ sym (length_rows (deck_load m) (length labels) 0))))
