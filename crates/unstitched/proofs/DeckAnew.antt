-- A deck whose new blocks stand in a file: it passes questions 8 to 13 as the old one did, and its model is the old one with its lists filtered.
use Prim.Native.Nat.{ℕ, zero, suc, ◌+◌, ◌-◌, ◌*◌, ◌≤◌, ◌<◌}
use native.Mathlib.Omega.{arith}
use mathlib.Core.Path.{◌≡◌, refl, sym, ap, ◌∙◌}
use mathlib.Core.Bool.{Bool, true, ◌&&◌}
use mathlib.Core.List.{List, ◌++◌, append_assoc}
use lib.Dec.{leb, ltb}
use lib.ListN.{length, get_or, length-append, get_or-append}
use lib.Seq.{get_or-append-add, ext_get_or}
use lib.Ieee.{binary32, of_bits}
use Rattle.words.specs.Bytes.{u32_at, f32_at}
use Rattle.words.specs.Rows.{rows, every}
use Rattle.words.proofs.TableRows.{length_rows, both, map_rows, rows_same}
use Rattle.ship.specs.declared.Blocks.{Blocks}
use Rattle.ship.specs.declared.Extent.{Extent}
use Rattle.ship.specs.Layout.{number_size, deck_offset_size, vertex_size, first_y, vertex_position, neighbour_extent, neighbour_entry, polygon_extent, corner_entry, height_position}
use Rattle.ship.specs.Decode.{point_at, entries, vertex_at, polygon_at, deck_at}
use Rattle.ship.specs.Floats.{in_size}
use Rattle.ship.specs.Questions.{end_to_end, every_float, every_count, question8, question9, question10, question11, question12, question13}
use Rattle.ship.proofs.EndToEnd.{chain_inside}
use Rattle.ship.proofs.ModelFacts.{row}
use Rattle.ship.proofs.Passed.{BlocksYes}
use Rattle.unstitched.specs.declared.Stitches.{Stitches}
use Rattle.unstitched.specs.Removal.{kept_of, with_lists}
use Rattle.unstitched.specs.NewFile.{kept_from}
use Rattle.unstitched.proofs.Chains.{Mapped, chain_mapped}
use Rattle.unstitched.proofs.NewDeck.{kept_entries, moved_to, Anew}
use Rattle.unstitched.proofs.KeptLists.{kept_rows}

every_same : (p q : ℕ → Bool) (i n : ℕ) → ((k : ℕ) → i ≤ k → k < i + n → p k ≡ q k) → every p i n ≡ every q i n
unfolding every
every_same p q i zero e = refl
every_same p q i (suc n) e = rw (e i (omega arith) (omega arith), every_same p q (i + 1) n (λ k a b. e k (omega arith) (omega arith)))

floats_same : (s t : List ℕ) (from at stride n : ℕ) → ((k : ℕ) → k < n → u32_at t (at + stride * k) ≡ u32_at s (from + stride * k)) → every_float t at stride n ≡ every_float s from stride n
floats_same s t from at stride n e =
    every_same (λ k. in_size (f32_at t (at + stride * k))) (λ k. in_size (f32_at s (from + stride * k))) 0 n (λ k a b. rw (e k (omega arith)))

rows_moved : {A : Type 0} (f : ℕ → A) (i k n : ℕ) → rows (λ j. f (i + j)) k n ≡ rows f (i + k) n
unfolding rows
rows_moved f i k zero = refl
rows_moved f i k (suc n) = let e : i + k + 1 ≡ i + (k + 1) = omega arith in rw e (rw (rows_moved f i (k + 1) n))

module _ (which : Stitches) (s : List ℕ) (d : ℕ) (b : Blocks) (t : List ℕ) (at : ℕ) (r : Anew which s d b t at) (y : BlocksYes s b) where
  abbrev moved : Blocks
  moved = moved_to which s d b at

  -- ---- the kept lists
  kept_split : (i m n : ℕ) → kept_from which s d b i (m + n) ≡ kept_from which s d b i m ++ kept_from which s d b (i + m) n
  unfolding kept_from
  kept_split = kept_rows which d (neighbour_entry s b)

  -- how many of the first n entries are kept
  abbrev kept_before : ℕ → ℕ
  kept_before n = length (kept_from which s d b 0 n)

  kept_none : kept_before 0 ≡ 0
  unfolding kept_from kept_of rows
  kept_none = refl

  list_mapped : (i : ℕ) → i < b.vertices → Mapped kept_before (neighbour_extent s b i) (neighbour_extent t moved i)
  list_mapped i h =
      let start = (neighbour_extent s b i).start in
      let count = (neighbour_extent s b i).count in
      let e : kept_from which s d b 0 (start + count) ≡ kept_from which s d b 0 start ++ kept_from which s d b (0 + start) count = kept_split 0 start count in
      let z : 0 + start ≡ start = omega arith in
      rw (r.list i h) record {
        begins = refl;
        ends = sym (ap length (rw z at e) ∙ length-append (kept_from which s d b 0 start) (kept_from which s d b start count));
      }

  -- ---- questions
  lists : end_to_end (neighbour_extent t moved) (length (kept_entries which s d b)) 0 0 b.vertices ≡ true
  unfolding question12
  lists =
      let old = (both (end_to_end (neighbour_extent s b) b.neighbours 0 0 b.vertices) _ y.yes12).0 in
      rw kept_none at (chain_mapped kept_before (neighbour_extent s b) (neighbour_extent t moved) b.neighbours 0 0 b.vertices (λ i a h. list_mapped i (omega arith)) old)

  polygons : (end_to_end (polygon_extent t moved) b.corners 0 0 b.polygons && every_count (polygon_extent t moved) b.polygons) ≡ true
  unfolding question12
  polygons =
      let old = (both (end_to_end (neighbour_extent s b) b.neighbours 0 0 b.vertices) _ y.yes12).1 in
      let p = both (end_to_end (polygon_extent s b) b.corners 0 0 b.polygons) (every_count (polygon_extent s b) b.polygons) old in
      let chain = chain_mapped (λ n. n) (polygon_extent s b) (polygon_extent t moved) b.corners 0 0 b.polygons
      (λ k a h. rw (r.polygon k (omega arith)) record { begins = refl; ends = refl }) p.0 in
      let counts : every_count (polygon_extent t moved) b.polygons ≡ every_count (polygon_extent s b) b.polygons =
      every_same (λ k. leb 1 (polygon_extent t moved k).count && leb (polygon_extent t moved k).count 4096)
      (λ k. leb 1 (polygon_extent s b k).count && leb (polygon_extent s b k).count 4096) 0 b.polygons
      (λ k a h. ap (λ (x : Extent). leb 1 x.count && leb x.count 4096) (r.polygon k (omega arith))) in
      rw (chain, counts) p.1

  floats : question11 t moved ≡ question11 s b
  unfolding question11
  floats =
      let offset = floats_same s t b.v moved.v number_size 2 (λ k h. r.offset (number_size * k) (omega arith)) in
      let xs = floats_same s t (b.v + deck_offset_size) (moved.v + deck_offset_size) vertex_size b.vertices
      (λ i h. let e : vertex_position moved i + 0 ≡ vertex_position moved i = omega arith in
      let f : vertex_position b i + 0 ≡ vertex_position b i = omega arith in
      rw (e, f) at (r.point i h 0 (omega arith))) in
      let ys = floats_same s t (b.v + first_y) (moved.v + first_y) vertex_size b.vertices
      (λ i h. let e : moved.v + first_y + vertex_size * i ≡ vertex_position moved i + number_size = omega arith in
      let f : b.v + first_y + vertex_size * i ≡ vertex_position b i + number_size = omega arith in
      rw (e, f) (r.point i h number_size (omega arith))) in
      let heights = floats_same s t b.h moved.h number_size b.heights r.height in
      rw (offset, xs, ys, heights)

  corners : question13 t moved ≡ question13 s b
  unfolding question13
  corners =
      every_same (λ i. ltb (corner_entry t moved i) b.vertices) (λ i. ltb (corner_entry s b i) b.vertices) 0 b.corners
      (λ i a h. rw (r.corner i (omega arith)))

  pub blocks_anew : BlocksYes t moved
  unfolding question8 question9 question10 question12
  blocks_anew =
      record {
        yes8 = y.yes8;
        yes9 = y.yes9;
        yes10 = y.yes10;
        yes11 = floats ∙ y.yes11;
        yes12 = rw lists polygons;
        yes13 = corners ∙ y.yes13;
      }

  -- ---- the model
  module _ (i : ℕ) (h : i < b.vertices) where
    abbrev start : ℕ
    start = (neighbour_extent s b i).start

    abbrev count : ℕ
    count = (neighbour_extent s b i).count

    abbrev kept : List ℕ
    kept = kept_from which s d b start count

    list_inside : start + count ≤ b.neighbours
    unfolding question12
    list_inside =
        let old = (both (end_to_end (neighbour_extent s b) b.neighbours 0 0 b.vertices) _ y.yes12).0 in
        let z : 0 + i ≡ i = omega arith in
        rw z at (chain_inside (neighbour_extent s b) b.neighbours 0 0 b.vertices old i h).1

    -- the list lies among all that is kept
    kept_parts : kept_entries which s d b ≡ kept_from which s d b 0 start ++ kept ++ kept_from which s d b (start + count) (b.neighbours - (start + count))
    kept_parts =
        let e : b.neighbours ≡ start + count + (b.neighbours - (start + count)) = omega (arith, list_inside) in
        let z : (n : ℕ) → 0 + n ≡ n = λ n. omega arith in
        ap (kept_from which s d b 0) e
        ∙ kept_split 0 (start + count) (b.neighbours - (start + count))
        ∙ rw (z (start + count), kept_split 0 start count, z start)

    entry_anew : (k : ℕ) → k < length kept → neighbour_entry t moved (kept_before start + k) ≡ get_or kept k 0
    entry_anew k l =
        let before = kept_from which s d b 0 start in
        let after = kept_from which s d b (start + count) (b.neighbours - (start + count)) in
        let e : kept_entries which s d b ≡ before ++ (kept ++ after) = kept_parts ∙ append_assoc before kept after in
        let long : length (kept_entries which s d b) ≡ length before + (length kept + length after) = rw (e, length-append before (kept ++ after), length-append kept after) in
        r.entry (length before + k) (omega arith)
        ∙ ap (λ (xs : List ℕ). get_or xs (length before + k) 0) e
        ∙ get_or-append-add before (kept ++ after) k 0
        ∙ get_or-append kept after 0 k l

    list_anew : entries (neighbour_entry t moved) (neighbour_extent t moved i) ≡ kept_of which d (entries (neighbour_entry s b) (neighbour_extent s b i))
    unfolding kept_from
    list_anew =
        let f : ℕ → ℕ = λ j. neighbour_entry t moved (kept_before start + j) in
        let old : rows (λ j. neighbour_entry s b (start + j)) 0 count ≡ rows (neighbour_entry s b) start count =
        let z : start + 0 ≡ start = omega arith in
        rw z at (rows_moved (neighbour_entry s b) start 0 count) in
        let new : rows f 0 (length kept) ≡ kept =
        ext_get_or 0 (rows f 0 (length kept)) kept (length_rows f (length kept) 0)
        (λ k l. let m : k < length kept = omega (arith, length_rows f (length kept) 0) in
        row f (length kept) k 0 m ∙ entry_anew k m) in
        ap (entries (neighbour_entry t moved)) (r.list i h) ∙ new ∙ rw old

    point_anew : point_at t (vertex_position moved i) ≡ point_at s (vertex_position b i)
    point_anew =
        let e : vertex_position moved i + 0 ≡ vertex_position moved i = omega arith in
        let f : vertex_position b i + 0 ≡ vertex_position b i = omega arith in
        rw (rw (e, f) at (r.point i h 0 (omega arith)), r.point i h number_size (omega arith))

    vertex_anew : vertex_at t moved i ≡ record { point = (vertex_at s b i).point; neighbours = kept_of which d (vertex_at s b i).neighbours }
    vertex_anew = λ j. record { point = point_anew j; neighbours = list_anew j }

  offset_anew : point_at t moved.v ≡ point_at s b.v
  offset_anew =
      let e : moved.v + 0 ≡ moved.v = omega arith in
      let f : b.v + 0 ≡ b.v = omega arith in
      rw (rw (e, f) at (r.offset 0 (omega arith)), r.offset number_size (omega arith))

  polygon_anew : (k : ℕ) → k < b.polygons → polygon_at t moved k ≡ polygon_at s b k
  unfolding question12
  polygon_anew k h =
      let old = (both (end_to_end (neighbour_extent s b) b.neighbours 0 0 b.vertices) _ y.yes12).1 in
      let chain = (both (end_to_end (polygon_extent s b) b.corners 0 0 b.polygons) (every_count (polygon_extent s b) b.polygons) old).0 in
      let z : 0 + k ≡ k = omega arith in
      let fit = rw z at (chain_inside (polygon_extent s b) b.corners 0 0 b.polygons chain k h).1 in
      let at = (polygon_extent s b k).start in
      ap (entries (corner_entry t moved)) (r.polygon k h)
      ∙ rows_same (λ j. corner_entry t moved (at + j)) (λ j. corner_entry s b (at + j)) (polygon_extent s b k).count 0 (λ j a l. r.corner (at + j) (omega arith))

  pub deck_anew : deck_at t moved ≡ with_lists (kept_of which d) (deck_at s b)
  unfolding deck_at
  deck_anew =
      let vertices = map_rows (λ v. record { point = v.point; neighbours = kept_of which d v.neighbours }) (vertex_at s b) (vertex_at t moved) b.vertices 0
      (λ i a h. sym (vertex_anew i (omega arith))) in
      let polygons = rows_same (polygon_at t moved) (polygon_at s b) b.polygons 0 (λ k a h. polygon_anew k (omega arith)) in
      let heights = rows_same (λ i. f32_at t (height_position moved i)) (λ i. f32_at s (height_position b i)) b.heights 0
      (λ i a h. ap (of_bits binary32) (r.height i (omega arith))) in
      λ j. record { offset = offset_anew j; vertices = sym vertices j; polygons = polygons j; heights = heights j }
