-- A deck that is read in place: what its blocks show is the model's deck.
use Prim.Native.Nat.{ℕ, ◌+◌, ◌-◌, ◌*◌, ◌≤◌, ◌<◌}
use native.Mathlib.Omega.{arith}
use mathlib.Core.Path.{◌≡◌, sym, ap, ◌∙◌, subst}
use mathlib.Core.Bool.{not}
use mathlib.Core.List.{List}
use mathlib.Core.Logic.{◌⊎◌, inl, inr}
use lib.Dec.{T}
use lib.ListN.{length, get_or, take, drop, length-drop}
use Rattle.std.proofs.Common.{get_or-drop}
use Rattle.std.proofs.lemmas.List.{take_rest}
use native.Mathlib.Nat.{add_assoc}
use lib.Ieee.{Float, binary32, nan_bits, of_bits}
use Rattle.std.specs.Prelude.{Ok}
use Rattle.words.specs.Bytes.{u32_at, f32_at}
use Rattle.ship.specs.declared.Blocks.{Blocks}
use Rattle.ship.specs.Layout.{number_size, pair_size, deck_offset_size, vertex_size, decks_in, blocks_at, vertex_position, neighbour_extent, neighbour_entry, polygon_extent, corner_entry, height_position}
use Rattle.ship.specs.Model.{Deck, deck_of, point_of, neighbours_of, corners_of, height_of}
use Rattle.ship.specs.Decode.{deck_at, decode}
use Rattle.ship.specs.Questions.{first_no, DeckOfPassed}
use Rattle.ship.specs.Within.{DeckWithin}
use Rattle.ship.proofs.Passed.{passed_header}
use Rattle.ship.proofs.Facts.{sound}
use Rattle.ship.proofs.ModelFacts.{vertices_length, polygons_length, heights_length, deck_within, deck_there, deck_of_lem}
use Rattle.decks.proofs.Readers.{v_inside, p_inside, h_inside, offset_is, point_is, height_is, offset_x_not_nan, offset_y_not_nan, vertex_x_not_nan, vertex_y_not_nan, height_not_nan, neighbour_count_is, neighbour_is, neighbour_inside, corner_count_is, some_corner, few_corners, corner_is, corner_there, corner_inside, whole_rows}

-- ---- what is read of the part of the bytes from a position on
pub part : (s : List ℕ) (k : ℕ) → take (length s - k) (drop k s) ≡ drop k s
part s k = take_rest s k

pub part_long : (s : List ℕ) (k i : ℕ) → k + i ≤ length s → i ≤ length (take (length s - k) (drop k s))
part_long s k i h = rw (part s k, length-drop k s) (omega arith)

pub part_read : (s : List ℕ) (k i : ℕ) → u32_at (take (length s - k) (drop k s)) i ≡ u32_at s (k + i)
unfolding u32_at
part_read s k i =
    rw (part s k, get_or-drop k s i 0, get_or-drop k s (i + 1) 0, get_or-drop k s (i + 2) 0, get_or-drop k s (i + 3) 0, add_assoc k i 1, add_assoc k i 2, add_assoc k i 3)

module _ (s : List ℕ) (b : Blocks) {deck : Deck} (seen : deck_at s b ≡ deck) where
  pub vertices_seen : b.vertices ≡ length deck.vertices
  vertices_seen = sym (vertices_length s b) ∙ ap (λ (k : Deck). length k.vertices) seen

  pub polygons_seen : b.polygons ≡ length deck.polygons
  polygons_seen = sym (polygons_length s b) ∙ ap (λ (k : Deck). length k.polygons) seen

  pub heights_seen : b.heights ≡ length deck.heights
  heights_seen = sym (heights_length s b) ∙ ap (λ (k : Deck). length k.heights) seen

  pub within_seen : DeckOfPassed s b → DeckWithin deck
  within_seen h = subst DeckWithin seen (deck_within h)

  -- ---- a vertex, and a height
  pub offset_inside : DeckOfPassed s b → b.v + deck_offset_size ≤ length s
  offset_inside h = omega (arith, v_inside h)

  pub offset_x_seen : DeckOfPassed s b → T (not (nan_bits binary32 (u32_at s b.v)))
  offset_x_seen h = offset_x_not_nan h

  pub offset_y_seen : DeckOfPassed s b → T (not (nan_bits binary32 (u32_at s (b.v + number_size))))
  offset_y_seen h = offset_y_not_nan h

  pub offset_seen : {x y : Float} → x ≡ f32_at s b.v → y ≡ f32_at s (b.v + number_size) → record { x = x; y = y } ≡ deck.offset
  offset_seen e f = offset_is s b e f ∙ ap (λ (k : Deck). k.offset) seen

  module _ {i : ℕ} (l : i < length deck.vertices) where
    vertex_there : i < b.vertices
    vertex_there = omega (arith, l, vertices_seen)

    pub vertex_inside : DeckOfPassed s b → b.v + deck_offset_size + vertex_size * i + vertex_size ≤ length s
    vertex_inside h = omega (arith, vertex_there, v_inside h)

    pub x_seen : DeckOfPassed s b → T (not (nan_bits binary32 (u32_at s (vertex_position b i))))
    x_seen h = vertex_x_not_nan h vertex_there

    pub y_seen : DeckOfPassed s b → T (not (nan_bits binary32 (u32_at s (vertex_position b i + number_size))))
    y_seen h = vertex_y_not_nan h vertex_there

    pub point_seen : {x y : Float} → x ≡ f32_at s (vertex_position b i) → y ≡ f32_at s (vertex_position b i + number_size)
        → record { x = x; y = y } ≡ point_of deck i
    point_seen e f = point_is s b vertex_there e f ∙ ap (λ (k : Deck). point_of k i) seen

    -- the same, read in the part of the bytes that the vertices begin
    abbrev pub from_v : List ℕ
    from_v = take (length s - (b.v + deck_offset_size)) (drop (b.v + deck_offset_size) s)

    at_x : u32_at from_v (vertex_size * i) ≡ u32_at s (vertex_position b i)
    at_x = part_read s (b.v + deck_offset_size) (vertex_size * i)

    at_y : u32_at from_v (vertex_size * i + number_size) ≡ u32_at s (vertex_position b i + number_size)
    at_y = part_read s (b.v + deck_offset_size) (vertex_size * i + number_size) ∙ ap (u32_at s) (omega arith)

    pub x_part : DeckOfPassed s b → (vertex_size * i + number_size ≤ length from_v) × T (not (nan_bits binary32 (u32_at from_v (vertex_size * i))))
    x_part h = (part_long s (b.v + deck_offset_size) (vertex_size * i + number_size) (omega (arith, vertex_inside h)), rw at_x (x_seen h))

    pub y_part : DeckOfPassed s b
        → (vertex_size * i + number_size + number_size ≤ length from_v) × T (not (nan_bits binary32 (u32_at from_v (vertex_size * i + number_size))))
    y_part h = (part_long s (b.v + deck_offset_size) (vertex_size * i + number_size + number_size) (omega (arith, vertex_inside h)), rw at_y (y_seen h))

    pub part_seen : {x y : Float} → x ≡ f32_at from_v (vertex_size * i) → y ≡ f32_at from_v (vertex_size * i + number_size)
        → record { x = x; y = y } ≡ point_of deck i
    part_seen e f = point_seen (e ∙ ap (of_bits binary32) at_x) (f ∙ ap (of_bits binary32) at_y)

    module _ (h : DeckOfPassed s b) (some : 0 < length deck.heights) where
      height_there : i < b.heights
      height_there = go (sound h).none_or_all
        where
          go : (b.heights ≡ 0) ⊎ (b.heights ≡ b.vertices) → i < b.heights
          go (inl none) = absurd (omega (arith, none, some, heights_seen))
          go (inr all) = omega (arith, all, vertex_there)

      pub height_inside : b.h + number_size * i + number_size ≤ length s
      height_inside = omega (arith, height_there, h_inside h)

      pub height_real : T (not (nan_bits binary32 (u32_at s (height_position b i))))
      height_real = height_not_nan h height_there

      pub height_seen : {x : Float} → x ≡ f32_at s (height_position b i) → x ≡ height_of deck i
      height_seen e = height_is s b height_there e ∙ ap (λ (k : Deck). height_of k i) seen

    -- ---- a list
    pub neighbour_count_seen : {n : ℕ} → n ≡ (neighbour_extent s b i).count → n ≡ length (neighbours_of deck i)
    neighbour_count_seen e = neighbour_count_is s b vertex_there e ∙ ap (λ (k : Deck). length (neighbours_of k i)) seen

    module _ {j start : ℕ} (m : j < length (neighbours_of deck i)) (e : start ≡ (neighbour_extent s b i).start) where
      neighbour_there : j < length (neighbours_of (deck_at s b) i)
      neighbour_there = rw seen m

      pub neighbour_room : DeckOfPassed s b → b.n + number_size * (start + j) + number_size ≤ length s
      neighbour_room h = neighbour_inside s b vertex_there neighbour_there e h

      pub neighbour_seen : {n : ℕ} → n ≡ neighbour_entry s b (start + j) → n ≡ get_or (neighbours_of deck i) j 0
      neighbour_seen f = neighbour_is s b vertex_there neighbour_there e f ∙ ap (λ (k : Deck). get_or (neighbours_of k i) j 0) seen

  module _ {k : ℕ} (l : k < length deck.polygons) where
    polygon_there : k < b.polygons
    polygon_there = omega (arith, l, polygons_seen)

    pub polygon_inside : DeckOfPassed s b → b.p + pair_size * k + pair_size ≤ length s
    polygon_inside h = omega (arith, polygon_there, p_inside h)

    module _ {n : ℕ} (e : n ≡ (polygon_extent s b k).count) where
      pub corner_count_seen : n ≡ length (corners_of deck k)
      corner_count_seen = corner_count_is s b polygon_there e ∙ ap (λ (d : Deck). length (corners_of d k)) seen

      pub some_seen : DeckOfPassed s b → 1 ≤ n
      some_seen h = some_corner s b polygon_there e h

      pub few_corners_seen : DeckOfPassed s b → n ≤ 4096
      few_corners_seen h = few_corners s b polygon_there e h

    module _ {j start : ℕ} (m : j < length (corners_of deck k)) (e : start ≡ (polygon_extent s b k).start) where
      corner_listed : j < length (corners_of (deck_at s b) k)
      corner_listed = rw seen m

      pub corner_room : DeckOfPassed s b → b.c + number_size * (start + j) + number_size ≤ length s
      corner_room h = corner_inside s b polygon_there corner_listed e h

      module _ {n : ℕ} (f : n ≡ corner_entry s b (start + j)) where
        pub corner_seen : n ≡ get_or (corners_of deck k) j 0
        corner_seen = corner_is s b polygon_there corner_listed e f ∙ ap (λ (d : Deck). get_or (corners_of d k) j 0) seen

        pub corner_below : DeckOfPassed s b → n < length deck.vertices
        corner_below h = omega (arith, vertices_seen, corner_there s b polygon_there corner_listed e f h)

pub opened : (s : List ℕ) {d : ℕ} {b : Blocks} → d < decks_in s → b ≡ blocks_at s d → deck_at s b ≡ deck_of (decode s) d
opened s {d} l e = rw e (sym (deck_of_lem s d l))

pub opened_within : (s : List ℕ) {d : ℕ} {b : Blocks} → first_no s ≡ Ok tt → d < decks_in s → b ≡ blocks_at s d → DeckWithin (deck_at s b)
opened_within s {d} passed l e = rw e (deck_within (deck_there s d passed l))

pub ruleset seen = (vertices_seen, polygons_seen, heights_seen, offset_inside, offset_x_seen, offset_y_seen, offset_seen, vertex_inside, x_seen, y_seen, point_seen, height_inside, height_real, height_seen, neighbour_count_seen, neighbour_room, neighbour_seen, polygon_inside, corner_count_seen, some_seen, few_corners_seen, corner_room, corner_seen, corner_below, opened, passed_header, whole_rows)
