-- `reached_on`, `deck_list` and `sift_decks`: one deck's list more, behind those that stand.
use Prim.Native.Nat.{ℕ, ◌+◌, ◌-◌, ◌^◌, ◌≤◌, ◌<◌}
use native.Mathlib.Omega.{arith}
use mathlib.Core.Path.{◌≡◌, refl, sym, ap, ◌∙◌, subst}
use mathlib.Core.Bool.{Bool, true, false}
use mathlib.Core.List.{List, ◌++◌}
use lib.Dec.{ltb}
use lib.ListN.{length, take, drop}
use lib.Ieee.{Float}
use borrow.Author.Tests.{ltb-true, ltb-false}
use Rattle.std.specs.Prelude.{Ok}
use Rattle.geometry.specs.declared.Vec2.{Vec2}
use Rattle.geometry.specs.Plane.{sub_of}
use Rattle.boxes.specs.StepBox.{step_box}
use borrow.Rule.Slice.PartMut.{mid_of, put_mid, same_len_mid}
use lib.Seq.{drop-append_seam}
use Rattle.std.proofs.lemmas.List.{length-drop, length-take-le, take-append-le}
use Rattle.std.proofs.lemmas.Slice.{take-put_mid_below}
use Rattle.ship.specs.Layout.{decks_in}
use Rattle.ship.specs.Questions.{first_no}
use Rattle.ship.specs.Model.{Deck, deck_of}
use Rattle.ship.specs.Decode.{decode}
use Rattle.ship.specs.Within.{DeckWithin}
use Rattle.ship.proofs.Facts.{decks_few}
use Rattle.ship.proofs.ModelFacts.{deck_of_within, steps_in_lem}
use Rattle.keeping.specs.declared.ListPlace.{ListPlace}
use Rattle.keeping.specs.Lists.{list_at, numbers_at, with_list, ListsRoom}
use Rattle.keeping.proofs.ListLaws.{with_long, numbers_behind, list_here, list_before, same_list, same_numbers}
use Rattle.sifting.specs.declared.Remaining.{Remaining}
use Rattle.sifting.specs.Sifted.{KeptOver, SiftedInto, Around}
use Rattle.sifting.proofs.Turns.{over_every}
use Rattle.walking.specs.Lists.{search_box, DeckList, ListsBelow, DeckReady, DeckListed}
use Rattle.walking.proofs.Reaching.{reach_allowed, around_within}

-- ---- the numbers of an array from `at` on were lent, and now they are `room`
abbrev pub lent : List ℕ → ℕ → List ℕ → List ℕ
lent array at room = put_mid at (length array - at) array room

module _ (array room : List ℕ) {at : ℕ} (inside : at ≤ length array) where
  lent_front : take at (lent array at room) ≡ take at array
  lent_front = take-put_mid_below at (length array - at) array room at (omega arith) inside

  lent_numbers : (count : ℕ) → count ≤ length room → take count (drop at (lent array at room)) ≡ take count room
  lent_numbers count h =
      let behind : List ℕ = drop (length array - at) (drop at array) in
      let here : drop at (lent array at room) ≡ room ++ behind =
      ap (λ (n : ℕ). drop n (lent array at room)) (sym (length-take-le at array inside)) ∙ drop-append_seam (take at array) (room ++ behind) in
      ap (take count) here ∙ take-append-le count room behind h

-- ---- deck d's list is written, and its numbers stand from `at` on; the lists before it stand as they stood
abbrev pub listed : ℕ → Remaining → ListPlace
listed at left = record { start = at; count = left.count; rest = left.rest }

module _ {file : List ℕ} {p : Vec2} {array : List ℕ} {at d : ℕ} (b : ListsBelow file p array at d) (there : d < decks_in file) where
  pub deck_few : d < 256
  deck_few = omega (arith, decks_few file b.file_passed)

  module _ {room : List ℕ} {left : Remaining} (l : DeckListed file p d (mid_of at (length array - at) array) room left) where
    pub lent_long : length (lent array at room) ≡ length array
    lent_long = same_len_mid at (length array - at) array room l.long

    numbers_fit : at + left.count ≤ length array
    numbers_fit =
        omega (arith, l.inside, b.inside, length-drop at array, length-take-le (length array - at) (drop at array) (omega (arith, length-drop at array)))

    abbrev written : List ℕ
    written = with_list (lent array at room) d (listed at left)

    written_long : length written ≡ length array
    written_long = with_long (lent array at room) d (listed at left) ∙ lent_long

    still_inside : at ≤ length (lent array at room)
    still_inside = omega (arith, b.inside, lent_long)

    earlier : (e : ℕ) → e < d → DeckList file p written (at + left.count) e (list_at written e)
    earlier e h =
        let old = b.lists e h in
        let front = lent_front array room b.inside in
        let is : list_at written e ≡ list_at array e =
        list_before (lent array at room) d (listed at left) e h
        ∙ same_list array (lent array at room) b.inside still_inside front e (omega (arith, b.past, deck_few)) in
        let numbers : numbers_at written (list_at array e) ≡ numbers_at array (list_at array e) =
        numbers_behind (lent array at room) d (listed at left) deck_few (list_at array e) old.past
        ∙ same_numbers array (lent array at room) b.inside still_inside front (list_at array e) old.below in
        subst (DeckList file p written (at + left.count) e) (sym is)
        (record {
          kept =
              record {
                inside = omega (arith, old.kept.inside, written_long);
                over =
                    subst (λ (n : List ℕ). KeptOver (deck_of (decode file) e) (search_box file p e) n (list_at array e).rest) (sym numbers) old.kept.over;
              };
          past = old.past;
          below = omega (arith, old.below);
        })

    here : DeckList file p written (at + left.count) d (list_at written d)
    here =
        let is : list_at written d ≡ listed at left =
        list_here (lent array at room) d (listed at left) deck_few (omega (arith, lent_long, b.ready.room.room)) in
        let numbers : numbers_at written (listed at left) ≡ take left.count room =
        numbers_behind (lent array at room) d (listed at left) deck_few (listed at left) b.past
        ∙ lent_numbers array room b.inside left.count (omega (arith, l.inside, l.long)) in
        subst (DeckList file p written (at + left.count) d) (sym is)
        (record {
          kept =
              record {
                inside = omega (arith, numbers_fit, written_long);
                over = subst (λ (n : List ℕ). KeptOver (deck_of (decode file) d) (search_box file p d) n left.rest) (sym numbers) l.kept_over;
              };
          past = b.past;
          below = omega arith;
        })

    pub list_room : ListsRoom (lent array at room)
    list_room = record { room = omega (arith, b.ready.room.room, lent_long); few = omega (arith, b.ready.room.few, lent_long) }

    pub list_place : at + left.count ≤ 2 ^ 31
    list_place = omega (arith, numbers_fit, b.ready.room.few)

    pub list_rest : left.rest < 2 ^ 31
    list_rest = omega (arith, l.kept_over.list.there, (deck_of_within file d b.file_passed there).few_polygons)

    module _ {array'' : List ℕ} (put : array'' ≡ with_list (lent array at room) d (listed at left)) where
      pub list_long : length array'' ≡ length array
      list_long = ap length put ∙ written_long

      pub one_list_more : ListsBelow file p array'' (at + left.count) (d + 1)
      one_list_more =
          record {
            file_passed = b.file_passed;
            ready =
                record {
                  place_within = b.ready.place_within;
                  room = record { room = omega (arith, b.ready.room.room, list_long); few = omega (arith, b.ready.room.few, list_long) };
                };
            past = omega (arith, b.past);
            inside = omega (arith, numbers_fit, list_long);
            lists = λ e h. subst (λ (a : List ℕ). DeckList file p a (at + left.count) e (list_at a e)) (sym put) (go e h (ltb e d) refl);
          }
        where
          go : (e : ℕ) → e < d + 1 → (t : Bool) → ltb e d ≡ t → DeckList file p written (at + left.count) e (list_at written e)
          go e h true f = earlier e (ltb-true e d f)
          go e h false f =
              let is : e ≡ d = omega (arith, ltb-false e d f) in
              rw is here

-- ---- `deck_list`: a deck that is not open
pub shut_list : (file : List ℕ) (p : Vec2) (d : ℕ) (room : List ℕ) → DeckListed file p d room room (record { count = 0; rest = 0 })
shut_list file p d room =
    record { kept_over = over_every (deck_of (decode file) d) (search_box file p d); inside = omega arith; long = refl }

-- ---- `reached_on`
module _ {file : List ℕ} {p : Vec2} {d : ℕ} (ready : DeckReady file p d) {deck : Deck} {offset around : Vec2} {reach : Float} {steps : ℕ}
    (is : deck ≡ deck_of (decode file) d) (read : offset ≡ deck.offset) (moved : around ≡ sub_of p offset) (reached : reach ≡ (decode file).reach) (stepped : steps ≡ (decode file).steps) where
  box_is : step_box around reach (steps - 1) ≡ search_box file p d
  unfolding search_box
  box_is = rw (moved, read, reached, stepped, is, steps_in_lem file)

  pub deck_around : first_no file ≡ Ok tt → DeckWithin deck → Around around reach
  deck_around passed within =
      record { point_within = rw (moved, read) (around_within ready.place_within within.offset); reach_allowed = rw reached (reach_allowed file passed) }

  pub deck_listed : {before after : List ℕ} {left : Remaining} → SiftedInto deck (step_box around reach (steps - 1)) before after left → DeckListed file p d before after left
  deck_listed sifted = record { kept_over = rw (← box_is, ← is) sifted.kept_over; inside = sifted.inside; long = sifted.long }

pub ruleset decks = (shut_list, deck_around, deck_listed)
