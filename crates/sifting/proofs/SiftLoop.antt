-- `sift`: what its loop says at its start, in a turn, where it breaks off and at its end.
use Prim.Native.Nat.{ℕ, ◌+◌, ◌*◌, ◌^◌, ◌≤◌, ◌<◌}
use native.Mathlib.Omega.{arith}
use mathlib.Core.Path.{◌≡◌, refl, sym, ap, ◌∙◌, subst}
use mathlib.Core.Bool.{Bool, true, false, ◌&&◌, ◌||◌, true≢false}
use mathlib.Core.List.{List}
use mir.Syntax.{w64}
use mir.Val.{Fits}
use lib.Dec.{ltb, leb}
use lib.ListN.{length, set, take, length-set}
use Rattle.std.proofs.lemmas.List.{length-take-le, take_more_set}
use borrow.Author.Tests.{leb-false}
use Rattle.geometry.specs.declared.Vec2.{Vec2}
use Rattle.boxes.specs.declared.BoundingBox.{BoundingBox}
use Rattle.boxes.specs.Box.{InBox}
use Rattle.ship.specs.Model.{Deck}
use Rattle.ship.specs.Within.{DeckWithin}
use Rattle.keeping.specs.Kept.{sought_at, sought_count, KeptAt}
use Rattle.keeping.proofs.SoughtLaws.{sought_end, sought_below}
use Rattle.keeping.proofs.Growing.{list_none, list_skips, list_keeps, others_none, others_skip, others_keep}
use Rattle.sifting.specs.Sifted.{may_pass_at, many, is_full, KeptOver, SiftReady, SiftedInto}
use Rattle.sifting.proofs.EdgeWalk.{sifted_out}

-- ---- `is_full`
module _ (count room looked : ℕ) where
  -- a list that is not full has room
  pub room_left : is_full count room looked ≡ false → count < room
  unfolding is_full
  room_left e = go (leb room count) refl e
    where
      go : (t : Bool) → leb room count ≡ t → (t || (leb many count && ltb looked (2 * count))) ≡ false → count < room
      go true f e' = absurd (true≢false e')
      go false f e' = leb-false room count f

-- ---- `sift`
-- a list over a box, at one of its points
pub over_at : {deck : Deck} {bounds : BoundingBox} {numbers : List ℕ} {rest : ℕ} {q : Vec2} → KeptOver deck bounds numbers rest → InBox bounds q
    → KeptAt deck numbers rest q
over_at {q = q} over i = record { list = over.list; others = over.others q i }

-- the list so far has `count` numbers, and every polygon from the next on is still one to look at
pub record Sifting (deck : Deck) (bounds : BoundingBox) (source : List ℕ) (source_rest : ℕ) (before : List ℕ) (count j : ℕ) (after : List ℕ) : Type 0 where
  pub ready : SiftReady deck bounds source source_rest
  pub kept_over : KeptOver deck bounds (take count after) (sought_at source source_rest j)
  pub inside : count ≤ length before
  pub long : length after ≡ length before

module _ {deck : Deck} {n : ℕ} (size : n ≡ length deck.polygons) {bounds : BoundingBox} {source : List ℕ} {source_rest : ℕ} where
  module _ (ready : SiftReady deck bounds source source_rest) where
    pub source_few : length source ≤ source_rest
    source_few = ready.source_kept.list.few

    pub source_there : source_rest ≤ n
    source_there = omega (arith, ready.source_kept.list.there, size)

    pub sifting_all : {before : List ℕ} → Sifting deck bounds source source_rest before 0 0 before
    sifting_all =
        record {
          ready = ready;
          kept_over =
              record {
                list = list_none ready.source_kept.list;
                others = λ q i. others_none (over_at ready.source_kept i);
              };
          inside = omega arith;
          long = refl;
        }

  module _ (within : DeckWithin deck) {before after : List ℕ} {count j : ℕ} (s : Sifting deck bounds source source_rest before count j after) where
    kept_few : count ≤ 16777215
    kept_few =
        let numbers = length-take-le count after (omega (arith, s.inside, s.long)) in
        omega (arith, numbers, s.kept_over.list.few, s.kept_over.list.there, within.few_polygons)

    pub count_small : count < 2 ^ 63
    count_small = omega (arith, kept_few)

    pub count_fits : Fits w64 (count + 1)
    count_fits = record { fits = omega (arith, kept_few) }

    module _ {total : ℕ} (all : total ≡ sought_count n source source_rest) where
      in_deck : total ≡ sought_count (length deck.polygons) source source_rest
      in_deck = rw (← size) all

      pub sifted_whole : total ≤ j → j ≤ total → SiftedInto deck bounds before after (record { count = count; rest = n })
      sifted_whole h l =
          let is : j ≡ sought_count (length deck.polygons) source source_rest = omega (arith, in_deck) in
          let end : sought_at source source_rest j ≡ n = ap (sought_at source source_rest) is ∙ sought_end s.ready.source_kept.list ∙ sym size in
          record {
            kept_over = subst (λ (m : ℕ). KeptOver deck bounds (take count after) m) end s.kept_over;
            inside = s.inside;
            long = s.long;
          }

      module _ (l : j < total) where
        here : j < sought_count (length deck.polygons) source source_rest
        here = rw (← in_deck) l

        pub next_fits : source_rest + j < 2 ^ 63
        next_fits =
            omega (arith, s.ready.source_kept.list.few, s.ready.source_kept.list.there, within.few_polygons)

        module _ {k : ℕ} (is : k ≡ sought_at source source_rest j) where
          there : k < length deck.polygons
          there = omega (arith, sought_below s.ready.source_kept.list j here)

          pub sifted_cut : SiftedInto deck bounds before after (record { count = count; rest = k })
          sifted_cut =
              record {
                kept_over = subst (λ (m : ℕ). KeptOver deck bounds (take count after) m) (sym is) s.kept_over;
                inside = s.inside;
                long = s.long;
              }

          -- the polygon is tested on a deck of the loop's own
          module _ {own : Deck} (same : own ≡ deck) where
            pub next_there : k < length own.polygons
            next_there = rw same there

            module _ {r : Bool} (test : r ≡ may_pass_at own bounds k) (e : r ≡ false) where
              fails : may_pass_at deck bounds k ≡ false
              fails = rw same at (sym test ∙ e)

              pub sifting_out : Sifting deck bounds source source_rest before count (j + 1) after
              sifting_out =
                  record {
                    ready = s.ready;
                    kept_over =
                        record {
                          list = list_skips s.ready.source_kept.list s.kept_over.list here;
                          others =
                              λ q i.
                              others_skip (over_at s.ready.source_kept i) (take count after) j (s.kept_over.others q i)
                              (rw (← is) (sifted_out within s.ready.box_within i k fails));
                        };
                    inside = s.inside;
                    long = s.long;
                  }

          pub number_small : k < 2 ^ 32
          number_small = omega (arith, there, within.few_polygons)

          module _ {full : Bool} (asked : full ≡ is_full count (length before) (j + 1)) (not_full : full ≡ false) where
            pub place_free : count < length after
            place_free = omega (arith, s.long, room_left count (length before) (j + 1) (sym asked ∙ not_full))

            pub sifting_kept : {after' : List ℕ} → after' ≡ set after count k → Sifting deck bounds source source_rest before (count + 1) (j + 1) after'
            sifting_kept e =
                rw (e, is)
                (record {
                  ready = s.ready;
                  kept_over =
                      subst (λ (numbers : List ℕ). KeptOver deck bounds numbers (sought_at source source_rest (j + 1)))
                      (sym (take_more_set after count (sought_at source source_rest j) place_free))
                      (record {
                        list = list_keeps s.ready.source_kept.list s.kept_over.list here;
                        others = λ q i. others_keep (over_at s.ready.source_kept i) (take count after) j (s.kept_over.others q i);
                      });
                  inside = omega (arith, place_free, s.long);
                  long = length-set after count (sought_at source source_rest j) ∙ s.long;
                })

pub ruleset sifting =
    (source_few, source_there, sifting_all, count_small, count_fits, sifted_whole, next_fits, next_there, sifted_cut, sifting_out, number_small, place_free, sifting_kept)
