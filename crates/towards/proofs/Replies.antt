-- `get_closest_point_towards`: from what its calls returned to its reply, and to the statement.
use Prim.Native.Nat.{ℕ}
use mathlib.Core.Path.{◌≡◌, refl, sym, ◌∙◌}
use mathlib.Core.Bool.{false}
use mathlib.Core.List.{List}
use native.Mathlib.Omega.{arith}
use lib.Ieee.{eq}
use Rattle.geometry.specs.declared.Vec2.{Vec2}
use Rattle.geometry.specs.Plane.{zero32}
use Rattle.geometry.specs.Bounds.{PointWithin}
use Rattle.direction.specs.Direction.{squared_distance, direction_of}
use Rattle.answers.specs.Replies.{Replied, Answer}
use Rattle.answers.proofs.Replying.{replied_refused, replied_none}
use Rattle.answers.specs.declared.Refusal.{Refusal}
use Rattle.std.specs.Prelude.{Option, Some, None, Result, Ok, Err}
use Rattle.ship.specs.Decode.{decode}
use Rattle.ship.proofs.Facts.{steps_range}
use Rattle.ship.proofs.ModelFacts.{decks_length, steps_in_lem}
use Rattle.decks.specs.Opened.{opened}
use Rattle.decks.proofs.Opening.{opened_err, opened_ok}
use Rattle.walking.specs.Sees.{shown_from}
use Rattle.walking.proofs.ShownLaws.{polygons_few}
use Rattle.towards.specs.declared.Place.{Place}
use Rattle.towards.specs.Towards.{all_given, first_of, towards_check, towards_reply, PlaceReady, place_reply}
use Rattle.towards.specs.Statement.{SnapSurveyed}
use Rattle.towards.proofs.Asks.{TowardsPassed, towards_yes}
use Rattle.towards.proofs.Seeks.{first_in}
use Rattle.towards.proofs.Order.{of_given}
use Rattle.towards.proofs.SnapTheorem.{given, closest_none, closest_first, snapped}

module _ (file : List ℕ) (p towards : Vec2) (deck : ℕ) {r : Result (List ℕ) Refusal} (said : r ≡ opened (towards_check file p towards deck) file) where
  pub towards_refused : {refusal : Refusal} → r ≡ Err refusal → {out : List ℕ} → Replied (towards_reply file p towards deck) out out (Err refusal)
  towards_refused e = replied_refused refl (opened_err (towards_check file p towards deck) file (sym said ∙ e))

  module _ {ship : List ℕ} (opens : r ≡ Ok ship) where
    passed : (towards_check file p towards deck ≡ Ok tt) × (ship ≡ file)
    passed = opened_ok (towards_check file p towards deck) file (sym said ∙ opens)

    asked_all : TowardsPassed file p towards deck
    asked_all = towards_yes file p towards deck passed.0

    pub towards_from : PointWithin 1000000 p
    towards_from = asked_all.from_within

    pub towards_to : PointWithin 1000000 towards
    towards_to = asked_all.to_within

    pub towards_apart : eq (squared_distance p towards) zero32 ≡ false
    towards_apart = asked_all.apart

    module _ {direction : Vec2} (is : direction ≡ direction_of p towards) {found : Option Place} (first : found ≡ first_of (all_given (decode ship) p direction deck)) where
      first_of_lem : first_of (given file p towards deck) ≡ found
      first_of_lem = sym (rw (is, passed.1) at first)

      pub towards_none : found ≡ None → {out : List ℕ} → Replied (towards_reply file p towards deck) out out (Ok 0)
      towards_none e = replied_none _ _ refl passed.0 (closest_none file p towards deck (first_of_lem ∙ e))

      pub snapped_none : found ≡ None → (out : List ℕ) → SnapSurveyed file p towards deck (Ok 0) out
      snapped_none e out = snapped file p towards deck out (towards_none e)

      module _ {c : Place} (e : found ≡ Some c) where
        -- so that it can be written
        pub towards_ready : PointWithin 2 direction → PlaceReady ship p direction c
        unfolding shown_from
        towards_ready within =
            let all = asked_all in
            let g = of_given (decode file) p direction deck c (first_in (all_given (decode file) p direction deck) c (sym (rw passed.1 at first) ∙ e)) in
            rw passed.1 (record {
              turn_ready =
                  record {
                    deck = omega (arith, g.looked.0, decks_length file);
                    step = omega (arith, g.below, steps_in_lem file, (steps_range file all.file_passed).1);
                  };
              polygon = omega (arith, g.passes.0, polygons_few file all.file_passed p c.deck);
              point_within = all.from_within;
              direction_within = within;
            })

        pub towards_found : {out out' : List ℕ} {a : Answer} → Replied (place_reply ship p direction c) out out' a → Replied (towards_reply file p towards deck) out out' a
        towards_found h = rw (passed.0, closest_first file p towards deck c (first_of_lem ∙ e), ← is, ← passed.1) h

        pub snapped_found : {out out' : List ℕ} {a : Answer} → Replied (place_reply ship p direction c) out out' a → SnapSurveyed file p towards deck a out'
        snapped_found {out} h = snapped file p towards deck out (towards_found h)

pub ruleset calling = (towards_refused, towards_from, towards_to, towards_apart, towards_none, towards_ready, towards_found, snapped_none, snapped_found)
