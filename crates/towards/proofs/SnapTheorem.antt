-- The theorem of bytes: every call that is not refused meets the statement, and more steps leave a found place as it is.
use Prim.Native.Nat.{ℕ, ◌*◌, ◌≤◌}
use mathlib.Core.Path.{◌≡◌, refl, sym, ap, ◌∙◌, subst, subst⁻¹}
use mathlib.Core.List.{List, [], ◌∷◌}
use native.Mathlib.Omega.{arith}
use lib.ListN.{length, take}
use Rattle.geometry.specs.declared.Vec2.{Vec2}
use Rattle.direction.specs.Direction.{direction_of}
use Rattle.words.specs.Bytes.{bytes4, joined}
use Rattle.answers.specs.Replies.{reply_check, answer_to, output_to, Replied, Answer}
use Rattle.answers.proofs.Replying.{check_passed, passed_check, of_reply, answer_passed, output_passed, output_length}
use Rattle.std.specs.Prelude.{Some, None, Ok}
use Rattle.ship.specs.Layout.{steps_in}
use Rattle.ship.specs.Model.{Ship, with_steps}
use Rattle.ship.specs.Decode.{decode, with_steps_bytes}
use Rattle.ship.specs.Questions.{first_no}
use Rattle.ship.proofs.Facts.{steps_range}
use Rattle.ship.proofs.ModelFacts.{steps_in_lem}
use Rattle.ship.proofs.RaisedSteps.{raised, raised_decks}
use Rattle.calls.specs.Closest.{entry_size, entry_bytes}
use Rattle.towards.specs.declared.Place.{Place}
use Rattle.towards.specs.Towards.{sample_towards, point_towards, step_gives, all_given, place_towards, place_bytes, first_of, towards_check, closest_towards, towards_reply}
use Rattle.towards.specs.Statement.{NoHit, Snapped, SnapSurveyed, SnapSurveyedCode}
use Rattle.towards.proofs.Asks.{towards_yes, same_check}
use Rattle.towards.proofs.Turns.{length_places}
use Rattle.towards.proofs.Seeks.{taken_none, taken_first, longer}
use Rattle.towards.proofs.Order.{none_given, first_given, first_snapped}

-- more steps give the same first, if fewer give any
more_steps : (ship : Ship) (p direction : Vec2) (deck S : ℕ) (c : Place) → ship.steps ≤ S → first_of (all_given ship p direction deck) ≡ Some c
    → first_of (all_given (with_steps ship S) p direction deck) ≡ Some c
unfolding all_given step_gives sample_towards
more_steps ship p direction deck S c l e = longer (step_gives ship p direction deck) c ship.steps S 0 l e

-- ---- what a call that passed writes
module _ (file : List ℕ) (p towards : Vec2) (deck : ℕ) where
  abbrev pub given : List Place
  given = all_given (decode file) p (direction_of p towards) deck

  pub closest_none : first_of given ≡ None → closest_towards file p towards deck ≡ []
  unfolding closest_towards place_towards
  closest_none e = taken_none given e

  pub closest_first : (c : Place) → first_of given ≡ Some c → closest_towards file p towards deck ≡ c ∷ []
  unfolding closest_towards place_towards
  closest_first c e = taken_first given c e

  module _ (out : List ℕ) (passed : reply_check (towards_reply file p towards deck) (length out) ≡ Ok tt) (c : Place) (first : first_of given ≡ Some c) where
    -- the entry in the output
    entry_is : take entry_size (output_to (towards_reply file p towards deck) out) ≡ place_bytes (decode file) p (direction_of p towards) c
    unfolding place_bytes entry_bytes joined bytes4
    entry_is = rw (output_passed (towards_reply file p towards deck) out passed, closest_first c first)

-- ---- more steps
module _ (file : List ℕ) (p towards : Vec2) (deck : ℕ) (out : List ℕ) (passed : reply_check (towards_reply file p towards deck) (length out) ≡ Ok tt)
    (c : Place) (first : first_of (given file p towards deck) ≡ Some c) (S : ℕ) (more : steps_in file ≤ S) (most : S ≤ 16) (out' : List ℕ) (room : length out ≤ length out') where
  abbrev raised_file : List ℕ
  raised_file = with_steps_bytes file S

  asked : towards_check file p towards deck ≡ Ok tt
  asked = (passed_check (towards_reply file p towards deck) (length out) passed).0

  file_passed : first_no file ≡ Ok tt
  file_passed = (towards_yes file p towards deck asked).file_passed

  raised_ship : (first_no raised_file ≡ Ok tt) × (decode raised_file ≡ with_steps (decode file) S)
  raised_ship = raised file S file_passed (omega (arith, (steps_range file file_passed).0)) most

  raised_first : first_of (given raised_file p towards deck) ≡ Some c
  raised_first = rw raised_ship.1 (more_steps (decode file) p (direction_of p towards) deck S c (omega (arith, steps_in_lem file)) first)

  same_long : length (towards_reply raised_file p towards deck).bytes ≡ length (towards_reply file p towards deck).bytes
  same_long =
      long raised_file (closest_first raised_file p towards deck c raised_first) ∙ sym (long file (closest_first file p towards deck c first))
    where
      long : (f : List ℕ) → closest_towards f p towards deck ≡ c ∷ [] → length (towards_reply f p towards deck).bytes ≡ entry_size * 1
      long f e = length_places (decode f) p (direction_of p towards) (closest_towards f p towards deck) ∙ rw e

  raised_passed : reply_check (towards_reply raised_file p towards deck) (length out') ≡ Ok tt
  raised_passed =
      check_passed (towards_reply raised_file p towards deck) (length out')
      (same_check file raised_file p towards deck raised_ship.0 (raised_decks file S file_passed) asked)
      (omega (arith, same_long, room, (passed_check (towards_reply file p towards deck) (length out) passed).1))

  raised_answer : answer_to (towards_reply raised_file p towards deck) out' ≡ Ok 1
  raised_answer =
      answer_passed (towards_reply raised_file p towards deck) out' raised_passed
      ∙ ap (λ (l : List Place). Ok (length l)) (closest_first raised_file p towards deck c raised_first)

  raised_entry : take entry_size (output_to (towards_reply raised_file p towards deck) out') ≡ take entry_size (output_to (towards_reply file p towards deck) out)
  unfolding place_bytes sample_towards point_towards
  raised_entry =
      let same : place_bytes (decode raised_file) p (direction_of p towards) c ≡ place_bytes (decode file) p (direction_of p towards) c = rw raised_ship.1 in
      entry_is raised_file p towards deck out' raised_passed c raised_first ∙ same ∙ sym (entry_is file p towards deck out passed c first)

-- ---- the theorem
module _ (file : List ℕ) (p towards : Vec2) (deck : ℕ) (out : List ℕ) where
  abbrev Holds : ℕ → Type 0
  Holds n = SnapSurveyed file p towards deck (Ok n) (output_to (towards_reply file p towards deck) out)

  holds_none : given file p towards deck ≡ [] → Holds 0
  holds_none e = (
    (λ z. subst (NoHit (decode file) p (direction_of p towards) deck) (steps_in_lem file) (none_given (decode file) p (direction_of p towards) deck e), λ none. refl),
    λ n. absurd (n refl),
    λ z. absurd (omega arith),
  )

  holds_first : reply_check (towards_reply file p towards deck) (length out) ≡ Ok tt → (c : Place) (rest : List Place) → given file p towards deck ≡ c ∷ rest → Holds 1
  holds_first e c rest is =
      let first : first_of (given file p towards deck) ≡ Some c = rw is in
      let g = first_given (decode file) p (direction_of p towards) deck c rest is in
      let long = output_length (towards_reply file p towards deck) out in (
        (
          λ z. absurd (omega arith),
          λ none. absurd (none c.step (omega (arith, g.below, steps_in_lem file)) c.deck g.looked c.polygon g.passes),
        ),
        λ n. (
          refl,
          rw (entry_is file p towards deck out e c first)
              (subst (λ (S : ℕ). Snapped (decode file) p (direction_of p towards) deck S (place_bytes (decode file) p (direction_of p towards) c)) (steps_in_lem file)
              (first_snapped (decode file) p (direction_of p towards) deck c rest is)),
        ),
        λ z S more most out' room.
            let l : length out ≤ length out' = omega arith in
            (raised_answer file p towards deck out e c first S more most out' l, raised_entry file p towards deck out e c first S more most out' l),
      )

  holds : reply_check (towards_reply file p towards deck) (length out) ≡ Ok tt → Holds (towards_reply file p towards deck).count
  holds e = go (given file p towards deck) refl
    where
      go : (l : List Place) → given file p towards deck ≡ l → Holds (towards_reply file p towards deck).count
      go [] is = subst⁻¹ Holds (ap length (closest_none file p towards deck (rw is))) (holds_none is)
      go (c ∷ rest) is = subst⁻¹ Holds (ap length (closest_first file p towards deck c (rw is))) (holds_first e c rest is)

  surveyed_call : SnapSurveyed file p towards deck (answer_to (towards_reply file p towards deck) out) (output_to (towards_reply file p towards deck) out)
  surveyed_call =
      of_reply (towards_reply file p towards deck) out (λ r. SnapSurveyed file p towards deck r (output_to (towards_reply file p towards deck) out)) (λ refusal. tt) holds

  module _ {out' : List ℕ} {r : Answer} (h : Replied (towards_reply file p towards deck) out out' r) where
    pub snapped : SnapSurveyed file p towards deck r out'
    snapped = rw (h.answer_is, h.output_is) surveyed_call

    pub snapped_code : SnapSurveyedCode file p towards deck out out'
    snapped_code = rw h.output_is surveyed_call
