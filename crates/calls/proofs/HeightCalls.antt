-- The height call: its questions in their order, the height that it asks for, and its reply.
use Prim.Native.Nat.{ℕ, ◌^◌, ◌≤◌, ◌<◌}
use mathlib.Core.Path.{◌≡◌, sym, ap, ◌∙◌, subst}
use mathlib.Core.Bool.{true, false}
use mathlib.Core.List.{List, [], ◌++◌}
use native.Mathlib.Omega.{arith}
use lib.Dec.{ltb}
use lib.ListN.{length, drop}
use lib.Ieee.{Float}
use borrow.Author.Tests.{eq-eqb, ne_eqb, lt-ltb, le-ltb, ltb-true}
use Rattle.geometry.specs.declared.Vec2.{Vec2}
use Rattle.geometry.specs.declared.Height.{Height}
use Rattle.geometry.specs.declared.Height.TheVariants.{Known, None}
use Rattle.geometry.specs.Bounds.{PointWithin, HeightWithin}
use Rattle.geometry.proofs.Bounds.{widen}
use Rattle.words.specs.Bytes.{all_ones, bytes4, joined, splice, put_f32}
use Rattle.answers.specs.Checks.{ask, Check}
use Rattle.answers.proofs.Asking.{asking, asked_yes, both_passed}
use Rattle.answers.proofs.Replying.{replied_refused, replied_short, replied_written, replied_none}
use Rattle.std.specs.Prelude.{Ok, Err}
use Rattle.answers.specs.declared.Refusal.{Refusal}
use Rattle.decks.specs.Opened.{opened}
use Rattle.decks.proofs.Opening.{opens_err, opens_ok}
use Rattle.answers.specs.declared.Refusal.TheVariants.{CallFloatOutOfRange, NoSuchDeck, NoSuchPolygon}
use Rattle.ship.specs.Layout.{decks_in}
use Rattle.ship.specs.Decode.{decode}
use Rattle.ship.specs.Model.{Deck, deck_of}
use Rattle.ship.specs.Packed.{packed_deck, packed_polygon}
use Rattle.ship.specs.Questions.{first_no}
use Rattle.ship.specs.Within.{DeckWithin}
use Rattle.search.specs.OnDeck.{height_on}
use Rattle.search.proofs.HeightBound.{height_within}
use Rattle.placing.proofs.SeatRecords.{height_number}
use Rattle.calls.specs.Closest.{question16}
use Rattle.calls.specs.HeightCall.{height_call, height_entry, question17_height, question18, height_check}
use Rattle.calls.proofs.Queries.{size_of_place}

-- ---- `height_check`
-- what is asked once the file has passed
abbrev pub height_then : List ℕ → Vec2 → ℕ → Check
height_then file p polygon = ask (question16 p) CallFloatOutOfRange (ask (question17_height file polygon) NoSuchDeck (ask (question18 file polygon) NoSuchPolygon (Ok tt)))

module _ (file : List ℕ) (p : Vec2) (polygon : ℕ) where
  module _ (passed : first_no file ≡ Ok tt) where
    height_is_then : height_check file p polygon ≡ height_then file p polygon
    unfolding height_check
    height_is_then = rw passed

    pub height_no : {q : Refusal} → Err q ≡ height_then file p polygon → Err q ≡ opened (height_check file p polygon) file
    height_no e = opens_err _ file (height_is_then ∙ sym e)

    pub height_yes : {ship : List ℕ} → ship ≡ file → Ok tt ≡ height_then file p polygon → Ok ship ≡ opened (height_check file p polygon) file
    height_yes s e = opens_ok _ file (height_is_then ∙ sym e) s

-- all ones
module _ (file : List ℕ) {polygon : ℕ} (ones : polygon ≡ all_ones) where
  pub ones_17 : question17_height file polygon ≡ true
  unfolding question17_height
  ones_17 = rw (eq-eqb _ _ ones)

  pub ones_18 : question18 file polygon ≡ true
  unfolding question18
  ones_18 = rw (eq-eqb _ _ ones)

-- and otherwise
module _ (file : List ℕ) {polygon : ℕ} (named : polygon ≡ all_ones → ⊥) {d : ℕ} (of_deck : d ≡ packed_deck polygon) where
  deck_test : question17_height file polygon ≡ ltb (packed_deck polygon) (decks_in file)
  unfolding question17_height
  deck_test = rw (ne_eqb _ _ named)

  pub deck_no : {decks : ℕ} → decks ≡ decks_in file → decks ≤ d → question17_height file polygon ≡ false
  deck_no all l = deck_test ∙ le-ltb (packed_deck polygon) (decks_in file) (omega arith)

  pub deck_yes : {decks : ℕ} → decks ≡ decks_in file → d < decks → question17_height file polygon ≡ true
  deck_yes all l = deck_test ∙ lt-ltb (packed_deck polygon) (decks_in file) (omega arith)

  module _ {deck : Deck} (is : deck ≡ deck_of (decode file) d) where
    deck_of_polygon : deck_of (decode file) (packed_deck polygon) ≡ deck
    deck_of_polygon = rw (← of_deck) (sym is)

    polygon_test : question18 file polygon ≡ ltb (packed_polygon polygon) (length deck.polygons)
    unfolding question18
    polygon_test = rw (ne_eqb _ _ named) (ap (λ (named : Deck). ltb (packed_polygon polygon) (length named.polygons)) deck_of_polygon)

    module _ {n k : ℕ} (count : n ≡ length deck.polygons) (numbered : k ≡ packed_polygon polygon) where
      pub polygon_no : n ≤ k → question18 file polygon ≡ false
      polygon_no m = polygon_test ∙ le-ltb (packed_polygon polygon) (length deck.polygons) (omega arith)

      pub polygon_yes : k < n → question18 file polygon ≡ true
      polygon_yes m = polygon_test ∙ lt-ltb (packed_polygon polygon) (length deck.polygons) (omega arith)

pub deck_there : (file : List ℕ) {n d : ℕ} → n ≡ decks_in file → d < n → d < decks_in file
deck_there file all l = omega arith

pub ruleset height_asks = (asking, deck_there, ones_17, ones_18, deck_no, deck_yes, polygon_no, polygon_yes)

-- ---- `height_asked`
-- what the questions say once they passed
record HeightYes (file : List ℕ) (p : Vec2) (polygon : ℕ) : Type 0 where
  pub file_yes : first_no file ≡ Ok tt
  pub place_within : PointWithin 1000000 p
  pub yes_17 : question17_height file polygon ≡ true
  pub yes_18 : question18 file polygon ≡ true

module _ (file : List ℕ) (p : Vec2) (polygon : ℕ) (passed : height_check file p polygon ≡ Ok tt) where
  all_yes : HeightYes file p polygon
  unfolding height_check
  all_yes =
      let f = both_passed (first_no file) _ passed in
      let s = asked_yes (question16 p) CallFloatOutOfRange _ f.1 in
      let d = asked_yes (question17_height file polygon) NoSuchDeck _ s.1 in
      let k = asked_yes (question18 file polygon) NoSuchPolygon (Ok tt) d.1 in
      record { file_yes = f.0; place_within = size_of_place p s.0; yes_17 = d.0; yes_18 = k.0 }

  pub passed_file : first_no file ≡ Ok tt
  passed_file = all_yes.file_yes

  module _ (named : polygon ≡ all_ones → ⊥) {d : ℕ} (of_deck : d ≡ packed_deck polygon) where
    pub passed_deck : d < decks_in file
    passed_deck = omega (arith, ltb-true (packed_deck polygon) (decks_in file) (sym (deck_test file named of_deck) ∙ all_yes.yes_17))

    module _ {deck : Deck} {k : ℕ} (is : deck ≡ deck_of (decode file) d) (numbered : k ≡ packed_polygon polygon) where
      pub passed_polygon : k < length deck.polygons
      passed_polygon = omega (arith, ltb-true (packed_polygon polygon) (length deck.polygons) (sym (polygon_test file named of_deck is) ∙ all_yes.yes_18))

      module _ {h : Height} (e : h ≡ height_on deck k p) where
        pub height_is : h ≡ height_call file p polygon
        unfolding height_call
        height_is = e ∙ sym (rw (ne_eqb _ _ named, deck_of_polygon file named of_deck is, ← numbered))

        pub height_small : DeckWithin deck → HeightWithin (2 ^ 121) h
        height_small within =
            let w = all_yes.place_within in
            subst (HeightWithin (2 ^ 121)) (sym e) (height_within within k p (record { x = widen (omega arith) w.x; y = widen (omega arith) w.y }))

pub ones_none : (file : List ℕ) (p : Vec2) {polygon : ℕ} → polygon ≡ all_ones → None ≡ height_call file p polygon
unfolding height_call
ones_none file p ones = rw (eq-eqb _ _ ones)

pub ruleset heights_asked = (passed_file, passed_deck, passed_polygon, height_is, height_small, ones_none)

-- ---- `height`
module _ (file : List ℕ) (p : Vec2) (polygon : ℕ) {h : Height} (is : h ≡ height_call file p polygon) where
  pub height_none : h ≡ None → height_entry (height_call file p polygon) ≡ []
  height_none e = rw (sym is ∙ e)

  module _ (out : List ℕ) {x : Float} (e : h ≡ Known x) where
    four : length (joined bytes4 (height_entry (height_call file p polygon))) ≡ 4
    unfolding joined bytes4
    four = rw (sym is ∙ e)

    pub height_short : length out < 4 → length out < length (joined bytes4 (height_entry (height_call file p polygon)))
    height_short l = rw four l

    pub height_fits : 4 ≤ length out → length (joined bytes4 (height_entry (height_call file p polygon))) ≤ length out
    height_fits l = rw four l

    pub height_count : 1 ≡ length (height_entry (height_call file p polygon))
    height_count = rw (sym is ∙ e)

    pub height_written : {out' : List ℕ} → out' ≡ put_f32 out 0 x
        → out' ≡ joined bytes4 (height_entry (height_call file p polygon)) ++ drop (length (joined bytes4 (height_entry (height_call file p polygon)))) out
    unfolding joined splice bytes4
    height_written o = o ∙ rw (sym is ∙ e)

pub ruleset height_replies =
    (height_number, replied_refused, replied_short, replied_written, replied_none, height_none, height_short, height_fits, height_count, height_written)
