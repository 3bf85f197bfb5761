-- How many polygons the decks before deck d have, the loop that adds them; and all decks.
use Prim.Native.Nat.{ℕ, ◌+◌, ◌*◌, ◌-◌, ◌^◌, ◌≤◌, ◌<◌}
use native.Mathlib.Omega.{arith}
use mathlib.Core.Path.{◌≡◌, refl, sym, ap, ◌∙◌}
use mathlib.Core.Bool.{true}
use mathlib.Core.List.{List}
use mir.Syntax.{w64}
use mir.Val.{Fits}
use lib.ListN.{length}
use Rattle.words.specs.Rows.{sum_all}
use Rattle.words.proofs.Collecting.{sum_yes, sum_none}
use Rattle.ship.specs.Layout.{decks_in}
use Rattle.ship.specs.Model.{Deck, deck_of, polygons_before, polygon_total}
use Rattle.ship.specs.Decode.{decode}
use Rattle.ship.specs.Questions.{first_no}
use Rattle.ship.specs.Within.{DeckWithin}
use Rattle.ship.proofs.Facts.{decks_few}
use Rattle.ship.proofs.ModelFacts.{decks_length}
use Rattle.std.specs.Prelude.{Ok}

abbrev on_deck : List ℕ → ℕ → ℕ
on_deck file j = length (deck_of (decode file) j).polygons

-- those of the first j decks
pub record Totalled (file : List ℕ) (d total j : ℕ) : Type 0 where
  pub same : polygons_before (decode file) d ≡ total + sum_all (on_deck file) j (d - j)
  pub few : total ≤ 16777215 * j

pub totalled_none : {file : List ℕ} {d : ℕ} → Totalled file d 0 0
unfolding polygons_before
totalled_none {file} {d} = let e : d - 0 ≡ d = omega arith in record { same = rw e (omega arith); few = omega arith }

module _ {file : List ℕ} {d total j : ℕ} (h : Totalled file d total j) where
  pub totalled_all : d ≤ j → total ≡ polygons_before (decode file) d
  totalled_all l = omega (arith, h.same, sum_none (λ k. true) (on_deck file) j d l)

  pub totalled_few : j ≤ d → total ≤ 16777215 * d
  totalled_few l = omega (arith, h.few)

  module _ {deck : Deck} {n : ℕ} (l : j < d) (within : DeckWithin deck) (size : n ≡ length deck.polygons) where
    pub totalled_fits : first_no file ≡ Ok tt → d ≤ decks_in file → Fits w64 (total + n)
    totalled_fits passed there = record { fits = omega (arith, h.few, within.few_polygons, decks_few file passed) }

    pub totalled_more : deck ≡ deck_of (decode file) j → Totalled file d (total + n) (j + 1)
    totalled_more is =
        let e : on_deck file j ≡ n = ap (λ (k : Deck). length k.polygons) (sym is) ∙ sym size in
        record {
          same = omega (arith, h.same, e, sum_yes (λ k. true) (on_deck file) j d l refl);
          few = omega (arith, h.few, within.few_polygons);
        }

pub ruleset totals = (totalled_none, totalled_all, totalled_few, totalled_fits, totalled_more)

-- ---- `polygon_total`
pub total_is : (file : List ℕ) {decks total : ℕ} → decks ≡ decks_in file → total ≡ polygons_before (decode file) decks → total ≡ polygon_total (decode file)
total_is file all e = e ∙ ap (polygons_before (decode file)) (all ∙ sym (decks_length file))

pub total_few : {decks total : ℕ} → decks ≤ 256 → total ≤ 16777215 * decks → total < 2 ^ 32
total_few few l = omega arith

pub ruleset in_all = (total_is, total_few)
