-- Laws of `kept_of`: of lists in a row, and what a second removal keeps.
use Prim.Native.Nat.{ℕ, ◌+◌}
use native.Mathlib.Omega.{arith}
use mathlib.Core.Path.{◌≡◌, refl, sym, ap, ◌∙◌}
use mathlib.Core.Bool.{Bool, true, false, not, ◌&&◌, ◌||◌, cond}
use mathlib.Core.List.{List, [], ◌∷◌, ◌++◌}
use lib.Dec.{eqb}
use borrow.Author.Tests.{eqb-true, eqb-false, eq-eqb, ne_eqb}
use Rattle.words.specs.Bytes.{all_ones}
use Rattle.words.specs.Rows.{rows}
use Rattle.words.proofs.TableRows.{rows_append}
use Rattle.ship.specs.Packed.{packed_deck, packed_polygon}
use Rattle.unstitched.specs.declared.Stitches.{Stitches}
use Rattle.unstitched.specs.declared.Stitches.TheVariants.{All, ToLayer}
use Rattle.unstitched.specs.Removal.{keeps_polygon, keeps, plain_in, written_as, kept_of, outside_of, kept_twice}

module _ (which : Stitches) (d : ℕ) where
  -- ---- one entry
  module _ (e : ℕ) where
    module _ (outside : eqb e all_ones ≡ true) where
      outside_kept : keeps which d e ≡ true
      unfolding keeps
      outside_kept = rw outside

      outside_written : written_as which d e ≡ e
      unfolding written_as
      outside_written = rw outside

    polygon_kept : eqb e all_ones ≡ false → keeps which d e ≡ keeps_polygon which d e
    unfolding keeps
    polygon_kept h = rw h

    packed_written : plain_in which d ≡ false → written_as which d e ≡ e
    unfolding written_as
    packed_written p = go (eqb e all_ones)
      where
        go : (b : Bool) → cond (b || not (plain_in which d)) e (packed_polygon e) ≡ e
        go true = refl
        go false = rw p

    plain_written : eqb e all_ones ≡ false → plain_in which d ≡ true → written_as which d e ≡ packed_polygon e
    unfolding written_as
    plain_written h p = rw (h, p)

  -- a plain number has deck 0
  plain_kept : (e : ℕ) → plain_in which d ≡ true → keeps_polygon which d e ≡ eqb (packed_deck e) d
  plain_kept e p = go which p
    where
      go : (w : Stitches) → plain_in w d ≡ true → keeps_polygon w d e ≡ eqb (packed_deck e) d
      go All q = refl
      go (ToLayer t) q = rw q

  not_outside : (e : ℕ) → eqb (packed_polygon e) all_ones ≡ false
  not_outside e = ne_eqb (packed_polygon e) all_ones (λ q. omega arith)

  plain_again : (e : ℕ) → plain_in which d ≡ true → (keeps which d (packed_polygon e) ≡ eqb 0 d) × (written_as which d (packed_polygon e) ≡ packed_polygon e)
  plain_again e p =
      let n = packed_polygon e in
      let z : packed_deck n ≡ 0 = omega arith in
      let m : packed_polygon n ≡ n = omega arith in (
        polygon_kept n (not_outside e) ∙ plain_kept n p ∙ ap (λ (k : ℕ). eqb k d) z,
        plain_written n (not_outside e) p ∙ m,
      )

  -- ---- lists
  module _ (e : ℕ) (l : List ℕ) where
    kept_yes : keeps which d e ≡ true → kept_of which d (e ∷ l) ≡ written_as which d e ∷ kept_of which d l
    unfolding kept_of
    kept_yes k = rw k

    kept_no : keeps which d e ≡ false → kept_of which d (e ∷ l) ≡ kept_of which d l
    unfolding kept_of
    kept_no k = rw k

  kept_append : (l m : List ℕ) → kept_of which d (l ++ m) ≡ kept_of which d l ++ kept_of which d m
  unfolding kept_of
  kept_append [] m = refl
  kept_append (e ∷ l) m = go (keeps which d e) (kept_append l m)
    where
      go : (b : Bool) → kept_of which d (l ++ m) ≡ kept_of which d l ++ kept_of which d m
          → cond b (written_as which d e ∷ kept_of which d (l ++ m)) (kept_of which d (l ++ m))
          ≡ cond b (written_as which d e ∷ kept_of which d l) (kept_of which d l) ++ kept_of which d m
      go true h = rw h
      go false h = h

  pub kept_rows : (f : ℕ → ℕ) (i m n : ℕ) → kept_of which d (rows f i (m + n)) ≡ kept_of which d (rows f i m) ++ kept_of which d (rows f (i + m) n)
  kept_rows f i m n = ap (kept_of which d) (rows_append f i m n) ∙ kept_append (rows f i m) (rows f (i + m) n)

  -- ---- a second removal
  -- where the entries stay packed, or are plain numbers of deck 0, it keeps them all
  module _ (same : (plain_in which d && not (eqb d 0)) ≡ false) where
    entry_again : (e : ℕ) → keeps which d e ≡ true → (keeps which d (written_as which d e) ≡ true) × (written_as which d (written_as which d e) ≡ written_as which d e)
    entry_again e k = go (eqb e all_ones) refl (plain_in which d) refl
      where
        at_zero : (b c : Bool) → (b && not c) ≡ false → b ≡ true → c ≡ true
        at_zero true true h q = refl
        at_zero true false h q = sym h
        at_zero false c h q = cc

        as_it_stands : written_as which d e ≡ e → (keeps which d (written_as which d e) ≡ true) × (written_as which d (written_as which d e) ≡ written_as which d e)
        as_it_stands w = rw w (k, w)

        go : (b : Bool) → eqb e all_ones ≡ b → (p : Bool) → plain_in which d ≡ p
            → (keeps which d (written_as which d e) ≡ true) × (written_as which d (written_as which d e) ≡ written_as which d e)
        go true h p q = as_it_stands (outside_written e h)
        go false h false q = as_it_stands (packed_written e q)
        go false h true q =
            let z : d ≡ 0 = eqb-true d 0 (at_zero (plain_in which d) (eqb d 0) same q) in
            let a = plain_again e q in
            rw (plain_written e h q) (a.0 ∙ eq-eqb 0 d (sym z), a.1)

    all_again : (l : List ℕ) → kept_of which d (kept_of which d l) ≡ kept_of which d l
    unfolding kept_of
    all_again [] = refl
    all_again (e ∷ l) = go (keeps which d e) refl (all_again l)
      where
        go : (b : Bool) → keeps which d e ≡ b → kept_of which d (kept_of which d l) ≡ kept_of which d l
            → kept_of which d (cond b (written_as which d e ∷ kept_of which d l) (kept_of which d l)) ≡ cond b (written_as which d e ∷ kept_of which d l) (kept_of which d l)
        go true k later =
            let a = entry_again e k in
            kept_yes (written_as which d e) (kept_of which d l) a.0 ∙ rw (a.1, later)
        go false k later = later

  -- elsewhere the plain numbers are dropped
  module _ (plain : plain_in which d ≡ true) (above : eqb 0 d ≡ false) where
    outside_left : (l : List ℕ) → kept_of which d (kept_of which d l) ≡ outside_of l
    unfolding kept_of outside_of
    outside_left [] = refl
    outside_left (e ∷ l) = go (eqb e all_ones) refl (keeps which d e) refl (outside_left l)
      where
        go : (o : Bool) → eqb e all_ones ≡ o → (b : Bool) → keeps which d e ≡ b → kept_of which d (kept_of which d l) ≡ outside_of l
            → kept_of which d (cond b (written_as which d e ∷ kept_of which d l) (kept_of which d l)) ≡ cond o (e ∷ outside_of l) (outside_of l)
        go true h true k later =
            ap (λ (x : ℕ). kept_of which d (x ∷ kept_of which d l)) (outside_written e h)
            ∙ kept_yes e (kept_of which d l) k
            ∙ rw (outside_written e h, later)
        go true h false k later = let no : true ≡ false = sym (outside_kept e h) ∙ k in cc
        go false h true k later =
            ap (λ (x : ℕ). kept_of which d (x ∷ kept_of which d l)) (plain_written e h plain)
            ∙ kept_no (packed_polygon e) (kept_of which d l) ((plain_again e plain).0 ∙ above)
            ∙ later
        go false h false k later = later

  pub kept_twice_lem : (l : List ℕ) → kept_of which d (kept_of which d l) ≡ kept_twice which d l
  kept_twice_lem l = go (plain_in which d) refl (eqb d 0) refl
    where
      go : (p : Bool) → plain_in which d ≡ p → (z : Bool) → eqb d 0 ≡ z → kept_of which d (kept_of which d l) ≡ cond (p && not z) (outside_of l) (kept_of which d l)
      go true q true z = all_again (rw (q, z)) l
      go true q false z = outside_left q (ne_eqb 0 d (λ e. eqb-false d 0 z (sym e))) l
      go false q z e = all_again (rw q) l
