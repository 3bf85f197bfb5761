-- The two loops over decks: the first polygon found, and the list of all. And the two calls over them.
use Prim.Native.Nat.{ℕ, ◌+◌, ◌*◌, ◌-◌, ◌≤◌, ◌<◌, ◌^◌}
use mathlib.Core.Path.{◌≡◌, refl, sym, ap, ◌∙◌}
use mathlib.Core.Bool.{Bool, true, false, not}
use mathlib.Core.List.{List, [], ◌∷◌, ◌++◌, append-nil, append_assoc}
use native.Mathlib.Omega.{arith}
use lib.ListN.{length}
use Rattle.geometry.specs.declared.Vec2.{Vec2}
use Rattle.words.specs.Bytes.{all_ones, words_of, splice}
use Rattle.words.specs.Rows.{collect}
use Rattle.words.proofs.Collecting.{collect_yes, collect_no, collect_none}
use Rattle.words.proofs.Numbers.{length_words}
use Rattle.answers.specs.Questions.{looks_at, question20}
use Rattle.answers.specs.Replies.{Replied}
use Rattle.answers.proofs.Replying.{replied_refused, replied_short, replied_written, room_short, room_fits}
use Rattle.std.proofs.lemmas.Option.{unwrap_or-slice_get}
use Rattle.std.specs.Option.{unwrap_or}
use Rattle.std.specs.Prelude.{Option, Some, None, Result, Ok, Err, slice_get}
use Rattle.answers.specs.declared.Refusal.{Refusal}
use Rattle.answers.specs.declared.Refusal.TheVariants.{NoRoom}
use Rattle.hits.specs.declared.Hit.{Hit}
use Rattle.ship.specs.Layout.{decks_in}
use Rattle.ship.specs.Decode.{decode}
use Rattle.ship.specs.Packed.{packed_of}
use Rattle.ship.specs.Questions.{first_no}
use Rattle.decks.specs.Opened.{opened}
use Rattle.decks.proofs.Opening.{opened_err, opened_ok}
use Rattle.locating.specs.Locating.{location_of, packed_hit, hit_on, point_layer, point_location, point_check, layer_reply}
use Rattle.locating.proofs.Probing.{hit_polygon}

-- what deck d gives, and the decks from e on
abbrev given : List ℕ → Vec2 → ℕ → List ℕ
given file p d = packed_hit d (hit_on (decode file) p d)

abbrev from : List ℕ → Vec2 → ℕ → ℕ → List ℕ
from file p deck e = collect (looks_at deck) (given file p) e (decks_in file - e)

-- a hit's polygon can be packed
pub hit_small : (file : List ℕ) (p : Vec2) {count d : ℕ} {hit : Option Hit} {h : Hit} → first_no file ≡ Ok tt → count ≡ decks_in file → d < count
    → hit ≡ hit_on (decode file) p d → hit ≡ Some h → h.polygon < 2 ^ 24
hit_small file p passed all l found e = hit_polygon file passed (omega arith) p found e

-- ---- the loops: what the decks before e gave, and what those from e on give behind it. `locate` goes on while it is nothing
pub record Seeking (file : List ℕ) (p : Vec2) (deck : ℕ) (before : List ℕ) (e : ℕ) : Type 0 where
  pub same : point_layer file p deck ≡ before ++ from file p deck e

pub seeking_all : (file : List ℕ) {p : Vec2} {deck : ℕ} {before : List ℕ} → before ≡ [] → Seeking file p deck before 0
unfolding point_layer
seeking_all file none = record { same = let e : decks_in file - 0 ≡ decks_in file = omega arith in rw (e, none) }

module _ {file : List ℕ} {p : Vec2} {deck n e : ℕ} {before : List ℕ} (h : Seeking file p deck before e) (all : n ≡ decks_in file) where
  pub seeking_ended : n ≤ e → before ≡ point_layer file p deck
  seeking_ended l = sym (h.same ∙ rw (collect_none (looks_at deck) (given file p) e (decks_in file) (omega arith)) (append-nil before))

  module _ {r : Bool} (l : e < n) (asked : r ≡ looks_at deck e) where
    pub seeking_other : r ≡ false → Seeking file p deck before (e + 1)
    seeking_other t = record { same = h.same ∙ rw (collect_no (looks_at deck) (given file p) e (decks_in file) (omega arith) (sym asked ∙ t)) }

    module _ {hit : Option Hit} (t : r ≡ true) (found : hit ≡ hit_on (decode file) p e) where
      turn : from file p deck e ≡ packed_hit e hit ++ from file p deck (e + 1)
      turn = collect_yes (looks_at deck) (given file p) e (decks_in file) (omega arith) (sym asked ∙ t) ∙ rw found

      pub seeking_missed : hit ≡ None → Seeking file p deck before (e + 1)
      seeking_missed m = record { same = h.same ∙ rw (turn, m) }

      module _ {f : Hit} {polygon : ℕ} (m : hit ≡ Some f) (packed : polygon ≡ packed_of e f.polygon) where
        more : point_layer file p deck ≡ before ++ polygon ∷ from file p deck (e + 1)
        more = h.same ∙ rw (turn, m, packed)

        pub seeking_found : before ≡ [] → Some polygon ≡ slice_get (point_layer file p deck) 0
        seeking_found none = rw (more, none)

        pub seeking_more : {before' : List ℕ} → before' ≡ before ++ polygon ∷ [] → Seeking file p deck before' (e + 1)
        seeking_more put = record { same = more ∙ rw (put, append_assoc) }

pub seeking_none : {file : List ℕ} {p : Vec2} {deck n e : ℕ} → Seeking file p deck [] e → n ≡ decks_in file → n ≤ e
    → None ≡ slice_get (point_layer file p deck) 0
seeking_none h all l = rw (sym (seeking_ended h all l))

pub ruleset seeking = (seeking_all, seeking_none, seeking_other, seeking_missed, seeking_found, hit_small)

pub ruleset listing = (seeking_all, seeking_ended, seeking_other, seeking_missed, seeking_more, hit_small)

-- ---- a point that was asked, and the ship that its questions opened
module _ (file : List ℕ) (p : Vec2) (deck : ℕ) {r : Result (List ℕ) Refusal} (asked : r ≡ opened (point_check file p) file) where
  module _ {refusal : Refusal} (e : r ≡ Err refusal) where
    refused : point_check file p ≡ Err refusal
    refused = opened_err (point_check file p) file (sym asked ∙ e)

    pub layer_refused : {out : List ℕ} → Replied (layer_reply file p deck) out out (Err refusal)
    layer_refused = replied_refused (sym refused) refl

    pub location_refused : Err refusal ≡ location_of file p deck
    unfolding location_of
    location_refused = rw refused

  module _ {ship : List ℕ} (e : r ≡ Ok ship) where
    passed : (point_check file p ≡ Ok tt) × (ship ≡ file)
    passed = opened_ok (point_check file p) file (sym asked ∙ e)

    -- ---- `get_point_location`
    pub location_found : {found : Option ℕ} {polygon : ℕ} → found ≡ slice_get (point_layer ship p deck) 0 → polygon ≡ unwrap_or found all_ones
        → Ok polygon ≡ location_of file p deck
    unfolding location_of point_location
    location_found f g = rw (passed.0, g, f, passed.1) (ap Ok (unwrap_or-slice_get (point_layer file p deck) 0 all_ones))

    -- ---- `get_point_layer`
    module _ {list : List ℕ} {count : ℕ} (listed : list ≡ point_layer ship p deck) (counted : count ≡ length list) where
      list_is : list ≡ point_layer file p deck
      list_is = rw passed.1 at listed

      layer_long : length (words_of (point_layer file p deck)) ≡ 4 * count
      layer_long = length_words (point_layer file p deck) ∙ rw (counted, list_is)

      module _ (out : List ℕ) {fits : Bool} (room : fits ≡ question20 (4 * count) (length out)) where
        pub layer_short : not fits ≡ true → Replied (layer_reply file p deck) out out (Err NoRoom)
        layer_short no_room = replied_short refl passed.0 (room_short (layer_reply file p deck) out 4 count layer_long room no_room)

        module _ (has_room : not fits ≡ false) where
          fit : length (words_of (point_layer file p deck)) ≤ length out
          fit = room_fits (layer_reply file p deck) out 4 count layer_long room has_room

          pub layer_room : 4 * length list ≤ length out
          layer_room = omega (arith, layer_long, fit, counted)

          pub layer_written : {out' words : List ℕ} {entries : ℕ} → words ≡ list → entries ≡ length list → out' ≡ splice out 0 (words_of words)
              → Replied (layer_reply file p deck) out out' (Ok entries)
          unfolding splice
          layer_written is entries put =
              let start : 0 + length (words_of (point_layer file p deck)) ≡ length (words_of (point_layer file p deck)) = omega arith in
              replied_written refl passed.0 fit (rw (entries, list_is)) (put ∙ rw (is, list_is, start))

pub ruleset layers = (layer_refused, layer_short, layer_room, layer_written)

pub ruleset locations = (location_refused, location_found)
