-- Document 01, section 8: `get_point_location` and `get_point_layer`, their questions and their entries.
use Rattle.std.specs.Prelude.{ℕ, List, [], ◌∷◌, ℤ, length, get_or, Float, Option, Some, None, Ok}
use Rattle.geometry.specs.declared.Vec2.{Vec2}
use Rattle.geometry.specs.Plane.{sub_of}
use Rattle.ring.specs.Probe.{probe_of}
use Rattle.words.specs.Bytes.{all_ones, bytes4}
use Rattle.words.specs.Rows.{collect}
use Rattle.answers.specs.Checks.{Check, ask, after}
use Rattle.answers.specs.Questions.{looks_at}
use Rattle.answers.specs.Replies.{Answer, Reply, answer_for, reply_of, Replied, code_of, RepliedCode}
use Rattle.answers.specs.declared.Refusal.TheVariants.{CallFloatOutOfRange}
use Rattle.hits.specs.declared.Hit.{Hit}
use Rattle.hits.specs.Hits.{sample_hit}
use Rattle.ship.specs.Layout.{decks_in}
use Rattle.ship.specs.Model.{Deck, Ship, deck_of}
use Rattle.ship.specs.Decode.{decode}
use Rattle.ship.specs.Packed.{packed_of}
use Rattle.ship.specs.Questions.{first_no}
use Rattle.search.specs.OnDeck.{passes_at}
use Rattle.calls.specs.Closest.{point_of_parts, question16}

-- 'nine probes a deck': the first that some polygon passes at, and the first such polygon; p in the deck's own coordinates
unfoldable pub probe_hit : Deck → Vec2 → Float → Option Hit
probe_hit deck p reach = sample_hit (λ i k. passes_at deck (probe_of p reach i) k) (length deck.polygons) 0 9

-- '(point - deck offset)'
unfoldable pub hit_on : Ship → Vec2 → ℕ → Option Hit
hit_on ship p d = probe_hit (deck_of ship d) (sub_of p (deck_of ship d).offset) ship.reach

-- the polygon, packed, or none
abbrev pub packed_hit : ℕ → Option Hit → List ℕ
packed_hit d (Some h) = packed_of d h.polygon ∷ []
packed_hit d None = []

-- 'one per deck', 'decks rising': of the named deck alone, or all; 'an absent deck gives nothing'
unfoldable pub point_layer : List ℕ → Vec2 → ℕ → List ℕ
point_layer file p deck = collect (looks_at deck) (λ d. packed_hit d (hit_on (decode file) p d)) 0 (decks_in file)

-- the first of them; 'all ones where nothing is found'
unfoldable pub point_location : List ℕ → Vec2 → ℕ → ℕ
point_location file p deck = get_or (point_layer file p deck) 0 all_ones

-- ---- the calls
-- 1 to 13 and 16; an absent deck is no refusal here
unfoldable pub point_check : List ℕ → Vec2 → Check
point_check file p = after (first_no file) (ask (question16 p) CallFloatOutOfRange (Ok tt))

-- the question that was not passed, or the packed polygon
unfoldable pub location_of : List ℕ → Vec2 → ℕ → Answer
location_of file p deck = answer_for (point_check file p) (point_location file p deck)

abbrev pub layer_reply : List ℕ → Vec2 → ℕ → Reply
layer_reply file p deck = reply_of (point_check file p) bytes4 (point_layer file p deck)

abbrev pub LayerReplied : List ℕ → Vec2 → ℕ → List ℕ → List ℕ → Answer → Type 0
LayerReplied file p deck out out' r = Replied (layer_reply file p deck) out out' r

-- ---- over C: the packed polygon, or minus the question's number
abbrev pub located_code : List ℕ → Float → Float → ℕ → ℤ
located_code file x y deck = code_of (location_of file (point_of_parts x y) deck)

abbrev pub LayerCode : List ℕ → Float → Float → ℕ → List ℕ → List ℕ → ℤ → Type 0
LayerCode file x y deck out out' r = RepliedCode (layer_reply file (point_of_parts x y) deck) out out' r
