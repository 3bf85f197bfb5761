-- Every distance from a wish to a candidate's height is a number, so that the surveyor's statement holds of each seat's record, and of no other.
use Prim.Native.Nat.{ℕ, ◌^◌, ◌<◌}
use native.Mathlib.Omega.{arith}
use mathlib.Core.Path.{◌≡◌}
use mathlib.Core.Bool.{Bool, true, false, not, cond}
use mathlib.Core.List.{List}
use lib.Dec.{T, eqb}
use lib.Ieee.{Float, binary32, neg, sub, lt, is_nan}
use Rattle.geometry.specs.declared.Height.{Height}
use Rattle.geometry.specs.declared.Height.TheVariants.{Known, None}
use Rattle.geometry.specs.Bounds.{Within, PointWithin, HeightWithin}
use Rattle.geometry.specs.Plane.{zero32}
use Rattle.geometry.proofs.Bounds.{sub_within, neg_within, not_nan, power}
use Rattle.records.specs.declared.SeatRecord.{SeatRecord}
use Rattle.hits.specs.declared.Candidate.{Candidate}
use Rattle.ship.specs.Layout.{decks_in}
use Rattle.ship.specs.Decode.{decode}
use Rattle.ship.specs.Questions.{first_no}
use Rattle.ship.proofs.Facts.{decks_few}
use Rattle.ship.proofs.ModelFacts.{decks_length, steps_in_lem}
use Rattle.survey.specs.declared.Seat.{Seat}
use Rattle.survey.specs.declared.Wish.{Wish}
use Rattle.survey.specs.declared.Wish.TheVariants.{NoWish, Wished}
use Rattle.survey.specs.Wishes.{gap_of}
use Rattle.survey.specs.Search.{seat_record}
use Rattle.survey.specs.Survey.{IsCandidate, SeatSurvey}
use Rattle.survey.proofs.Preference.{MeasuredFrom, MeasuredBelow}
use Rattle.survey.proofs.SurveyHolds.{survey_holds}
use Rattle.survey.proofs.SurveyUnique.{survey_unique}
use Rattle.walking.specs.Sees.{seen_by, CandidateIn}
use Rattle.walking.proofs.ShownLaws.{polygons_shown, polygons_few, candidate_within}
use Rattle.seat_run.specs.SeatFile.{seat_float, kind_word, seat_at, question16_seat}
use Rattle.seat_run.proofs.SeatReads.{seat_floats}
use Rattle.std.specs.Prelude.{Ok}

-- ---- the distance from a wish to a height
abbrev pub WishWithin : ℕ → Wish → Type 0
WishWithin k NoWish = Unit {0}
WishWithin k (Wished w) = Within k w

gap_number : (h w : Float) → Within (2 ^ 121) h → Within 1000000 w → T (not (is_nan (gap_of h w)))
gap_number h w H W = not_nan (go (lt g zero32))
  where
    g : Float
    g = sub binary32 h w

    G : Within (2 ^ 122) g
    G = sub_within (power 122 (omega arith)) (omega arith) H W

    go : (b : Bool) → Within (2 ^ 122) (cond b (neg g) g)
    go true = neg_within G
    go false = G

measured_from : (w : Wish) (h : Height) → WishWithin 1000000 w → HeightWithin (2 ^ 121) h → MeasuredFrom w h
measured_from NoWish h W H = tt
measured_from (Wished w) None W H = tt
measured_from (Wished w) (Known h) W H = gap_number h w H W

pub wish_within : (s : List ℕ) (i : ℕ) → question16_seat s i ≡ true → WishWithin 1000000 (seat_at s i).wish
unfolding seat_at
wish_within s i h = go (eqb (kind_word s i) 0)
  where
    go : (b : Bool) → WishWithin 1000000 (cond b NoWish (Wished (seat_float s i 4)))
    go true = tt
    go false = (seat_floats s i h).height_within

-- ---- what a seat sees of a passed file
module _ (file : List ℕ) (passed : first_no file ≡ Ok tt) (blocked : List ℕ) (seat : Seat) (at : PointWithin 1000000 seat.place) (wish : WishWithin 1000000 seat.wish) where
  candidate_in : (s : ℕ) → s < (decode file).steps → (c : Candidate) → IsCandidate (seen_by file blocked seat) s c → CandidateIn file c
  candidate_in s l c h =
      let there : c.deck < decks_in file = omega (arith, h.on_open.0, decks_length file) in
      let step = h.of_step in
      record {
        turn = record { deck = there; step = omega (arith, steps_in_lem file) };
        sample = omega (arith, h.first_hit.in_ring);
        polygon = omega (arith, h.passes.0, polygons_shown file c.deck seat.place);
      }

  measured : MeasuredBelow (seen_by file blocked seat) (decode file).steps
  measured s l c h = measured_from seat.wish _ wish (candidate_within passed (candidate_in s l c h) at).height_within

  pub seat_surveyed : SeatSurvey (seen_by file blocked seat) (decode file).steps (seat_record (seen_by file blocked seat) (decode file).steps)
  seat_surveyed =
      survey_holds (seen_by file blocked seat) (omega (arith, decks_few file passed, decks_length file)) (polygons_few file passed seat.place)
      (decode file).steps measured

  pub seat_once : (r r' : SeatRecord) → SeatSurvey (seen_by file blocked seat) (decode file).steps r → SeatSurvey (seen_by file blocked seat) (decode file).steps r' → r ≡ r'
  seat_once = survey_unique (seen_by file blocked seat) (decode file).steps measured
