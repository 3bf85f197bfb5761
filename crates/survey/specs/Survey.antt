-- The surveyor's statement, of one seat: what 'unplaced' and 'placed' mean, and what each number of the record is (document 01, section 7).
-- Nothing here searches: a sample hits or it does not, being a candidate is a condition, and of two candidates one is preferred.
use Rattle.std.specs.Prelude.{ℕ, suc, ◌+◌, ◌*◌, ◌-◌, ◌≤◌, ◌<◌, ◌≡◌, ◌↔◌, ◌⊎◌, Bool, not, T}
use Rattle.words.specs.Bytes.{all_ones}
use Rattle.words.specs.Rows.{sum_of, how_many}
use Rattle.records.specs.declared.SeatRecord.{SeatRecord}
use Rattle.records.specs.Record.{unplaced_record}
use Rattle.hits.specs.declared.Candidate.{Candidate}
use Rattle.hits.specs.Candidates.{candidate}
use Rattle.survey.specs.Wishes.{nearer}
use Rattle.survey.specs.View.{View}
use Rattle.survey.specs.Record.{placed_record}

module _ (v : View) where
  -- deck d is there, and open to the seat
  abbrev pub Open : ℕ → Type 0
  Open d = (d < v.decks) × T (v.opens d)

  -- the polygon is there, and passes the polygon test at the sample
  abbrev pub Passes : Candidate → Type 0
  Passes c = (c.polygon < v.shown.polygons c.deck) × T (v.shown.passes c)

  -- a sample hits exactly when some polygon of that deck passes at it
  abbrev pub Hits : ℕ → ℕ → ℕ → Type 0
  Hits s d i = (k : ℕ) × Passes (candidate s d i k)

  abbrev pub Misses : ℕ → ℕ → ℕ → Type 0
  Misses s d i = (k : ℕ) → Passes (candidate s d i k) → ⊥

  -- no sample of step s, i = 0 to 10 * s, hits on deck d
  abbrev pub NoHitOn : ℕ → ℕ → Type 0
  NoHitOn s d = (i : ℕ) → i ≤ 10 * s → Misses s d i

  -- no ring sample at any step below S hits on any deck open to the seat
  abbrev pub NoHit : ℕ → Type 0
  NoHit S = (s : ℕ) → s < S → (d : ℕ) → Open d → NoHitOn s d

  -- sample i is the first of step s that hits on deck d
  pub record FirstHit (s d i : ℕ) : Type 0 where
    pub in_ring : i ≤ 10 * s
    pub hits : Hits s d i
    pub none_before : (j : ℕ) → j < i → Misses s d j

  -- c is a candidate of step s: its deck is open, its sample the first that hits there, its polygon one that passes
  pub record IsCandidate (s : ℕ) (c : Candidate) : Type 0 where
    pub of_step : c.step ≡ s
    pub on_open : Open c.deck
    pub first_hit : FirstHit s c.deck c.sample
    pub passes : Passes c

  -- of two candidates of a step, c comes earlier: by deck, then by polygon
  abbrev pub Earlier : Candidate → Candidate → Type 0
  Earlier c d = (c.deck < d.deck) ⊎ ((c.deck ≡ d.deck) × (c.polygon < d.polygon))

  -- c's height is preferred to d's
  abbrev pub Nearer : Candidate → Candidate → Bool
  Nearer c d = nearer v.wish (v.shown.height c) (v.shown.height d)

  -- the seat prefers c to d: by height, and otherwise the earlier
  abbrev pub Prefers : Candidate → Candidate → Type 0
  Prefers c d = T (Nearer c d) ⊎ (T (not (Nearer d c)) × Earlier c d)

  -- D, and a sum over the open decks
  abbrev pub open_decks : ℕ
  open_decks = how_many v.opens v.decks

  abbrev pub over_open : (ℕ → ℕ) → ℕ
  over_open f = sum_of v.opens f 0 v.decks

  -- all samples of every open deck in the steps below s
  abbrev pub samples_below : ℕ → ℕ
  samples_below s = open_decks * (5 * s * s - 4 * s)

  -- deck d's turn in step s tries n samples: up to and including its hit, all if none
  abbrev pub TriedOn : ℕ → ℕ → ℕ → Type 0
  TriedOn s d n = (NoHitOn s d × (n ≡ suc (10 * s))) ⊎ ((i : ℕ) × FirstHit s d i × (n ≡ suc i))

  -- deck d's turn in step s gives n candidates
  abbrev pub CandidatesOn : ℕ → ℕ → ℕ → Type 0
  CandidatesOn s d n =
      (NoHitOn s d × (n ≡ 0)) ⊎ ((i : ℕ) × FirstHit s d i × (n ≡ how_many (λ k. v.shown.passes (candidate s d i k)) (v.shown.polygons d)))

  -- a placed seat: at the earliest step with a hit, with the candidate of that step that the seat prefers to every other
  pub record Placed (S : ℕ) (r : SeatRecord) : Type 0 where
    pub chosen : Candidate
    pub below : chosen.step < S
    pub earliest : NoHit chosen.step
    pub is_candidate : IsCandidate chosen.step chosen
    pub preferred : (c : Candidate) → IsCandidate chosen.step c → (c ≡ chosen) ⊎ Prefers chosen c
    pub tried : ℕ → ℕ
    pub tried_is : (d : ℕ) → Open d → TriedOn chosen.step d (tried d)
    pub count : ℕ → ℕ
    pub count_is : (d : ℕ) → Open d → CandidatesOn chosen.step d (count d)
    pub numbers : r ≡ placed_record v.shown chosen (samples_below chosen.step + over_open tried) (over_open count)

  -- unplaced exactly when there is no hit below S, and then all samples of every open deck were tried; otherwise placed
  pub record SeatSurvey (S : ℕ) (r : SeatRecord) : Type 0 where
    pub unplaced : (r.polygon ≡ all_ones) ↔ NoHit S
    pub unplaced_numbers : r.polygon ≡ all_ones → r ≡ unplaced_record (samples_below S)
    pub placed : (r.polygon ≡ all_ones → ⊥) → Placed S r
