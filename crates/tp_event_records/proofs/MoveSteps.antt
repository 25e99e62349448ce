-- The plans but for the copy's are gone through, beside the points that they had.
use Rattle.std.proofs.Common.{◌≡◌, ℕ, ◌+◌, ◌≤◌, true, false, List, [], ◌∷◌, ◌++◌, drop, length, slice_get, Option, Some, None, refl, ap, sym, ◌∙◌, append_assoc, option_map}
use Rattle.std.proofs.lemmas.List.{append-nil, drop_all}
use Rattle.std.proofs.lemmas.Option.{slice_get-map}
use Rattle.tp_schedule.specs.Plans.{with_points}
use Rattle.tp_schedule.specs.declared.parts.Plan.{Plan}
use Rattle.tp_schedule.specs.declared.parts.SheetId.{SheetId}
use Rattle.tp_schedule.specs.declared.records.Record.{Record}
use Rattle.tp_event_rules.specs.AnswerRecords.{moves, told_of_move}
use Rattle.tp_event_records.specs.RecordNames.{is_of, others, points_of}
use Rattle.tp_event_records.proofs.ListSteps.{drop_from}

-- the next plan is the copy's, and is passed over
pub passes : (asked : Option SheetId) (plans : List Plan) (at : ℕ) (p : Plan) → slice_get plans at ≡ Some p → is_of asked p ≡ true
    → others asked (drop at plans) ≡ others asked (drop (at + 1) plans)
passes None plans at p here its = absurd (cc)
passes (Some copy) plans at p here its = rw (drop_from plans at p here) (rw its refl)

-- the next plan is another's
pub keeps : (asked : Option SheetId) (plans : List Plan) (at : ℕ) (p : Plan) → slice_get plans at ≡ Some p → is_of asked p ≡ false
    → others asked (drop at plans) ≡ p ∷ others asked (drop (at + 1) plans)
keeps None plans at p here other = drop_from plans at p here
keeps (Some copy) plans at p here other = rw (drop_from plans at p here) (rw other refl)

pub others-nil : (asked : Option SheetId) → others asked [] ≡ []
others-nil None = refl
others-nil (Some copy) = refl

pub none-after : (plans : List Plan) → moves plans [] ≡ []
none-after [] = refl
none-after (p ∷ plans) = refl

-- the plan that had these points is there
had : (plans : List Plan) (place : ℕ) (points : List ℕ) → slice_get (points_of plans) place ≡ Some points
    → (p : Plan) × (slice_get plans place ≡ Some p) × (p.points ≡ points)
had plans place points at = go (slice_get plans place) refl (sym (slice_get-map (λ (p : Plan). p.points) plans place) ∙ at) where
  go : (o : Option Plan) → slice_get plans place ≡ o → option_map (λ (p : Plan). p.points) o ≡ Some points → (p : Plan) × (slice_get plans place ≡ Some p) × (p.points ≡ points)
  go None e f = absurd (cc)
  go (Some p) e f = (p, e, cc)

-- one more plan is reported of, beside the points that it had
pub tells-one : (told told' : List Record) (plans : List Plan) (place : ℕ) (points : List ℕ) (asked : Option SheetId) (after : List Plan) (at : ℕ) (q : Plan) (all : List Record)
    → slice_get (points_of plans) place ≡ Some points → slice_get after at ≡ Some q → is_of asked q ≡ false → told' ≡ told ++ told_of_move (with_points points q) q
    → told ++ moves (drop place plans) (others asked (drop at after)) ≡ all
    → told' ++ moves (drop (place + 1) plans) (others asked (drop (at + 1) after)) ≡ all
tells-one told told' plans place points asked after at q all here here' other one rest =
    let p = had plans place points here in
    let later = moves (drop (place + 1) plans) (others asked (drop (at + 1) after)) in
    let same : told_of_move (with_points points q) q ≡ told_of_move p.0 q = ap (λ ticks. told_of_move (with_points ticks q) q) (sym p.2) in
    ap (λ r. r ++ later) (one ∙ ap (λ r. told ++ r) same)
    ∙ append_assoc told (told_of_move p.0 q) later
    ∙ ap (λ r. told ++ r) (sym (ap (λ ps. moves ps (others asked (drop at after))) (drop_from plans place p.0 p.1) ∙ ap (moves (p.0 ∷ drop (place + 1) plans)) (keeps asked after at q here' other)))
    ∙ rest

-- no plan is left to tell of, on either side
pub tells-none : (told : List Record) (plans later later' : List Plan) (place : ℕ) (all : List Record) → length plans ≤ place
    → told ++ moves (drop place plans) later ≡ all → told ++ moves (drop place plans) later' ≡ all
tells-none told plans later later' place all past rest =
    let none = drop_all place plans past in
    ap (λ ps. told ++ moves ps later') none ∙ sym (ap (λ ps. told ++ moves ps later) none) ∙ rest

pub tells-all : (told : List Record) (before : List Plan) (asked : Option SheetId) (after : List Plan) (at : ℕ) (all : List Record) → length after ≤ at
    → told ++ moves before (others asked (drop at after)) ≡ all → told ≡ all
tells-all told before asked after at all past rest =
    sym (append-nil told)
    ∙ ap (λ r. told ++ r) (sym (ap (λ ps. moves before (others asked ps)) (drop_all at after past) ∙ ap (moves before) (others-nil asked) ∙ none-after before))
    ∙ rest
