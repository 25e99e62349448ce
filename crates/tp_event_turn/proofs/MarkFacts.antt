-- The marks of lines in a phase of asks: the copies that they pass over, and the marks after a copy's turn.
use Rattle.std.proofs.Common.{◌≡◌, ℕ, ◌≤◌, ◌<◌, Bool, true, false, cond, ◌&&◌, ◌||◌, ◌==◌, not, List, [], ◌∷◌, length, filter, find, Option, Some, None, refl, sym, ap, ◌∙◌, subst, arith, slice_get, All, Contains}
use Rattle.std.proofs.lemmas.Bool.{not-true, not-false}
use Rattle.std.specs.Prelude.{IsSomeAnd}
use Rattle.std.specs.List.{list_any}
use Rattle.std.proofs.lemmas.List.Elements.{All-contains}
use Rattle.tp_base.proofs.SliceFacts.{All-at}
use Rattle.tp_machine.specs.Machines.{IsLocation}
use Rattle.tp_machine.specs.declared.parts.LocId.{LocId}
use Rattle.tp_machine.specs.declared.machine.Machine.{Machine}
use Rattle.tp_schedule.specs.Plans.{is_before}
use Rattle.tp_schedule.specs.declared.parts.Reply.{Reply}
use Rattle.tp_schedule.specs.declared.parts.Reply.TheVariants.{Planned, Never, Spent}
use Rattle.tp_schedule.specs.declared.records.Record.{Record}
use Rattle.tp_jobs.specs.Backlogs.{tray_of}
use Rattle.tp_jobs.specs.NextTry.{is_blocked, is_open}
use Rattle.tp_jobs.specs.declared.parts.Job.{Job}
use Rattle.tp_jobs.specs.declared.parts.WaitingCopy.{WaitingCopy}
use Rattle.tp_event_rules.proofs.AskedTurns.{IsRest, rest-tail}
use Rattle.tp_event_rules.proofs.ListFacts.{find-Some}
use Rattle.tp_event_rules.specs.AskPhase.{AsksInTurn, is_passed_over, passed_after}
use Rattle.tp_event_rules.specs.Planners.{PlannerSteps}
use Rattle.tp_event_rules.specs.States.{SessionState}
use Rattle.tp_event_turn.proofs.LeftFacts.{behind-head, behind-later}
use Rattle.tp_event_turn.proofs.TurnFacts.{match-true}
use Rattle.tp_event_turn.specs.Stops.{StopsInTurn}
use Rattle.tp_event_turn.specs.Phases.{is_planned}

-- the marks are those of the trays whose lines are passed over
abbrev pub AreMarked : List Bool → List ℕ → Type 0
AreMarked marks passed = (loc : LocId) → is_blocked marks loc ≡ list_any (λ t. loc.0 == t) passed

-- behind the first copy whose line is open
abbrev pub behind : WaitingCopy → List WaitingCopy → List WaitingCopy
behind w xs = filter (λ v. is_before w.sheet v.sheet) xs

module _ {P : Type 0} (steps : PlannerSteps P) (machine : Machine) (s : SessionState) (p : P) (passed : List ℕ) (marks : List Bool) (marked : AreMarked marks passed) where
  -- the copies before the first one whose line is open are passed over
  pub record IsSkipped (xs : List WaitingCopy) (w : WaitingCopy) : Type 0 where
    pub taken : is_passed_over s passed w ≡ false
    pub rest : IsRest s passed (w ∷ behind w xs)
    pub goes : (more : List Record) (last : SessionState) (q : P) → AsksInTurn steps machine (w ∷ behind w xs) passed s p more last q → AsksInTurn steps machine xs passed s p more last q
    pub stops : (more : List Record) (q : P) → StopsInTurn steps machine (w ∷ behind w xs) passed s p more q → StopsInTurn steps machine xs passed s p more q
    pub fewer : length (behind w xs) < length xs

  pub skipped : (xs : List WaitingCopy) (w : WaitingCopy) → find (is_open s.jobs marks) xs ≡ Some w → IsRest s passed xs → IsSkipped xs w
  skipped [] w e rest = absurd (cc)
  skipped (v ∷ xs) w e rest = go (is_open s.jobs marks v) refl e (skipped xs w) where
    go : (b : Bool) → is_open s.jobs marks v ≡ b → cond b (Some v) (find (is_open s.jobs marks) xs) ≡ Some w → (find (is_open s.jobs marks) xs ≡ Some w → IsRest s passed xs → IsSkipped xs w) → IsSkipped (v ∷ xs) w
    go true f e' later =
        let is : v ≡ w = cc in
        let all = behind-head v xs rest.in_order in
        subst (IsSkipped (v ∷ xs)) is (record {
          taken = sym (marked (tray_of s.jobs v.sheet)) ∙ not-true (is_blocked marks (tray_of s.jobs v.sheet)) f;
          rest = subst (λ ys. IsRest s passed (v ∷ ys)) (sym all) rest;
          goes = λ more last q asks. subst (λ ys. AsksInTurn steps machine (v ∷ ys) passed s p more last q) all asks;
          stops = λ more q stop. subst (λ ys. StopsInTurn steps machine (v ∷ ys) passed s p more q) all stop;
          fewer = let same = ap (λ (l : List WaitingCopy). length l) all in omega arith;
        })
    go false f e' later =
        let over : is_passed_over s passed v ≡ true = sym (marked (tray_of s.jobs v.sheet)) ∙ not-false (is_blocked marks (tray_of s.jobs v.sheet)) f in
        let next = later e' (rest-tail s passed v xs over rest) in
        let same = behind-later v w xs rest.in_order (find-Some (is_open s.jobs marks) xs w e').0 in
        record {
          taken = next.taken;
          rest = subst (λ ys. IsRest s passed (w ∷ ys)) (sym same) next.rest;
          goes = λ more last q asks. match-true (is_passed_over s passed v) _ _ over (next.goes more last q (subst (λ ys. AsksInTurn steps machine (w ∷ ys) passed s p more last q) same asks));
          stops = λ more q stop. match-true (is_passed_over s passed v) _ _ over (next.stops more q (subst (λ ys. StopsInTurn steps machine (w ∷ ys) passed s p more q) same stop));
          fewer = let len = ap (λ (l : List WaitingCopy). length l) same in let few = next.fewer in omega arith;
        }

  -- where no line of them is open, nothing more is asked
  pub all-passed : (xs : List WaitingCopy) → find (is_open s.jobs marks) xs ≡ None → AsksInTurn steps machine xs passed s p [] s p
  all-passed [] e = (refl, refl, refl)
  all-passed (v ∷ xs) e = go (is_open s.jobs marks v) refl e (all-passed xs) where
    go : (b : Bool) → is_open s.jobs marks v ≡ b → cond b (Some v) (find (is_open s.jobs marks) xs) ≡ None → (find (is_open s.jobs marks) xs ≡ None → AsksInTurn steps machine xs passed s p [] s p)
        → AsksInTurn steps machine (v ∷ xs) passed s p [] s p
    go true f e' later = absurd (cc)
    go false f e' later =
        match-true (is_passed_over s passed v) _ _ (sym (marked (tray_of s.jobs v.sheet)) ∙ not-false (is_blocked marks (tray_of s.jobs v.sheet)) f) (later e')

-- the marks after a copy's turn: its line is closed where it was not planned
abbrev pub AreClosed : Bool → LocId → List Bool → List Bool → Type 0
AreClosed planned tray marks marks' = (loc : LocId) → is_blocked marks' loc ≡ ((not planned && (loc.0 == tray.0)) || is_blocked marks loc)

pub closed-after : (reply : Reply) (planned : Bool) (tray : LocId) (marks marks' : List Bool) (passed : List ℕ) → planned ≡ is_planned reply → AreMarked marks passed → AreClosed planned tray marks marks'
    → AreMarked marks' (passed_after reply tray.0 passed)
closed-after Planned planned tray marks marks' passed is marked closed loc = closed loc ∙ ap (λ b. (not b && (loc.0 == tray.0)) || is_blocked marks loc) is ∙ marked loc
closed-after Never planned tray marks marks' passed is marked closed loc =
    closed loc ∙ ap (λ b. (not b && (loc.0 == tray.0)) || is_blocked marks loc) is ∙ ap (λ c. (loc.0 == tray.0) || c) (marked loc)
closed-after (Spent bound) planned tray marks marks' passed is marked closed loc =
    closed loc ∙ ap (λ b. (not b && (loc.0 == tray.0)) || is_blocked marks loc) is ∙ ap (λ c. (loc.0 == tray.0) || c) (marked loc)

-- the marks where the line is closed, and where it stays open
pub closed-refused : (planned : Bool) (tray added : LocId) (marks marks' : List Bool) → planned ≡ false → tray ≡ added
    → ((loc : LocId) → is_blocked marks' loc ≡ ((loc.0 == added.0) || is_blocked marks loc)) → AreClosed planned tray marks marks'
closed-refused planned tray added marks marks' refused is closed loc =
    closed loc ∙ (λ k. (not (sym refused k) && (loc.0 == (sym is k).0)) || is_blocked marks loc)

pub closed-planned : (planned : Bool) (tray : LocId) (marks : List Bool) → planned ≡ true → AreClosed planned tray marks marks
closed-planned planned tray marks is loc = ap (λ b. (not b && (loc.0 == tray.0)) || is_blocked marks loc) (sym is)

-- the tray of a job is below 256
pub tray-below : (machine : Machine) (jobs : List Job) (job : ℕ) (tray : LocId) → All (IsLocation machine) machine.trays → length machine.locations ≤ 256 → All (λ j. Contains machine.trays j.tray) jobs
    → IsSomeAnd (slice_get jobs job) (λ j. j.tray ≡ tray) → tray.0 < 256
tray-below machine jobs job tray known few trays at = go (slice_get jobs job) refl at where
  go : (o : Option Job) → slice_get jobs job ≡ o → IsSomeAnd o (λ j. j.tray ≡ tray) → tray.0 < 256
  go None e none = absurd none
  go (Some j) e is =
      let one : Contains machine.trays j.tray = All-at (λ j. Contains machine.trays j.tray) jobs job j trays e in
      let within : j.tray.0 < length machine.locations = All-contains (IsLocation machine) machine.trays j.tray known one in
      let same = ap (λ (t : LocId). t.0) is in
      omega arith
