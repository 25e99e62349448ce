-- What a copy's turn gives: it is reported full, or it is asked.
use Rattle.std.proofs.Common.{◌≡◌, ℕ, ◌<◌, Bool, true, false, List, [], ◌∷◌, ◌++◌, slice_get, Option, Some, None, IsSome, refl, sym, ap, ◌∙◌, subst, arith}
use Rattle.std.specs.Bool.{MatchBool}
use Rattle.std.specs.Prelude.{IsSomeAnd}
use Rattle.std.proofs.lemmas.Bool.Decides.{nat_tests}
use Rattle.tp_machine.specs.declared.machine.Machine.{Machine}
use Rattle.tp_schedule.specs.LivePlans.{live_count}
use Rattle.tp_schedule.specs.PlannerAnswers.{CanAsk, IsAnswer}
use Rattle.tp_schedule.specs.PlannerAnswers.Deed.{replied}
use Rattle.tp_schedule.specs.declared.parts.Ask.{Ask}
use Rattle.tp_schedule.specs.declared.parts.Plan.{Plan}
use Rattle.tp_schedule.specs.declared.parts.Reply.{Reply}
use Rattle.tp_schedule.specs.declared.parts.Reply.TheVariants.{Planned, Never, Spent}
use Rattle.tp_schedule.specs.declared.parts.SheetId.{SheetId}
use Rattle.tp_schedule.specs.declared.records.Record.{Record}
use Rattle.tp_schedule.specs.declared.records.Record.TheVariants.{FullUp}
use Rattle.tp_schedule.specs.declared.records.SheetName.{SheetName}
use Rattle.tp_jobs.specs.Backlogs.{Backlog, Kept}
use Rattle.tp_jobs.specs.WaitingCopies.{find_waiting, without_waiting}
use Rattle.tp_jobs.specs.declared.parts.WaitingCopy.{WaitingCopy}
use Rattle.tp_event_rules.specs.AnswerRecords.{told_of_reply}
use Rattle.tp_event_rules.specs.AskPhase.{ask_waiting, is_full, state_after_reply}
use Rattle.tp_event_rules.specs.Labels.{label, label_by}
use Rattle.tp_event_rules.specs.Planners.{PlannerSteps}
use Rattle.tp_event_rules.specs.Ready.{KeepsLive}
use Rattle.tp_event_rules.specs.States.{SessionState}
use Rattle.tp_event_turn.specs.Phases.{IsTried, NotesTurn, is_planned}
use Rattle.tp_event_turn.proofs.AskFacts.{found-waits, name-is}
use Rattle.tp_event_turn.proofs.CanAskFacts.{can-ask}

-- a case by a test
pub match-true : (b : Bool) (A B : Type 0) → b ≡ true → A → MatchBool b A B
match-true b A B e a = subst (λ c. MatchBool c A B) (sym e) a

pub match-false : (b : Bool) (A B : Type 0) → b ≡ false → B → MatchBool b A B
match-false b A B e a = subst (λ c. MatchBool c A B) (sym e) a

pub is-free : (machine : Machine) (s : SessionState) (live : ℕ) → live ≡ live_count machine s.now s.plans → live < 256 → is_full machine s ≡ false
is-free machine s live is few = grind (arith, nat_tests)

-- the ask that is made of the copy can be asked
pub can-ask-made : (machine : Machine) (copies : ℕ) (s : SessionState) (copy : SheetId) (ask : Ask) → KeepsLive machine copies s
    → IsSome (find_waiting copy s.waiting) → IsSomeAnd (find_waiting copy s.waiting) (λ w. ask ≡ ask_waiting machine s w)
    → is_full machine s ≡ false → CanAsk machine s.plans ask
can-ask-made machine copies s copy ask can waits made free = go (find_waiting copy s.waiting) refl waits made where
  go : (o : Option WaitingCopy) → find_waiting copy s.waiting ≡ o → IsSome o → IsSomeAnd o (λ w. ask ≡ ask_waiting machine s w) → CanAsk machine s.plans ask
  go None e is none = absurd none
  go (Some w) e is same = subst (CanAsk machine s.plans) (sym same) (can-ask machine copies s can w (found-waits copy s.waiting w e).0 free)

-- the state after an answer: the plans, and the copy that waits no more where it was planned
pub after-planned : (s : SessionState) (kept : Kept) (copy : SheetId) (reply : Reply) (plans : List Plan) (lines' : Backlog) → reply ≡ Planned
    → lines' ≡ record { jobs = s.jobs; waiting = without_waiting copy s.waiting; kept = kept } → (w : WaitingCopy) → w.sheet ≡ copy
    → record s { plans = plans; jobs = lines'.jobs; waiting = lines'.waiting } ≡ state_after_reply s w reply plans
after-planned s kept copy reply plans lines' is taken w same =
    ap (λ (l : Backlog). record s { plans = plans; jobs = l.jobs; waiting = l.waiting }) taken
    ∙ (λ k. record s { plans = plans; waiting = without_waiting (sym same k) s.waiting })
    ∙ (λ k. state_after_reply s w (sym is k) plans)

pub after-refused : (s : SessionState) (reply : Reply) (plans : List Plan) → is_planned reply ≡ false → plans ≡ s.plans
    → (w : WaitingCopy) → record s { plans = plans } ≡ state_after_reply s w reply plans
after-refused s Planned plans is same w = absurd (cc)
after-refused s Never plans is same w = (λ k. record s { plans = same k })
after-refused s (Spent bound) plans is same w = (λ k. record s { plans = same k })

-- a planner that finds no plan leaves the plans
pub refused-stays : (spent : Machine → List Plan → Ask → ℕ → Type 0) (machine : Machine) (plans : List Plan) (ask : Ask) (reply : Reply) (plans' : List Plan) → IsAnswer spent machine plans ask reply plans'
    → is_planned reply ≡ false → plans' ≡ plans
refused-stays spent machine plans ask Planned plans' answer is = absurd (cc)
refused-stays spent machine plans ask Never plans' answer is = answer.0
refused-stays spent machine plans ask (Spent bound) plans' answer is = answer.0

module _ {P : Type 0} (steps : PlannerSteps P) (machine : Machine) (s : SessionState) (p : P) (copy : SheetId) (notes notes' : List Record) where
  -- too many copies are live
  pub full-turn : (name : List ℕ) (sheet : SheetName) → IsSome (find_waiting copy s.waiting) → IsSomeAnd (slice_get s.jobs copy.job) (λ j. j.name ≡ name) → sheet ≡ label_by name copy
      → is_full machine s ≡ true → notes' ≡ notes ++ FullUp sheet ∷ [] → NotesTurn steps machine copy s p notes false s p notes'
  full-turn name sheet waits named is full told = go (find_waiting copy s.waiting) refl waits where
    go : (o : Option WaitingCopy) → find_waiting copy s.waiting ≡ o → IsSome o → IsSomeAnd o (λ w. (records : List Record) × (notes' ≡ notes ++ records) × IsTried steps machine w s p records false s p)
    go None e none = absurd (cc)
    go (Some w) e has =
        let same = (found-waits copy s.waiting w e).1 in
        let called : sheet ≡ label s.jobs w.sheet = is ∙ (λ k. label_by (sym (name-is (slice_get s.jobs copy.job) name named) k) copy) ∙ ap (label s.jobs) (sym same) in
        (FullUp sheet ∷ [], told, match-true (is_full machine s) _ _ full (ap (λ (n : SheetName). FullUp n ∷ []) called, refl, refl, refl))

  -- the copy is asked
  pub asked-turn : (ask : Ask) (reply : Reply) (planned : Bool) (s' : SessionState) (p' : P) → IsSome (find_waiting copy s.waiting) → IsSomeAnd (find_waiting copy s.waiting) (λ w. ask ≡ ask_waiting machine s w)
      → is_full machine s ≡ false → steps.does p s.plans (replied ask reply) s'.plans p' → notes' ≡ notes ++ told_of_reply machine s.plans ask reply s'.plans
      → planned ≡ is_planned reply → ((w : WaitingCopy) → w.sheet ≡ copy → s' ≡ state_after_reply s w reply s'.plans)
      → NotesTurn steps machine copy s p notes planned s' p' notes'
  asked-turn ask reply planned s' p' waits made free does told is after = go (find_waiting copy s.waiting) refl waits made where
    go : (o : Option WaitingCopy) → find_waiting copy s.waiting ≡ o → IsSome o → IsSomeAnd o (λ w. ask ≡ ask_waiting machine s w)
        → IsSomeAnd o (λ w. (records : List Record) × (notes' ≡ notes ++ records) × IsTried steps machine w s p records planned s' p')
    go None e none made = absurd (cc)
    go (Some w) e has same = (
      told_of_reply machine s.plans ask reply s'.plans,
      told,
      match-false (is_full machine s) _ _ free
          (reply, subst (λ a. steps.does p s.plans (replied a reply) s'.plans p') same does, ap (λ a. told_of_reply machine s.plans a reply s'.plans) same, is, after w (found-waits copy s.waiting w e).1),
    )
