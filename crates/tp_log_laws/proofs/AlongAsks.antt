-- A phase of asks over the planner that is given its answers goes as one of right answers does.
use Rattle.std.proofs.Common.{◌≡◌, ℕ, ◌<◌, Bool, true, false, List, [], ◌∷◌, ◌++◌, length, refl, sym, ap, subst, ◌∙◌, inl, inr, ◌⊎◌, Contains}
use Rattle.std.specs.Bool.{MatchBool}
use Rattle.tp_bounds.specs.declared.tree.BoundTree.{BoundTree}
use Rattle.tp_jobs.specs.Backlogs.{tray_of}
use Rattle.tp_jobs.specs.declared.parts.WaitingCopy.{WaitingCopy}
use Rattle.tp_machine.specs.declared.machine.Machine.{Machine}
use Rattle.tp_schedule.proofs.Membership.{Contains-here, Contains-later}
use Rattle.tp_schedule.specs.PlannerAnswers.{IsAnswer}
use Rattle.tp_schedule.specs.PlannerAnswers.Deed.{replied}
use Rattle.tp_schedule.specs.PlannerAnswers.Due.{asking}
use Rattle.tp_schedule.specs.Plans.{AreNamed}
use Rattle.tp_schedule.specs.declared.parts.Ask.{Ask}
use Rattle.tp_schedule.specs.declared.parts.Plan.{Plan}
use Rattle.tp_schedule.specs.declared.parts.Reply.{Reply}
use Rattle.tp_schedule.specs.declared.parts.Reply.TheVariants.{Planned, Never, Spent}
use Rattle.tp_schedule.specs.declared.records.Record.{Record}
use Rattle.tp_schedule.specs.declared.records.Record.TheVariants.{FullUp}
use Rattle.tp_log_planner.specs.Stops.{StopsAt}
use Rattle.tp_log_planner.specs.ToldAnswers.{TakesOn, ToldValue, ahead, behind_asides}
use Rattle.tp_event_rules.specs.AnswerRecords.{told_of_reply}
use Rattle.tp_event_rules.specs.AskPhase.{AsksInTurn, ask_waiting, is_full, is_passed_over, passed_after, state_after_reply}
use Rattle.tp_event_rules.specs.Labels.{label}
use Rattle.tp_event_rules.specs.Logs.{right_answers, spent_on_trust}
use Rattle.tp_event_rules.specs.Planners.{PlannerSteps}
use Rattle.tp_event_rules.specs.States.{SessionState}
use Rattle.tp_event_rules.proofs.AskSteps.{AsksFirst, TellsFull}
use Rattle.tp_event_turn.specs.Stops.{StopsInTurn}
use Rattle.tp_run_laws.specs.Runs.{items_with}
use Rattle.tp_log_laws.specs.AcceptedEntries.{bound_claims}
use Rattle.tp_log_laws.specs.EntryTurns.{IsThrough, told_steps}
use Rattle.tp_log_laws.proofs.Names.{AreOfJobs, are-named, planned-named}
use Rattle.tp_log_laws.proofs.Places.{IsOver, IsParted, is_plan_reply, over-none, reply-over, tells-reply}

-- the items to come are those of the records, but for asides in front
abbrev pub IsAhead : ToldValue → Bool → List Record → List BoundTree → Type 0
IsAhead p b records trees = behind_asides (ahead p) ≡ behind_asides (items_with b records trees)

pub over-full : (s : SessionState) (w : WaitingCopy) (rest : List Record) → IsOver rest → IsOver (FullUp (label s.jobs w.sheet) ∷ rest)
over-full s w rest over = record { first = refl; later = λ b trees. over.later false trees }

pub parted-by : (reply : Reply) (records : List Record) → IsOver records → IsParted reply records
parted-by Planned records over = over.first
parted-by Never records over = tt
parted-by (Spent bound) records over = tt

reply-jobs : (s : SessionState) (w : WaitingCopy) (reply : Reply) (plans : List Plan) → (state_after_reply s w reply plans).jobs ≡ s.jobs
reply-jobs s w Planned plans = refl
reply-jobs s w Never plans = refl
reply-jobs s w (Spent bound) plans = refl

-- the jobs of these copies came
abbrev pub AreKnown : SessionState → List WaitingCopy → Type 0
AreKnown s [] = Unit {0}
AreKnown s (w ∷ waiting) = (w.sheet.job < length s.jobs) × AreKnown s waiting

pub all-known : (s : SessionState) (waiting : List WaitingCopy) → ((w : WaitingCopy) → Contains waiting w → w.sheet.job < length s.jobs) → AreKnown s waiting
all-known s [] each = tt
all-known s (w ∷ waiting) each = (each w (Contains-here w waiting), all-known s waiting (λ v in'. each v (Contains-later w waiting v in')))

known-on : (s t : SessionState) (waiting : List WaitingCopy) → t.jobs ≡ s.jobs → AreKnown s waiting → AreKnown t waiting
known-on s t [] same known = tt
known-on s t (w ∷ waiting) same known = (subst (λ jobs. w.sheet.job < length jobs) (sym same) known.0, known-on s t waiting same known.1)

module _ (machine : Machine) where
  abbrev pub lawful_steps : PlannerSteps (List BoundTree)
  lawful_steps = right_answers bound_claims true spent_on_trust machine

  -- ---- one answer
  module _ (plans : List Plan) (ask : Ask) (reply : Reply) (plans' : List Plan) (records : List Record) (q q' : List BoundTree) (p : ToldValue) (b : Bool) (named : AreNamed plans)
      (does : lawful_steps.does q plans (replied ask reply) plans' q') (parted : IsParted reply records) (at : IsAhead p b (told_of_reply machine plans ask reply plans' ++ records) q) where
    pub same-answer : (reply2 : Reply) (plans2 : List Plan) (p2 : ToldValue) → TakesOn p machine plans (replied ask reply2) plans2 p2 → (reply2 ≡ reply) × (plans2 ≡ plans') × (ahead p2 ≡ items_with (is_plan_reply reply) records q')
    same-answer reply2 plans2 p2 takes =
        let tells = tells-reply machine plans ask plans' records (ahead p) b reply q q' parted does.0 does.1 at in
        let one = takes.only named reply plans' (items_with (is_plan_reply reply) records q') tells in
        (sym one.0, sym one.1, sym one.2)

    pub no-stop : (p2 : ToldValue) → StopsAt p machine plans (asking ask) p2 → ⊥
    no-stop p2 stops =
        let tells = tells-reply machine plans ask plans' records (ahead p) b reply q q' parted does.0 does.1 at in
        stops.denied named (reply, (plans', (items_with (is_plan_reply reply) records q', tells)))

  -- ---- the records of a phase begin with no move
  abbrev Asked : List WaitingCopy → List ℕ → SessionState → List BoundTree → List Record → SessionState → List BoundTree → Type 0
  Asked waiting passed s q records s' q' = AsksInTurn lawful_steps machine waiting passed s q records s' q'

  pub asks-over : (waiting : List WaitingCopy) (passed : List ℕ) (s : SessionState) (q : List BoundTree) (records : List Record) (s' : SessionState) (q' : List BoundTree) → Asked waiting passed s q records s' q' → IsOver records
  asks-over [] passed s q records s' q' (told, is, same) = subst IsOver (sym told) over-none
  asks-over (w ∷ waiting) passed s q records s' q' asks =
      go (is_passed_over s passed w) (is_full machine s) asks (λ next. asks-over waiting passed s q records s' q' next)
      (λ rest next. asks-over waiting ((tray_of s.jobs w.sheet).0 ∷ passed) s q rest s' q' next) where
        go : (c d : Bool) → MatchBool c (Asked waiting passed s q records s' q') (MatchBool d (TellsFull lawful_steps machine w waiting passed s q records s' q') (AsksFirst lawful_steps machine w waiting passed s q records s' q'))
            → (Asked waiting passed s q records s' q' → IsOver records) → ((rest : List Record) → Asked waiting ((tray_of s.jobs w.sheet).0 ∷ passed) s q rest s' q' → IsOver rest) → IsOver records
        go true d next over full = over next
        go false true (rest, told, next) over full = subst IsOver (sym told) (over-full s w rest (full rest next))
        go false false (reply, (plans, (mid, (rest, does, told, next)))) over full =
            subst IsOver (sym told) (reply-over machine s.plans (ask_waiting machine s w) plans rest reply q mid does.1)

  -- ---- the phase
  abbrev Stopped : List WaitingCopy → List ℕ → SessionState → ToldValue → List Record → ToldValue → Type 0
  Stopped waiting passed s p records p' = StopsInTurn (told_steps machine) machine waiting passed s p records p'

  abbrev StopsFull : WaitingCopy → List WaitingCopy → List ℕ → SessionState → ToldValue → List Record → ToldValue → Type 0
  StopsFull w waiting passed s p records p' = (rest : List Record) × (records ≡ FullUp (label s.jobs w.sheet) ∷ rest) × Stopped waiting ((tray_of s.jobs w.sheet).0 ∷ passed) s p rest p'

  abbrev StopsFirst : WaitingCopy → List WaitingCopy → List ℕ → SessionState → ToldValue → List Record → ToldValue → Type 0
  StopsFirst w waiting passed s p records p' =
      ((records ≡ []) × (told_steps machine).stops p s.plans (asking (ask_waiting machine s w)) p')
      ⊎ ((reply : Reply) × ((plans : List Plan) × ((mid : ToldValue) × ((rest : List Record)
      × (told_steps machine).does p s.plans (replied (ask_waiting machine s w) reply) plans mid
      × (records ≡ told_of_reply machine s.plans (ask_waiting machine s w) reply plans ++ rest)
      × Stopped waiting (passed_after reply (tray_of s.jobs w.sheet).0 passed) (state_after_reply s w reply plans) mid rest p'))))

  abbrev pub Goes : List WaitingCopy → List ℕ → SessionState → ToldValue → List Record → SessionState → Type 0
  Goes waiting passed s p records s' =
      (notes : List Record) (last : SessionState) (p' : ToldValue) → AsksInTurn (told_steps machine) machine waiting passed s p notes last p' → (notes ≡ records) × (last ≡ s') × IsThrough p'

  abbrev pub GoesOn : List WaitingCopy → List ℕ → SessionState → ToldValue → Type 0
  GoesOn waiting passed s p = (notes : List Record) (p' : ToldValue) → Stopped waiting passed s p notes p' → ⊥

  reply-named : (s : SessionState) (w : WaitingCopy) (reply : Reply) (plans : List Plan) → w.sheet.job < length s.jobs → IsAnswer spent_on_trust machine s.plans (ask_waiting machine s w) reply plans → AreOfJobs s.jobs s.plans
      → AreOfJobs (state_after_reply s w reply plans).jobs (state_after_reply s w reply plans).plans
  reply-named s w Planned plans known answer of = planned-named machine s w plans known answer.0.alternative of
  reply-named s w Never plans known answer of = of
  reply-named s w (Spent bound) plans known answer of = of

  -- what is known of the later copies
  module _ (w : WaitingCopy) (waiting : List WaitingCopy) (passed : List ℕ) (s : SessionState) (q : List BoundTree) (records : List Record) (s' : SessionState) (q' : List BoundTree) where
    abbrev Over : Type 0
    Over = Asked waiting passed s q records s' q' → (p : ToldValue) (b : Bool) → IsAhead p b records q → Goes waiting passed s p records s' × GoesOn waiting passed s p

    abbrev Full : Type 0
    Full = (rest : List Record) → Asked waiting ((tray_of s.jobs w.sheet).0 ∷ passed) s q rest s' q' → (p : ToldValue) (b : Bool) → IsAhead p b rest q
        → Goes waiting ((tray_of s.jobs w.sheet).0 ∷ passed) s p rest s' × GoesOn waiting ((tray_of s.jobs w.sheet).0 ∷ passed) s p

    abbrev Answered : Type 0
    Answered = (reply : Reply) (plans : List Plan) (mid : List BoundTree) (rest : List Record) → Asked waiting (passed_after reply (tray_of s.jobs w.sheet).0 passed) (state_after_reply s w reply plans) mid rest s' q'
        → AreOfJobs (state_after_reply s w reply plans).jobs (state_after_reply s w reply plans).plans → AreKnown (state_after_reply s w reply plans) waiting
        → (p : ToldValue) (b : Bool) → IsAhead p b rest mid
        → Goes waiting (passed_after reply (tray_of s.jobs w.sheet).0 passed) (state_after_reply s w reply plans) p rest s' × GoesOn waiting (passed_after reply (tray_of s.jobs w.sheet).0 passed) (state_after_reply s w reply plans) p

    module _ (of : AreOfJobs s.jobs s.plans) (known : AreKnown s (w ∷ waiting)) (p : ToldValue) (b : Bool) (at : IsAhead p b records q) where
      asked-first : (reply : Reply) (plans : List Plan) (mid : List BoundTree) (rest : List Record) → lawful_steps.does q s.plans (replied (ask_waiting machine s w) reply) plans mid → records ≡ told_of_reply machine s.plans (ask_waiting machine s w) reply plans ++ rest
          → Asked waiting (passed_after reply (tray_of s.jobs w.sheet).0 passed) (state_after_reply s w reply plans) mid rest s' q' → Answered
          → ((notes : List Record) (last : SessionState) (p' : ToldValue) → AsksFirst (told_steps machine) machine w waiting passed s p notes last p' → (notes ≡ records) × (last ≡ s') × IsThrough p')
          × ((notes : List Record) (p' : ToldValue) → StopsFirst w waiting passed s p notes p' → ⊥)
      asked-first reply plans mid rest does told next answered = (goes, halts) where
        ask : Ask
        ask = ask_waiting machine s w

        parted : IsParted reply rest
        parted = parted-by reply rest (asks-over waiting (passed_after reply (tray_of s.jobs w.sheet).0 passed) (state_after_reply s w reply plans) mid rest s' q' next)

        at' : IsAhead p b (told_of_reply machine s.plans ask reply plans ++ rest) q
        at' = subst (λ rs. IsAhead p b rs q) told at

        named : AreNamed s.plans
        named = are-named s.jobs s.plans of

        later : (mid2 : ToldValue) → ahead mid2 ≡ items_with (is_plan_reply reply) rest mid
            → Goes waiting (passed_after reply (tray_of s.jobs w.sheet).0 passed) (state_after_reply s w reply plans) mid2 rest s' × GoesOn waiting (passed_after reply (tray_of s.jobs w.sheet).0 passed) (state_after_reply s w reply plans) mid2
        later mid2 left =
            answered reply plans mid rest next (reply-named s w reply plans known.0 does.0 of) (known-on s (state_after_reply s w reply plans) waiting (reply-jobs s w reply plans) known.1) mid2 (is_plan_reply reply) (ap behind_asides left)

        goes : (notes : List Record) (last : SessionState) (p' : ToldValue) → AsksFirst (told_steps machine) machine w waiting passed s p notes last p' → (notes ≡ records) × (last ≡ s') × IsThrough p'
        goes notes last p' (reply2, (plans2, (mid2, (rest2, does2, told2, next2)))) =
            let one = same-answer s.plans ask reply plans rest q mid p b named does parted at' reply2 plans2 mid2 does2.1 in
            let next3 = subst (λ ps. AsksInTurn (told_steps machine) machine waiting (passed_after reply (tray_of s.jobs w.sheet).0 passed) (state_after_reply s w reply ps) mid2 rest2 last p') one.1
            (subst (λ r. AsksInTurn (told_steps machine) machine waiting (passed_after r (tray_of s.jobs w.sheet).0 passed) (state_after_reply s w r plans2) mid2 rest2 last p') one.0 next2) in
            let end = (later mid2 one.2).0 rest2 last p' next3 in (
              told2 ∙ ap (λ r. told_of_reply machine s.plans ask r plans2 ++ rest2) one.0 ∙ ap (λ ps. told_of_reply machine s.plans ask reply ps ++ rest2) one.1 ∙ ap (λ rs. told_of_reply machine s.plans ask reply plans ++ rs) end.0 ∙ sym told,
              end.1,
              end.2,
            )

        halts : (notes : List Record) (p' : ToldValue) → StopsFirst w waiting passed s p notes p' → ⊥
        halts notes p' (inl (none, stops)) = no-stop s.plans ask reply plans rest q mid p b named does parted at' p' stops
        halts notes p' (inr (reply2, (plans2, (mid2, (rest2, does2, told2, next2))))) =
            let one = same-answer s.plans ask reply plans rest q mid p b named does parted at' reply2 plans2 mid2 does2.1 in
            let next3 = subst (λ ps. Stopped waiting (passed_after reply (tray_of s.jobs w.sheet).0 passed) (state_after_reply s w reply ps) mid2 rest2 p') one.1
            (subst (λ r. Stopped waiting (passed_after r (tray_of s.jobs w.sheet).0 passed) (state_after_reply s w r plans2) mid2 rest2 p') one.0 next2) in
            (later mid2 one.2).1 rest2 p' next3

      one-copy : (c d : Bool) → MatchBool c (Asked waiting passed s q records s' q') (MatchBool d (TellsFull lawful_steps machine w waiting passed s q records s' q') (AsksFirst lawful_steps machine w waiting passed s q records s' q'))
          → Over → Full → Answered
          → ((notes : List Record) (last : SessionState) (p' : ToldValue) → MatchBool c (AsksInTurn (told_steps machine) machine waiting passed s p notes last p') (MatchBool d (TellsFull (told_steps machine) machine w waiting passed s p notes last p') (AsksFirst (told_steps machine) machine w waiting passed s p notes last p'))
          → (notes ≡ records) × (last ≡ s') × IsThrough p')
          × ((notes : List Record) (p' : ToldValue) → MatchBool c (Stopped waiting passed s p notes p') (MatchBool d (StopsFull w waiting passed s p notes p') (StopsFirst w waiting passed s p notes p')) → ⊥)
      one-copy true d next over full answered = over next p b at
      one-copy false true (rest, told, next) over full answered =
          let both = full rest next p false (subst (λ rs. IsAhead p b rs q) told at) in (
            λ notes last p' (rest2, told2, next2). (let end = both.0 rest2 last p' next2 in (told2 ∙ ap (λ rs. FullUp (label s.jobs w.sheet) ∷ rs) end.0 ∙ sym told, end.1, end.2)),
            λ notes p' (rest2, told2, next2). both.1 rest2 p' next2,
          )
      one-copy false false (reply, (plans, (mid, (rest, does, told, next)))) over full answered = asked-first reply plans mid rest does told next answered

  pub asks-along : (waiting : List WaitingCopy) (passed : List ℕ) (s : SessionState) (q : List BoundTree) (records : List Record) (s' : SessionState) (q' : List BoundTree) → Asked waiting passed s q records s' q'
      → AreOfJobs s.jobs s.plans → AreKnown s waiting → (p : ToldValue) (b : Bool) → IsAhead p b records q → Goes waiting passed s p records s' × GoesOn waiting passed s p
  asks-along [] passed s q records s' q' (told, is, same) of known p b at = (
    λ notes last p' (told2, is2, same2). (told2 ∙ sym told, is2 ∙ sym is, ap (λ x. behind_asides (ahead x)) same2 ∙ at ∙ ap (λ rs. behind_asides (items_with b rs q)) told),
    λ notes p' none. none,
  )
  asks-along (w ∷ waiting) passed s q records s' q' asks of known p b at =
      one-copy w waiting passed s q records s' q' of known p b at (is_passed_over s passed w) (is_full machine s) asks
      (λ next. asks-along waiting passed s q records s' q' next of known.1)
      (λ rest next. asks-along waiting ((tray_of s.jobs w.sheet).0 ∷ passed) s q rest s' q' next of known.1)
      (λ reply plans mid rest next. asks-along waiting (passed_after reply (tray_of s.jobs w.sheet).0 passed) (state_after_reply s w reply plans) mid rest s' q' next)
