-- Each turn of right answers keeps what a state keeps through outages, be it whole or live.
use Rattle.std.proofs.Common.{◌≡◌, ℕ, Bool, true, false, ◌&&◌, List, [], ◌∷◌, refl, sym, subst, Contains, Option, Some, None}
use Rattle.std.specs.Bool.{MatchBool}
use Rattle.std.specs.Option.{MatchOption}
use Rattle.std.proofs.lemmas.List.Elements.{All-head}
use Rattle.tp_machine.specs.declared.machine.Machine.{Machine}
use Rattle.tp_jobs.specs.Backlogs.{tray_of}
use Rattle.tp_jobs.specs.declared.parts.WaitingCopy.{WaitingCopy}
use Rattle.tp_schedule.specs.PlannerAnswers.{Deed, IsAnswer}
use Rattle.tp_schedule.specs.PlannerAnswers.Deed.{replied}
use Rattle.tp_schedule.specs.Plans.{is_same_copy}
use Rattle.tp_schedule.specs.declared.parts.Ask.{Ask}
use Rattle.tp_schedule.specs.declared.parts.Plan.{Plan}
use Rattle.tp_schedule.specs.declared.parts.Reply.{Reply}
use Rattle.tp_schedule.specs.declared.parts.Reply.TheVariants.{Planned, Never, Spent}
use Rattle.tp_schedule.specs.declared.records.Cause.{Cause}
use Rattle.tp_schedule.specs.declared.records.Record.{Record}
use Rattle.tp_schedule.specs.declared.records.Record.TheVariants.{Refused}
use Rattle.tp_script.specs.declared.event.Event.{Event}
use Rattle.tp_script.specs.declared.event.Event.TheVariants.{Bad, Job as NewJob, Clock, Jam, Off, On, Refill}
use Rattle.tp_stock.specs.Stock.{more_at}
use Rattle.tp_event_rules.specs.AskPhase.{AsksInTurn, ask_waiting, is_full, is_passed_over, passed_after, state_after_reply}
use Rattle.tp_event_rules.specs.Laws.{IsAny, TurnsKeep}
use Rattle.tp_event_rules.specs.Planners.{IsRight, PlannerSteps}
use Rattle.tp_event_rules.specs.Refusals.{refusal}
use Rattle.tp_event_rules.specs.States.{SessionState}
use Rattle.tp_event_rules.specs.Turns.{Accepts, Begins}
use Rattle.tp_event_rules.proofs.AskSteps.{AsksFirst, TellsFull}
use Rattle.tp_event_rules.proofs.AskedFacts.{IsAskedFirst}
use Rattle.tp_event_rules.proofs.AskedLines.{planned_waiting, lines-asked}
use Rattle.tp_event_rules.proofs.AskedSheets.{older-asked}
use Rattle.tp_event_rules.proofs.AskedTurns.{IsRest, first-of_line, rest-all, rest-planned, rest-refused, rest-tail}
use Rattle.tp_event_rules.proofs.ComesBack.{lines-on}
use Rattle.tp_event_rules.proofs.FirstCopies.{accepted-job}
use Rattle.tp_event_rules.proofs.MovedClock.{lines-clock, older-clock}
use Rattle.tp_event_rules.proofs.NewJob.{jobs-job, lines-job}
use Rattle.tp_event_rules.proofs.NewSheets.{older-job}
use Rattle.tp_event_rules.proofs.PlanOnFacts.{CanPlanOn-clock}
use Rattle.tp_event_rules.proofs.PlannableTurns.{accepted-clock}
use Rattle.tp_event_rules.proofs.ReadyAsked.{broken-asked, purges-asked}
use Rattle.tp_event_rules.proofs.ReadyTurns.{broken-clock, broken-job, purges-clock}
use Rattle.tp_event_rules.proofs.Refilled.{lines-refilled}
use Rattle.tp_outage_laws.specs.Through.{KeepsThrough}
use Rattle.tp_outage_laws.proofs.OutagesKeep.{through-goes}

and-second : (a b : Bool) → b ≡ false → (a && b) ≡ false
and-second true b e = e
and-second false b e = refl

module _ {P : Type 0} (steps : PlannerSteps P) (machine : Machine) (spent : P → Machine → List Plan → Ask → ℕ → Type 0)
    (right : (p : P) (plans : List Plan) (deed : Deed) (plans' : List Plan) (p' : P) → steps.does p plans deed plans' p' → IsRight (spent p) machine plans deed plans') where
  through-planned : (p : P) (s : SessionState) (passed : List ℕ) (w : WaitingCopy) (ws : List WaitingCopy) (plans : List Plan) → IsAnswer (spent p) machine s.plans (ask_waiting machine s w) Planned plans
      → is_passed_over s passed w ≡ false → IsRest s passed (w ∷ ws) → KeepsThrough machine s → KeepsThrough machine (planned_waiting s w plans)
  through-planned p s passed w ws plans answer not_over r keeps =
      let f : IsAskedFirst machine s w plans = record { a = answer.0.alternative; keeps = keeps.lines; here = All-head (Contains s.waiting) w ws r.wait; behind = first-of_line machine s passed w ws not_over r } in
      record {
        jobs = keeps.jobs;
        plans = record {
          now_at_most = keeps.plans.now_at_most;
          legal = f.a.legal;
          floors = λ q in' not_exempt i released within. f.a.floors q in' (and-second (is_same_copy q.sheet w.sheet) _ refl) i released within;
          horizon = f.a.horizon;
        };
        lines = lines-asked machine s w plans f;
        broken = broken-asked machine s w plans f keeps.plans.legal keeps.plans.floors keeps.broken;
        older = older-asked machine s w plans f keeps.older;
        purges = purges-asked machine s w plans f keeps.plans.legal keeps.plans.floors keeps.purges;
      }

  through-reply : (p : P) (s : SessionState) (passed : List ℕ) (w : WaitingCopy) (ws : List WaitingCopy) (reply : Reply) (plans : List Plan) → IsAnswer (spent p) machine s.plans (ask_waiting machine s w) reply plans
      → is_passed_over s passed w ≡ false → IsRest s passed (w ∷ ws) → KeepsThrough machine s
      → IsRest (state_after_reply s w reply plans) (passed_after reply (tray_of s.jobs w.sheet).0 passed) ws × KeepsThrough machine (state_after_reply s w reply plans)
  through-reply p s passed w ws Planned plans answer not_over r keeps = (rest-planned s passed w ws plans r, through-planned p s passed w ws plans answer not_over r keeps)
  through-reply p s passed w ws Never plans answer not_over r keeps = (rest-refused s passed w ws r, keeps)
  through-reply p s passed w ws (Spent bound) plans answer not_over r keeps = (rest-refused s passed w ws r, keeps)

  through-asks : (waiting : List WaitingCopy) (passed : List ℕ) (s : SessionState) (p : P) (records : List Record) (s' : SessionState) (p' : P)
      → AsksInTurn steps machine waiting passed s p records s' p' → IsRest s passed waiting → KeepsThrough machine s → KeepsThrough machine s'
  through-asks [] passed s p records s' p' (told, is, same) r keeps = subst (KeepsThrough machine) (sym is) keeps
  through-asks (w ∷ waiting) passed s p records s' p' asks r keeps =
      go (is_passed_over s passed w) refl (is_full machine s) asks
      (λ next over. through-asks waiting passed s p records s' p' next (rest-tail s passed w waiting over r) keeps)
      (λ rest next. through-asks waiting ((tray_of s.jobs w.sheet).0 ∷ passed) s p rest s' p' next (rest-refused s passed w waiting r) keeps)
      (λ reply plans mid rest next rest' keeps'. through-asks waiting (passed_after reply (tray_of s.jobs w.sheet).0 passed) (state_after_reply s w reply plans) mid rest s' p' next rest' keeps') where
        go : (b : Bool) → is_passed_over s passed w ≡ b → (c : Bool) → MatchBool b (AsksInTurn steps machine waiting passed s p records s' p')
            (MatchBool c (TellsFull steps machine w waiting passed s p records s' p') (AsksFirst steps machine w waiting passed s p records s' p'))
            → (AsksInTurn steps machine waiting passed s p records s' p' → is_passed_over s passed w ≡ true → KeepsThrough machine s')
            → ((rest : List Record) → AsksInTurn steps machine waiting ((tray_of s.jobs w.sheet).0 ∷ passed) s p rest s' p' → KeepsThrough machine s')
            → ((reply : Reply) (plans : List Plan) (mid : P) (rest : List Record)
            → AsksInTurn steps machine waiting (passed_after reply (tray_of s.jobs w.sheet).0 passed) (state_after_reply s w reply plans) mid rest s' p'
            → IsRest (state_after_reply s w reply plans) (passed_after reply (tray_of s.jobs w.sheet).0 passed) waiting → KeepsThrough machine (state_after_reply s w reply plans)
            → KeepsThrough machine s')
            → KeepsThrough machine s'
        go true e c next over full answered = over next e
        go false e true (rest, told, next) over full answered = full rest next
        go false e false (reply, (plans, (mid, (rest, does, told, next)))) over full answered =
            let step = through-reply p s passed w waiting reply plans (right p s.plans (replied (ask_waiting machine s w) reply) plans mid does) e r keeps in
            answered reply plans mid rest next step.0 step.1

  through-begins : (event : Event) (s : SessionState) (p : P) (records : List Record) (s' : SessionState) (p' : P) → refusal machine s event ≡ None
      → Begins steps machine event s p records s' p' → KeepsThrough machine s → KeepsThrough machine s'
  through-begins Bad s p records s' p' accepted begins keeps = absurd begins
  through-begins (NewJob name tray media groups) s p records s' p' accepted (told, is, same) keeps =
      let ok = accepted-job machine s.jobs _ name tray media groups accepted in
      subst (KeepsThrough machine) (sym is) (record {
        jobs = jobs-job machine name tray media groups s ok keeps.jobs;
        plans = keeps.plans;
        lines = lines-job machine name tray media groups s ok keeps.lines;
        broken = broken-job machine name tray media groups s keeps.lines keeps.broken;
        older = older-job machine name tray media groups s keeps.lines keeps.older;
        purges = keeps.purges;
      })
  through-begins (Clock to) s p records s' p' accepted (told, is, same) keeps =
      let range = accepted-clock s.now to accepted in
      subst (KeepsThrough machine) (sym is) (record {
        jobs = keeps.jobs;
        plans = CanPlanOn-clock machine s.now to s.plans range.0 range.1 keeps.plans;
        lines = lines-clock machine to s keeps.lines;
        broken = broken-clock machine to s range.0 keeps.broken;
        older = older-clock machine to s keeps.older;
        purges = purges-clock machine to s range.0 keeps.purges;
      })
  through-begins (Jam name) s p records s' p' accepted (m, known, goes) keeps = through-goes steps machine spent right s m true p records s' p' goes keeps
  through-begins (Off name) s p records s' p' accepted (m, known, goes) keeps = through-goes steps machine spent right s m false p records s' p' goes keeps
  through-begins (On name) s p records s' p' accepted (m, known, told, is, same) keeps =
      subst (KeepsThrough machine) (sym is) (record {
        jobs = keeps.jobs;
        plans = keeps.plans;
        lines = lines-on machine m s keeps.lines;
        broken = record { waiting = keeps.broken.waiting; plans = keeps.broken.plans };
        older = keeps.older;
        purges = keeps.purges;
      })
  through-begins (Refill name count) s p records s' p' accepted (f, known, told, is, same) keeps =
      subst (KeepsThrough machine) (sym is) (record {
        jobs = keeps.jobs;
        plans = keeps.plans;
        lines = lines-refilled (more_at f.loc.0 count s.refills) s keeps.lines;
        broken = record { waiting = keeps.broken.waiting; plans = keeps.broken.plans };
        older = keeps.older;
        purges = keeps.purges;
      })

  pub through-turn : TurnsKeep steps machine IsAny (KeepsThrough machine)
  through-turn event s p records s' p' any turn keeps = go (refusal machine s event) refl turn where
    go : (o : Option Cause) → refusal machine s event ≡ o
        → MatchOption o (Accepts steps machine event s p records s' p') (λ cause. (records ≡ Refused cause ∷ []) × (s' ≡ s) × (p' ≡ p)) → KeepsThrough machine s'
    go None e a =
        let begun = through-begins event s p a.first a.between a.mid e a.begins keeps in
        through-asks a.between.waiting [] a.between a.mid a.rest s' p' a.asks (rest-all steps machine spent right a.between begun.lines) begun
    go (Some cause) e (told, is, same) = subst (KeepsThrough machine) (sym is) keeps
