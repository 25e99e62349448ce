-- Turns of jobs, moves of the clock, modules that come back and refused events keep what is kept between events.
use Rattle.std.proofs.Common.{◌≡◌, ℕ, ◌+◌, ◌-◌, false, List, [], ◌∷◌, ◌++◌, refl, sym, subst, Option, Some, None}
use Rattle.std.specs.Option.{MatchOption}
use Rattle.tp_machine.specs.declared.machine.Machine.{Machine}
use Rattle.tp_script.specs.declared.event.Event.{Event}
use Rattle.tp_script.specs.declared.event.Event.TheVariants.{Bad, Job as NewJob, Clock, Jam, Off, On, Refill}
use Rattle.tp_jobs.specs.JobRefusals.{sheet_count}
use Rattle.tp_schedule.specs.PlannerAnswers.{Deed}
use Rattle.tp_schedule.specs.declared.parts.Ask.{Ask}
use Rattle.tp_schedule.specs.declared.parts.Plan.{Plan}
use Rattle.tp_schedule.specs.declared.records.Cause.{Cause}
use Rattle.tp_schedule.specs.declared.records.Record.{Record}
use Rattle.tp_schedule.specs.declared.records.Record.TheVariants.{Refused}
use Rattle.tp_event_rules.specs.StateInvariants.{KeepsState}
use Rattle.tp_event_rules.specs.Laws.{IsNoOutage, TurnsKeepState, is_outage, totals_by}
use Rattle.tp_event_rules.specs.Planners.{PlannerSteps, IsRight}
use Rattle.tp_event_rules.specs.Refusals.{refusal}
use Rattle.tp_event_rules.specs.States.{SessionState}
use Rattle.tp_event_rules.specs.Turns.{Begins, Accepts}
use Rattle.tp_event_rules.proofs.AskedTurns.{kept-asks, rest-all}
use Rattle.tp_event_rules.proofs.ComesBack.{plans-on, lines-on, sheets-on}
use Rattle.tp_event_rules.proofs.FirstCopies.{accepted-job}
use Rattle.tp_event_rules.proofs.MovedClock.{lines-clock, sheets-clock}
use Rattle.tp_event_rules.proofs.MovedPlans.{plans-clock}
use Rattle.tp_event_rules.proofs.NewJob.{jobs-job, lines-job}
use Rattle.tp_event_rules.proofs.NewSheets.{plans-job, sheets-job}
use Rattle.tp_event_rules.proofs.PlannableTurns.{accepted-clock}
use Rattle.tp_event_rules.proofs.Refilled.{lines-refilled, plans-refilled, sheets-refilled}
use Rattle.tp_stock.specs.Stock.{more_at}

module _ {P : Type 0} (steps : PlannerSteps P) (machine : Machine) (spent : P → Machine → List Plan → Ask → ℕ → Type 0)
    (right : (p : P) (plans : List Plan) (deed : Deed) (plans' : List Plan) (p' : P) → steps.does p plans deed plans' p' → IsRight (spent p) machine plans deed plans') where
  kept-begins : (totals : List ℕ) (event : Event) (s : SessionState) (p : P) (records : List Record) (s' : SessionState) (p' : P) → is_outage event ≡ false → refusal machine s event ≡ None
      → Begins steps machine event s p records s' p' → KeepsState machine totals s → KeepsState machine (totals_by None event totals) s'
  kept-begins totals Bad s p records s' p' calm accepted begins kept = absurd begins
  kept-begins totals (NewJob name tray media groups) s p records s' p' calm accepted begins kept =
      let ok = accepted-job machine s.jobs _ name tray media groups accepted in
      subst (KeepsState machine (totals ++ sheet_count groups ∷ [])) (sym begins.1) (record {
        jobs = jobs-job machine name tray media groups s ok kept.jobs;
        plans = plans-job machine name tray media groups s ok kept.plans;
        lines = lines-job machine name tray media groups s ok kept.lines;
        sheets = sheets-job machine name tray media groups totals s kept.lines kept.sheets;
      })
  kept-begins totals (Clock to) s p records s' p' calm accepted begins kept =
      let range = accepted-clock s.now to accepted in
      subst (KeepsState machine totals) (sym begins.1) (record {
        jobs = kept.jobs;
        plans = plans-clock machine to s range.0 range.1 kept.plans;
        lines = lines-clock machine to s kept.lines;
        sheets = sheets-clock machine to totals s kept.sheets;
      })
  kept-begins totals (Jam name) s p records s' p' calm accepted begins kept = absurd (cc)
  kept-begins totals (Off name) s p records s' p' calm accepted begins kept = absurd (cc)
  kept-begins totals (On name) s p records s' p' calm accepted (m, known, told, is, same) kept =
      subst (KeepsState machine totals) (sym is) (record { jobs = kept.jobs; plans = plans-on machine m s kept.plans; lines = lines-on machine m s kept.lines; sheets = sheets-on m totals s kept.sheets })
  kept-begins totals (Refill name count) s p records s' p' calm accepted (f, known, told, is, same) kept =
      subst (KeepsState machine totals) (sym is) (record { jobs = kept.jobs; plans = plans-refilled machine (more_at f.loc.0 count s.refills) s kept.plans; lines = lines-refilled (more_at f.loc.0 count s.refills) s kept.lines; sheets = sheets-refilled (more_at f.loc.0 count s.refills) totals s kept.sheets })

  pub kept-turn : TurnsKeepState steps machine IsNoOutage
  kept-turn event totals s p records s' p' calm turn kept = go (refusal machine s event) refl turn where
    go : (o : Option Cause) → refusal machine s event ≡ o
        → MatchOption o (Accepts steps machine event s p records s' p') (λ cause. (records ≡ Refused cause ∷ []) × (s' ≡ s) × (p' ≡ p)) → KeepsState machine (totals_by o event totals) s'
    go None e accepts =
        let begun = kept-begins totals event s p accepts.first accepts.between accepts.mid calm e accepts.begins kept in
        kept-asks steps machine spent right (totals_by None event totals) accepts.between.waiting [] accepts.between accepts.mid accepts.rest s' p' accepts.asks (rest-all steps machine spent right accepts.between begun.lines) begun
    go (Some cause) e (told, is, same) = subst (KeepsState machine totals) (sym is) kept
