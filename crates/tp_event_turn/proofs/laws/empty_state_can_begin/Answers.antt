-- All that is kept between events holds in the empty state.
use Rattle.std.proofs.Common.{◌≤◌, [], arith}
use Rattle.std.specs.Prelude.{IsFalse, IsTrue}
use Rattle.std.proofs.lemmas.List.Elements.{All-nil}
use Rattle.tp_jobs.specs.declared.parts.WaitingCopy.{WaitingCopy}
use Rattle.tp_schedule.specs.LivePlans.{is_live}
use Rattle.tp_schedule.specs.declared.parts.Plan.{Plan}
use Rattle.tp_event_rules.proofs.EmptyState.{kept-empty, least-empty}
use Rattle.tp_event_rules.specs.Lines.{is_job_broken}
use Rattle.tp_event_rules.specs.Ready.{EntersWhereBroken, HasStartedWhole}
use Rattle.tp_event_rules.specs.Seen.{HasStarted}
use Rattle.tp_event_rules.proofs.StockKept.{stock-empty}
use Rattle.tp_event_turn.proofs.laws.empty_state_can_begin.Goals as goal

pub returns-clause-can : goal.returns-clause-can
returns-clause-can c machine =
    let kept = kept-empty machine in
    record {
      kept = record {
        now_at_most = omega arith;
        live = All-nil (λ (p : Plan). IsTrue (is_live machine 0 p));
        jobs = kept.jobs;
        plans = kept.plans;
        lines = kept.lines;
        broken = record {
          waiting = All-nil (λ (w : WaitingCopy). IsFalse (is_job_broken [] w.sheet.job));
          plans = All-nil (EntersWhereBroken 0 []);
        };
        older = kept.sheets.older;
        purges = All-nil (HasStarted 0);
        fronts = All-nil (HasStartedWhole 0);
        numbers = record {
          jobs = omega arith;
          waiting = All-nil (λ (w : WaitingCopy). w.sheet.copy ≤ 0);
          planned = All-nil (λ (p : Plan). p.sheet.copy ≤ 0);
        };
      };
      least = least-empty machine;
    }

pub returns-clause-stocked : goal.returns-clause-stocked
returns-clause-stocked c = stock-empty
