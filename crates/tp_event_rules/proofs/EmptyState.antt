-- All that is kept between events holds in the empty state.
use Rattle.std.proofs.Common.{◌≢◌, ◌-◌, [], refl, arith, Contains, IsTrue}
use Rattle.std.specs.Prelude.{IsFalse}
use Rattle.std.proofs.lemmas.List.Elements.{All-nil}
use Rattle.tp_machine.specs.declared.machine.Machine.{Machine}
use Rattle.tp_jobs.specs.declared.parts.Job.{Job}
use Rattle.tp_jobs.specs.declared.parts.WaitingCopy.{WaitingCopy}
use Rattle.tp_schedule.specs.Plans.{is_before}
use Rattle.tp_schedule.specs.declared.parts.Plan.{Plan}
use Rattle.tp_schedule.specs.declared.parts.SheetId.{SheetId}
use Rattle.tp_schedule.proofs.Pairs.{AllPairs-nil}
use Rattle.tp_event_rules.specs.StateInvariants.{KeepsState, IsLeastAt, is_planned_among, is_known, is_of_its_job, is_sheet_of, is_same_sheet}
use Rattle.tp_event_rules.specs.States.{empty_state}
use Rattle.tp_event_rules.proofs.LawfulLogs.{plannable-empty}

pub kept-empty : (machine : Machine) → KeepsState machine [] empty_state
kept-empty machine =
    let can = plannable-empty machine in
    record {
      jobs = record {
        trays = All-nil (λ (j : Job). Contains machine.trays j.tray);
        names = AllPairs-nil (λ (i j : Job). i.name ≢ j.name);
      };
      plans = record { legal = can.legal; floors = can.floors; horizon = can.horizon; few_live = omega arith; few_open = omega arith; clear = refl };
      lines = record {
        in_order = AllPairs-nil (λ (v w : WaitingCopy). IsTrue (is_before v.sheet w.sheet));
        waiting_known = All-nil (λ (w : WaitingCopy). IsTrue (is_known [] w.sheet));
        unplanned = All-nil (λ (w : WaitingCopy). IsFalse (is_planned_among [] w.sheet));
        line = All-nil _;
        one = AllPairs-nil (λ (a b : SheetId). IsFalse (is_same_sheet a b));
        plans_known = All-nil (λ (p : Plan). IsTrue (is_of_its_job [] p));
        fronts = refl;
      };
      sheets = record {
        known = refl;
        each = λ job number known whole first last. absurd (omega arith);
        waiting_sheets = All-nil (λ (w : WaitingCopy). IsTrue (is_sheet_of [] w.sheet));
        planned_sheets = All-nil (λ (p : Plan). IsTrue (is_sheet_of [] p.sheet));
        older = All-nil _;
      };
    }

pub least-empty : (machine : Machine) → IsLeastAt machine empty_state
least-empty machine plans' retimed p in' i within = absurd (omega (arith, in'.1))
