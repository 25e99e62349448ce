-- What is kept of a state looks at its refills nowhere but where its stock is spoken of.
use Rattle.std.specs.Prelude.{ℕ, ℤ, List}
use Rattle.tp_machine.specs.declared.machine.Machine.{Machine}
use Rattle.tp_event_rules.specs.StateInvariants.{KeepsLines, KeepsPlans, KeepsSheets}
use Rattle.tp_event_rules.specs.Ready.{CanTakeEvents, KeepsLive}
use Rattle.tp_event_rules.specs.States.{SessionState}

pub plans-refilled : (machine : Machine) (refills : List ℤ) (s : SessionState) → KeepsPlans machine s → KeepsPlans machine (record s { refills = refills })
plans-refilled machine refills s keeps = record { legal = keeps.legal; floors = keeps.floors; horizon = keeps.horizon; few_live = keeps.few_live; few_open = keeps.few_open; clear = keeps.clear }

pub lines-refilled : (refills : List ℤ) (s : SessionState) → KeepsLines s → KeepsLines (record s { refills = refills })
lines-refilled refills s keeps = record {
  in_order = keeps.in_order;
  waiting_known = keeps.waiting_known;
  unplanned = keeps.unplanned;
  line = keeps.line;
  one = keeps.one;
  plans_known = keeps.plans_known;
  fronts = keeps.fronts;
}

pub sheets-refilled : (refills : List ℤ) (totals : List ℕ) (s : SessionState) → KeepsSheets totals s → KeepsSheets totals (record s { refills = refills })
sheets-refilled refills totals s keeps = record { known = keeps.known; each = keeps.each; waiting_sheets = keeps.waiting_sheets; planned_sheets = keeps.planned_sheets; older = keeps.older }

pub live-refilled : (machine : Machine) (copies : ℕ) (refills : List ℤ) (s : SessionState) → KeepsLive machine copies s → KeepsLive machine copies (record s { refills = refills })
live-refilled machine copies refills s keeps = record {
  now_at_most = keeps.now_at_most;
  live = keeps.live;
  jobs = keeps.jobs;
  plans = plans-refilled machine refills s keeps.plans;
  lines = lines-refilled refills s keeps.lines;
  broken = record { waiting = keeps.broken.waiting; plans = keeps.broken.plans };
  older = keeps.older;
  purges = keeps.purges;
  fronts = keeps.fronts;
  numbers = record { jobs = keeps.numbers.jobs; waiting = keeps.numbers.waiting; planned = keeps.numbers.planned };
}

pub events-refilled : (machine : Machine) (copies : ℕ) (refills : List ℤ) (s : SessionState) → CanTakeEvents machine copies s → CanTakeEvents machine copies (record s { refills = refills })
events-refilled machine copies refills s can = record { kept = live-refilled machine copies refills s can.kept; least = can.least }
