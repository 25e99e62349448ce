use Rattle.std.proofs.Common.{[], refl, sym, subst, arith}
use Rattle.std.proofs.lemmas.List.Elements.{All-nil}
use Rattle.tp_log_check.specs.Gathered.{ArePlain}
use Rattle.tp_log.specs.Logs.{IsLog}
use Rattle.tp_event_rules.specs.Ready.{CanTakeEvents, KeepsStock}
use Rattle.tp_log_check.specs.Lawful.{AreInPlaces}
use Rattle.tp_log_check.specs.CheckerState.{AreWithin, section_items}
use Rattle.tp_log_check.proofs.checker.LogChecker.new.Goals as goal

pub invariant_of-result : goal.invariant_of-result
invariant_of-result c = (
  record {
    under = tt;
    taken = 0;
    behind = omega arith;
    few = omega arith;
    can = subst (CanTakeEvents c.args.machine 0) (sym c.new.ensures) (c.empty_state_can_begin.ensures.can c.args.machine);
    stocked = subst (KeepsStock c.args.machine 0) (sym c.new.ensures) (c.empty_state_can_begin.ensures.stocked c.args.machine);
  },
  subst (AreWithin 0) (sym c.none.ensures) (record { numbered = omega arith; events = omega arith; plans = omega arith; nones = omega arith; budgets = omega arith }),
)

pub returns-clause-read : goal.returns-clause-read
returns-clause-read c = record {
  taken = record {
    sections = [];
    logs = All-nil (λ s. IsLog (section_items s));
    plain = All-nil (λ s. ArePlain s.items);
    places = All-nil (λ s. AreInPlaces s.items);
    accepted = c.new.ensures;
    only = c.new.ensures;
    lines = refl;
    number = tt;
  };
  fed = refl;
  counted = c.none.ensures;
  flawless = refl;
  begun = λ none. refl;
}
