-- A module can go out where nothing is planned and no job came.
use Rattle.std.proofs.Common.{arith}
use Rattle.std.proofs.lemmas.List.Elements.{All-nil}
use Rattle.tp_machine.specs.declared.machine.Machine.{Machine}
use Rattle.tp_event_rules.specs.States.{empty_state}
use Rattle.tp_event_rules.proofs.EmptyState.{kept-empty}
use Rattle.tp_replan.specs.LooseLoop.{CanBeginLoop}

pub empty-goes_out : (machine : Machine) → CanBeginLoop machine empty_state
empty-goes_out machine =
    let kept = kept-empty machine in
    record {
      now_at_most = omega arith;
      plans = kept.plans;
      lines = kept.lines;
      named = λ p q in' in'' same. absurd (omega (arith, in'.1));
      goals = All-nil _;
      next_planned = All-nil _;
      few = omega arith;
      purges = All-nil _;
    }
