use Rattle.std.proofs.Common.{◌∷◌, [], ◌++◌, ◌-◌, length, take}
use Rattle.tp_machine.specs.ModuleUse.{action_at}
use Rattle.tp_schedule.specs.Holders.{holds_of_act}
use Rattle.tp_search.specs.Boards.{IsBack}
use Rattle.tp_search.specs.OpenedLists.{IsAtProgress, IsSameOpening}
use Rattle.tp_search.specs.OpenedLists.Progress.{up_to}
use Rattle.tp_search.proofs.children.+place_rest.Given as goal

-- how many holds are left
abbrev pub decreases-place_rest : goal.decreases-place_rest
decreases-place_rest g l = length (holds_of_act (action_at l.problem.machine.now l.child.now.act.0)) - l.hold

-- the children with later places were looked at, and the board is back
abbrev pub invariant-loop-place : goal.invariant-loop-place
invariant-loop-place g l = record {
  progress : IsAtProgress l.problem.machine.now l.board.plans l.problem.ask.now l.opening l.store (up_to l.child.act.0 (take l.hold l.child.choice.places ++ l.place ∷ []));
  same : IsSameOpening l.fn.opening l.opening l.fn.store l.store;
  back : IsBack g.N.Network.reading l.fn.board l.board l.problem.machine.now;
}
