use Rattle.std.proofs.Common.{◌-◌, length}
use Rattle.tp_machine.specs.ModuleUse.{action_at}
use Rattle.tp_schedule.specs.Holders.{holds_of_act}
use Rattle.tp_search.specs.Boards.{IsBack}
use Rattle.tp_search.proofs.dives.+place_within.Given as goal

-- how many holds are left
abbrev pub decreases-place_within : goal.decreases-place_within
decreases-place_within g l = length (holds_of_act (action_at l.problem.machine.now l.act.0)) - l.hold

-- the board is back
abbrev pub invariant-loop-place : goal.invariant-loop-place
invariant-loop-place g l = record {
  back : IsBack g.N.Network.reading l.fn.board l.board l.problem.machine.now;
}
