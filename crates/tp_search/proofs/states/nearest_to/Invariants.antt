use Rattle.std.proofs.Common.{◌<◌, IfSome, length}
use Rattle.tp_machine.specs.declared.parts.ActId.{ActId}
use Rattle.tp_routes.proofs.AlongFacts.{ahead}
use Rattle.tp_search.proofs.LeadFacts.{IsChain, number}
use Rattle.tp_search.proofs.states.nearest_to.Given as goal

-- the nearest action so far is one of the machine's
abbrev pub invariant-acts : goal.invariant-acts
invariant-acts l = record {
  chain : IsChain l.problem.machine.now l.state.loc.0 l.next;
  known : IfSome l.nearest (λ (act : ActId). act.0 < length l.problem.machine.now.actions);
}

abbrev pub decreases-acts : goal.decreases-acts
decreases-acts l = ahead (length l.problem.machine.now.actions) (number l.next)
