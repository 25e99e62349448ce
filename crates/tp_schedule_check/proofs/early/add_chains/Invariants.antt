use Rattle.std.proofs.Common.{◌≡◌, ◌++◌, ◌-◌, drop}
use Rattle.tp_schedule_check.specs.Early.{chain_steps}
use Rattle.tp_schedule_check.proofs.early.add_chains.Given as goal

abbrev pub invariant-holds : goal.invariant-holds
invariant-holds l = l.steps.items ++ chain_steps l.machine (drop (l.at - 1) l.holds) ≡ l.fn.steps.items ++ chain_steps l.machine l.holds
