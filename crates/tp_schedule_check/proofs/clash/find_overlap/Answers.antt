use Rattle.std.proofs.Common.{suc, sym, arith}
use Rattle.tp_schedule_check.proofs.ClearFacts.{clear-more}
use Rattle.tp_schedule_check.proofs.ListFacts.{get-within}
use Rattle.tp_schedule_check.proofs.clash.find_overlap.Goals as goal

pub holds-preserved : goal.holds-preserved
holds-preserved c = clear-more c.args.machine.now c.args.holds.now c.holds.at _ _ c.holds.auto.at c.holds.invariant (sym c.if-do_overlap.ensures)

pub returns : goal.returns
returns c = λ k x y one other. let within = get-within c.args.holds.now (suc k) y other in c.holds.invariant k x y (omega arith) one other
