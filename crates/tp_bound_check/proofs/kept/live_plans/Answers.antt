use Rattle.std.proofs.Common.{sym, subst, Result, Ok, Err}
use Rattle.std.specs.Prelude.{IfOk}
use Rattle.tp_schedule.specs.Timetables.{IsOrdered}
use Rattle.tp_bound_check.proofs.KeptFacts.{ordered-filter}
use Rattle.tp_bound_check.proofs.kept.live_plans.Goals as goal

on-ok : {T E : Type 0} (P Q : T → Type 0) (r : Result T E) → ((x : T) → P x → Q x) → IfOk r P → IfOk r Q
on-ok P Q (Ok x) f h = f x h
on-ok P Q (Err e) f h = tt

pub returns-clause-ordered : goal.returns-clause-ordered
returns-clause-ordered c = on-ok _ _ c.keep_all.result (λ plans is. subst IsOrdered (sym is) (ordered-filter _ c.args.schedule.now.plans c.ordered.ensures.ordered)) c.keep_all.ensures
