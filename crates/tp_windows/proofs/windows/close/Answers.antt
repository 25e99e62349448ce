use Rattle.std.proofs.Common.{subst, sym, ◌-◌, List}
use Rattle.tp_constraints.specs.Numbers.{table_of}
use Rattle.tp_windows.specs.Halves.{AreLeft, Half}
use Rattle.tp_windows.proofs.windows.close.Goals as goal

pub returns-then-go_back-clause-gone : goal.returns-then-go_back-clause-gone
returns-then-go_back-clause-gone c machine plans ask left =
    subst (λ (ws : List (List Half)). AreLeft machine plans ask ws (c.args.end - 1)) (sym (c.go_back.ensures.next c.if-go_back.true (table_of plans))) left

pub returns-else-go_back-clause-gone : goal.returns-else-go_back-clause-gone
returns-else-go_back-clause-gone c machine plans ask left =
    subst (λ (ws : List (List Half)). AreLeft machine plans ask ws (c.args.end - 1)) (c.go_back.ensures.over c.if-go_back.false (table_of plans)) left
