use Rattle.std.proofs.Common.{◌≡◌, ◌∙◌, List, arith, length, sym, take}
use Rattle.std.proofs.lemmas.List.{take_all}
use Rattle.tp_schedule.specs.declared.parts.Plan.{Plan}
use Rattle.tp_placing.proofs.board.Board.follow_from.Goals as goal

-- no plan was added
same-plans : (old new : List Plan) → take (length old) new ≡ old → length new ≡ length old → new ≡ old
same-plans old new kept len = sym (take_all (length old) new (omega arith)) ∙ kept

pub returns-then-len-count-clause-can : goal.returns-then-len-count-clause-can
returns-then-len-count-clause-can g c _ =
    let same = same-plans c.self.inside.plans.items c.follow_plans.new.plans.items c.follow_plans.ensures.kept (omega (arith, c.self.inside.plans.ok.0, c.follow_plans.new.plans.ok.0, c.len-count.ensures, c.len.ensures, c.if-len-count.true)) in
    rw same (rw (← c.self.view_is) at c.requires.can)

pub returns-then-len-count-clause-loaded : goal.returns-then-len-count-clause-loaded
returns-then-len-count-clause-loaded g c _ =
    let same = same-plans c.self.inside.plans.items c.follow_plans.new.plans.items c.follow_plans.ensures.kept (omega (arith, c.self.inside.plans.ok.0, c.follow_plans.new.plans.ok.0, c.len-count.ensures, c.len.ensures, c.if-len-count.true)) in
    rw same (rw (← c.self.view_is) at c.requires.loaded)

pub returns-then-len-count-clause-last : goal.returns-then-len-count-clause-last
returns-then-len-count-clause-last g c _ =
    let same = same-plans c.self.inside.plans.items c.follow_plans.new.plans.items c.follow_plans.ensures.kept (omega (arith, c.self.inside.plans.ok.0, c.follow_plans.new.plans.ok.0, c.len-count.ensures, c.len.ensures, c.if-len-count.true)) in
    rw same (rw (← c.self.view_is) at c.requires.last)

pub returns-then-len-count-clause-settled : goal.returns-then-len-count-clause-settled
returns-then-len-count-clause-settled g c _ so =
    let same = same-plans c.self.inside.plans.items c.follow_plans.new.plans.items c.follow_plans.ensures.kept (omega (arith, c.self.inside.plans.ok.0, c.follow_plans.new.plans.ok.0, c.len-count.ensures, c.len.ensures, c.if-len-count.true)) in
    rw same ((rw (← c.self.view_is) at c.requires.settled) so)
