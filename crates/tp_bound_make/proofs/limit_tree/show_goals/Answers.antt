use Rattle.std.proofs.Common.{◌∙◌, ap, length, sym, subst, arith}
use Rattle.std.proofs.lemmas.Option.{slice_get-get_or}
use Rattle.tp_schedule.specs.Plans.{AreNamed}
use Rattle.tp_bound_make.specs.TreeProgress.{IsEarlyEnd}
use Rattle.tp_bound_make.proofs.CarryFacts.{suffix-same}
use Rattle.tp_bound_make.proofs.GoalWalks.{goals-last, goals-next, goals_by}
use Rattle.tp_bound_make.proofs.MarkSteps.{back-itself, back-trans}
use Rattle.tp_bound_make.proofs.WalkFacts.{set-since, shows-none}
use Rattle.tp_bound_make.proofs.limit_tree.show_goals.Goals as goal

pub states-init : goal.states-init
states-init g c = record {
  shown = shows-none c.args.scene.machine.now c.args.board.now.plans c.args.scene.ask.now c.args.scene.rooms.now.sums c.args.scene.limit c.args.nodes.now (λ _. goals_by c.args.states.now);
  back = back-itself g.N.Network.reading c.args.board.now c.args.scene.machine.now;
}

pub show_goal-requires-clause-set : goal.show_goal-requires-clause-set
show_goal-requires-clause-set g c =
    set-since g.N.Network.reading c.args.scene.machine.now c.args.scene.ask.now c.args.board.now c.states.board c.states.invariant.back.since c.requires.set

pub show_goal-requires-clause-named : goal.show_goal-requires-clause-named
show_goal-requires-clause-named g c = subst AreNamed (sym c.states.invariant.back.since.load.plans) c.requires.named

pub show_goal-requires-clause-closed : goal.show_goal-requires-clause-closed
show_goal-requires-clause-closed g c =
    suffix-same g.N.Network.reading g.N.Network.refutes c.args.scene.machine.now c.args.scene.ask.now c.args.board.now c.states.board c.states.invariant.back.content_same ∙ c.requires.closed

pub show_goal-requires-clause-marks : goal.show_goal-requires-clause-marks
show_goal-requires-clause-marks g c = let p = ap length c.states.invariant.back.since.past_same in let q = c.states.invariant.back.since.room in let m = c.requires.marks in omega (arith, p, q, m)

pub returns-in-Err-clause-back : goal.returns-in-Err-clause-back
returns-in-Err-clause-back g c =
    back-trans g.N.Network.reading c.args.board.now c.states.board c.show_goal.new.board c.args.scene.machine.now c.states.invariant.back c.show_goal.ensures.back

pub returns-in-Err-clause-early : goal.returns-in-Err-clause-early
returns-in-Err-clause-early g c =
    subst (λ ps. IsEarlyEnd c.args.scene.machine.now ps c.args.scene.ask.now c.args.scene.limit c.in-Err.fault) c.states.invariant.back.since.load.plans c.in-Err.ensures.early

pub states-preserved : goal.states-preserved
states-preserved g c = record {
  shown = goals-next c.args.scene.machine.now c.args.board.now.plans c.states.board.plans c.args.scene.ask.now c.args.scene.rooms.now.sums c.args.scene.limit c.args.nodes.now c.states.nodes c.show_goal.new.nodes c.args.states.now c.states.at _
      (slice_get-get_or c.args.states.now c.states.at _ c.states-test.true) c.states.invariant.back.since.load.plans c.states.invariant.shown c.in-Ok.ensures.shown;
  back = back-trans g.N.Network.reading c.args.board.now c.states.board c.show_goal.new.board c.args.scene.machine.now c.states.invariant.back c.show_goal.ensures.back;
}

pub returns-clause-shown : goal.returns-clause-shown
returns-clause-shown g c =
    goals-last c.args.scene.machine.now c.args.board.now.plans c.args.scene.ask.now c.args.scene.rooms.now.sums c.args.scene.limit c.args.nodes.now c.states.nodes c.args.states.now c.states.at c.states-test.false c.states.invariant.shown
