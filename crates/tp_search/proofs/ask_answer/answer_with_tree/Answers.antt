-- The trial and its tree are of the ask for which the board was loaded.
use Rattle.std.proofs.Common.{◌≡◌, List, refl, sym, subst, ◌∙◌, IsSomeAnd, rules}
use Rattle.tp_schedule.specs.Answers.{IsLeast, follows_front}
use Rattle.tp_schedule.specs.Plans.{without}
use Rattle.tp_schedule.specs.declared.parts.Plan.{Plan}
use Rattle.tp_placing.specs.Calls.{IsSameLoad}
use Rattle.tp_placing.specs.Commits.{IsHeldFrom, IsLoadedFrom}
use Rattle.tp_search.specs.Boards.{IsAtRest}
use Rattle.tp_search.specs.Trials.{IsEarliestTo, IsNoPlan, board_in}
use Rattle.tp_bound_laws.specs.Short.{IsShortTreeFor}
use Rattle.tp_bound_laws.specs.declared.claim.Claim.TheVariants.{Earliest}
use Rattle.tp_search.proofs.HeldFacts.{loaded-held}
use Rattle.tp_search.proofs.TrialFacts.{as-left, at-rest, same-marks}
use Rattle.tp_search.specs.declared.trial.NoPlan.TheVariants.{Never}
use Rattle.tp_search.proofs.ask_answer.answer_with_tree.Goals as goal
use Rattle.tp_search.proofs.ask_answer.answer_with_tree.Goals.{In-Err-Never}

pub show-requires-clause-trial : goal.show-requires-clause-trial
show-requires-clause-trial g c =
    (c.args.board.now, c.in-Ok.ensures.trial)

pub show-requires-clause-loaded : goal.show-requires-clause-loaded
show-requires-clause-loaded g c =
    let plans = c.args.schedule.now.plans in
    let asked = c.in-Ok.ensures.trial.loaded.ask ∙ c.requires.asked in
    subst (λ o. IsSomeAnd o (λ ask. (x : List Plan) × IsLoadedFrom c.args.machine.now x ask (board_in c.in-Ok.trial).plans)) (sym asked)
    (plans, subst (IsLoadedFrom c.args.machine.now plans c.args.ask.now) (sym c.in-Ok.ensures.trial.loaded.plans) c.requires.loaded)

pub find_plan-requires-clause-held : goal.find_plan-requires-clause-held
find_plan-requires-clause-held g c = (c.args.schedule.now.plans, loaded-held c.args.machine.now c.args.schedule.now.plans c.args.ask.now c.args.board.now.plans c.requires.loaded)

pub commit-moved-requires-clause-held : goal.commit-moved-requires-clause-held
commit-moved-requires-clause-held g c =
    let plans = c.args.schedule.now.plans in
    let asked = c.show.ensures.same.loaded.ask ∙ c.in-Ok.ensures.trial.loaded.ask ∙ c.requires.asked in
    let same = c.show.ensures.same.loaded.plans ∙ c.in-Ok.ensures.trial.loaded.plans in
    subst (λ o. IsSomeAnd o (λ ask. IsHeldFrom c.args.machine.now plans ask (board_in c.show.new.self).plans)) (sym asked)
    (subst (IsHeldFrom c.args.machine.now plans c.args.ask.now) (sym same) (loaded-held c.args.machine.now plans c.args.ask.now c.args.board.now.plans c.requires.loaded))

pub commit-moved-requires-clause-trial : goal.commit-moved-requires-clause-trial
commit-moved-requires-clause-trial g c = (c.args.board.now, c.show.ensures.trial c.args.board.now c.in-Ok.ensures.trial)

pub abandon-requires : goal.abandon-requires
abandon-requires g c = record { trial = (c.args.board.now, c.args.machine.now, c.show.ensures.trial c.args.board.now c.in-Ok.ensures.trial) }

pub returns-in-Ok-show-clause-answer : goal.returns-in-Ok-show-clause-answer
returns-in-Ok-show-clause-answer g c =
    let asked = c.show.ensures.same.loaded.ask ∙ c.in-Ok.ensures.trial.loaded.ask ∙ c.requires.asked in
    let done = subst (λ o. IsSomeAnd o (λ ask. IsEarliestTo c.args.machine.now c.args.schedule.now.plans ask c.show.new.self.end c.commit-moved.new.schedule.plans)) asked c.commit-moved.ensures.earliest in
    let least = subst (λ o. IsSomeAnd o (λ ask. IsLeast c.args.machine.now ask.now (follows_front ask) c.commit-moved.new.schedule.plans)) asked c.commit-moved.ensures.least in
    (done.earliest, least)

pub returns-in-Ok-show-clause-tree : goal.returns-in-Ok-show-clause-tree
returns-in-Ok-show-clause-tree g c =
    let machine = c.args.machine.now in
    let plans = c.args.schedule.now.plans in
    let ask = c.args.ask.now in
    let first = c.in-Ok.ensures.trial.loaded.ask ∙ c.requires.asked in
    let asked = c.show.ensures.same.loaded.ask ∙ first in
    let done = subst (λ o. IsSomeAnd o (λ ask. IsEarliestTo machine plans ask c.show.new.self.end c.commit-moved.new.schedule.plans)) asked c.commit-moved.ensures.earliest in
    let shows = subst (λ o. IsSomeAnd o (λ ask. (plans : List Plan) → IsLoadedFrom machine plans ask (board_in c.in-Ok.trial).plans → IsShortTreeFor machine plans ask (Earliest c.in-Ok.trial.end) c.in-Ok-show.tree)) first c.in-Ok-show.ensures.tree in
    let a = done.earliest.alternative in (
      a.plan,
      a.planned,
      subst (λ end. IsShortTreeFor machine plans ask (Earliest end) c.in-Ok-show.tree) (sym (done.ends ∙ c.show.ensures.same.end))
          (shows plans (subst (IsLoadedFrom machine plans ask) (sym c.in-Ok.ensures.trial.loaded.plans) c.requires.loaded)),
    )

-- what the search told of the whole schedule
told : (g : _) (c : In-Err-Never g) → IsNoPlan c.args.machine.now c.args.schedule.now.plans c.args.ask.now c.args.work.now.nodes Never
told g c =
    subst (IsNoPlan c.args.machine.now c.args.schedule.now.plans c.args.ask.now c.args.work.now.nodes) c.in-Err-Never.field-0-is
    (c.in-Err-Never.ensures.none c.args.schedule.now.plans (loaded-held c.args.machine.now c.args.schedule.now.plans c.args.ask.now c.args.board.now.plans c.requires.loaded))

pub show_never-requires-clause-loaded : goal.show_never-requires-clause-loaded
show_never-requires-clause-loaded g c = (c.args.schedule.now.plans, (search rules, (told g (goal.at.show_never-requires-clause-loaded g c).In-Err-Never).0))

pub returns-in-Ok-show_never-clause-answer : goal.returns-in-Ok-show_never-clause-answer
returns-in-Ok-show_never-clause-answer g c = (refl, (told g (goal.at.returns-in-Ok-show_never-clause-answer g c).In-Err-Never).0)

pub returns-in-Ok-show_never-clause-few : goal.returns-in-Ok-show_never-clause-few
returns-in-Ok-show_never-clause-few g c = λ is. (told g (goal.at.returns-in-Ok-show_never-clause-few g c).In-Err-Never).1

pub returns-in-Err-Spent-clause-answer : goal.returns-in-Err-Spent-clause-answer
returns-in-Err-Spent-clause-answer g c = (
  refl,
  subst (IsNoPlan c.args.machine.now c.args.schedule.now.plans c.args.ask.now c.args.work.now.nodes) c.in-Err-Spent.field-0-is
      (c.in-Err-Spent.ensures.none c.args.schedule.now.plans (loaded-held c.args.machine.now c.args.schedule.now.plans c.args.ask.now c.args.board.now.plans c.requires.loaded)),
)

pub returns-in-Ok-show-clause-loaded : goal.returns-in-Ok-show-clause-loaded
returns-in-Ok-show-clause-loaded g c =
    let back = c.commit-moved.ensures.back c.args.board.now c.args.machine.now (c.show.ensures.trial c.args.board.now c.in-Ok.ensures.trial) in
    subst (λ b. IsSameLoad c.args.board.now b) (as-left c.commit-moved.new.self.0 _ (search rules)) back.loaded

pub returns-in-Ok-show-clause-unmoved : goal.returns-in-Ok-show-clause-unmoved
returns-in-Ok-show-clause-unmoved g c e =
    let asked = c.show.ensures.same.loaded.ask ∙ c.in-Ok.ensures.trial.loaded.ask ∙ c.requires.asked in
    subst (λ o. IsSomeAnd o (λ ask. without ask.sheet c.commit-moved.new.schedule.plans ≡ without ask.sheet c.args.schedule.now.plans)) asked (c.commit-moved.ensures.unmoved e)

pub returns-in-Ok-show-clause-marks : goal.returns-in-Ok-show-clause-marks
returns-in-Ok-show-clause-marks g c =
    let same = same-marks (g.N.Network.reading.max_marks c.args.board.now.net) (g.N.Network.reading.max_marks c.commit-moved.new.self.0.net) (c.commit-moved.ensures.back c.args.board.now c.args.machine.now (c.show.ensures.trial c.args.board.now c.in-Ok.ensures.trial)).marks c.boards_have_marks.ensures in
    search rules

pub returns-in-Ok-show-clause-rests : goal.returns-in-Ok-show-clause-rests
returns-in-Ok-show-clause-rests g c =
    let back = c.commit-moved.ensures.back c.args.board.now c.args.machine.now (c.show.ensures.trial c.args.board.now c.in-Ok.ensures.trial) in
    subst (λ b. IsAtRest g.N.Network.reading b c.args.machine.now) (as-left c.commit-moved.new.self.0 _ (search rules))
    (at-rest g.N.Network.reading c.args.board.now c.commit-moved.new.self.0 c.args.machine.now c.requires.rests back)

pub returns-in-Err-clause-rests : goal.returns-in-Err-clause-rests
returns-in-Err-clause-rests g c =
    let back = c.abandon.ensures.back c.args.board.now c.args.machine.now (c.show.ensures.trial c.args.board.now c.in-Ok.ensures.trial) in
    subst (λ b. IsAtRest g.N.Network.reading b c.args.machine.now) (as-left c.abandon.new.self.0 _ (search rules))
    (at-rest g.N.Network.reading c.args.board.now c.abandon.new.self.0 c.args.machine.now c.requires.rests back)

pub returns-in-Err-clause-loaded : goal.returns-in-Err-clause-loaded
returns-in-Err-clause-loaded g c =
    let back = c.abandon.ensures.back c.args.board.now c.args.machine.now (c.show.ensures.trial c.args.board.now c.in-Ok.ensures.trial) in
    subst (λ b. IsSameLoad c.args.board.now b) (as-left c.abandon.new.self.0 _ (search rules)) back.loaded
