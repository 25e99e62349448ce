use Rattle.std.proofs.Common.{◌≡◌, refl, subst, ◌∙◌, IsSomeAnd, rules}
use Rattle.tp_placing.specs.Calls.{IsSameLoad}
use Rattle.tp_schedule.specs.Answers.{IsLeast, follows_front}
use Rattle.tp_schedule.specs.Plans.{without}
use Rattle.tp_search.specs.Boards.{IsAtRest}
use Rattle.tp_search.specs.Trials.{IsEarliestTo, IsNoPlan}
use Rattle.tp_search.specs.declared.trial.NoPlan.TheVariants.{Never}
use Rattle.tp_search.proofs.TrialFacts.{as-left, at-rest}
use Rattle.tp_search.proofs.ask_answer.answer_loaded.Goals as goal
use Rattle.tp_search.proofs.ask_answer.answer_loaded.Goals.{In-Err-Never}

pub returns-in-Ok-clause-answer : goal.returns-in-Ok-clause-answer
returns-in-Ok-clause-answer g c =
    let asked = c.in-Ok.ensures.trial.loaded.ask ∙ c.requires.asked in
    let done = subst (λ o. IsSomeAnd o (λ ask. IsEarliestTo c.args.machine.now c.args.schedule.now.plans ask c.in-Ok.trial.end c.commit-moved.new.schedule.plans)) asked c.commit-moved.ensures.earliest in
    let least = subst (λ o. IsSomeAnd o (λ ask. IsLeast c.args.machine.now ask.now (follows_front ask) c.commit-moved.new.schedule.plans)) asked c.commit-moved.ensures.least in
    (done.earliest, least)

-- what the search told of the whole schedule
told : (g : _) (c : In-Err-Never g) → IsNoPlan c.args.machine.now c.args.schedule.now.plans c.args.ask.now c.args.work.now.nodes Never
told g c = subst (IsNoPlan c.args.machine.now c.args.schedule.now.plans c.args.ask.now c.args.work.now.nodes) c.in-Err-Never.field-0-is (c.in-Err-Never.ensures.none c.args.schedule.now.plans c.requires.held)

pub returns-in-Err-Never-clause-answer : goal.returns-in-Err-Never-clause-answer
returns-in-Err-Never-clause-answer g c = (refl, (told g (goal.at.returns-in-Err-Never-clause-answer g c).In-Err-Never).0)

pub returns-in-Err-Never-clause-few : goal.returns-in-Err-Never-clause-few
returns-in-Err-Never-clause-few g c = λ is. (told g (goal.at.returns-in-Err-Never-clause-few g c).In-Err-Never).1

pub returns-in-Ok-clause-rests : goal.returns-in-Ok-clause-rests
returns-in-Ok-clause-rests g c =
    let back = c.commit-moved.ensures.back c.args.board.now c.args.machine.now c.in-Ok.ensures.trial in
    subst (λ b. IsAtRest g.N.Network.reading b c.args.machine.now) (as-left c.commit-moved.new.self.0 _ (search rules))
    (at-rest g.N.Network.reading c.args.board.now c.commit-moved.new.self.0 c.args.machine.now c.requires.rests back)

pub returns-in-Ok-clause-unmoved : goal.returns-in-Ok-clause-unmoved
returns-in-Ok-clause-unmoved g c e =
    let asked = c.in-Ok.ensures.trial.loaded.ask ∙ c.requires.asked in
    subst (λ o. IsSomeAnd o (λ ask. without ask.sheet c.commit-moved.new.schedule.plans ≡ without ask.sheet c.args.schedule.now.plans)) asked (c.commit-moved.ensures.unmoved e)

pub returns-in-Ok-clause-loaded : goal.returns-in-Ok-clause-loaded
returns-in-Ok-clause-loaded g c =
    let back = c.commit-moved.ensures.back c.args.board.now c.args.machine.now c.in-Ok.ensures.trial in
    subst (λ b. IsSameLoad c.args.board.now b) (as-left c.commit-moved.new.self.0 _ (search rules)) back.loaded
