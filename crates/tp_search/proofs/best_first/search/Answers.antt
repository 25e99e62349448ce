use Rattle.std.proofs.Common.{◌≡◌, Some, ap, refl, rules, subst, sym, ◌∙◌}
use Rattle.tp_search.specs.Limits.{HasNoLimit, IsLimitKept}
use Rattle.tp_search.specs.Outcomes.{IsOutcome}
use Rattle.tp_search.specs.SearchProgress.{IsSearching}
use Rattle.tp_search.proofs.HoldFacts.{over-plans}
use Rattle.tp_search.specs.declared.store.Limit.TheVariants.{Unsought}
use Rattle.tp_search.proofs.StepFacts.{space-trans}
use Rattle.tp_search.proofs.StoreFacts.{limit-itself, limit-trans}
use Rattle.tp_search.proofs.best_first.search.Goals as goal

pub steps-init : goal.steps-init
steps-init g c = record { over = λ b ready over. over; holds = c.requires.holds; searching = c.requires.searching; same = search rules; limit = limit-itself c.args.store.now.limit }

pub take_off-requires : goal.take_off-requires
take_off-requires g c =
    let over = c.requires.over in
    record { over = (over.0, c.args.problem.machine.now, c.args.problem.ask.now, c.steps.invariant.over over.0 over.1 over.3) }

pub returns-then-has_stored-clause-outcome : goal.returns-then-has_stored-clause-outcome
returns-then-has_stored-clause-outcome g c b ready over = c.take_off.ensures.back b c.args.problem.machine.now c.args.problem.ask.now (c.steps.invariant.over b ready over)

pub step-requires-clause-over : goal.step-requires-clause-over
step-requires-clause-over g c =
    let over = c.requires.over in
    (over.0, over.1, over.2, c.steps.invariant.over over.0 over.1 over.3)

pub returns-in-Some-clause-outcome : goal.returns-in-Some-clause-outcome
returns-in-Some-clause-outcome g c b ready over =
    subst (λ nodes. IsOutcome g.N.Network.reading b c.step.new.board c.args.problem.machine.now c.args.problem.ask.now nodes c.in-Some.outcome) c.steps.invariant.same.capacity (c.in-Some.ensures.ends b ready (c.steps.invariant.over b ready over))

pub steps-preserved : goal.steps-preserved
steps-preserved g c =
    let first = c.requires.over in
    let on = c.in_default.ensures.goes_on refl in
    let before = c.steps.invariant.over first.0 first.1 first.3 in
    let after = c.in_default.ensures.over first.0 first.1 before refl in
    let plans = over-plans g.N.Network.reading first.0 c.step.new.board c.args.problem.machine.now c.args.problem.ask.now c.step.new.held after ∙ sym (over-plans g.N.Network.reading first.0 c.steps.board c.args.problem.machine.now c.args.problem.ask.now c.steps.held before) in
    record {
      over = λ b ready over. c.in_default.ensures.over b ready (c.steps.invariant.over b ready over) refl;
      holds = c.in_default.ensures.holds refl;
      searching = (on.0, subst (λ ps. IsSearching c.args.problem.machine.now ps c.args.problem.ask.now c.step.new.goals.items c.step.new.store on.0) (sym plans) on.1);
      limit = limit-trans c.args.store.now.limit c.steps.store.limit c.step.new.store.limit c.steps.invariant.limit c.step.ensures.limit;
      same = space-trans c.args.goals.now c.steps.goals c.step.new.goals c.args.store.now c.steps.store c.step.new.store c.steps.invariant.same c.in_default.ensures.same;
    }

pub returns-in-Some-clause-whole : goal.returns-in-Some-clause-whole
returns-in-Some-clause-whole g c none unlimited is =
    let kept = limit-trans c.args.store.now.limit c.steps.store.limit c.step.new.store.limit c.steps.invariant.limit c.step.ensures.limit in
    let still : c.step.new.store.limit ≡ Unsought = subst (λ l. IsLimitKept l c.step.new.store.limit) none kept in
    c.step.ensures.again (c.in-Some.is ∙ ap Some is) (subst HasNoLimit (sym still) tt)
