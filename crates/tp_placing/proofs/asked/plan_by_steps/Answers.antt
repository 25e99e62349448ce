use Rattle.std.proofs.Common.{◌≡◌, ℕ, suc, ◌+◌, List, ◌++◌, length, take, ap, sym, ◌∙◌, arith, Some}
use Rattle.std.proofs.lemmas.List.{length-append, length-map}
use Rattle.std.proofs.lemmas.Option.{same_Some}
use Rattle.tp_machine.specs.declared.parts.ActId.{ActId}
use Rattle.tp_schedule.specs.Answers.{kept_acts, kept_of}
use Rattle.tp_schedule.specs.Choices.{Choice, acts_of}
use Rattle.tp_schedule.specs.Completions.{settled_ticks, total_of}
use Rattle.tp_schedule.specs.Spots.Spot.{kept}
use Rattle.tp_schedule.specs.Times.{ticks_from}
use Rattle.tp_schedule.specs.declared.parts.Kind.TheVariants.{Whole}
use Rattle.tp_constraints.specs.Suffixes.{Suffix}
use Rattle.tp_placing.specs.Boards.{suffix_after}
use Rattle.tp_placing.specs.Commits.{back_from, opened}
use Rattle.tp_placing.proofs.StandFacts.{some-and}
use Rattle.tp_placing.proofs.WriteAsked.{acts-taken}
use Rattle.tp_placing.proofs.WritePoints.{least-of_plans, plan-points}
use Rattle.tp_placing.proofs.asked.plan_by_steps.Goals as goal
use Rattle.tp_placing.proofs.asked.plan_by_steps.Goals.{After-add_back}

acts-now : (g : _) (c : After-add_back g) (x : Suffix) → suffix_after c.args.steps.now ≡ Some x → length x.choices ≡ c.args.own.count → c.add_opened.new.acts ≡ kept_acts c.args.ask.now.sheet c.args.plans.now ++ acts_of x.choices
acts-now g c x e many =
    let k : c.acts_so_far-acts.result ≡ kept_acts c.args.ask.now.sheet c.args.plans.now = c.acts_so_far-acts.ensures in
    let n : c.len-released.result + c.args.own.count ≡ length (kept_acts c.args.ask.now.sheet c.args.plans.now) + length x.choices = let l = c.len-released.ensures.len ∙ ap length k in omega arith in
    c.add_opened.ensures ∙ ap (λ xs. take (c.len-released.result + c.args.own.count) (xs ++ opened c.args.steps.now)) k ∙ acts-taken (kept_acts c.args.ask.now.sheet c.args.plans.now) c.args.steps.now x (c.len-released.result + c.args.own.count) e n

released-now : (g : _) (c : After-add_back g) → c.len-released.result ≡ kept_of c.args.ask.now
released-now g c = c.len-released.ensures.len ∙ ap length c.acts_so_far-acts.ensures ∙ c.requires.kept

count-of : (acts : List ActId) (x : Suffix) (n count : ℕ) → length acts ≡ n → length x.choices ≡ count → length (acts ++ acts_of x.choices) ≡ n + count
count-of acts x n count e f =
    let a = length-append acts (acts_of x.choices) in
    let l = length-map x.choices (λ (c : Choice). c.act) in
    omega arith

pub returns-clause-formed : goal.returns-clause-formed
returns-clause-formed g k =
    let c = (goal.at.returns-clause-formed g k).After-add_back in
    let y = some-and (suffix_after c.args.steps.now) (λ x. length x.choices ≡ c.args.own.count) c.requires.opened in
    let acts : length c.add_opened.new.acts ≡ kept_of c.args.ask.now + c.args.own.count = ap length (acts-now g c y.0 y.1 y.2) ∙ count-of (kept_acts c.args.ask.now.sheet c.args.plans.now) y.0 (kept_of c.args.ask.now) c.args.own.count c.requires.kept y.2 in
    let points = c.add_back.ensures.count in
    let starts = c.starts_so_far-points.ensures.count in
    let kept_is = c.requires.kept in
    let some = c.requires.some in
    let released = released-now g c in
    record { some = omega arith; one_more = omega arith; released = omega arith }

pub returns-clause-plan : goal.returns-clause-plan
returns-clause-plan g k t x e a =
    let c = (goal.at.returns-clause-plan g k).After-add_back in
    let y = some-and (suffix_after c.args.steps.now) (λ z. length z.choices ≡ c.args.own.count) c.requires.opened in
    let many : length x.choices ≡ c.args.own.count = ap (λ (z : Suffix). length z.choices) (same_Some x y.0 (sym e ∙ y.1)) ∙ y.2 in
    let acts = acts-now g c x e many in
    let f : ℕ → ℕ = λ i. settled_ticks c.args.ask.now (total_of c.args.ask.now x.choices) t (kept c.args.ask.now.sheet i) in
    let count = count-of (kept_acts c.args.ask.now.sheet c.args.plans.now) x (kept_of c.args.ask.now) c.args.own.count c.requires.kept many in
    let starts : c.starts_so_far-points.result ≡ ticks_from (λ i. t (kept c.args.ask.now.sheet i)) 0 (kept_of c.args.ask.now) = c.starts_so_far-points.ensures.times t (least-of_plans (g.N.Network.reading.net c.args.net.now) c.args.plans.now x t a) ∙ ap (λ n. ticks_from (λ i. t (kept c.args.ask.now.sheet i)) 0 n) c.requires.kept in
    let points : c.add_back.new.points ≡ ticks_from f 0 (suc (length (kept_acts c.args.ask.now.sheet c.args.plans.now ++ acts_of x.choices))) =
    c.add_back.ensures.times a.solution a.least
    ∙ ap (λ ts. ts ++ ticks_from (back_from a.solution c.args.own.start.0) 0 (suc c.args.own.count)) starts
    ∙ plan-points (g.N.Network.reading.net c.args.net.now) c.args.plans.now c.args.ask.now x t a c.args.own.start.0 c.args.own.count c.requires.start many
    ∙ ap (λ n. ticks_from f 0 (suc n)) (sym count) in
    λ i. record { sheet = c.args.ask.now.sheet; name = c.args.ask.now.name; want = c.args.ask.now.want; goal = c.args.ask.now.goal; kind = Whole; acts = acts i; points = points i; released = released-now g c i }
