use Rattle.std.proofs.Common.{◌≡◌, length, ap, sym, ◌∙◌, arith, Some}
use Rattle.tp_schedule.specs.Answers.{acts_in}
use Rattle.tp_schedule.specs.Plans.{plan_of}
use Rattle.tp_schedule.specs.Spots.Spot.{kept}
use Rattle.tp_schedule.specs.Times.{ticks_from}
use Rattle.tp_schedule.specs.declared.parts.Plan.{Plan}
use Rattle.tp_schedule.proofs.ChangeFacts.{plan_of-at, plan_of-sheet}
use Rattle.tp_placing.proofs.LineFacts.{end-fits}
use Rattle.tp_placing.proofs.TableFacts.{length-firsts}
use Rattle.tp_placing.proofs.WriteAsked.{none-planned}
use Rattle.tp_placing.proofs.WriteTimes.{plan-ticks}
use Rattle.tp_placing.proofs.asked.starts_so_far.Goals as goal
use Rattle.tp_placing.proofs.asked.starts_so_far.Goals.{After-times_from}

pub bounds-firsts-place : goal.bounds-firsts-place
bounds-firsts-place g c =
    let l = length-firsts 0 c.args.plans.now c.args.firsts.now c.requires.firsts in
    let w = c.in-Some.ensures.within in
    omega arith

pub times_from-requires-clause-known : goal.times_from-requires-clause-known
times_from-requires-clause-known g c =
    let w = end-fits c.args.plans.now c.args.firsts.now c.in-Some.place c.index-plans-place.result (record { 0 = 0 }) c.requires.firsts c.in-Some.ensures.within c.index-plans-place.is in
    let k = c.requires.known in
    let l : c.len.result ≡ length c.index-plans-place.result.acts = c.len.ensures.len ∙ ap (λ (r : Plan). length r.acts) (sym c.index-plans-place.is) in
    omega arith

pub times_from-requires-clause-fits : goal.times_from-requires-clause-fits
times_from-requires-clause-fits g c =
    let w = end-fits c.args.plans.now c.args.firsts.now c.in-Some.place c.index-plans-place.result (record { 0 = 0 }) c.requires.firsts c.in-Some.ensures.within c.index-plans-place.is in
    let k = c.requires.fits in
    let l : c.len.result ≡ length c.index-plans-place.result.acts = c.len.ensures.len ∙ ap (λ (r : Plan). length r.acts) (sym c.index-plans-place.is) in
    omega arith

planned : (g : _) (c : After-times_from g) → plan_of c.args.copy c.args.plans.now ≡ Some c.index-plans-place.result
planned g c = plan_of-at c.args.copy c.args.plans.now c.in-Some.place c.index-plans-place.result (sym c.in-Some.is ∙ c.copy_place.ensures.place) c.in-Some.ensures.within c.index-plans-place.is

pub returns-in-Some-clause-times : goal.returns-in-Some-clause-times
returns-in-Some-clause-times g c t a =
    let l : c.len.result ≡ length c.index-plans-place.result.acts = c.len.ensures.len ∙ ap (λ (r : Plan). length r.acts) (sym c.index-plans-place.is) in
    c.times_from.ensures.times a.solution a.least
    ∙ plan-ticks (g.N.Network.reading.net c.args.net.now) c.args.plans.now c.args.firsts.now c.in-Some.place c.index-plans-place.result (record { 0 = 0 }) t c.len.result c.requires.firsts c.in-Some.ensures.within c.index-plans-place.is a (omega arith)
    ∙ (λ i. ticks_from (λ k. t (kept (plan_of-sheet c.args.copy c.args.plans.now c.index-plans-place.result (planned g c) i) k)) 0 (l i))
    ∙ ap (λ o. ticks_from (λ k. t (kept c.args.copy k)) 0 (length (acts_in o))) (sym (planned g c))

pub returns-in-Some-clause-count : goal.returns-in-Some-clause-count
returns-in-Some-clause-count g c = c.times_from.ensures.count ∙ c.len.ensures.len ∙ ap (λ (r : Plan). length r.acts) (sym c.index-plans-place.is) ∙ ap (λ o. length (acts_in o)) (sym (planned g c))

pub returns-in-None-clause-times : goal.returns-in-None-clause-times
returns-in-None-clause-times g c t a = c.new.ensures ∙ ap (λ o. ticks_from (λ k. t (kept c.args.copy k)) 0 (length (acts_in o))) (sym (none-planned c.args.copy c.args.plans.now (sym c.in-None.is ∙ c.copy_place.ensures.place)))

pub returns-in-None-clause-count : goal.returns-in-None-clause-count
returns-in-None-clause-count g c = ap length c.new.ensures ∙ ap (λ o. length (acts_in o)) (sym (none-planned c.args.copy c.args.plans.now (sym c.in-None.is ∙ c.copy_place.ensures.place)))
