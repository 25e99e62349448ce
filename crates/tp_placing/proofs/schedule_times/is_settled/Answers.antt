-- The plan's own points are held against the least times of its points in the network.
use Rattle.std.proofs.Common.{◌≡◌, ◌∙◌, suc, length, refl, ap, sym, arith, Some, get_or, subst}
use Rattle.std.specs.Prelude.{slice_get}
use Rattle.std.proofs.lemmas.Option.{same_Some, slice_get_read}
use Rattle.tp_base.proofs.SliceFacts.{All-at}
use Rattle.tp_schedule.specs.Plans.{IsFormed, with_points}
use Rattle.tp_schedule.specs.Times.{at, ticks_from, timed_by}
use Rattle.tp_placing.proofs.LineFacts.{end-fits}
use Rattle.tp_placing.proofs.TableFacts.{length-firsts}
use Rattle.tp_placing.proofs.WriteTimes.{plan-ticks}
use Rattle.tp_placing.proofs.schedule_times.is_settled.Goals as goal
use Rattle.tp_placing.proofs.schedule_times.is_settled.Goals.{After-as_slice}

pub bounds-firsts-at : goal.bounds-firsts-at
bounds-firsts-at g c =
    let l = length-firsts 0 c.args.plans.now c.args.firsts.now c.requires.firsts in
    omega (arith, l, c.requires.there)

-- the plan is at the place, and has a point more than actions
there : (g : _) (c : After-as_slice g) → slice_get c.args.plans.now c.args.at ≡ Some c.index-plans-at.result
there g c = slice_get_read c.args.plans.now (length c.args.plans.now) c.args.at c.index-plans-at.result refl c.requires.there c.index-plans-at.is

count : (g : _) (c : After-as_slice g) → length c.as_slice.result.now ≡ suc (length c.index-plans-at.result.acts)
count g c =
    let formed = All-at IsFormed c.args.plans.now c.args.at c.index-plans-at.result c.requires.formed (there g c) in
    let items : c.as_slice.result.now ≡ c.index-plans-at.result.points = c.as_slice.ensures.items ∙ ap (λ p. p.points) (sym c.index-plans-at.is) in
    omega (arith, ap length items, formed.one_more)

pub have_times-requires-clause-known : goal.have_times-requires-clause-known
have_times-requires-clause-known g c =
    let w = end-fits c.args.plans.now c.args.firsts.now c.args.at c.index-plans-at.result (record { 0 = 0 }) c.requires.firsts c.requires.there c.index-plans-at.is in
    omega (arith, w, count g c, c.requires.known)

pub have_times-requires-clause-fits : goal.have_times-requires-clause-fits
have_times-requires-clause-fits g c =
    let w = end-fits c.args.plans.now c.args.firsts.now c.args.at c.index-plans-at.result (record { 0 = 0 }) c.requires.firsts c.requires.there c.index-plans-at.is in
    omega (arith, w, count g c, c.requires.fits)

pub returns : goal.returns
returns g k so p is t a =
    let c = (goal.at.returns g k).After-as_slice in
    let q = k.index-plans-at.result in
    let same : q ≡ p = same_Some q p (sym (there g c) ∙ is) in
    let items : k.as_slice.result.now ≡ q.points = k.as_slice.ensures.items ∙ ap (λ r. r.points) (sym k.index-plans-at.is) in
    let ticks = plan-ticks (g.N.Network.reading.net k.args.net.now) k.args.plans.now k.args.firsts.now k.args.at k.index-plans-at.result (record { 0 = 0 }) t (suc (length k.index-plans-at.result.acts)) k.requires.firsts k.requires.there k.index-plans-at.is a (omega arith) in
    let own = k.have_times.ensures.same so a.solution a.least in
    let first = get_or k.args.firsts.now k.args.at (record { 0 = 0 }) in
    let points : ticks_from (at t q) 0 (suc (length q.acts)) ≡ q.points = sym ticks ∙ ap (λ n. ticks_from a.solution (get_or k.args.firsts.now k.args.at (record { 0 = 0 })).0 n) (sym (count g c)) ∙ sym own ∙ items in
    subst (λ r. timed_by t r ≡ r) same (ap (λ ps. with_points ps k.index-plans-at.result) points)
