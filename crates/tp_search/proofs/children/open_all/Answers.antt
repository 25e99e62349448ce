use Rattle.std.proofs.Common.{◌≡◌, ◌∙◌, ◌+◌, ◌<◌, Some, [], length, ap, sym, subst, arith}
use Rattle.tp_pool.specs.Entries.{choices_before}
use Rattle.tp_schedule.specs.Answers.{kept_of}
use Rattle.tp_routes.specs.Index.{IsNextTo, NoneTo}
use Rattle.tp_search.specs.Boards.{IsLaid}
use Rattle.tp_search.specs.Children.{HasFound}
use Rattle.tp_search.specs.OpenedLists.{IsAtProgress}
use Rattle.tp_search.specs.OpenedLists.Progress.{up_to}
use Rattle.tp_search.specs.Stored.{choices_by}
use Rattle.tp_constraints.specs.Ways.{IsPlaced}
use Rattle.tp_search.proofs.ActSteps.{laid-at_most, opening-full_list}
use Rattle.tp_search.proofs.BoardSteps.{back-trans, laid-back}
use Rattle.tp_search.proofs.FurtherFacts.{found-further, further-back}
use Rattle.tp_routes.proofs.AlongFacts.{ahead, fewer-ahead}
use Rattle.tp_search.proofs.LeadFacts.{laid-known, leads-first, leads-next, led-here, number, over-others}
use Rattle.tp_search.proofs.OpeningSame.{before-same, bounds-same, fresh-same, same-trans}
use Rattle.tp_search.proofs.PlaceSteps.{laid-same, parent-same}
use Rattle.tp_search.proofs.children.open_all.Goals as goal
use Rattle.tp_search.proofs.children.open_all.Goals.{In-Some}

pub returns-then-kept-laid-eq64-clause-progress : goal.returns-then-kept-laid-eq64-clause-progress
returns-then-kept-laid-eq64-clause-progress g c none =
    let stop = c.open_stop.ensures in
    let full : kept_of c.args.problem.ask.now + length (choices_by c.args.problem.machine.now (choices_before c.args.store.now.entries c.args.opening.now.parent)) ≡ 64 = omega arith in
    opening-full_list c.args.problem.machine.now c.args.board.now.plans c.args.problem.ask.now c.open_stop.new.opening c.open_stop.new.store c.args.opening.now.goal (choices_by c.args.problem.machine.now (choices_before c.args.store.now.entries c.args.opening.now.parent)) (length c.args.problem.machine.now.actions)
    (parent-same c.args.problem.machine.now c.args.problem.ask.now c.args.opening.now c.open_stop.new.opening c.args.store.now c.open_stop.new.store stop.same c.requires.opened.fresh) full (stop.progress c.if-open_stop.false)

-- the list is on the board as it was
laid-now : (g : _) (c : In-Some g) → IsLaid g.N.Network.reading c.acts.board c.args.problem.machine.now c.args.problem.ask.now c.acts.opening.goal c.args.laid.first
    (choices_by c.args.problem.machine.now (choices_before c.acts.store.entries c.acts.opening.parent))
laid-now g c =
    laid-same g.N.Network.reading c.args.problem.machine.now c.args.problem.ask.now c.args.laid.first c.args.opening.now c.args.store.now c.acts.board c.acts.opening c.acts.store (λ cs. cs) c.acts.invariant.same c.requires.opened.fresh
    (laid-back g.N.Network.reading c.args.board.now c.acts.board c.args.problem.machine.now c.args.problem.ask.now c.args.opening.now.goal c.args.laid.first (choices_by c.args.problem.machine.now (choices_before c.args.store.now.entries c.args.opening.now.parent)) c.acts.invariant.back c.requires.opened.laid)

pub open_act-requires-clause-opened : goal.open_act-requires-clause-opened
open_act-requires-clause-opened g c =
    let same = c.acts.invariant.same in
    let o = c.requires.opened in
    record {
      laid = laid-now g (goal.at.open_act-requires-clause-opened g c).In-Some;
      placed = subst (λ cs. IsPlaced c.args.problem.machine.now (choices_by c.args.problem.machine.now cs)) (sym (before-same c.args.problem.machine.now c.args.problem.ask.now c.args.opening.now c.acts.opening c.args.store.now c.acts.store same o.fresh)) o.placed;
      fresh = fresh-same c.args.problem.machine.now c.args.problem.ask.now c.args.opening.now c.acts.opening c.args.store.now c.acts.store same o.fresh;
      bounds = bounds-same c.args.problem.machine.now c.args.problem.ask.now c.args.opening.now c.acts.opening c.args.store.now c.acts.store same o.bounds;
    }

pub open_act-requires-clause-fewer : goal.open_act-requires-clause-fewer
open_act-requires-clause-fewer g c =
    let most = laid-at_most g.N.Network.reading c.args.board.now c.args.problem.machine.now c.args.problem.ask.now c.args.opening.now.goal c.args.laid.first (choices_by c.args.problem.machine.now (choices_before c.args.store.now.entries c.args.opening.now.parent)) c.requires.opened.laid in
    let same = ap (λ cs. length (choices_by c.args.problem.machine.now cs)) (before-same c.args.problem.machine.now c.args.problem.ask.now c.args.opening.now c.acts.opening c.args.store.now c.acts.store c.acts.invariant.same c.requires.opened.fresh) in
    omega arith

-- where the chain of actions stands
here : (g : _) (c : In-Some g) → IsNextTo c.args.problem.machine.now.actions c.args.laid.first.loc.0 c.acts.invariant.led.chain.low (Some c.in-Some.act.0)
here g c = led-here c.args.problem.machine.now c.args.laid.first.loc.0 c.acts.invariant.led.chain.low c.acts.next c.in-Some.act c.in-Some.is c.acts.invariant.led.chain.leads

pub open_act-requires-clause-known : goal.open_act-requires-clause-known
open_act-requires-clause-known g c = (here g (goal.at.open_act-requires-clause-known g c).In-Some).1

pub open_act-requires-clause-progress : goal.open_act-requires-clause-progress
open_act-requires-clause-progress g c =
    let h = here g (goal.at.open_act-requires-clause-progress g c).In-Some in
    over-others g.N.Network.reading c.acts.board c.args.problem.machine.now c.args.problem.ask.now c.args.laid.first c.acts.opening c.acts.store (laid-now g (goal.at.open_act-requires-clause-progress g c).In-Some)
    c.acts.invariant.led.chain.low c.in-Some.act.0 h.0 h.3 c.acts.invariant.led.progress

pub first_to-next-requires : goal.first_to-next-requires
first_to-next-requires g c =
    let known = laid-known g.N.Network.reading c.args.board.now c.args.problem.machine.now c.args.problem.ask.now c.args.opening.now.goal c.args.laid.first _ c.requires.opened.laid c.requires.posed.origin in
    let same = c.requires.posed.table.locations in
    omega arith

pub acts-init : goal.acts-init
acts-init g c =
    let stop = c.open_stop.ensures in
    let known = laid-known g.N.Network.reading c.args.board.now c.args.problem.machine.now c.args.problem.ask.now c.args.opening.now.goal c.args.laid.first _ c.requires.opened.laid c.requires.posed.origin in
    record {
      led = record {
        chain = record { low = 0; leads = leads-first c.args.problem.machine.now c.args.problem.rooms.now.firsts c.args.problem.rooms.now.nexts c.args.laid.first.loc.0 c.requires.posed.leads c.first_to-next.result known c.first_to-next.ensures };
        within = omega arith;
        progress = subst (λ ps. IsAtProgress c.args.problem.machine.now ps c.args.problem.ask.now c.open_stop.new.opening c.open_stop.new.store (up_to 0 [])) (sym (stop.back c.if-open_stop.false).loaded.plans) (stop.progress c.if-open_stop.false);
      };
      same = stop.same;
      back = stop.back c.if-open_stop.false;
    }

pub next_to-next-requires : goal.next_to-next-requires
next_to-next-requires g c = (let w = (here g (goal.at.next_to-next-requires g c).In-Some).1 in let room = c.requires.posed.leads.room in omega arith)

pub acts-preserved : goal.acts-preserved
acts-preserved g c =
    let act = c.open_act.ensures in
    let back = act.back c.if-open_act.false in
    let h = here g (goal.at.acts-preserved g c).In-Some in
    record {
      led = record {
        chain = record { low = c.in-Some.act.0 + 1; leads = leads-next c.args.problem.machine.now c.args.problem.rooms.now.firsts c.args.problem.rooms.now.nexts c.args.laid.first.loc.0 c.requires.posed.leads c.in-Some.act c.next_to-next.result h.1 h.2 c.next_to-next.ensures };
        within = (let w = h.1 in omega arith);
        progress = subst (λ ps. IsAtProgress c.args.problem.machine.now ps c.args.problem.ask.now c.open_act.new.opening c.open_act.new.store (up_to (c.in-Some.act.0 + 1) [])) (sym back.loaded.plans) (act.progress c.if-open_act.false);
      };
      same = same-trans c.args.opening.now c.acts.opening c.open_act.new.opening c.args.store.now c.acts.store c.open_act.new.store c.acts.invariant.same act.same;
      back = back-trans g.N.Network.reading c.args.board.now c.acts.board c.open_act.new.board c.args.problem.machine.now c.acts.invariant.back back;
    }

pub acts-smaller : goal.acts-smaller
acts-smaller g c =
    let h = here g (goal.at.acts-smaller g c).In-Some in
    let next = leads-next c.args.problem.machine.now c.args.problem.rooms.now.firsts c.args.problem.rooms.now.nexts c.args.laid.first.loc.0 c.requires.posed.leads c.in-Some.act c.next_to-next.result h.1 h.2 c.next_to-next.ensures in
    subst (λ o. ahead (length c.args.problem.machine.now.actions) (number c.next_to-next.result) < ahead (length c.args.problem.machine.now.actions) (number o)) (sym c.in-Some.is)
    (fewer-ahead c.args.problem.machine.now.actions c.args.laid.first.loc.0 c.in-Some.act.0 (number c.next_to-next.result) h.1 next)

pub returns-clause-progress : goal.returns-clause-progress
returns-clause-progress g c none =
    let v = c.acts.invariant in
    let rest : NoneTo c.args.problem.machine.now.actions c.args.laid.first.loc.0 v.led.chain.low (length c.args.problem.machine.now.actions) = subst (λ n. IsNextTo c.args.problem.machine.now.actions c.args.laid.first.loc.0 v.led.chain.low (number n)) c.in_default.is v.led.chain.leads in
    subst (λ ps. IsAtProgress c.args.problem.machine.now ps c.args.problem.ask.now c.acts.opening c.acts.store (up_to (length c.args.problem.machine.now.actions) [])) v.back.loaded.plans
    (over-others g.N.Network.reading c.acts.board c.args.problem.machine.now c.args.problem.ask.now c.args.laid.first c.acts.opening c.acts.store (laid-same g.N.Network.reading c.args.problem.machine.now c.args.problem.ask.now c.args.laid.first c.args.opening.now c.args.store.now c.acts.board c.acts.opening c.acts.store (λ cs. cs) c.acts.invariant.same c.requires.opened.fresh (laid-back g.N.Network.reading c.args.board.now c.acts.board c.args.problem.machine.now c.args.problem.ask.now c.args.opening.now.goal c.args.laid.first (choices_by c.args.problem.machine.now (choices_before c.args.store.now.entries c.args.opening.now.parent)) c.acts.invariant.back c.requires.opened.laid)) v.led.chain.low (length c.args.problem.machine.now.actions) v.led.within rest v.led.progress)

pub open_act-requires-clause-count : goal.open_act-requires-clause-count
open_act-requires-clause-count g c =
    c.requires.count ∙ ap (λ cs. length (choices_by c.args.problem.machine.now cs)) (sym (before-same c.args.problem.machine.now c.args.problem.ask.now c.args.opening.now c.acts.opening c.args.store.now c.acts.store c.acts.invariant.same c.requires.opened.fresh))

-- an answer of an action ends it
pub returns-then-open_act-clause-found : goal.returns-then-open_act-clause-found
returns-then-open_act-clause-found g c is =
    let v = c.acts.invariant in
    found-further g.N.Network.reading c.args.board.now c.acts.board c.open_act.new.board c.args.problem.machine.now c.args.problem.ask.now c.args.opening.now.bound (further-back g.N.Network.reading c.args.board.now c.acts.board c.args.problem.machine.now v.back)
    (subst (HasFound g.N.Network.reading c.acts.board c.open_act.new.board c.args.problem.machine.now c.args.problem.ask.now) v.same.bound (c.open_act.ensures.found c.if-open_act.true))

pub returns-then-open_act-clause-same : goal.returns-then-open_act-clause-same
returns-then-open_act-clause-same g c = same-trans c.args.opening.now c.acts.opening c.open_act.new.opening c.args.store.now c.acts.store c.open_act.new.store c.acts.invariant.same c.open_act.ensures.same
