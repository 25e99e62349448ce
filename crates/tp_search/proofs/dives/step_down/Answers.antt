use Rattle.std.proofs.Common.{◌≡◌, ◌+◌, ◌<◌, false, is_some, Option, Some, None, length, refl, sym, subst, ◌∙◌, arith}
use Rattle.std.proofs.lemmas.Bool.{false≢true}
use Rattle.tp_routes.specs.Index.{IsNextTo}
use Rattle.tp_search.proofs.BoardSteps.{back-trans}
use Rattle.tp_routes.proofs.AlongFacts.{ahead, fewer-ahead}
use Rattle.tp_search.specs.declared.stored_list.Laid.{Laid}
use Rattle.tp_search.proofs.LeadFacts.{number, laid-known, leads-first, leads-next, led-here}
use Rattle.tp_search.proofs.dives.step_down.Goals as goal
use Rattle.tp_search.proofs.dives.step_down.Goals.{In-Some, Start}

none-there : (o : Option Laid) → is_some o ≡ false → o ≡ None
none-there None e = refl
none-there (Some list) e = absurd (false≢true (sym e))

-- where the chain of actions stands
here : (g : _) (c : In-Some g) → IsNextTo c.args.problem.machine.now.actions c.args.list.first.loc.0 c.acts.invariant.chain.low (Some c.in-Some.act.0)
here g c = led-here c.args.problem.machine.now c.args.list.first.loc.0 c.acts.invariant.chain.low c.acts.next c.in-Some.act c.in-Some.is c.acts.invariant.chain.leads

-- the list begins at a location of the machine
known : (g : _) (c : Start g) → c.args.list.first.loc.0 < length c.args.problem.machine.now.locations
known g c = laid-known g.N.Network.reading c.args.board.now c.args.problem.machine.now c.args.problem.ask.now c.requires.carries.goal c.args.list.first c.requires.carries.choices c.requires.carries.laid c.requires.posed.origin

pub first_to-next-requires : goal.first_to-next-requires
first_to-next-requires g c = (let k = known g (goal.at.first_to-next-requires g c).Start in let same = c.requires.posed.table.locations in omega arith)

pub acts-init : goal.acts-init
acts-init g c = record {
  chain = record {
    low = 0;
    leads = leads-first c.args.problem.machine.now c.args.problem.rooms.now.firsts c.args.problem.rooms.now.nexts c.args.list.first.loc.0 c.requires.posed.leads c.first_to-next.result (known g (goal.at.acts-init g c).Start) c.first_to-next.ensures;
  };
  back = c.step_nearest-nearest.ensures.back (none-there c.step_nearest-nearest.result (sym c.is_some.ensures ∙ c.if-is_some.false));
}

pub step_by-requires-clause-known : goal.step_by-requires-clause-known
step_by-requires-clause-known g c = (here g (goal.at.step_by-requires-clause-known g c).In-Some).1

pub next_to-next-requires : goal.next_to-next-requires
next_to-next-requires g c = (let w = (here g (goal.at.next_to-next-requires g c).In-Some).1 in let room = c.requires.posed.leads.room in omega arith)

pub acts-preserved : goal.acts-preserved
acts-preserved g c =
    let h = here g (goal.at.acts-preserved g c).In-Some in
    record {
      chain = record {
        low = c.in-Some.act.0 + 1;
        leads = leads-next c.args.problem.machine.now c.args.problem.rooms.now.firsts c.args.problem.rooms.now.nexts c.args.list.first.loc.0 c.requires.posed.leads c.in-Some.act c.next_to-next.result h.1 h.2 c.next_to-next.ensures;
      };
      back = back-trans g.N.Network.reading c.args.board.now c.acts.board c.step_by.new.board c.args.problem.machine.now c.acts.invariant.back (c.step_by.ensures.back c.in_default-step_by.is);
    }

pub acts-smaller : goal.acts-smaller
acts-smaller g c =
    let h = here g (goal.at.acts-smaller g c).In-Some in
    let next = leads-next c.args.problem.machine.now c.args.problem.rooms.now.firsts c.args.problem.rooms.now.nexts c.args.list.first.loc.0 c.requires.posed.leads c.in-Some.act c.next_to-next.result h.1 h.2 c.next_to-next.ensures in
    subst (λ o. ahead (length c.args.problem.machine.now.actions) (number c.next_to-next.result) < ahead (length c.args.problem.machine.now.actions) (number o)) (sym c.in-Some.is)
    (fewer-ahead c.args.problem.machine.now.actions c.args.list.first.loc.0 c.in-Some.act.0 (number c.next_to-next.result) h.1 next)
