use Rattle.std.proofs.Common.{◌≡◌, ◌+◌, ap, sym, subst, ◌∙◌, arith}
use Rattle.tp_routes.specs.Index.{IsLeadIndex}
use Rattle.tp_routes.specs.Tables.{AreRooms}
use Rattle.tp_search.specs.Outcomes.{IsOutcome}
use Rattle.tp_search.specs.SearchProgress.{IsSearching}
use Rattle.tp_search.specs.Stores.{StoreValue}
use Rattle.tp_search.specs.Workspaces.{IsFor, WorkspaceValue}
use Rattle.tp_search.proofs.AskedFacts.{asked-known, begins-with}
use Rattle.tp_search.proofs.HoldFacts.{over-plans}
use Rattle.tp_search.proofs.workspace.Workspace.search_to.Goals as goal

pub find_goals-begun-requires-clause-posed : goal.find_goals-begun-requires-clause-posed
find_goals-begun-requires-clause-posed g c = record {
  table = subst (λ (w : WorkspaceValue). IsFor w c.args.machine.now) (sym c.self.view_is) c.requires.can.made;
  rooms = subst (λ (w : WorkspaceValue). AreRooms c.args.machine.now c.args.ask.now w.rooms.sums) (sym c.self.view_is) c.requires.can.rooms;
  leads = subst (λ (w : WorkspaceValue). IsLeadIndex c.args.machine.now w.rooms.firsts w.rooms.nexts) (sym c.self.view_is) c.requires.can.leads;
  origin = asked-known c.args.machine.now c.requires.can.plans c.args.ask.now c.requires.can.held.can_ask.asked;
}

pub search-requires-clause-posed : goal.search-requires-clause-posed
search-requires-clause-posed g c = record {
  table = subst (λ (w : WorkspaceValue). IsFor w c.args.machine.now) (sym c.self.view_is) c.requires.can.made;
  rooms = subst (λ (w : WorkspaceValue). AreRooms c.args.machine.now c.args.ask.now w.rooms.sums) (sym c.self.view_is) c.requires.can.rooms;
  leads = subst (λ (w : WorkspaceValue). IsLeadIndex c.args.machine.now w.rooms.firsts w.rooms.nexts) (sym c.self.view_is) c.requires.can.leads;
  origin = asked-known c.args.machine.now c.requires.can.plans c.args.ask.now c.requires.can.held.can_ask.asked;
}

pub search-requires-clause-over : goal.search-requires-clause-over
search-requires-clause-over g c = (c.args.board.now, c.requires.can.ready, c.requires.can.marks, c.find_goals-begun.ensures.over)

pub search-requires-clause-holds : goal.search-requires-clause-holds
search-requires-clause-holds g c = c.find_goals-begun.ensures.holds c.set_limit.new.self (ap (λ (s : StoreValue). s.entries) c.set_limit.ensures ∙ ap (λ (s : StoreValue). s.entries) c.clear.ensures)

pub search-requires-clause-searching : goal.search-requires-clause-searching
search-requires-clause-searching g c =
    let a = c.self.inside in
    let window = ap (λ (w : WorkspaceValue). w.rooms.window) c.self.view_is in
    let wide : a.store.width ≡ c.args.machine.now.window + 1 = omega (arith, c.self.invariant.wide, window, c.requires.can.made.window) in
    let empty = c.set_limit.ensures ∙ ap (λ (s : StoreValue). record s { limit = c.args.limit }) c.clear.ensures in (
      0,
      subst (λ ps. IsSearching c.args.machine.now ps c.args.ask.now c.find_goals-begun.new.goals.items c.set_limit.new.self 0) (sym (over-plans g.N.Network.reading c.args.board.now c.find_goals-begun.new.board c.args.machine.now c.args.ask.now c.find_goals-begun.result c.find_goals-begun.ensures.over))
          (begins-with c.args.machine.now c.args.board.now.plans c.args.ask.now c.find_goals-begun.new.goals.items c.set_limit.new.self a.store.capacity a.store.width c.args.limit c.requires.can.plans c.requires.none c.find_goals-begun.ensures.goals empty wide c.requires.can.held.can_ask.has_time),
    )

pub returns-clause-outcome : goal.returns-clause-outcome
returns-clause-outcome g c =
    let nodes = ap (λ (s : StoreValue). s.capacity) c.set_limit.ensures ∙ ap (λ (s : StoreValue). s.capacity) c.clear.ensures ∙ ap (λ (w : WorkspaceValue). w.nodes) c.self.view_is in
    subst (λ n. IsOutcome g.N.Network.reading c.args.board.now c.search.new.board c.args.machine.now c.args.ask.now n c.search.result) nodes
    (c.search.ensures.outcome c.args.board.now c.requires.can.ready c.find_goals-begun.ensures.over)

pub returns-clause-whole : goal.returns-clause-whole
returns-clause-whole g c none unlimited = c.search.ensures.whole (ap (λ (s : StoreValue). s.limit) c.set_limit.ensures ∙ none) unlimited
