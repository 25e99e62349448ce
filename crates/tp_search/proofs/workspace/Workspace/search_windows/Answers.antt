use Rattle.std.proofs.Common.{subst, sym}
use Rattle.tp_routes.specs.Index.{IsLeadIndex}
use Rattle.tp_routes.specs.Tables.{AreRooms}
use Rattle.tp_search.specs.Workspaces.{IsFor, WorkspaceValue}
use Rattle.tp_search.proofs.AskedFacts.{asked-known}
use Rattle.tp_search.proofs.workspace.Workspace.search_windows.Goals as goal

pub seek-requires-clause-posed : goal.seek-requires-clause-posed
seek-requires-clause-posed g c =
    let can = c.requires.can in
    record {
      table = subst (λ (w : WorkspaceValue). IsFor w c.args.machine.now) (sym c.self.view_is) can.made;
      rooms = subst (λ (w : WorkspaceValue). AreRooms c.args.machine.now c.args.ask.now w.rooms.sums) (sym c.self.view_is) can.rooms;
      leads = subst (λ (w : WorkspaceValue). IsLeadIndex c.args.machine.now w.rooms.firsts w.rooms.nexts) (sym c.self.view_is) can.leads;
      origin = asked-known c.args.machine.now can.plans c.args.ask.now can.held.can_ask.asked;
    }
