-- The oldest choices are laid.
use Rattle.std.proofs.Common.{length, drop, ◌-◌}
use Rattle.tp_pool.specs.Entries.{choices_of as stored_at}
use Rattle.tp_search.specs.StoredLists.{HasList, IsSameButSteps, list_from}
use Rattle.tp_search.specs.Stored.{list_by}
use Rattle.tp_search.proofs.stored_list.lay_choices.Given as goal

abbrev pub invariant-depths : goal.invariant-depths
invariant-depths g l =
    let choices = stored_at l.store.entries l.node in
    record {
      laid : HasList g.N.Network.reading l.board l.problem.machine.now l.problem.ask.now l.first (list_from l.problem.machine.now (list_by l.problem.machine.now choices).goal (drop (length choices - l.at) choices));
      same : IsSameButSteps g.N.Network.reading l.fn.board l.board;
    }
