use Rattle.std.proofs.Common.{◌≡◌, ◌++◌, map, take}
use Rattle.tp_event_rules.specs.Clock.{record_of}
use Rattle.tp_event_turn.proofs.clock_turn.tell_moved_clock.Given as goal

abbrev pub invariant-loop-tell : goal.invariant-loop-tell
invariant-loop-tell l = record {
  told : l.notes.items ≡ l.fn.notes.items ++ map (record_of l.machine l.lines.jobs) (take l.tell-index l.tells);
}
