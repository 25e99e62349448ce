use Rattle.std.proofs.Common.{◌≡◌, vec_capacity}
use Rattle.tp_stn_undo.proofs.NoteFacts.{IsLeft}
use Rattle.tp_stn_undo.proofs.changes.leave_firsts.Given as goal

abbrev pub invariant-each : goal.invariant-each
invariant-each l = record {
  firsts : IsLeft l.from l.left l.at l.entries.items l.initial.entries.items l.initial.noted l.noted;
  capacity : vec_capacity l.entries ≡ vec_capacity l.initial.entries;
}
