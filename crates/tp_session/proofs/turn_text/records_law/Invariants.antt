use Rattle.std.proofs.Common.{ℕ, ◌<◌, slice_index_or}
use Rattle.tp_schedule.specs.declared.records.Record.{Record}
use Rattle.tp_log.specs.Grammar.{HasFields}
use Rattle.tp_session.proofs.turn_text.records_law.Given as goal

abbrev pub invariant-loop-rec : goal.invariant-loop-rec
invariant-loop-rec l = (k : ℕ) (d : Record) → k < l.rec-index → HasFields (slice_index_or l.records k d)
