-- As many copies are live as may be: none is asked, and each line is reported full once.
use Rattle.std.proofs.Common.{◌≡◌, ℕ, true, false, [], ◌∷◌, refl, codes}
use Rattle.std.specs.Prelude.{replicate}
use Rattle.tp_schedule.specs.declared.records.Record.TheVariants.{FullUp}
use Rattle.tp_stock.specs.Stock.{no_refills}
use Rattle.tp_script.specs.declared.event.Event.TheVariants.{Clock}
use Rattle.tp_event_rules.specs.States.{SessionState, none_out}
use Rattle.tp_event_rules.specs.AskPhase.{is_full}
use Rattle.tp_event_rules.proofs.Machines.{duo, mono_sheet}
use Rattle.tp_event_rules.proofs.RowParts.{sheet, j1, j2, job, waits}
use Rattle.tp_event_rules.proofs.ClockRows.{only_plan}
use Rattle.tp_event_rules.proofs.Replay.{play, turn_played}

-- so many live copies, and three that wait for two trays
abbrev pub crowd : ℕ → SessionState
crowd n = record {
  now = 0;
  plans = replicate n only_plan;
  lost = [];
  jobs = job (codes "j1") 3 ∷ job (codes "j2") 4 ∷ [];
  waiting = waits (sheet 0 2 1) mono_sheet ∷ waits (sheet 0 3 1) mono_sheet ∷ waits (sheet 1 1 1) mono_sheet ∷ [];
  outs = none_out;
  refills = no_refills;
}

pub full_at_256 : is_full duo (crowd 256) ≡ true
full_at_256 = refl

pub not_full_at_255 : is_full duo (crowd 255) ≡ false
not_full_at_255 = refl

pub full_once_a_line : play duo (Clock 0) (crowd 256) [] ≡ turn_played (FullUp (j1 2 1) ∷ FullUp (j2 1 1) ∷ []) (crowd 256)
full_once_a_line = refl
