-- A module jams while a sheet runs on it: the copy is lost, and the next copy is planned on the other engine.
use Rattle.std.proofs.Common.{◌≡◌, [], ◌∷◌, refl, codes}
use Rattle.tp_schedule.specs.declared.parts.Plan.{Plan}
use Rattle.tp_schedule.specs.declared.parts.Reply.TheVariants.{Planned}
use Rattle.tp_schedule.specs.declared.records.Cause.TheVariants.{Out, NotOn}
use Rattle.tp_schedule.specs.declared.records.Record.TheVariants.{Plan as TellsPlan, Lost, Again, Refused}
use Rattle.tp_stock.specs.Stock.{no_refills}
use Rattle.tp_script.specs.declared.event.Event.TheVariants.{Jam, Off, On}
use Rattle.tp_event_rules.specs.States.{SessionState, none_out}
use Rattle.tp_event_rules.proofs.Machines.{duo, act, mono_sheet}
use Rattle.tp_event_rules.proofs.RowParts.{sheet, j1, job, whole, front}
use Rattle.tp_event_rules.proofs.ClockRows.{only_plan, at_six}
use Rattle.tp_event_rules.proofs.Replay.{answers, settles, play, turn_played}

abbrev pub lost_front : Plan
lost_front = front only_plan (act 0 ∷ act 2 ∷ []) (3 ∷ 5 ∷ 11 ∷ []) 2

abbrev pub second_copy : Plan
second_copy = whole (sheet 0 1 2) (codes "j1") mono_sheet 3 (act 0 ∷ act 1 ∷ act 3 ∷ []) (9 ∷ 11 ∷ 20 ∷ 23 ∷ []) 0

abbrev pub jammed : SessionState
jammed = record {
  now = 6;
  plans = lost_front ∷ second_copy ∷ [];
  lost = sheet 0 1 1 ∷ [];
  jobs = job (codes "j1") 3 ∷ [];
  waiting = [];
  outs = record { 0 = 4 };
  refills = no_refills;
}

pub jam : play duo (Jam (codes "ENG2")) at_six (settles (lost_front ∷ []) ∷ answers Planned (lost_front ∷ second_copy ∷ []) ∷ [])
    ≡ turn_played
    (Lost (j1 1 1) ∷ Again (j1 1 2)
    ∷ TellsPlan (j1 1 2) (codes "t") (9 ∷ 11 ∷ 20 ∷ 23 ∷ []) (codes "feed" ∷ codes "print1" ∷ codes "out" ∷ []) ∷ [])
    jammed
jam = refl

pub off_again : play duo (Off (codes "ENG2")) jammed [] ≡ turn_played (Refused (Out (codes "ENG2")) ∷ []) jammed
off_again = refl

abbrev pub mended : SessionState
mended = record jammed { outs = none_out }

pub on : play duo (On (codes "ENG2")) jammed [] ≡ turn_played [] mended
on = refl

pub on_again : play duo (On (codes "ENG2")) mended [] ≡ turn_played (Refused (NotOn (codes "ENG2")) ∷ []) mended
on_again = refl

-- a second jam of the module loses nothing more: the lost copy is lost once
pub jam_again : play duo (Jam (codes "ENG2")) jammed (settles (lost_front ∷ second_copy ∷ []) ∷ []) ≡ turn_played [] jammed
jam_again = refl
