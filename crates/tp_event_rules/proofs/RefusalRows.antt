-- Refused events: the first cause of the table, and the state as it was.
use Rattle.std.proofs.Common.{◌≡◌, [], ◌∷◌, refl, codes, Some, None}
use Rattle.tp_schedule.specs.declared.records.Cause.TheVariants.{Syntax, Tray as NoTray, Media, Named, Waiting, Module, Out, NotOn}
use Rattle.tp_schedule.specs.declared.records.Record.TheVariants.{Refused}
use Rattle.tp_script.specs.declared.event.Event.TheVariants.{Bad, Job as NewJob, Jam, Off, On}
use Rattle.tp_event_rules.specs.States.{empty_state}
use Rattle.tp_event_rules.specs.Refusals.{refusal}
use Rattle.tp_event_rules.proofs.Machines.{duo}
use Rattle.tp_event_rules.proofs.RowParts.{group}
use Rattle.tp_event_rules.proofs.ClockRows.{planned_one}
use Rattle.tp_event_rules.proofs.Replay.{play, turn_played}

pub bad_line : play duo Bad planned_one [] ≡ turn_played (Refused Syntax ∷ []) planned_one
bad_line = refl

-- all four causes hold of this job: the tray is reported
pub unknown_tray : play duo (NewJob (codes "j1") (codes "x") (codes "glossy") (group 4097 ∷ [])) planned_one []
    ≡ turn_played (Refused (NoTray (codes "x")) ∷ []) planned_one
unknown_tray = refl

-- a purge tray and a location that is no tray are no trays
pub purge_tray : refusal duo planned_one (NewJob (codes "j2") (codes "p") (codes "plain") (group 1 ∷ [])) ≡ Some (NoTray (codes "p"))
purge_tray = refl

pub no_tray : refusal duo planned_one (NewJob (codes "j2") (codes "a") (codes "plain") (group 1 ∷ [])) ≡ Some (NoTray (codes "a"))
no_tray = refl

pub unknown_media : refusal duo planned_one (NewJob (codes "j1") (codes "t") (codes "glossy") (group 4097 ∷ [])) ≡ Some (Media (codes "glossy"))
unknown_media = refl

pub taken_name : refusal duo planned_one (NewJob (codes "j1") (codes "t") (codes "plain") (group 4097 ∷ [])) ≡ Some (Named (codes "j1"))
taken_name = refl

pub too_many_waiting : play duo (NewJob (codes "j1") (codes "t") (codes "plain") (group 4096 ∷ group 1 ∷ [])) empty_state []
    ≡ turn_played (Refused Waiting ∷ []) empty_state
too_many_waiting = refl

pub as_many_as_may_be : refusal duo empty_state (NewJob (codes "j1") (codes "t") (codes "plain") (group 4095 ∷ group 1 ∷ [])) ≡ None
as_many_as_may_be = refl

-- modules: unknown, out, not out. A module that is out may jam
pub unknown_module : play duo (Jam (codes "X")) planned_one [] ≡ turn_played (Refused (Module (codes "X")) ∷ []) planned_one
unknown_module = refl

pub not_out : play duo (On (codes "ENG2")) planned_one [] ≡ turn_played (Refused (NotOn (codes "ENG2")) ∷ []) planned_one
not_out = refl

pub out_already : refusal duo (record planned_one { outs = record { 0 = 4 } }) (Off (codes "ENG2")) ≡ Some (Out (codes "ENG2"))
out_already = refl

pub jams_again : refusal duo (record planned_one { outs = record { 0 = 4 } }) (Jam (codes "ENG2")) ≡ None
jams_again = refl

pub comes_back : refusal duo (record planned_one { outs = record { 0 = 4 } }) (On (codes "ENG2")) ≡ None
comes_back = refl
