-- What a log tells of deliveries.
use Rattle.std.proofs.Common.{◌≡◌, ℕ, true, false, List, [], ◌∷◌, refl, codes}
use Rattle.tp_schedule.specs.declared.records.Cause.TheVariants.{Named}
use Rattle.tp_schedule.specs.declared.records.Record.TheVariants.{Done, Lost, Broken, Refused}
use Rattle.tp_script.specs.declared.event.Event.TheVariants.{Job as NewJob, Clock, Jam}
use Rattle.tp_event_rules.specs.Logs.{Entry}
use Rattle.tp_event_rules.specs.Deliveries.{arrivals, received, records_of, is_earlier, sheet_ref}
use Rattle.tp_event_rules.proofs.RowParts.{j1, j2, plain}

abbrev pub log : List (Entry ℕ)
log =
    record { event = NewJob (codes "j1") (codes "t") (codes "plain") (plain 1 ∷ []); records = []; trees = [] }
    ∷ record { event = NewJob (codes "j2") (codes "t") (codes "plain") (plain 1 ∷ plain 2 ∷ []); records = []; trees = [] }
    ∷ record { event = NewJob (codes "j1") (codes "t") (codes "plain") (plain 1 ∷ []); records = Refused (Named (codes "j1")) ∷ []; trees = [] }
    ∷ record { event = Jam (codes "R"); records = Lost (j1 1 1) ∷ Broken (codes "j1") ∷ []; trees = [] }
    ∷ record { event = Clock 13; records = Done (j2 1 1) (codes "t") 13 ∷ Done (j2 2 1) (codes "p") 13 ∷ []; trees = [] }
    ∷ []

pub arrived : arrivals log ≡
    record { name = codes "j1"; tray = codes "t"; sheets = 1 } ∷ record { name = codes "j2"; tray = codes "t"; sheets = 3 } ∷ []
arrived = refl

pub received_at_t : received (codes "t") (records_of log) ≡ j2 1 1 ∷ []
received_at_t = refl

-- by the arrival of the job, then by the sheet's number, whichever copy it is
pub earlier_job : is_earlier (arrivals log) (sheet_ref (j1 1 9)) (sheet_ref (j2 1 1)) ≡ true
earlier_job = refl

pub same_sheet : is_earlier (arrivals log) (sheet_ref (j2 1 1)) (sheet_ref (j2 1 2)) ≡ false
same_sheet = refl
