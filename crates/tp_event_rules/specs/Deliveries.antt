-- What a log tells of the deliveries at a tray, and the headline: the schedule is legal, and each tray receives its line
-- in order.
use Rattle.std.specs.Prelude.{◌≡◌, ℕ, ◌≤◌, ◌⊎◌, Bool, true, false, ◌&&◌, ◌||◌, ◌==◌, nat_lt, List, [], ◌∷◌, ◌++◌, length, map, flat_map, position, unwrap_or, AllPairs, Contains, IsTrue, if◌then◌else◌}
use Rattle.std.specs.List.{list_any}
use Rattle.std.specs.Str.{bytes_eq}
use Rattle.tp_machine.specs.declared.machine.Machine.{Machine}
use Rattle.tp_script.specs.declared.event.Event.{Event}
use Rattle.tp_script.specs.declared.event.Event.TheVariants.{Job as NewJob}
use Rattle.tp_schedule.specs.Legality.{IsLegal}
use Rattle.tp_schedule.specs.declared.records.Record.{Record}
use Rattle.tp_schedule.specs.declared.records.Record.TheVariants.{Done, Broken, Refused}
use Rattle.tp_schedule.specs.declared.records.SheetName.{SheetName}
use Rattle.tp_jobs.specs.JobRefusals.{sheet_count, is_tray_name}
use Rattle.tp_event_rules.specs.States.{SessionState}
use Rattle.tp_event_rules.specs.Logs.{Entry}

abbrev pub records_of : {T : Type 0} → List (Entry T) → List Record
records_of log = flat_map (λ e. e.records) log

-- a job that was accepted: its name, its tray and how many sheets it has
pub record Arrival : Type 0 where
  pub name : List ℕ
  pub tray : List ℕ
  pub sheets : ℕ

abbrev pub is_refusal : Record → Bool
is_refusal (Refused cause) = true
is_refusal _ = false

abbrev pub arrival_by : Event → List Record → List Arrival
arrival_by (NewJob name tray media groups) records =
    if list_any is_refusal records then [] else (record { name = name; tray = tray; sheets = sheet_count groups } ∷ [])
arrival_by _ records = []

-- the accepted jobs, in the order of arrival, and the place of a job in it
abbrev pub arrivals : {T : Type 0} → List (Entry T) → List Arrival
arrivals log = flat_map (λ e. arrival_by e.event e.records) log

abbrev pub arrival_of : List Arrival → List ℕ → ℕ
arrival_of jobs name = unwrap_or (position (λ a. bytes_eq name a.name) jobs) (length jobs)

-- a sheet of a job, by the job's name
pub record SheetRef : Type 0 where
  pub job : List ℕ
  pub number : ℕ

abbrev pub sheet_ref : SheetName → SheetRef
sheet_ref copy = record { job = copy.job; number = copy.number }

abbrev pub is_earlier : List Arrival → SheetRef → SheetRef → Bool
is_earlier jobs a b =
    nat_lt (arrival_of jobs a.job) (arrival_of jobs b.job)
    || ((arrival_of jobs a.job == arrival_of jobs b.job) && nat_lt a.number b.number)

-- the sheet was asked for the tray
pub record IsAskedFor (jobs : List Arrival) (tray : List ℕ) (sheet : SheetRef) : Type 0 where
  pub job : Arrival
  pub arrived : Contains jobs job
  pub name : job.name ≡ sheet.job
  pub to : job.tray ≡ tray
  pub first : 1 ≤ sheet.number
  pub last : sheet.number ≤ job.sheets

-- the copies that the records tell to be done at the tray, in the order of the records
abbrev pub received_by : List ℕ → Record → List SheetName
received_by tray (Done copy place at) = if bytes_eq place tray then copy ∷ [] else []
received_by tray _ = []

abbrev pub received : List ℕ → List Record → List SheetName
received tray records = flat_map (received_by tray) records

-- the sheet was received, or its job broke
abbrev pub IsReceivedOrBroken : List ℕ → List Record → SheetRef → Type 0
IsReceivedOrBroken tray records sheet =
    Contains (map sheet_ref (received tray records)) sheet ⊎ Contains records (Broken sheet.job)

-- the deliveries rise in the order of sheets, so that no sheet comes twice, and only sheets of broken jobs are skipped
pub record ReceivesInOrder {T : Type 0} (log : List (Entry T)) (tray : List ℕ) : Type 0 where
  pub rises : AllPairs (λ a b. IsTrue (is_earlier (arrivals log) (sheet_ref a) (sheet_ref b))) (received tray (records_of log))
  pub skips : (before after : List Record) (copy : SheetName) (at : ℕ) → records_of log ≡ before ++ Done copy tray at ∷ after
      → (sheet : SheetRef) → IsAskedFor (arrivals log) tray sheet → IsTrue (is_earlier (arrivals log) sheet (sheet_ref copy))
      → IsReceivedOrBroken tray before sheet

-- what is to hold of every lawful log: its last schedule is legal, past included, and each tray of the machine receives
-- its line in order
pub record KeepsHeadline {T : Type 0} (machine : Machine) (log : List (Entry T)) (last : SessionState) : Type 0 where
  pub legal : IsLegal machine last.plans
  pub lines : (tray : List ℕ) → IsTrue (is_tray_name machine tray) → ReceivesInOrder log tray
