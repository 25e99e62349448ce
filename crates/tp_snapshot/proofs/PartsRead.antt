-- Copies, jobs and goals as they were read.
use Rattle.std.proofs.Common.{◌≡◌, ◌∙◌, ℕ, ◌<◌, ◌≤◌, ◌&&◌, ◌==◌, true, List, [], length, Contains, Option, Some, None, refl, subst, codes, nat_le}
use Rattle.std.specs.Prelude.{position}
use Rattle.std.specs.Str.{bytes_eq}
use Rattle.std.proofs.lemmas.Bool.{and_parts, eqb-true, leb-true}
use Rattle.std.proofs.lemmas.List.Quantifiers.{position-Some}
use Rattle.std.proofs.lemmas.List.Folds.{Any-from_list_any}
use Rattle.std.proofs.lemmas.Option.{none-some, same_Some}
use Rattle.serde_json.specs.Data.{Data, null, boolean, number, string, array, object}
use Rattle.serde_json.specs.Find.{as_bool, as_str}
use Rattle.tp_base.specs.NameText.{is_between}
use Rattle.tp_machine.specs.Rules.{is_among}
use Rattle.tp_machine.specs.declared.machine.Machine.{Machine}
use Rattle.tp_machine.specs.declared.parts.LocId.{LocId}
use Rattle.tp_schedule.specs.declared.parts.Goal.{Goal}
use Rattle.tp_schedule.specs.declared.parts.Goal.TheVariants.{Tray, Purge}
use Rattle.tp_schedule.specs.declared.parts.SheetId.{SheetId}
use Rattle.tp_words.proofs.Steps.{and_then_some}
use Rattle.tp_bounds.specs.Sheets.{sheet_of}
use Rattle.tp_jobs.specs.JobRefusals.{tray_at, tray_named}
use Rattle.tp_jobs.specs.declared.parts.Job.{Job}
use Rattle.tp_jobs.specs.declared.parts.WaitingCopy.{WaitingCopy}
use Rattle.tp_event_rules.specs.StateInvariants.{is_own_goal}
use Rattle.tp_snapshot.proofs.ReadFacts.{field-value, when_some}
use Rattle.tp_snapshot.specs.Copies.{copy_by, copy_in, copy_of, want_in}
use Rattle.tp_snapshot.specs.Jobs.{job_from, job_of, tray_in}
use Rattle.tp_snapshot.specs.Plans.{goal_in, goal_of}
use Rattle.tp_snapshot.specs.Values.{field_of, has_members, name_in}
use Rattle.tp_snapshot.specs.WaitingCopies.{wait_from, wait_of}

-- a copy of one of so many jobs, with its numbers in their ranges
pub record IsCopy (jobs : ℕ) (copy : SheetId) : Type 0 where
  pub known : copy.job < jobs
  pub sheets : (1 ≤ copy.number) × (copy.number ≤ 4096)
  pub copies : (1 ≤ copy.copy) × (copy.copy ≤ 4000000000)

between : (low high n : ℕ) → is_between low high n ≡ true → (low ≤ n) × (n ≤ high)
between low high n e =
    let (from, to) = and_parts (nat_le low n) (nat_le n high) e in
    (leb-true low n from, leb-true n high to)

pub copy-read : (names : List (List ℕ)) (d : Data) (copy : SheetId) → copy_in names d ≡ Some copy → IsCopy (length names) copy
unfolding copy_of
copy-read names d copy e =
    let (text, at, of) = and_then_some (as_str d) (copy_of names) copy e in
    let (sheet, named, more) = and_then_some (sheet_of text) _ copy of in
    let (job, place, made) = and_then_some (position (bytes_eq sheet.job) names) (copy_by sheet) copy more in
    let c : SheetId = record { job = job; number = sheet.number; copy = sheet.copy } in
    let (ranges, is) = when_some (is_between 1 4096 sheet.number && is_between 1 4000000000 sheet.copy) (Some c) copy made in
    let (sheets, copies) = and_parts (is_between 1 4096 sheet.number) (is_between 1 4000000000 sheet.copy) ranges in
    subst (IsCopy (length names)) (same_Some c copy is) (record {
      known = (position-Some (bytes_eq sheet.job) names job [] place).0;
      sheets = between 1 4096 sheet.number sheets;
      copies = between 1 4000000000 sheet.copy copies;
    })

pub waiting-read : (names : List (List ℕ)) (d : Data) (w : WaitingCopy) → wait_of names d ≡ Some w → IsCopy (length names) w.sheet
unfolding wait_of wait_from
waiting-read names d w e =
    let (two, from) = when_some (has_members 2 d) (wait_from names d) w e in
    let (sheet, at, more) = and_then_some (field_of (codes "sheet") (copy_in names) d) _ w from in
    let (want, wanted, made) = and_then_some (field_of (codes "want") want_in d) _ w more in
    let (v, is) = field-value (codes "sheet") (copy_in names) d sheet at in
    let x : WaitingCopy = record { sheet = sheet; want = want } in
    subst (λ (y : WaitingCopy). IsCopy (length names) y.sheet) (same_Some x w made) (copy-read names v sheet is)

among-contains : (trays : List LocId) (n : ℕ) → is_among trays (record { 0 = n }) ≡ true → Contains trays (record { 0 = n })
among-contains trays n e =
    let any = Any-from_list_any (λ (t : LocId). t.0 == n) trays e in
    subst (λ (k : ℕ). Contains trays (record { 0 = k })) (eqb-true any.1.0 n any.4) (any.0, any.2, any.3)

tray-there : (machine : Machine) (o : Option ℕ) (tray : LocId) → tray_at machine o ≡ Some tray → Contains machine.trays tray
tray-there machine None tray e = absurd (none-some tray e)
tray-there machine (Some n) tray e =
    let loc : LocId = record { 0 = n } in
    let (among, is) = when_some (is_among machine.trays loc) (Some loc) tray e in
    subst (λ (t : LocId). Contains machine.trays t) (same_Some loc tray is) (among-contains machine.trays n among)

pub job-read : (machine : Machine) (d : Data) (j : Job) → job_of machine d ≡ Some j → Contains machine.trays j.tray
unfolding job_of job_from
job-read machine d j e =
    let (three, from) = when_some (has_members 3 d) (job_from machine d) j e in
    let (broken, a, more) = and_then_some (field_of (codes "broken") as_bool d) _ j from in
    let (name, b, rest) = and_then_some (field_of (codes "name") name_in d) _ j more in
    let (tray, at, made) = and_then_some (field_of (codes "tray") (tray_in machine) d) _ j rest in
    let (v, is) = field-value (codes "tray") (tray_in machine) d tray at in
    let (text, named, location) = and_then_some (name_in v) (tray_named machine) tray is in
    let job : Job = record { name = name; tray = tray; broken = broken } in
    subst (λ (k : Job). Contains machine.trays k.tray) (same_Some job j made)
    (tray-there machine (position (bytes_eq text) machine.locations) tray location)

own-of : (tray : LocId) (o : Option LocId) (g : Goal) → goal_of tray o ≡ Some g → is_own_goal g tray.0 ≡ true
own-of tray None g e = absurd (none-some g e)
own-of tray (Some t) g e =
    let (same, is) = when_some (t.0 == tray.0) (Some (Tray t)) g e in
    subst (λ (x : Goal). is_own_goal x tray.0 ≡ true) (same_Some (Tray t) g is) same

pub goal-read : (machine : Machine) (tray : LocId) (d : Data) (g : Goal) → goal_in machine tray d ≡ Some g → is_own_goal g tray.0 ≡ true
goal-read machine tray null g e = subst (λ (x : Goal). is_own_goal x tray.0 ≡ true) (same_Some Purge g e) refl
goal-read machine tray (boolean b) g e = own-of tray (tray_in machine (boolean b)) g e
goal-read machine tray (number n) g e = own-of tray (tray_in machine (number n)) g e
goal-read machine tray (string s) g e = own-of tray (tray_in machine (string s)) g e
goal-read machine tray (array ds) g e = own-of tray (tray_in machine (array ds)) g e
goal-read machine tray (object ms) g e = own-of tray (tray_in machine (object ms)) g e
