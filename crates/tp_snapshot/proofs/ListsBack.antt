-- The lists of a standing, written and read back.
use Rattle.std.proofs.Common.{◌≡◌, ℕ, ◌<◌, ◌≤◌, ◌==◌, true, List, [], length, get_or, map, All, Contains, Option, Some, inl, inr, refl, sym, ap, subst, ◌∙◌, arith}
use Rattle.std.specs.Prelude.{position}
use Rattle.std.specs.Str.{bytes_eq}
use Rattle.std.proofs.lemmas.Bool.{eq-eqb, le-leb}
use Rattle.std.proofs.lemmas.List.{get_or-map, length-map}
use Rattle.std.proofs.lemmas.List.Elements.{All-contains}
use Rattle.std.proofs.lemmas.List.Folds.{list_any_at}
use Rattle.std.proofs.lemmas.Option.{slice_get-get_or, slice_get_cases}
use Rattle.serde_json.specs.Data.{Data, array, string}
use Rattle.serde_json.specs.Find.{get}
use Rattle.serde_json.specs.View.{items_of}
use Rattle.tp_machine.proofs.MachineFacts.{is_machine}
use Rattle.tp_machine.specs.Machines.{IsLocation}
use Rattle.tp_machine.specs.Rules.{is_among}
use Rattle.tp_machine.specs.declared.machine.Machine.{Machine}
use Rattle.tp_machine.specs.declared.parts.LocId.{LocId}
use Rattle.tp_jobs.specs.Backlogs.{names_of}
use Rattle.tp_jobs.specs.declared.parts.Job.{Job}
use Rattle.tp_jobs.specs.declared.parts.WaitingCopy.{WaitingCopy}
use Rattle.tp_words.proofs.SpelledWords.{name_spells}
use Rattle.tp_words.specs.Fields.{IsName}
use Rattle.tp_event_rules.specs.Labels.{location_name}
use Rattle.tp_snapshot.proofs.Back.{copy-back, each-back, position-at, want-back}
use Rattle.tp_snapshot.proofs.Seen.{values_of-items}
use Rattle.tp_snapshot.specs.Jobs.{DoNamesDiffer, job_from, job_of, tray_in}
use Rattle.tp_snapshot.specs.Values.{each_of}
use Rattle.tp_snapshot.specs.WaitingCopies.{wait_from, wait_of}
use Rattle.tp_snapshot.specs.Written.{job_data, wait_data}

-- the list at a key is read back where each of it is
pub each-told : {X : Type 0} (most : ℕ) (key : List ℕ) (show : X → Data) (read : Data → Option X) (xs : List X) (d : Data) → get key d ≡ Some (array (items_of (map show xs))) → length xs ≤ most → All (λ x. read (show x) ≡ Some x) xs → each_of most key read d ≡ Some xs
each-told most key show read xs d at few all = rw (at, values_of-items (map show xs), length-map, le-leb (length xs) most few) (each-back show read xs all)

-- a tray is read back
pub tray-back : (machine : Machine) (tray : LocId) → Contains machine.trays tray → tray_in machine (string (location_name machine tray)) ≡ Some tray
tray-back machine tray in' =
    let known : tray.0 < length machine.locations = All-contains (IsLocation machine) machine.trays tray (is_machine machine).trays in' in
    let name : List ℕ = get_or machine.locations tray.0 [] in
    let named : IsName name = (is_machine machine).location_names.0 tray.0 [] known in
    let at = position-at machine.locations tray.0 [] known (is_machine machine).location_names.1 in
    let among : is_among machine.trays (record { 0 = tray.0 }) ≡ true = tray-among in
    rw (slice_get-get_or machine.locations tray.0 [] known, name_spells.again name named, at, among) refl
  where
    tray-among : is_among machine.trays (record { 0 = tray.0 }) ≡ true
    tray-among =
        let (k, low, is) = in' in
        list_any_at (λ (p : LocId). p.0 == tray.0) machine.trays k tray low (eq-eqb (get_or machine.trays k tray).0 tray.0 (ap (λ (p : LocId). p.0) is))

pub job-back : (machine : Machine) (j : Job) → IsName j.name → Contains machine.trays j.tray → job_of machine (job_data machine j) ≡ Some j
unfolding job_of job_from
job-back machine j named in' = rw (name_spells.again j.name named, tray-back machine j.tray in') refl

-- the place of a job's name among the names
pub name-at : (jobs : List Job) (n : ℕ) (d : Job) → n < length jobs → DoNamesDiffer jobs → position (bytes_eq (get_or jobs n d).name) (names_of jobs) ≡ Some n
name-at jobs n d low apart =
    let is : get_or (names_of jobs) n d.name ≡ (get_or jobs n d).name = get_or-map (λ (j : Job). j.name) jobs n d d.name low in
    let size = length-map jobs (λ (j : Job). j.name) in
    subst (λ (name : List ℕ). position (bytes_eq name) (names_of jobs) ≡ Some n) is
    (position-at (names_of jobs) n d.name (omega (arith, size))
    (λ i k e before within. (λ same. apart i k d before (omega (arith, size, within)) (sym (read i e (omega (arith, size, within, before))) ∙ same ∙ read k e (omega (arith, size, within))))))
  where
    read : (i : ℕ) (e : List ℕ) → i < length jobs → get_or (names_of jobs) i e ≡ (get_or jobs i d).name
    read i e low = get_or-map (λ (j : Job). j.name) jobs i d e low

-- a waiting copy is read back
pub wait-back : (jobs : List Job) (w : WaitingCopy) → w.sheet.job < length jobs → DoNamesDiffer jobs → All (λ j. IsName j.name) jobs → IsName w.want.media → (1 ≤ w.sheet.number) × (w.sheet.number ≤ 4096) → (1 ≤ w.sheet.copy) × (w.sheet.copy ≤ 4000000000)
    → wait_of (names_of jobs) (wait_data jobs w) ≡ Some w
unfolding wait_of wait_from
wait-back jobs w low apart named media sheets copies =
    elim ((slice_get_cases jobs w.sheet.job).1) [
      | inl s ↦
          (let at : position (bytes_eq s.0.name) (names_of jobs) ≡ Some w.sheet.job = subst (λ (k : Job). position (bytes_eq k.name) (names_of jobs) ≡ Some w.sheet.job) s.3 (name-at jobs w.sheet.job s.0 low apart) in
          let is : IsName s.0.name = subst (λ (k : Job). IsName k.name) s.3 (named w.sheet.job s.0 low) in
          rw (s.2, copy-back (names_of jobs) s.0.name w.sheet is at sheets copies, want-back w.want media) refl)
      | inr s ↦ absurd (omega (arith, s.0, low))
    ]
