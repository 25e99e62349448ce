-- What the records so far and the state have to do with one another, and how a move of the clock keeps it.
use Rattle.std.proofs.Common.{◌≡◌, ℕ, suc, zero, ◌<◌, ◌≤◌, inl, inr, Bool, true, false, ◌&&◌, ◌||◌, List, [], ◌∷◌, ◌++◌, map, length, refl, sym, ap, ◌∙◌, arith, All, AllPairs, Contains, IsTrue, subst, nat_lt, nat_le, slice_get, Option, Some, None}
use Rattle.std.specs.Prelude.{◌==◌}
use Rattle.std.proofs.lemmas.Bool.Decides.{nat_tests}
use Rattle.std.proofs.lemmas.Grind.{flat_map-append}
use Rattle.std.proofs.lemmas.List.Elements.{All-contains, Contains-append_left, Contains-append_right, Contains-append_cases}
use Rattle.std.proofs.lemmas.Option.{slice_get-get_or, slice_get_within}
use Rattle.tp_machine.specs.declared.machine.Machine.{Machine}
use Rattle.tp_jobs.specs.Backlogs.{tray_of, tray_in}
use Rattle.tp_jobs.specs.JobRefusals.{is_tray_name}
use Rattle.tp_jobs.specs.declared.parts.Job.{Job}
use Rattle.tp_jobs.specs.declared.parts.WaitingCopy.{WaitingCopy}
use Rattle.tp_schedule.proofs.Membership.{Contains-map, Contains-map_from, Contains-filter, Contains-filter_from}
use Rattle.tp_schedule.specs.Plans.{end_of_plan, is_before}
use Rattle.tp_schedule.specs.declared.parts.Plan.{Plan}
use Rattle.tp_schedule.specs.declared.parts.SheetId.{SheetId}
use Rattle.tp_schedule.specs.declared.records.Record.{Record}
use Rattle.tp_schedule.specs.declared.records.Record.TheVariants.{Broken, Done}
use Rattle.tp_schedule.specs.declared.records.SheetName.{SheetName}
use Rattle.tp_event_rules.specs.Clock.{clock_records}
use Rattle.tp_event_rules.specs.StateInvariants.{StandsBehind, is_copy_of, open_copies, tray_plans, total_of}
use Rattle.tp_event_rules.specs.Labels.{job_name, job_name_in, label, location_name}
use Rattle.tp_event_rules.specs.Lines.{is_job_broken, is_same_line}
use Rattle.tp_event_rules.specs.Moments.{is_tray_plan}
use Rattle.tp_event_rules.specs.Deliveries.{Arrival, IsAskedFor, IsReceivedOrBroken, SheetRef, arrival_of, is_earlier, received, received_by, sheet_ref}
use Rattle.tp_event_rules.specs.States.{SessionState}
use Rattle.tp_event_rules.proofs.ListFacts.{Any-contains}
use Rattle.tp_outage_laws.specs.Through.{KeepsOrder}
use Rattle.tp_headline.proofs.Delivered.{IsDelivered, IsFor, by-order, ends-first, known-plan, location-of-both}
use Rattle.tp_headline.proofs.Numbers.{AreFirst, AreNamedApart, arrival-at, arrived, job-at, number-of}
use Rattle.tp_headline.proofs.Sorted.{append-split}
use Rattle.tp_headline.proofs.Tells.{IsDoneAfter, clock-split}

-- only sheets of broken jobs are skipped
abbrev pub Skips : List Arrival → List ℕ → List Record → Type 0
Skips all tray records = (before after : List Record) (copy : SheetName) (at : ℕ) → records ≡ before ++ Done copy tray at ∷ after
    → (sheet : SheetRef) → IsAskedFor all tray sheet → IsTrue (is_earlier all sheet (sheet_ref copy)) → IsReceivedOrBroken tray before sheet

-- a copy that the records tell to be received
pub record IsReceived (machine : Machine) (s : SessionState) (tray : List ℕ) (copy : SheetName) : Type 0 where
  pub c : SheetId
  pub delivered : IsDelivered s.now s.plans c
  pub for : IsFor machine s.jobs tray c
  pub is : label s.jobs c ≡ copy

-- the records tell the jobs that broke and the copies that were delivered; at each tray these rise in the order of sheets,
-- and only sheets of broken jobs are skipped
pub record Follows (machine : Machine) (totals : List ℕ) (all : List Arrival) (records : List Record) (s : SessionState) : Type 0 where
  pub first : AreFirst machine totals s.jobs all
  pub broke : (n : ℕ) → n < length s.jobs → is_job_broken s.jobs n ≡ true → Contains records (Broken (job_name s.jobs n))
  pub to : (tray : List ℕ) → is_tray_name machine tray ≡ true → (c : SheetId) → IsDelivered s.now s.plans c → IsFor machine s.jobs tray c → Contains (received tray records) (label s.jobs c)
  pub from : (tray : List ℕ) → is_tray_name machine tray ≡ true → (copy : SheetName) → Contains (received tray records) copy → IsReceived machine s tray copy
  pub rises : (tray : List ℕ) → is_tray_name machine tray ≡ true → AllPairs (λ a b. IsTrue (is_earlier all (sheet_ref a) (sheet_ref b))) (received tray records)
  pub skips : (tray : List ℕ) → is_tray_name machine tray ≡ true → Skips all tray records

pub received-append : (tray : List ℕ) (xs ys : List Record) → received tray (xs ++ ys) ≡ received tray xs ++ received tray ys
received-append tray xs ys = flat_map-append (received_by tray) xs ys

-- more records, where each delivery among them skips none
pub skips-more : (all : List Arrival) (tray : List ℕ) (xs ys : List Record) → Skips all tray xs
    → ((before after : List Record) (copy : SheetName) (at : ℕ) → ys ≡ before ++ Done copy tray at ∷ after
    → (sheet : SheetRef) → IsAskedFor all tray sheet → IsTrue (is_earlier all sheet (sheet_ref copy)) → IsReceivedOrBroken tray (xs ++ before) sheet)
    → Skips all tray (xs ++ ys)
skips-more all tray xs ys skips more before after copy at e sheet asked earlier = elim (append-split xs ys before (Done copy tray at) after e) [
  | inl i ↦ skips before i.after copy at i.is sheet asked earlier
  | inr i ↦ subst (λ l. IsReceivedOrBroken tray l sheet) (sym i.firsts) (more i.between i.after copy at i.is sheet asked earlier)
]

pub received-later : (tray : List ℕ) (xs ys : List Record) (copy : SheetName) → Contains (received tray ys) copy → Contains (received tray (xs ++ ys)) copy
received-later tray xs ys copy in' = subst (λ l. Contains l copy) (sym (received-append tray xs ys)) (Contains-append_right (received tray xs) (received tray ys) copy in')

pub received-sooner : (tray : List ℕ) (xs ys : List Record) (copy : SheetName) → Contains (received tray xs) copy → Contains (received tray (xs ++ ys)) copy
received-sooner tray xs ys copy in' = subst (λ l. Contains l copy) (sym (received-append tray xs ys)) (Contains-append_left (received tray xs) (received tray ys) copy in')

module _ (machine : Machine) (totals : List ℕ) (s : SessionState) (keeps : KeepsOrder machine totals s) (all : List Arrival) (apart : AreNamedApart all) (records : List Record) (f : Follows machine totals all records s) where
  -- a sheet that is asked for, by its job's number
  record IsSheetOf (tray : List ℕ) (sheet : SheetRef) (n : ℕ) : Type 0 where
    j : Job
    at : slice_get s.jobs n ≡ Some j
    name : job_name s.jobs n ≡ sheet.job
    for : location_name machine j.tray ≡ tray
    last : sheet.number ≤ total_of totals n
    arrival : arrival_of all sheet.job ≡ n

  sheet-of : (tray : List ℕ) (sheet : SheetRef) (n : ℕ) → IsAskedFor all tray sheet → n < length s.jobs → arrival_of all sheet.job ≤ n → (m : ℕ) × IsSheetOf tray sheet m
  sheet-of tray sheet n asked within early = (asked.arrived.0, go (slice_get s.jobs asked.arrived.0) refl) where
    there : slice_get all asked.arrived.0 ≡ Some asked.job
    there = slice_get-get_or all asked.arrived.0 asked.job asked.arrived.1 ∙ ap (λ (x : Arrival). Some x) asked.arrived.2

    place : arrival_of all sheet.job ≡ asked.arrived.0
    place = ap (arrival_of all) (sym asked.name) ∙ arrival-at all asked.arrived.0 asked.job apart there

    go : (o : Option Job) → slice_get s.jobs asked.arrived.0 ≡ o → IsSheetOf tray sheet asked.arrived.0
    go None e = absurd (missing s.jobs asked.arrived.0 (let p = place in omega arith) e) where
      missing : (l : List Job) (m : ℕ) → m < length l → slice_get l m ≡ None → ⊥
      missing [] m w e = absurd (omega arith)
      missing (x ∷ l) zero w e = cc
      missing (x ∷ l) (suc m) w e = missing l m (omega arith) e
    go (Some j) e =
        let same : asked.job ≡ arrived machine j (total_of totals asked.arrived.0) = let at = job-at machine totals s.jobs all f.first apart asked.arrived.0 j e in let here = there in cc in
        record {
          j = j;
          at = e;
          name = ap job_name_in e ∙ ap (λ (a : Arrival). a.name) (sym same) ∙ asked.name;
          for = ap (λ (a : Arrival). a.tray) (sym same) ∙ asked.to;
          last = subst (λ (a : Arrival). sheet.number ≤ a.sheets) same asked.last;
          arrival = place;
        }

  module _ (to : ℕ) (tray : List ℕ) (tray_is : is_tray_name machine tray ≡ true) where
    -- a sheet before a delivery of the clock was received, or its job broke
    pub skips-clock : (before after : List Record) (copy : SheetName) (at : ℕ) → clock_records machine s to ≡ before ++ Done copy tray at ∷ after
        → (sheet : SheetRef) → IsAskedFor all tray sheet → IsTrue (is_earlier all sheet (sheet_ref copy)) → IsReceivedOrBroken tray (records ++ before) sheet
    skips-clock before after copy at e sheet asked earlier = broken-or (is_job_broken s.jobs of.0) refl where
      d : IsDoneAfter machine totals s keeps to tray tray_is all f.first apart before copy
      d = clock-split machine totals s keeps to tray tray_is all f.first apart before after copy at e

      p-known : d.p.sheet.job < length s.jobs
      p-known = let k = known-plan machine totals s keeps d.p d.there in grind (arith, nat_tests)

      numbers : (nat_lt (arrival_of all sheet.job) d.p.sheet.job || ((arrival_of all sheet.job == d.p.sheet.job) && nat_lt sheet.number d.p.sheet.number)) ≡ true
      numbers =
          let is : arrival_of all copy.job ≡ d.p.sheet.job = ap (λ (c : SheetName). arrival_of all c.job) (sym d.brought.is) ∙ number-of machine totals s.jobs all f.first apart d.p.sheet.job p-known in
          let number : copy.number ≡ d.p.sheet.number = ap (λ (c : SheetName). c.number) (sym d.brought.is) in
          subst (λ n. (nat_lt (arrival_of all sheet.job) n || ((arrival_of all sheet.job == n) && nat_lt sheet.number d.p.sheet.number)) ≡ true) is
          (subst (λ n. (nat_lt (arrival_of all sheet.job) (arrival_of all copy.job) || ((arrival_of all sheet.job == arrival_of all copy.job) && nat_lt sheet.number n)) ≡ true) number earlier)

      early : arrival_of all sheet.job ≤ d.p.sheet.job
      early = let n = numbers in low (arrival_of all sheet.job) d.p.sheet.job sheet.number d.p.sheet.number n where
        low : (a b x y : ℕ) → (nat_lt a b || ((a == b) && nat_lt x y)) ≡ true → a ≤ b
        low a b x y n = grind (arith, nat_tests)

      of : (m : ℕ) × IsSheetOf tray sheet m
      of = sheet-of tray sheet d.p.sheet.job asked p-known early

      m-within : of.0 < length s.jobs
      m-within = slice_get_within s.jobs of.0 of.1.j of.1.at

      -- a copy of the sheet stands before the one that is delivered
      before-it : (c : SheetId) → is_copy_of of.0 sheet.number c ≡ true → is_before c d.p.sheet ≡ true
      before-it c is = lower (arrival_of all sheet.job) sheet.number c d.p.sheet (subst (λ n. is_copy_of n sheet.number c ≡ true) (sym of.1.arrival) is) numbers where
        lower : (a x : ℕ) (c e : SheetId) → is_copy_of a x c ≡ true → (nat_lt a e.job || ((a == e.job) && nat_lt x e.number)) ≡ true → is_before c e ≡ true
        lower a x c e is n = grind (arith, nat_tests)

      job-is : (c : SheetId) → is_copy_of of.0 sheet.number c ≡ true → c.job ≡ of.0
      job-is c is = grind (arith, nat_tests)

      number-is : (c : SheetId) → is_copy_of of.0 sheet.number c ≡ true → c.number ≡ sheet.number
      number-is c is = grind (arith, nat_tests)

      tray-is : (c : SheetId) → is_copy_of of.0 sheet.number c ≡ true → tray_of s.jobs c ≡ of.1.j.tray
      tray-is c is = ap (λ n. tray_in (slice_get s.jobs n)) (job-is c is) ∙ ap tray_in of.1.at

      for-is : (c : SheetId) → is_copy_of of.0 sheet.number c ≡ true → IsFor machine s.jobs tray c
      for-is c is = ap (location_name machine) (tray-is c is) ∙ of.1.for

      ref-is : (c : SheetId) → is_copy_of of.0 sheet.number c ≡ true → sheet_ref (label s.jobs c) ≡ sheet
      ref-is c is = let name : job_name s.jobs c.job ≡ sheet.job = ap (job_name s.jobs) (job-is c is) ∙ of.1.name in
          let number = number-is c is in
          λ i. record { job = name i; number = number i }

      got : (l : List Record) (c : SheetId) → is_copy_of of.0 sheet.number c ≡ true → Contains (received tray l) (label s.jobs c) → Contains (map sheet_ref (received tray l)) sheet
      got l c is in' = subst (Contains (map sheet_ref (received tray l))) (ref-is c is) (Contains-map sheet_ref (received tray l) (label s.jobs c) in')

      -- the line of both
      same-line : (c : SheetId) → is_copy_of of.0 sheet.number c ≡ true → (tray_of s.jobs c).0 ≡ (tray_of s.jobs d.p.sheet).0
      same-line c is = ap (λ l. l.0) (tray-is c is ∙ location) where
        location : of.1.j.tray ≡ tray_of s.jobs d.p.sheet
        location = location-of-both machine totals s keeps of.1.j of.0 of.1.at d.p d.there (of.1.for ∙ sym d.brought.for)

      open-is : (c : SheetId) → Contains (open_copies s) c → is_copy_of of.0 sheet.number c ≡ true → IsReceivedOrBroken tray (records ++ before) sheet
      open-is c in' is = elim (Contains-append_cases (map (λ w. w.sheet) s.waiting) (map (λ p. p.sheet) (tray_plans s.plans)) c in') [
        | inl waits ↦
            let w = Contains-map_from (λ w. w.sheet) s.waiting c waits in
            absurd (waits-none w.0 w.1 (subst (λ x. is_copy_of of.0 sheet.number x ≡ true) w.2 is))
        | inr planned ↦
            let q = Contains-map_from (λ p. p.sheet) (tray_plans s.plans) c planned in
            let from = Contains-filter_from is_tray_plan s.plans q.0 q.1 in
            planned-is q.0 from.0 from.1 (subst (λ x. is_copy_of of.0 sheet.number x ≡ true) q.2 is)
      ] where
        waits-none : (w : WaitingCopy) → Contains s.waiting w → is_copy_of of.0 sheet.number w.sheet ≡ true → ⊥
        waits-none w in'' is' =
            let behind = All-contains (λ w. All (StandsBehind s.jobs w) (tray_plans s.plans)) s.waiting w keeps.lines.line in'' in
            let line : is_same_line s.jobs w.sheet d.p.sheet ≡ true = let same = same-line w.sheet is' in grind (arith, nat_tests) in
            let after = All-contains (StandsBehind s.jobs w) (tray_plans s.plans) d.p behind (Contains-filter is_tray_plan s.plans d.p d.there d.brought.to_tray) line in
            asymmetric w.sheet d.p.sheet (before-it w.sheet is') after where
              asymmetric : (a b : SheetId) → is_before a b ≡ true → is_before b a ≡ true → ⊥
              asymmetric a b e f = grind (arith, nat_tests)

        planned-is : (q : Plan) → Contains s.plans q → is_tray_plan q ≡ true → is_copy_of of.0 sheet.number q.sheet ≡ true → IsReceivedOrBroken tray (records ++ before) sheet
        planned-is q in'' to_tray is' = ended (nat_le (end_of_plan q) s.now) refl where
          for : IsFor machine s.jobs tray q.sheet
          for = for-is q.sheet is'

          sooner : end_of_plan q < end_of_plan d.p
          sooner = let first = before-it q.sheet is' in ends-first machine totals s keeps tray q d.p in'' d.there to_tray d.brought.to_tray for d.brought.for first (by-order machine totals s keeps q d.p in'' d.there first)

          ended : (b : Bool) → nat_le (end_of_plan q) s.now ≡ b → IsReceivedOrBroken tray (records ++ before) sheet
          ended true e =
              let delivered : IsDelivered s.now s.plans q.sheet = record { p = q; there = in''; of = refl; to_tray = to_tray; past = grind (arith, nat_tests) } in
              inl (got (records ++ before) q.sheet is' (received-sooner tray records before (label s.jobs q.sheet) (f.to tray tray_is q.sheet delivered for)))
          ended false e =
              inl (got (records ++ before) q.sheet is' (received-later tray records before (label s.jobs q.sheet) (d.sooner q in'' to_tray for (grind (arith, nat_tests)) sooner)))

      broken-or : (b : Bool) → is_job_broken s.jobs of.0 ≡ b → IsReceivedOrBroken tray (records ++ before) sheet
      broken-or true e = inr (Contains-append_left records before (Broken sheet.job) (subst (λ n. Contains records (Broken n)) of.1.name (f.broke of.0 m-within e)))
      broken-or false e =
          let each = keeps.sheets.each of.0 sheet.number m-within e asked.first of.1.last in
          let c = Any-contains (λ copy. IsTrue (is_copy_of of.0 sheet.number copy)) (open_copies s) each in
          open-is c.0 c.1 c.2
