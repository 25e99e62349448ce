-- Each part of a turn keeps what the records and the state have to do with one another.
use Rattle.std.proofs.Common.{◌≡◌, ℕ, ◌+◌, ◌<◌, ◌≤◌, ◌⊎◌, inl, inr, Bool, true, false, List, [], ◌∷◌, ◌++◌, map, length, refl, sym, ap, ◌∙◌, arith, All, AllPairs, Contains, IsTrue, subst, nat_lt, nat_le, slice_get}
use Rattle.std.proofs.lemmas.Bool.Decides.{nat_tests}
use Rattle.std.proofs.lemmas.List.Elements.{All-nil, All-head, All-tail, All-append, All-contains, Contains-append_left, Contains-append_right, Contains-append_cases}
use Rattle.std.proofs.lemmas.List.{length-append, append-nil}
use Rattle.tp_base.proofs.SliceFacts.{slice_get_left, slice_get_last}
use Rattle.tp_machine.specs.declared.machine.Machine.{Machine}
use Rattle.tp_jobs.specs.Backlogs.{tray_of, tray_in}
use Rattle.tp_jobs.specs.JobRefusals.{is_tray_name}
use Rattle.tp_jobs.specs.declared.parts.Job.{Job}
use Rattle.tp_schedule.proofs.Membership.{All-from_contains, Contains-here, Contains-map, Contains-map_from}
use Rattle.tp_schedule.proofs.Pairs.{AllPairs-append}
use Rattle.tp_schedule.specs.Plans.{end_of_plan}
use Rattle.tp_schedule.specs.declared.parts.Plan.{Plan}
use Rattle.tp_schedule.specs.declared.parts.SheetId.{SheetId}
use Rattle.tp_schedule.specs.declared.records.Record.{Record}
use Rattle.tp_schedule.specs.declared.records.Record.TheVariants.{Broken, Done}
use Rattle.tp_schedule.specs.declared.records.SheetName.{SheetName}
use Rattle.tp_event_rules.specs.Clock.{clock_move, clock_records, released_until}
use Rattle.tp_event_rules.specs.Labels.{job_name, job_name_in, label, location_name}
use Rattle.tp_event_rules.specs.Lines.{is_job_broken, broken_in}
use Rattle.tp_event_rules.specs.StateInvariants.{is_known}
use Rattle.tp_event_rules.specs.Moments.{is_tray_plan, release_until}
use Rattle.tp_event_rules.specs.Deliveries.{Arrival, is_earlier, received, received_by, sheet_ref}
use Rattle.tp_event_rules.specs.States.{SessionState}
use Rattle.tp_outage_laws.proofs.JobFacts.{unbroken, same-name, same-tray, same-length}
use Rattle.tp_outage_laws.specs.Through.{KeepsOrder}
use Rattle.tp_headline.proofs.Delivered.{IsDelivered, IsFor, first-earlier, known-plan, told-earlier}
use Rattle.tp_headline.proofs.Follows.{Follows, received-append, received-later, received-sooner, skips-clock, skips-more}
use Rattle.tp_headline.proofs.Numbers.{AreFirst, AreNamedApart, arrived, told_jobs}
use Rattle.tp_headline.proofs.Tells.{clock-from, clock-rises, clock-to}

-- A move of the clock.

delivered-clock : (machine : Machine) (to : ℕ) (s : SessionState) (c : SheetId) → s.now ≤ to → IsDelivered s.now s.plans c → IsDelivered to (released_until machine to s.plans) c
delivered-clock machine to s c low d = record {
  p = release_until (to + machine.lead) d.p;
  there = Contains-map (release_until (to + machine.lead)) s.plans d.p d.there;
  of = d.of;
  to_tray = d.to_tray;
  past = let past = d.past in omega arith;
}

brought-clock : (machine : Machine) (to : ℕ) (s : SessionState) (p : Plan) → Contains s.plans p → is_tray_plan p ≡ true → end_of_plan p ≤ to → IsDelivered to (released_until machine to s.plans) p.sheet
brought-clock machine to s p in' to_tray high = record {
  p = release_until (to + machine.lead) p;
  there = Contains-map (release_until (to + machine.lead)) s.plans p in';
  of = refl;
  to_tray = to_tray;
  past = high;
}

pub follows-clock : (machine : Machine) (totals : List ℕ) (all : List Arrival) (records : List Record) (to : ℕ) (s : SessionState) → AreNamedApart all → s.now ≤ to → KeepsOrder machine totals s
    → Follows machine totals all records s → Follows machine totals all (records ++ clock_records machine s to) (clock_move machine to s).state
follows-clock machine totals all records to s apart low keeps f = record {
  first = f.first;
  broke = λ n within e. Contains-append_left records (clock_records machine s to) (Broken (job_name s.jobs n)) (f.broke n within e);
  to = came;
  from = λ tray tray_is copy in'. elim (Contains-append_cases (received tray records) (received tray (clock_records machine s to)) copy
      (subst (λ l. Contains l copy) (received-append tray records (clock_records machine s to)) in')) [
        | inl before ↦
            let r = f.from tray tray_is copy before in
            record { c = r.c; delivered = delivered-clock machine to s r.c low r.delivered; for = r.for; is = r.is }
        | inr now ↦
            let r = clock-from machine totals s keeps to tray tray_is copy now in
            record { c = r.p.sheet; delivered = brought-clock machine to s r.p r.there r.brought.to_tray r.brought.until; for = r.brought.for; is = r.brought.is }
      ];
  rises = λ tray tray_is. subst (AllPairs (λ a b. IsTrue (is_earlier all (sheet_ref a) (sheet_ref b)))) (sym (received-append tray records (clock_records machine s to)))
      (AllPairs-append (λ a b. IsTrue (is_earlier all (sheet_ref a) (sheet_ref b))) (received tray records) (received tray (clock_records machine s to)) (f.rises tray tray_is)
      (clock-rises machine totals s keeps to tray tray_is all f.first apart)
      (All-from_contains (λ a. All (λ b. IsTrue (is_earlier all (sheet_ref a) (sheet_ref b))) (received tray (clock_records machine s to))) (received tray records) (λ a in'.
      All-from_contains (λ b. IsTrue (is_earlier all (sheet_ref a) (sheet_ref b))) (received tray (clock_records machine s to)) (λ b in''. across tray tray_is a b in' in''))));
  skips = λ tray tray_is. skips-more all tray records (clock_records machine s to) (f.skips tray tray_is) (skips-clock machine totals s keeps all apart records f to tray tray_is);
} where
  came : (tray : List ℕ) → is_tray_name machine tray ≡ true → (c : SheetId) → IsDelivered to (released_until machine to s.plans) c → IsFor machine s.jobs tray c → Contains (received tray (records ++ clock_records machine s to)) (label s.jobs c)
  came tray tray_is c d for = from (Contains-map_from (release_until (to + machine.lead)) s.plans d.p d.there) where
    from : ((p : Plan) × Contains s.plans p × (d.p ≡ release_until (to + machine.lead) p)) → Contains (received tray (records ++ clock_records machine s to)) (label s.jobs c)
    from (p, in', is) = go (nat_le (end_of_plan p) s.now) refl where
      sheet : p.sheet ≡ c
      sheet = ap (λ (x : Plan). x.sheet) (sym is) ∙ d.of

      to_tray : is_tray_plan p ≡ true
      to_tray = ap is_tray_plan (sym is) ∙ d.to_tray

      high : end_of_plan p ≤ to
      high = subst (λ (x : Plan). end_of_plan x ≤ to) is d.past

      go : (b : Bool) → nat_le (end_of_plan p) s.now ≡ b → Contains (received tray (records ++ clock_records machine s to)) (label s.jobs c)
      go true e =
          let old : IsDelivered s.now s.plans c = record { p = p; there = in'; of = sheet; to_tray = to_tray; past = grind (arith, nat_tests) } in
          received-sooner tray records (clock_records machine s to) (label s.jobs c) (f.to tray tray_is c old for)
      go false e = received-later tray records (clock_records machine s to) (label s.jobs c)
          (subst (λ x. Contains (received tray (clock_records machine s to)) (label s.jobs x)) sheet
          (told (subst (IsFor machine s.jobs tray) (sym sheet) for))) where
            told : IsFor machine s.jobs tray p.sheet → Contains (received tray (clock_records machine s to)) (label s.jobs p.sheet)
            told for' = clock-to machine totals s keeps to tray tray_is p in' to_tray for' (grind (arith, nat_tests)) high

  across : (tray : List ℕ) → is_tray_name machine tray ≡ true → (a b : SheetName) → Contains (received tray records) a → Contains (received tray (clock_records machine s to)) b → is_earlier all (sheet_ref a) (sheet_ref b) ≡ true
  across tray tray_is a b in' in'' =
      let r = f.from tray tray_is a in' in
      let p = r.delivered.p in
      let q = clock-from machine totals s keeps to tray tray_is b in'' in
      let for : IsFor machine s.jobs tray p.sheet = subst (IsFor machine s.jobs tray) (sym r.delivered.of) r.for in
      let past : end_of_plan p ≤ s.now = r.delivered.past in
      let after : s.now < end_of_plan q.p = q.brought.after in
      let before = first-earlier machine totals s keeps tray p q.p r.delivered.there q.there r.delivered.to_tray q.brought.to_tray for q.brought.for (omega arith) in
      let earlier = told-earlier machine totals s keeps all f.first apart p q.p r.delivered.there q.there r.delivered.to_tray q.brought.to_tray before in
      let a-is : label s.jobs p.sheet ≡ a = ap (label s.jobs) r.delivered.of ∙ r.is in
      subst (λ x. is_earlier all (sheet_ref x) (sheet_ref b) ≡ true) a-is (subst (λ x. is_earlier all (sheet_ref (label s.jobs p.sheet)) (sheet_ref x) ≡ true) q.brought.is earlier)

-- A part at one moment that tells no delivery.

abbrev pub is_done : Record → Bool
is_done (Done copy place at) = true
is_done _ = false

abbrev pub IsNoDelivery : Record → Type 0
IsNoDelivery r = is_done r ≡ false

abbrev pub AreNoDeliveries : List Record → Type 0
AreNoDeliveries records = All IsNoDelivery records

-- names, trays and sheets of the jobs stay; a job that is broken was, or is reported so; and the same copies are delivered
pub record IsQuiet (s s' : SessionState) (records : List Record) : Type 0 where
  pub now : s'.now ≡ s.now
  pub jobs : map unbroken s'.jobs ≡ map unbroken s.jobs
  pub broke : (n : ℕ) → is_job_broken s'.jobs n ≡ true → (is_job_broken s.jobs n ≡ true) ⊎ Contains records (Broken (job_name s.jobs n))
  pub to : (c : SheetId) → IsDelivered s.now s.plans c → IsDelivered s'.now s'.plans c
  pub from : (c : SheetId) → IsDelivered s'.now s'.plans c → IsDelivered s.now s.plans c
  pub none : AreNoDeliveries records

same-label : (jobs jobs' : List Job) → map unbroken jobs' ≡ map unbroken jobs → (c : SheetId) → label jobs' c ≡ label jobs c
same-label jobs jobs' e c = ap (λ name. record { job = name; number = c.number; copy = c.copy }) (same-name jobs jobs' e c.job)

-- as a log tells them, broken or not
arrived-unbroken : (machine : Machine) (totals : List ℕ) (jobs : List Job) → told_jobs machine totals (map unbroken jobs) ≡ told_jobs machine totals jobs
arrived-unbroken machine totals [] = refl
arrived-unbroken machine [] (j ∷ jobs) = ap (λ l. arrived machine j 0 ∷ l) (arrived-unbroken machine [] jobs)
arrived-unbroken machine (n ∷ totals) (j ∷ jobs) = ap (λ l. arrived machine j n ∷ l) (arrived-unbroken machine totals jobs)

pub same-arrived : (machine : Machine) (totals : List ℕ) (jobs jobs' : List Job) → map unbroken jobs' ≡ map unbroken jobs → told_jobs machine totals jobs' ≡ told_jobs machine totals jobs
same-arrived machine totals jobs jobs' e = sym (arrived-unbroken machine totals jobs') ∙ ap (told_jobs machine totals) e ∙ arrived-unbroken machine totals jobs

none-told : (tray : List ℕ) (records : List Record) → AreNoDeliveries records → received tray records ≡ []
none-told tray [] none = refl
none-told tray (r ∷ records) none = ap (λ l. l ++ received tray records) (go r (All-head IsNoDelivery r records none)) ∙ none-told tray records (All-tail IsNoDelivery r records none) where
  go : (r : Record) → is_done r ≡ false → received_by tray r ≡ []
  go (Done copy place at) e = absurd (cc)
  go _ e = refl

pub follows-quiet : (machine : Machine) (totals : List ℕ) (all : List Arrival) (records rs : List Record) (s s' : SessionState) → IsQuiet s s' rs → Follows machine totals all records s → Follows machine totals all (records ++ rs) s'
follows-quiet machine totals all records rs s s' q f = record {
  first = record { more = f.first.more; is = f.first.is ∙ ap (λ l. l ++ f.first.more) (sym (same-arrived machine totals s.jobs s'.jobs q.jobs)) };
  broke = λ n within e. elim (q.broke n e) [
    | inl before ↦ subst (λ name. Contains (records ++ rs) (Broken name)) (sym (same-name s.jobs s'.jobs q.jobs n))
        (Contains-append_left records rs (Broken (job_name s.jobs n)) (f.broke n (let long = same-length s.jobs s'.jobs q.jobs in omega arith) before))
    | inr now ↦ subst (λ name. Contains (records ++ rs) (Broken name)) (sym (same-name s.jobs s'.jobs q.jobs n)) (Contains-append_right records rs (Broken (job_name s.jobs n)) now)
  ];
  to = λ tray tray_is c d for. received-sooner tray records rs (label s'.jobs c)
      (subst (Contains (received tray records)) (sym (same-label s.jobs s'.jobs q.jobs c)) (f.to tray tray_is c (q.from c d) (ap (location_name machine) (sym (same-tray s.jobs s'.jobs q.jobs c)) ∙ for)));
  from = λ tray tray_is copy in'.
      let r = f.from tray tray_is copy (subst (λ l. Contains l copy) (all-received tray) in') in
      record { c = r.c; delivered = q.to r.c r.delivered; for = ap (location_name machine) (same-tray s.jobs s'.jobs q.jobs r.c) ∙ r.for; is = same-label s.jobs s'.jobs q.jobs r.c ∙ r.is };
  rises = λ tray tray_is. subst (AllPairs (λ a b. IsTrue (is_earlier all (sheet_ref a) (sheet_ref b)))) (sym (all-received tray)) (f.rises tray tray_is);
  skips = λ tray tray_is. skips-more all tray records rs (f.skips tray tray_is)
      (λ before after copy at e. absurd (
      let none = All-contains IsNoDelivery rs (Done copy tray at) q.none (subst (λ l. Contains l (Done copy tray at)) (sym e) (Contains-append_right before (Done copy tray at ∷ after) (Done copy tray at) (Contains-here (Done copy tray at) after))) in cc));
} where
  all-received : (tray : List ℕ) → received tray (records ++ rs) ≡ received tray records
  all-received tray = received-append tray records rs ∙ ap (λ l. received tray records ++ l) (none-told tray rs q.none) ∙ append-nil (received tray records)

pub quiet-refl : (s : SessionState) → IsQuiet s s []
quiet-refl s = record { now = refl; jobs = refl; broke = λ n e. inl e; to = λ c d. d; from = λ c d. d; none = All-nil IsNoDelivery }

pub quiet-trans : (s t u : SessionState) (rs rs' : List Record) → IsQuiet s t rs → IsQuiet t u rs' → IsQuiet s u (rs ++ rs')
quiet-trans s t u rs rs' q q' = record {
  now = q'.now ∙ q.now;
  jobs = q'.jobs ∙ q.jobs;
  broke = λ n e. elim (q'.broke n e) [
    | inl before ↦ elim (q.broke n before) [
      | inl first ↦ inl first
      | inr told ↦ inr (Contains-append_left rs rs' (Broken (job_name s.jobs n)) told)
    ]
    | inr told ↦ inr (Contains-append_right rs rs' (Broken (job_name s.jobs n)) (subst (λ name. Contains rs' (Broken name)) (same-name s.jobs t.jobs q.jobs n) told))
  ];
  to = λ c d. q'.to c (q.to c d);
  from = λ c d. q.from c (q'.from c d);
  none = All-append IsNoDelivery rs rs' q.none q'.none;
}

-- A job comes.

pub follows-job : (machine : Machine) (totals totals' : List ℕ) (all : List Arrival) (records : List Record) (s s' : SessionState) (j : Job) → j.broken ≡ false → s'.jobs ≡ s.jobs ++ j ∷ [] → s'.now ≡ s.now → s'.plans ≡ s.plans
    → AreFirst machine totals' s'.jobs all → KeepsOrder machine totals s → Follows machine totals all records s → Follows machine totals' all records s'
follows-job machine totals totals' all records s s' j whole jobs now plans first keeps f = record {
  first = first;
  broke = λ n within e. go n (nat_lt n (length s.jobs)) refl e within;
  to = λ tray tray_is c d for.
      let old = before c d in
      let known = known-c c old in
      subst (Contains (received tray records)) (sym (label-same c known)) (f.to tray tray_is c old (ap (location_name machine) (sym (tray-same c known)) ∙ for));
  from = λ tray tray_is copy in'.
      let r = f.from tray tray_is copy in' in
      let known = known-c r.c r.delivered in
      record { c = r.c; delivered = after r.c r.delivered; for = ap (location_name machine) (tray-same r.c known) ∙ r.for; is = label-same r.c known ∙ r.is };
  rises = f.rises;
  skips = f.skips;
} where
  before : (c : SheetId) → IsDelivered s'.now s'.plans c → IsDelivered s.now s.plans c
  before c d = subst (λ n. IsDelivered n s.plans c) now (subst (λ l. IsDelivered s'.now l c) plans d)

  after : (c : SheetId) → IsDelivered s.now s.plans c → IsDelivered s'.now s'.plans c
  after c d = subst (λ n. IsDelivered n s'.plans c) (sym now) (subst (λ l. IsDelivered s.now l c) (sym plans) d)

  known-c : (c : SheetId) → IsDelivered s.now s.plans c → is_known s.jobs c ≡ true
  known-c c d = subst (λ x. is_known s.jobs x ≡ true) d.of (known-plan machine totals s keeps d.p d.there)

  at-same : (n : ℕ) → n < length s.jobs → slice_get s'.jobs n ≡ slice_get s.jobs n
  at-same n within = ap (λ l. slice_get l n) jobs ∙ slice_get_left s.jobs (j ∷ []) n within

  label-same : (c : SheetId) → is_known s.jobs c ≡ true → label s'.jobs c ≡ label s.jobs c
  label-same c known = ap (λ o. record { job = job_name_in o; number = c.number; copy = c.copy }) (at-same c.job (grind (arith, nat_tests)))

  tray-same : (c : SheetId) → is_known s.jobs c ≡ true → tray_of s'.jobs c ≡ tray_of s.jobs c
  tray-same c known = ap tray_in (at-same c.job (grind (arith, nat_tests)))

  go : (n : ℕ) (b : Bool) → nat_lt n (length s.jobs) ≡ b → is_job_broken s'.jobs n ≡ true → n < length s'.jobs → Contains records (Broken (job_name s'.jobs n))
  go n true e broken within =
      let low : n < length s.jobs = grind (arith, nat_tests) in
      subst (λ o. Contains records (Broken (job_name_in o))) (sym (at-same n low)) (f.broke n low (ap broken_in (sym (at-same n low)) ∙ broken))
  go n false e broken within =
      let high : length s.jobs ≤ n = grind (arith, nat_tests) in
      let long : length s'.jobs ≡ length s.jobs + 1 = ap (λ (l : List Job). length l) jobs ∙ length-append s.jobs (j ∷ []) in
      let last : n ≡ length s.jobs = omega arith in
      let is : broken_in (slice_get s'.jobs n) ≡ j.broken = ap (λ l. broken_in (slice_get l n)) jobs ∙ ap (λ m. broken_in (slice_get (s.jobs ++ j ∷ []) m)) last ∙ ap broken_in (slice_get_last s.jobs j) in
      absurd (cc)
