-- Where no copy is loose and none is to fall back, the order of lines is kept.
use Rattle.std.proofs.Common.{◌≡◌, ◌≢◌, ℕ, ◌+◌, ◌<◌, ◌≤◌, inl, inr, Bool, true, false, ◌&&◌, not, [], map, refl, sym, ap, ◌∙◌, arith, All, AllPairs, Any, Contains, subst, nat_lt}
use Rattle.std.specs.Prelude.{◌==◌, count_by}
use Rattle.std.specs.Str.{bytes_eq}
use Rattle.std.proofs.lemmas.Bool.{and_parts}
use Rattle.std.proofs.lemmas.Bool.Decides.{nat_tests}
use Rattle.std.proofs.lemmas.List.Elements.{All-contains, All-map, Contains-append_cases, Contains-append_left, Contains-append_right}
use Rattle.std.proofs.lemmas.List.Folds.{list_any_none}
use Rattle.std.proofs.lemmas.List.Kept.{AllPairs-filter}
use Rattle.tp_machine.specs.declared.machine.Machine.{Machine}
use Rattle.tp_jobs.specs.Backlogs.{WaitsBefore}
use Rattle.tp_jobs.specs.declared.parts.Job.{Job}
use Rattle.tp_jobs.specs.declared.parts.WaitingCopy.{WaitingCopy}
use Rattle.tp_schedule.proofs.Membership.{All-from_contains, Contains-filter, Contains-filter_from, Contains-map, Contains-map_from}
use Rattle.tp_schedule.proofs.Pairs.{AllPairs-append, AllPairs-each, AllPairs-map_from}
use Rattle.tp_schedule.specs.Plans.{IsEarlier, is_before, is_front, is_same_copy}
use Rattle.tp_schedule.specs.declared.parts.Plan.{Plan}
use Rattle.tp_schedule.specs.declared.parts.SheetId.{SheetId}
use Rattle.tp_event_rules.specs.Ready.{KeepsBroken, EntersWhereBroken}
use Rattle.tp_event_rules.specs.Seen.{HasStarted}
use Rattle.tp_event_rules.specs.Lines.{is_job_broken, is_lost, is_same_line}
use Rattle.tp_event_rules.specs.FallBacks.{is_copy}
use Rattle.tp_event_rules.specs.StateInvariants.{KeepsJobs, KeepsLines, IsOlder, StandsBehind, is_copy_of, is_known, is_of_its_job, is_own_goal, is_planned_among, is_same_sheet, open_copies, tray_plans}
use Rattle.tp_event_rules.specs.Moments.{is_to_tray, is_tray_plan}
use Rattle.tp_event_rules.specs.States.{SessionState}
use Rattle.tp_event_rules.proofs.AskedFacts.{Apart}
use Rattle.tp_event_rules.proofs.ListFacts.{AllPairs-map_list, contains-Any}
use Rattle.tp_outage_laws.proofs.Members.{filter-same}
use Rattle.tp_outage_laws.proofs.Falls.{HasSheets, Outset, Falls, IsPending, is_open, none-waits, none_breaks, of-copy, one-open, open_of, own-copy}
use Rattle.tp_outage_laws.specs.Through.{KeepsThrough}
use Rattle.tp_outage_laws.proofs.Counts.{count-some, count-two}
use Rattle.tp_outage_laws.proofs.JobFacts.{same-length, same-name, same-tray, unbroken}
use Rattle.tp_outage_laws.proofs.PlanFacts.{not-false}
use Rattle.tp_outage_laws.proofs.Waits.{waiting_of}

module _ (machine : Machine) (base : Outset) (s : SessionState) (f : Falls machine base none_breaks s []) (none_loose : (p : Plan) → Contains s.plans p → is_front p.kind ≡ true → is_lost s p ≡ true) where
  pub tray-open : (p : Plan) → Contains s.plans p → is_tray_plan p ≡ true → is_open s p ≡ true
  tray-open p in' tray = go (is_lost s p) refl where
    parts : (not (is_front p.kind) ≡ true) × (is_to_tray p.goal ≡ true)
    parts = and_parts (not (is_front p.kind)) (is_to_tray p.goal) tray

    go : (b : Bool) → is_lost s p ≡ b → (not b && is_to_tray p.goal) ≡ true
    go true e = absurd (let front = (f.planned p in').lost e in let whole = not-false (is_front p.kind) parts.0 in cc)
    go false e = parts.1

  pub open-tray : (p : Plan) → Contains s.plans p → is_open s p ≡ true → is_tray_plan p ≡ true
  open-tray p in' o = go (is_front p.kind) refl where
    parts : (is_copy s p ≡ true) × (is_to_tray p.goal ≡ true)
    parts = and_parts (is_copy s p) (is_to_tray p.goal) o

    go : (b : Bool) → is_front p.kind ≡ b → (not b && is_to_tray p.goal) ≡ true
    go true e = absurd (let lost = none_loose p in' e in let copy = not-false (is_lost s p) parts.0 in cc)
    go false e = parts.1

  same-line : (a b : SheetId) → is_same_line s.jobs a b ≡ is_same_line base.jobs a b
  same-line a b = (λ i. (same-tray base.jobs s.jobs f.same a i).0 == (same-tray base.jobs s.jobs f.same b i).0)

  known-too : (c : SheetId) → is_known s.jobs c ≡ is_known base.jobs c
  known-too c = ap (λ n. nat_lt c.job n) (same-length base.jobs s.jobs f.same)

  own-too : (p : Plan) → is_of_its_job s.jobs p ≡ is_of_its_job base.jobs p
  own-too p = (λ i. known-too p.sheet i && bytes_eq p.name (same-name base.jobs s.jobs f.same p.sheet.job i) && is_own_goal p.goal (same-tray base.jobs s.jobs f.same p.sheet i).0)

  irreflexive : (a b : SheetId) → a ≡ b → is_before a b ≡ true → ⊥
  irreflexive a b e x = irr a (subst (λ c. is_before a c ≡ true) (sym e) x) where
    irr : (a : SheetId) → is_before a a ≡ true → ⊥
    irr a g = grind (arith, nat_tests)

  apart-if : (a b : SheetId) → (is_same_sheet a b ≡ true → ⊥) → is_same_sheet a b ≡ false
  apart-if a b none = go (is_same_sheet a b) refl where
    go : (x : Bool) → is_same_sheet a b ≡ x → x ≡ false
    go true e = absurd (none e)
    go false e = refl

  in-tray : (p : Plan) → Contains (tray_plans s.plans) p → Contains s.plans p × (is_tray_plan p ≡ true)
  in-tray p in' = Contains-filter_from is_tray_plan s.plans p in'

  no-pending : (A : Type 0) (c : SheetId) → IsPending [] c → A
  no-pending A c p = absurd (let i = p.there in omega (arith, i.1))

  behind : (w : WaitingCopy) (p : Plan) → Contains s.waiting w → Contains (tray_plans s.plans) p → StandsBehind s.jobs w p
  behind w p in' in'' line = elim (f.line w p in' (in-tray p in'').0 (tray-open p (in-tray p in'').0 (in-tray p in'').1) (sym (same-line w.sheet p.sheet) ∙ line)) [
    | inl before ↦ before
    | inr pending ↦ no-pending (is_before p.sheet w.sheet ≡ true) w.sheet pending
  ]

  unplanned : (w : WaitingCopy) → Contains s.waiting w → is_planned_among s.plans w.sheet ≡ false
  unplanned w in' = list_any_none (λ p. is_same_copy p.sheet w.sheet) s.plans (All-from_contains (λ p. is_same_copy p.sheet w.sheet ≡ false) s.plans (λ p in''. go p in'' (is_same_copy p.sheet w.sheet) refl)) where
    same-of : (a b : SheetId) → is_same_copy a b ≡ true → (is_same_sheet a b ≡ true) × (a.copy ≡ b.copy)
    same-of a b e = (grind (arith, nat_tests), grind (arith, nat_tests))

    go : (p : Plan) → Contains s.plans p → (b : Bool) → is_same_copy p.sheet w.sheet ≡ b → b ≡ false
    go p in'' true e = absurd (let same = same-of p.sheet w.sheet e in let older = f.older_waiting p w in'' in' same.0 in let copy = same.1 in omega arith)
    go p in'' false e = refl

  all-apart : AllPairs Apart (open_copies s)
  all-apart = AllPairs-append Apart (map (λ w. w.sheet) s.waiting) (map (λ p. p.sheet) (tray_plans s.plans))
      (AllPairs-map_list Apart (λ w. w.sheet) s.waiting (AllPairs-each WaitsBefore (λ v w. Apart v.sheet w.sheet) s.waiting f.in_order (λ v w in' in'' before.
      apart-if v.sheet w.sheet (λ same.
      let few = f.once w.sheet.job w.sheet.number in
      let one = count-two (waiting_of w.sheet.job w.sheet.number) s.waiting v w (omega arith) in' in'' (of-copy v.sheet w.sheet same) (own-copy w.sheet) in
      irreflexive v.sheet w.sheet (ap (λ (x : WaitingCopy). x.sheet) one) before))))
      (AllPairs-map_list Apart (λ p. p.sheet) (tray_plans s.plans) (AllPairs-each IsEarlier (λ p q. Apart p.sheet q.sheet) (tray_plans s.plans) (AllPairs-filter (λ p q. is_before p.sheet q.sheet ≡ true) is_tray_plan s.plans f.mid.plans.legal.in_order) (λ p q in' in'' before.
      apart-if p.sheet q.sheet (λ same.
      let one = one-open machine base none_breaks s [] f p q (in-tray p in').0 (in-tray q in'').0 (tray-open p (in-tray p in').0 (in-tray p in').1) (tray-open q (in-tray q in'').0 (in-tray q in'').1) same in
      irreflexive p.sheet q.sheet (ap (λ (x : Plan). x.sheet) one) before))))
      (All-map (λ c. All (Apart c) (map (λ p. p.sheet) (tray_plans s.plans))) (λ w. w.sheet) s.waiting (All-from_contains (λ w. All (Apart w.sheet) (map (λ p. p.sheet) (tray_plans s.plans))) s.waiting (λ w in'.
      All-map (Apart w.sheet) (λ p. p.sheet) (tray_plans s.plans) (All-from_contains (λ p. Apart w.sheet p.sheet) (tray_plans s.plans) (λ p in''.
      apart-if w.sheet p.sheet (λ same. none-waits machine base none_breaks s [] f p w (in-tray p in'').0 in' (tray-open p (in-tray p in'').0 (in-tray p in'').1) (turn w.sheet p.sheet same)))))))
    where
      turn : (a b : SheetId) → is_same_sheet a b ≡ true → is_same_sheet b a ≡ true
      turn a b e = grind (arith, nat_tests)

  pub settles-lines : KeepsLines s
  settles-lines = record {
    in_order = f.in_order;
    waiting_known = All-from_contains (λ w. is_known s.jobs w.sheet ≡ true) s.waiting (λ w in'. known-too w.sheet ∙ (f.waiters w in').known);
    unplanned = All-from_contains (λ w. is_planned_among s.plans w.sheet ≡ false) s.waiting unplanned;
    line = All-from_contains (λ w. All (StandsBehind s.jobs w) (tray_plans s.plans)) s.waiting (λ w in'. All-from_contains (StandsBehind s.jobs w) (tray_plans s.plans) (λ p in''. behind w p in' in''));
    one = all-apart;
    plans_known = All-from_contains (λ p. is_of_its_job s.jobs p ≡ true) s.plans (λ p in'. own-too p ∙ (f.planned p in').own);
    fronts = ap (map (λ (p : Plan). p.sheet)) (filter-same (λ p. is_front p.kind) (is_lost s) s.plans (λ p in'. front-lost p in' (is_front p.kind) refl (is_lost s p) refl)) ∙ f.lost_are;
  } where
    front-lost : (p : Plan) → Contains s.plans p → (a : Bool) → is_front p.kind ≡ a → (b : Bool) → is_lost s p ≡ b → a ≡ b
    front-lost p in' true e true g = refl
    front-lost p in' true e false g = absurd (let lost = none_loose p in' e in cc)
    front-lost p in' false e true g = absurd (let front = (f.planned p in').lost g in cc)
    front-lost p in' false e false g = refl

  open-here : (j n : ℕ) → 1 ≤ count_by (waiting_of j n) s.waiting + count_by (open_of s j n) s.plans → Any (λ copy. is_copy_of j n copy ≡ true) (open_copies s)
  open-here j n some = go (nat_lt 0 (count_by (waiting_of j n) s.waiting)) refl where
    go : (b : Bool) → nat_lt 0 (count_by (waiting_of j n) s.waiting) ≡ b → Any (λ copy. is_copy_of j n copy ≡ true) (open_copies s)
    go true e =
        let w = count-some (waiting_of j n) s.waiting (grind (arith, nat_tests)) in
        contains-Any (λ copy. is_copy_of j n copy ≡ true) (open_copies s) w.0.sheet (Contains-append_left (map (λ w. w.sheet) s.waiting) (map (λ p. p.sheet) (tray_plans s.plans)) w.0.sheet (Contains-map (λ w. w.sheet) s.waiting w.0 w.1)) w.2
    go false e =
        let zero' : count_by (waiting_of j n) s.waiting ≤ 0 = grind (arith, nat_tests) in
        let p = count-some (open_of s j n) s.plans (omega arith) in
        let parts = and_parts (is_open s p.0) (is_copy_of j n p.0.sheet) p.2 in
        contains-Any (λ copy. is_copy_of j n copy ≡ true) (open_copies s) p.0.sheet
        (Contains-append_right (map (λ w. w.sheet) s.waiting) (map (λ p. p.sheet) (tray_plans s.plans)) p.0.sheet (Contains-map (λ p. p.sheet) (tray_plans s.plans) p.0 (Contains-filter is_tray_plan s.plans p.0 p.1 (open-tray p.0 p.1 parts.0)))) parts.1

  pub settles-sheets : HasSheets base s
  settles-sheets = record {
    each = λ j n known whole wanted. let some = f.each j n known whole refl wanted in open-here j n (omega arith);
    waiting = λ w in'. (f.waiters w in').sheet;
    planned = λ p in'. (f.planned p in').sheet;
  }

  pub settles-older : All (λ p. All (IsOlder p) (open_copies s)) s.plans
  settles-older = All-from_contains (λ p. All (IsOlder p) (open_copies s)) s.plans (λ p in'. All-from_contains (IsOlder p) (open_copies s) (λ c there not_tray same. older p c in' there not_tray same)) where
    shut : (p : Plan) → Contains s.plans p → is_tray_plan p ≡ false → is_open s p ≡ false
    shut p in' none = go (is_open s p) refl where
      go : (b : Bool) → is_open s p ≡ b → b ≡ false
      go true e = absurd (let tray = open-tray p in' e in cc)
      go false e = refl

    older : (p : Plan) (c : SheetId) → Contains s.plans p → Contains (open_copies s) c → is_tray_plan p ≡ false → is_same_sheet p.sheet c ≡ true → p.sheet.copy < c.copy
    older p c in' there not_tray same = elim (Contains-append_cases (map (λ w. w.sheet) s.waiting) (map (λ p. p.sheet) (tray_plans s.plans)) c there) [
      | inl waits ↦ (let w = Contains-map_from (λ w. w.sheet) s.waiting c waits in
          subst (λ x. p.sheet.copy < x.copy) (sym w.2) (f.older_waiting p w.0 in' w.1 (subst (λ x. is_same_sheet p.sheet x ≡ true) w.2 same)))
      | inr planned ↦ (let q = Contains-map_from (λ p. p.sheet) (tray_plans s.plans) c planned in
          subst (λ x. p.sheet.copy < x.copy) (sym q.2)
          (f.older_planned p q.0 in' (in-tray q.0 q.1).0 (shut p in' not_tray) (tray-open q.0 (in-tray q.0 q.1).0 (in-tray q.0 q.1).1) (subst (λ x. is_same_sheet p.sheet x ≡ true) q.2 same)))
    ]

  -- jobs and broken jobs
  pub settles-jobs : KeepsJobs machine base.jobs → KeepsJobs machine s.jobs
  settles-jobs k = record {
    trays = All-from_contains (λ j. Contains machine.trays j.tray) s.jobs (λ j in'.
        let m = Contains-map_from unbroken base.jobs (unbroken j) (subst (λ l. Contains l (unbroken j)) f.same (Contains-map unbroken s.jobs j in')) in
        let tray : j.tray ≡ m.0.tray = ap (λ (x : Job). x.tray) m.2 in
        subst (λ t. Contains machine.trays t) (sym tray) (All-contains (λ j. Contains machine.trays j.tray) base.jobs m.0 k.trays m.1));
    names = AllPairs-map_from (λ i j. i.name ≢ j.name) unbroken s.jobs
        (subst (AllPairs (λ i j. i.name ≢ j.name)) (sym f.same) (AllPairs-map_list (λ i j. i.name ≢ j.name) unbroken base.jobs k.names));
  }

  pub settles-broken : KeepsBroken s
  settles-broken = record {
    waiting = All-from_contains (λ w. is_job_broken s.jobs w.sheet.job ≡ false) s.waiting (λ w in'. (f.waiters w in').whole);
    plans = All-from_contains (EntersWhereBroken s.now s.jobs) s.plans (λ p in' tray broken. ((f.planned p in').broken (tray-open p in' tray) broken).1);
  }

  pub settles-purges : All (HasStarted s.now) s.plans
  settles-purges = All-from_contains (HasStarted s.now) s.plans (λ p in' g. (f.planned p in').purge g)

  pub settles : KeepsJobs machine base.jobs → KeepsThrough machine s
  settles jobs = record { jobs = settles-jobs jobs; plans = f.mid.plans; lines = settles-lines; broken = settles-broken; older = settles-older; purges = settles-purges }
