-- A job breaks where a later copy of the line is entering; and the whole fall-back of a displaced copy.
use Rattle.std.proofs.Common.{◌≡◌, ℕ, ◌-◌, ◌<◌, ◌≤◌, inl, inr, Bool, true, false, cond, ◌&&◌, not, List, [], ◌∷◌, filter, flat_map, length, refl, sym, ap, ◌∙◌, arith, Contains, subst, nat_lt}
use Rattle.std.specs.Prelude.{◌==◌, count_by}
use Rattle.std.proofs.lemmas.Bool.{and_parts}
use Rattle.std.proofs.lemmas.Bool.Decides.{nat_tests}
use Rattle.std.proofs.lemmas.List.Elements.{All-contains}
use Rattle.std.proofs.lemmas.List.Kept.{AllPairs-filter}
use Rattle.tp_machine.specs.declared.machine.Machine.{Machine}
use Rattle.tp_jobs.specs.Backlogs.{WaitsBefore, mark_broken}
use Rattle.tp_jobs.specs.declared.parts.WaitingCopy.{WaitingCopy}
use Rattle.tp_schedule.proofs.Membership.{Contains-cons_cases, Contains-later, Contains-filter_from}
use Rattle.tp_schedule.specs.Plans.{IsTimedPlan, end_of_plan, is_front, point}
use Rattle.tp_schedule.specs.declared.parts.Plan.{Plan}
use Rattle.tp_schedule.specs.declared.parts.SheetId.{SheetId}
use Rattle.tp_event_rules.specs.FallBacks.{Displaced, fate_in_break, is_copy, is_on_its_way, job_break}
use Rattle.tp_event_rules.specs.Fates.{befall, left_by, left_of, waits_for}
use Rattle.tp_event_rules.specs.StateInvariants.{is_copy_of}
use Rattle.tp_event_rules.specs.Lines.{is_job_broken, is_of_job}
use Rattle.tp_event_rules.specs.Moments.{is_entering, is_in_flight, is_to_tray, is_unstarted}
use Rattle.tp_event_rules.specs.States.{SessionState}
use Rattle.tp_outage_laws.proofs.Fits.{IsFit, IsPass, drop, give_up, keeps_sheet, stay}
use Rattle.tp_outage_laws.proofs.FateLeft.{IsOf, plan-from}
use Rattle.tp_outage_laws.proofs.BefallFalls.{falls-after}
use Rattle.tp_outage_laws.proofs.Falls.{pending_by, Outset, Falls, ended-whole, is_open, none_breaks, pending_of}
use Rattle.tp_outage_laws.proofs.ListCounts.{count-less, count-kept}
use Rattle.tp_outage_laws.proofs.JobFacts.{marked-is, stays-marked, broken-mark, unbroken-mark}
use Rattle.tp_outage_laws.proofs.Counts.{count-cons}
use Rattle.tp_outage_laws.proofs.Flight.{enters-last, flight-range, in-flight, last-end, up-to}
use Rattle.tp_outage_laws.proofs.PlanFacts.{not-false}
use Rattle.tp_outage_laws.proofs.Waits.{waiting_of}
use Rattle.tp_event_rules.specs.Fates as fates

module _ (machine : Machine) (base : Outset) (s : SessionState) (d : Displaced) (ds : List Displaced) (f : Falls machine base none_breaks s (d ∷ ds)) where
  abbrev job : ℕ
  job = d.sheet.job

  abbrev breaks : ℕ → Bool
  breaks j = j == d.sheet.job

  pub break-fit : (p : Plan) → Contains s.plans p → IsFit s p (fate_in_break s d.sheet.job p) []
  break-fit p in' = go (p.sheet.job == d.sheet.job) (is_copy s p) refl (is_unstarted s.now p) refl (is_on_its_way s.now p) refl (not (is_entering s.now p)) where
    timed : IsTimedPlan machine p
    timed = All-contains (IsTimedPlan machine) s.plans p f.mid.plans.legal.timed in'

    tray-if : (b : Bool) → is_to_tray p.goal ≡ b → s.now < point p 0 → b ≡ true
    tray-if true e low = refl
    tray-if false e low = absurd (let past = (f.planned p in').purge e in omega arith)

    go : (a c : Bool) → is_copy s p ≡ c → (b : Bool) → is_unstarted s.now p ≡ b → (w : Bool) → is_on_its_way s.now p ≡ w → (n : Bool)
        → IsFit s p (cond (not (a && c)) fates.stays (cond b fates.dropped (cond (w && n) fates.purged fates.stays))) []
    go false c g b h w k n = stay
    go true false g b h w k n = stay
    go true true g true h w k n =
        let low : s.now < point p 0 = grind (arith, nat_tests) in
        let tray = tray-if (is_to_tray p.goal) refl low in
        let up = up-to machine s.now p timed (length p.acts) (omega arith) in
        drop (rw (g, tray) refl) low (omega arith)
    go true true g false h true k true =
        let parts = and_parts (is_in_flight s.now p) (is_to_tray p.goal) k in
        let range = flight-range machine s.now p timed parts.0 in
        give_up (rw (g, parts.1) refl) (record { started = range.0; ends = range.1 })
    go true true g false h true k false = stay
    go true true g false h false k n = stay

  abbrev pub break-pass : IsPass machine base none_breaks s (d ∷ ds)
  break-pass = record { falls = f; fate = fate_in_break s d.sheet.job; pend = λ p. []; fits = break-fit }

  break-keeps : (p : Plan) → Contains s.plans p → (p.sheet.job == d.sheet.job) ≡ false → keeps_sheet (fate_in_break s d.sheet.job p) ≡ true
  break-keeps p in' other = ap (λ b. keeps_sheet (cond (not (b && is_copy s p)) fates.stays (cond (is_unstarted s.now p) fates.dropped (cond (is_on_its_way s.now p && not (is_entering s.now p)) fates.purged fates.stays)))) other

  none-waits-anew : (p : Plan) (w : WaitingCopy) → Contains (waits_for p (fate_in_break s d.sheet.job p)) w → ⊥
  none-waits-anew p w i = go ((p.sheet.job == d.sheet.job) && is_copy s p) (is_unstarted s.now p) (is_on_its_way s.now p && not (is_entering s.now p)) i where
    go : (a b c : Bool) → Contains (waits_for p (cond (not a) fates.stays (cond b fates.dropped (cond c fates.purged fates.stays)))) w → ⊥
    go false b c i = omega (arith, i.1)
    go true true c i = omega (arith, i.1)
    go true false true i = omega (arith, i.1)
    go true false false i = omega (arith, i.1)

  none-sent : (l : List Plan) → flat_map {X = Plan} {A = Displaced} (λ p. []) l ≡ []
  none-sent [] = refl
  none-sent (p ∷ l) = none-sent l

  abbrev befallen : SessionState
  befallen = befall (fate_in_break s d.sheet.job) s

  falls-befallen : Falls machine base (λ j. j == d.sheet.job) befallen (d ∷ ds)
  falls-befallen = falls-after break-pass (λ j. j == d.sheet.job) (d ∷ ds) (λ j e. refl) break-keeps (λ e in'. inl in')
      (λ of_sheet. let none : count_by (pending_by of_sheet) (flat_map {X = Plan} {A = Displaced} (λ p. []) s.plans) ≡ 0 = ap (count_by (pending_by of_sheet)) (none-sent s.plans) in omega arith) (λ x p. p)
      (λ p w in' new q in'' o line. absurd (none-waits-anew p w new))

  -- what is left open of the job enters, or was delivered
  left-enters : (q : Plan) → Contains (left_by (fate_in_break s d.sheet.job) s.now s.plans) q → is_open befallen q ≡ true → q.sheet.job ≡ d.sheet.job → (is_front q.kind ≡ false) × (point q (length q.acts - 1) ≤ s.now)
  left-enters q in' o same = go (plan-from break-pass q in') where
    go : ((p : Plan) × Contains s.plans p × IsOf break-pass p q × Contains (left_of s.now p (fate_in_break s d.sheet.job p)) q)
        → (is_front q.kind ≡ false) × (point q (length q.acts - 1) ≤ s.now)
    go (p, there, of, lies) = by (is_unstarted s.now p) refl (is_on_its_way s.now p) refl (is_entering s.now p) refl
        (subst (λ b. Contains (left_of s.now p (cond (not b) fates.stays (cond (is_unstarted s.now p) fates.dropped (cond (is_on_its_way s.now p && not (is_entering s.now p)) fates.purged fates.stays)))) q) mine lies) where
          open-p : is_open s p ≡ true
          open-p = of.opened o

          parts : (is_copy s p ≡ true) × (is_to_tray p.goal ≡ true)
          parts = and_parts (is_copy s p) (is_to_tray p.goal) open-p

          timed : IsTimedPlan machine p
          timed = All-contains (IsTimedPlan machine) s.plans p f.mid.plans.legal.timed there

          mine : ((p.sheet.job == d.sheet.job) && is_copy s p) ≡ true
          mine =
              let job' : p.sheet.job ≡ d.sheet.job = ap (λ (c : SheetId). c.job) (sym of.sheet) ∙ same in
              let j : (p.sheet.job == d.sheet.job) ≡ true = grind (arith, nat_tests) in
              let c = parts.0 in rw (j, c) refl

          stays-is : Contains (p ∷ []) q → (is_front p.kind ≡ false) × (point p (length p.acts - 1) ≤ s.now) → (is_front q.kind ≡ false) × (point q (length q.acts - 1) ≤ s.now)
          stays-is i r = elim (Contains-cons_cases p [] q i) [
            | inl is ↦ subst (λ (x : Plan). (is_front x.kind ≡ false) × (point x (length x.acts - 1) ≤ s.now)) is r
            | inr none ↦ absurd (omega (arith, none.1))
          ]

          by : (b : Bool) → is_unstarted s.now p ≡ b → (w : Bool) → is_on_its_way s.now p ≡ w → (e : Bool) → is_entering s.now p ≡ e
              → Contains (left_of s.now p (cond b fates.dropped (cond (w && not e) fates.purged fates.stays))) q → (is_front q.kind ≡ false) × (point q (length q.acts - 1) ≤ s.now)
          by true g w h e k i = absurd (omega (arith, i.1))
          by false g true h true k i =
              let r = enters-last machine s.now p timed k in
              stays-is i (not-false (is_front p.kind) (and_parts (not (is_front p.kind)) (is_to_tray p.goal) r.0).0, r.1)
          by false g true h false k i = elim (Contains-cons_cases _ [] q i) [
            | inl is ↦ absurd (let shut = (and_parts (is_copy befallen q) (is_to_tray q.goal) o).1 in let none : is_to_tray q.goal ≡ false = ap (λ (x : Plan). is_to_tray x.goal) (sym is) in cc)
            | inr none ↦ absurd (omega (arith, none.1))
          ]
          by false g false h e k i = stays-is i (past (nat_lt s.now (end_of_plan p)) refl) where
            past : (b : Bool) → nat_lt s.now (end_of_plan p) ≡ b → (is_front p.kind ≡ false) × (point p (length p.acts - 1) ≤ s.now)
            past true l = absurd (
                let low : point p 0 ≤ s.now = grind (arith, nat_tests) in
                let flies = in-flight machine s.now p timed low (grind (arith, nat_tests)) in
                let tray = parts.1 in
                let way : is_on_its_way s.now p ≡ true = rw (flies, tray) refl in cc)
            past false l =
                let low : end_of_plan p ≤ s.now = grind (arith, nat_tests) in
                let last = last-end machine s.now p timed in
                (ended-whole machine base none_breaks s (d ∷ ds) f p there open-p low, omega arith)

  abbrev pub state_broken : SessionState
  state_broken = (job_break d.sheet.job s).state

  waits-on : (w : WaitingCopy) → Contains (filter (λ w. not (is_of_job d.sheet.job w)) befallen.waiting) w → Contains befallen.waiting w × ((w.sheet.job ≡ d.sheet.job) → ⊥)
  waits-on w in' =
      let from = Contains-filter_from (λ w. not (is_of_job d.sheet.job w)) befallen.waiting w in' in
      (from.0, λ same. other w from.1 same) where
        other : (w : WaitingCopy) → not (w.sheet.job == d.sheet.job) ≡ true → w.sheet.job ≡ d.sheet.job → ⊥
        other w e same = grind (arith, nat_tests)

  whole-before : (n : ℕ) → is_job_broken (mark_broken d.sheet.job s.jobs) n ≡ false → is_job_broken s.jobs n ≡ false
  whole-before n e = go (is_job_broken s.jobs n) refl where
    go : (b : Bool) → is_job_broken s.jobs n ≡ b → b ≡ false
    go true g = absurd (let marked = stays-marked d.sheet.job s.jobs n g in cc)
    go false g = refl

  module _ (known : d.sheet.job < length s.jobs) where
    pub falls-break : Falls machine base none_breaks state_broken ds
    falls-break = record {
      same = unbroken-mark d.sheet.job s.jobs ∙ f.same;
      mid = record { plans = g.mid.plans; flying = g.mid.flying };
      in_order = AllPairs-filter WaitsBefore (λ w. not (is_of_job d.sheet.job w)) befallen.waiting g.in_order;
      waiters = λ w in'. let on = waits-on w in' in let i = g.waiters w on.0 in
          record { known = i.known; sheet = i.sheet; whole = still-whole w.sheet.job i.whole on.1 };
      planned = λ p in'. let i = g.planned p in' in record {
        own = i.own;
        sheet = i.sheet;
        purge = i.purge;
        broken = λ o b. elim (broken-mark d.sheet.job s.jobs p.sheet.job b) [
          | inl before ↦ i.broken o before
          | inr is ↦ left-enters p in' o is
        ];
        lost = i.lost;
      };
      pending = λ e in'. g.pending e (Contains-later d ds e in');
      lost_are = g.lost_are;
      once = λ j n. let once = g.once j n in
          let less = count-less (waiting_of j n) (λ w. not (is_of_job d.sheet.job w)) befallen.waiting in
          let all = count-cons (pending_of j n) d ds in omega arith;
      each = λ j n known' whole e wanted.
          let other = other-job j whole in
          let some = g.each j n known' (whole-before j whole) other wanted in
          let same = count-kept (waiting_of j n) (λ w. not (is_of_job d.sheet.job w)) befallen.waiting (λ w is. kept j n w is other) in
          let all = count-cons (pending_of j n) d ds in
          let none : cond {A = ℕ} (pending_of j n d) 1 0 ≡ 0 = ap (λ b. cond {A = ℕ} b 1 0) (no-pending j n other) in omega arith;
      older_waiting = λ p w in' in'' same. g.older_waiting p w in' (waits-on w in'').0 same;
      older_pending = λ p e in' in'' a same. g.older_pending p e in' (Contains-later d ds e in'') a same;
      older_planned = g.older_planned;
      line = λ w p in' in'' o line. elim (g.line w p (waits-on w in').0 in'' o line) [
        | inl before ↦ inl before
        | inr pending ↦ elim (Contains-cons_cases d ds pending.d pending.there) [
          | inl is ↦ absurd ((waits-on w in').1 (ap (λ (c : SheetId). c.job) (sym (ap (λ (x : Displaced). x.sheet) is ∙ pending.is))))
          | inr later ↦ inr (record { d = pending.d; there = later; waits = pending.waits; is = pending.is })
        ]
      ];
      ended_waiting = λ p w in' o past in'' line. g.ended_waiting p w in' o past (waits-on w in'').0 line;
      ended_pending = λ p e in' o past in''. g.ended_pending p e in' o past (Contains-later d ds e in'');
      ended_front = g.ended_front;
    } where
      g : Falls machine base (λ j. j == d.sheet.job) befallen (d ∷ ds)
      g = falls-befallen

      still-whole : (n : ℕ) → is_job_broken s.jobs n ≡ false → (n ≡ d.sheet.job → ⊥) → is_job_broken (mark_broken d.sheet.job s.jobs) n ≡ false
      still-whole n whole other = go (is_job_broken (mark_broken d.sheet.job s.jobs) n) refl where
        go : (b : Bool) → is_job_broken (mark_broken d.sheet.job s.jobs) n ≡ b → b ≡ false
        go true e = absurd (elim (broken-mark d.sheet.job s.jobs n e) [
          | inl before ↦ cc
          | inr is ↦ other is
        ])
        go false e = refl

      other-job : (j : ℕ) → is_job_broken (mark_broken d.sheet.job s.jobs) j ≡ false → (j == d.sheet.job) ≡ false
      other-job j whole = go (j == d.sheet.job) refl where
        go : (b : Bool) → (j == d.sheet.job) ≡ b → b ≡ false
        go true e = absurd (let is : j ≡ d.sheet.job = grind (arith, nat_tests) in let marked = marked-is d.sheet.job s.jobs known in let same : is_job_broken (mark_broken d.sheet.job s.jobs) j ≡ is_job_broken (mark_broken d.sheet.job s.jobs) d.sheet.job = ap (is_job_broken (mark_broken d.sheet.job s.jobs)) is in cc)
        go false e = refl

      kept : (j n : ℕ) (w : WaitingCopy) → is_copy_of j n w.sheet ≡ true → (j == d.sheet.job) ≡ false → not (w.sheet.job == d.sheet.job) ≡ true
      kept j n w is other = grind (arith, nat_tests)

      no-pending : (j n : ℕ) → (j == d.sheet.job) ≡ false → pending_of j n d ≡ false
      no-pending j n other = go (is_copy_of j n d.sheet) refl where
        go : (b : Bool) → is_copy_of j n d.sheet ≡ b → (d.again && b) ≡ false
        go true e = absurd (differs j n d.sheet e other) where
          differs : (j n : ℕ) (c : SheetId) → is_copy_of j n c ≡ true → (j == c.job) ≡ false → ⊥
          differs j n c e x = grind (arith, nat_tests)
        go false e = and-false d.again where
          and-false : (b : Bool) → (b && false) ≡ false
          and-false true = refl
          and-false false = refl
