-- A module goes out: the displaced copies are those that are still to fall back.
use Rattle.std.proofs.Common.{◌≡◌, ℕ, ◌+◌, ◌<◌, ◌≤◌, ◌⊎◌, inl, inr, Bool, true, false, cond, ◌&&◌, not, List, [], ◌∷◌, length, refl, sym, ap, arith, Contains, subst}
use Rattle.std.specs.Prelude.{count_by}
use Rattle.std.proofs.lemmas.Bool.Decides.{nat_tests}
use Rattle.std.proofs.lemmas.List.Elements.{All-contains}
use Rattle.tp_machine.specs.declared.machine.Machine.{Machine}
use Rattle.tp_jobs.specs.declared.parts.WaitingCopy.{WaitingCopy}
use Rattle.tp_schedule.proofs.Membership.{Contains-cons_cases, Contains-here, flat_map-from, flat_map-to}
use Rattle.tp_schedule.specs.Plans.{IsTimedPlan, point}
use Rattle.tp_schedule.specs.declared.parts.Plan.{Plan}
use Rattle.tp_event_rules.specs.FallBacks.{Displaced, is_copy}
use Rattle.tp_event_rules.specs.Fates.{Fate, waits_for}
use Rattle.tp_event_rules.specs.Lines.{is_job_broken, is_lost}
use Rattle.tp_event_rules.specs.Moments.{is_running_on, is_to_run_on, is_to_tray, is_unstarted}
use Rattle.tp_event_rules.specs.Outages.{displaced, displaced_by, fate_in_outage, fate_of_others, going_out, with_out}
use Rattle.tp_event_rules.specs.States.{SessionState}
use Rattle.tp_outage_laws.proofs.Fits.{IsFit, IsPass, cut_off, displace, keeps_sheet, lose_purged, lose_sent, stay}
use Rattle.tp_outage_laws.proofs.BefallFalls.{falls-after}
use Rattle.tp_outage_laws.proofs.Falls.{pending_by, Outset, Falls, IsPending, IsPlanned, is_open, none_breaks}
use Rattle.tp_outage_laws.proofs.Flight.{last-end, running-on-range, to-run-above, up-to}
use Rattle.tp_outage_laws.proofs.PlanFacts.{not-false}
use Rattle.tp_event_rules.specs.Fates as fates

pub falls-outs : (machine : Machine) (base : Outset) (m : ℕ) (s : SessionState) (ds : List Displaced) → Falls machine base none_breaks s ds → Falls machine base none_breaks (with_out m s) ds
falls-outs machine base m s ds f = record {
  same = f.same;
  mid = record { plans = f.mid.plans; flying = f.mid.flying };
  in_order = f.in_order;
  waiters = λ w in'. let i = f.waiters w in' in record { known = i.known; sheet = i.sheet; whole = i.whole };
  planned = λ p in'. let i = f.planned p in' in record { own = i.own; sheet = i.sheet; purge = i.purge; broken = i.broken; lost = i.lost };
  pending = f.pending;
  lost_are = f.lost_are;
  once = f.once;
  each = f.each;
  older_waiting = f.older_waiting;
  older_pending = f.older_pending;
  older_planned = f.older_planned;
  line = f.line;
  ended_waiting = f.ended_waiting;
  ended_pending = f.ended_pending;
  ended_front = f.ended_front;
}

module _ (machine : Machine) (base : Outset) (m : ℕ) (jam : Bool) (s : SessionState) (f : Falls machine base none_breaks s []) where
  abbrev fate : Plan → Fate
  fate = fate_in_outage machine m jam s

  abbrev pend : Plan → List Displaced
  pend p = displaced_by p (fate_in_outage machine m jam s p)

  pub out-fit : (p : Plan) → Contains s.plans p → IsFit (with_out m s) p (fate_in_outage machine m jam s p) (displaced_by p (fate_in_outage machine m jam s p))
  out-fit p in' = go jam (is_copy s p) refl (is_running_on machine s.now m p) refl where
    timed : IsTimedPlan machine p
    timed = All-contains (IsTimedPlan machine) s.plans p f.mid.plans.legal.timed in'

    is : IsPlanned base s p
    is = f.planned p in'

    whole-if : (b : Bool) → is_job_broken s.jobs p.sheet.job ≡ b → (b ≡ true → ⊥) → b ≡ false
    whole-if true e none = absurd (none refl)
    whole-if false e none = refl

    whole : is_open s p ≡ true → is_to_run_on machine s.now m p ≡ true → is_job_broken s.jobs p.sheet.job ≡ false
    whole o e = whole-if (is_job_broken s.jobs p.sheet.job) refl (λ broken. let last = (is.broken o broken).1 in let above = to-run-above machine s.now p timed m e in absurd (omega arith))

    tray-if : (b : Bool) → is_to_tray p.goal ≡ b → s.now < point p 0 → b ≡ true
    tray-if true e low = refl
    tray-if false e low = absurd (let past = is.purge e in omega arith)

    others : is_copy s p ≡ true ⊎ (is_copy s p ≡ false) → IsFit (with_out m s) p (fate_of_others machine m s p) (displaced_by p (fate_of_others machine m s p))
    others c = by (is_copy s p) refl (is_to_run_on machine s.now m p) refl (is_unstarted s.now p) refl where
      by : (a : Bool) → is_copy s p ≡ a → (b : Bool) → is_to_run_on machine s.now m p ≡ b → (u : Bool) → is_unstarted s.now p ≡ u
          → IsFit (with_out m s) p (cond (not (a && b)) fates.stays (cond u fates.withdrawn fates.cut)) (displaced_by p (cond (not (a && b)) fates.stays (cond u fates.withdrawn fates.cut)))
      by false g b h u k = stay
      by true g false h u k = stay
      by true g true h true k =
          let low : s.now < point p 0 = grind (arith, nat_tests) in
          let tray = tray-if (is_to_tray p.goal) refl low in
          let o : is_open s p ≡ true = rw (g, tray) refl in
          let up = up-to machine s.now p timed (length p.acts) (omega arith) in
          displace o low (omega arith) (whole o h)
      by true g true h false k =
          let low : point p 0 ≤ s.now = grind (arith, nat_tests) in
          let above = to-run-above machine s.now p timed m h in
          let last = last-end machine s.now p timed in
          cut_off (not-false (is_lost s p) g) (record { started = low; ends = omega arith }) (λ o. whole o h)

    lost-by : is_copy s p ≡ true → is_running_on machine s.now m p ≡ true → (b : Bool) → is_to_tray p.goal ≡ b → IsFit (with_out m s) p fates.lost (cond b (record { sheet = p.sheet; want = p.want; again = true } ∷ []) [])
    lost-by g h true t = let r = running-on-range machine s.now p timed m h in lose_sent (rw (g, t) refl) (record { started = r.0; ends = r.1 })
    lost-by g h false t = let r = running-on-range machine s.now p timed m h in lose_purged (not-false (is_lost s p) g) t (record { started = r.0; ends = r.1 })

    go : (j c : Bool) → is_copy s p ≡ c → (r : Bool) → is_running_on machine s.now m p ≡ r
        → IsFit (with_out m s) p (cond ((j && c) && r) fates.lost (fate_of_others machine m s p)) (displaced_by p (cond ((j && c) && r) fates.lost (fate_of_others machine m s p)))
    go true true g true h = lost-by g h (is_to_tray p.goal) refl
    go true true g false h = others (inl g)
    go true false g r h = others (inr g)
    go false true g r h = others (inl g)
    go false false g r h = others (inr g)

  all-keep : (p : Plan) → keeps_sheet (fate_in_outage machine m jam s p) ≡ true
  all-keep p = go ((jam && is_copy s p) && is_running_on machine s.now m p) (is_copy s p && is_to_run_on machine s.now m p) (is_unstarted s.now p) where
    go : (l a u : Bool) → keeps_sheet (cond l fates.lost (cond (not a) fates.stays (cond u fates.withdrawn fates.cut))) ≡ true
    go true a u = refl
    go false false u = refl
    go false true true = refl
    go false true false = refl

  -- a copy that waits anew is displaced
  new-line : (p : Plan) (w : WaitingCopy) → Contains s.plans p → Contains (waits_for p (fate_in_outage machine m jam s p)) w → IsPending (displaced machine m jam s) w.sheet
  new-line p w in' new = go (fate_in_outage machine m jam s p) refl (plain ((jam && is_copy s p) && is_running_on machine s.now m p) (is_copy s p && is_to_run_on machine s.now m p) (is_unstarted s.now p)) new where
    IsPlain : Fate → Type 0
    IsPlain x = Unit {0}

    plain : (l a u : Bool) → Unit {0}
    plain l a u = tt

    none : (w : WaitingCopy) → Contains {X = WaitingCopy} [] w → IsPending (displaced machine m jam s) w.sheet
    none w i = absurd (omega (arith, i.1))

    go : (x : Fate) → fate_in_outage machine m jam s p ≡ x → Unit {0} → Contains (waits_for p x) w → IsPending (displaced machine m jam s) w.sheet
    go fates.stays e k i = none w i
    go fates.lost e k i = none w i
    go fates.withdrawn e k i = elim (Contains-cons_cases (record { sheet = p.sheet; want = p.want }) [] w i) [
      | inl is ↦ record {
        d = record { sheet = p.sheet; want = p.want; again = false };
        there = flat_map-to (λ p. displaced_by p (fate_in_outage machine m jam s p)) s.plans p _ in' (subst (λ x. Contains (displaced_by p x) (record { sheet = p.sheet; want = p.want; again = false })) (sym e) (Contains-here _ []));
        waits = refl;
        is = ap (λ (v : WaitingCopy). v.sheet) is;
      }
      | inr empty ↦ none w empty
    ]
    go fates.cut e k i = none w i
    go fates.purged e k i = none w i
    go fates.replaced e k i = absurd (let keeps = not-replaced ((jam && is_copy s p) && is_running_on machine s.now m p) (is_copy s p && is_to_run_on machine s.now m p) (is_unstarted s.now p) e in keeps) where
      not-replaced : (l a u : Bool) → cond l fates.lost (cond (not a) fates.stays (cond u fates.withdrawn fates.cut)) ≡ fates.replaced → ⊥
      not-replaced true a u e = cc
      not-replaced false false u e = cc
      not-replaced false true true e = cc
      not-replaced false true false e = cc
    go fates.dropped e k i = none w i

  abbrev pub out-pass : IsPass machine base none_breaks (with_out m s) []
  out-pass = record {
    falls = falls-outs machine base m s [] f;
    fate = fate_in_outage machine m jam s;
    pend = λ p. displaced_by p (fate_in_outage machine m jam s p);
    fits = out-fit;
  }

  pub falls-out : Falls machine base none_breaks (going_out machine m jam s).state (displaced machine m jam s)
  falls-out = falls-after out-pass none_breaks (displaced machine m jam s)
      (λ j e. e) (λ p in' e. all-keep p) (λ d in'. let r = flat_map-from (λ p. displaced_by p (fate_in_outage machine m jam s p)) s.plans d in' in inr (r.0, r.1, r.2))
      (λ of_sheet. none-more (count_by (pending_by of_sheet) (displaced machine m jam s))) (λ c p. absurd (let i = p.there in omega (arith, i.1))) (λ p w in' new q in'' o line. inr (new-line p w in' new)) where
        none-more : (n : ℕ) → n ≡ 0 + n
        none-more n = omega arith
