-- Breaks, fall-backs and outages leave what was delivered.
use Rattle.std.proofs.Common.{◌≡◌, ℕ, ◌<◌, inl, inr, Bool, true, false, cond, ◌&&◌, not, List, [], ◌∷◌, length, refl, sym, arith, Contains, subst}
use Rattle.std.specs.Prelude.{◌==◌}
use Rattle.std.proofs.lemmas.Bool.{and_parts}
use Rattle.std.proofs.lemmas.Bool.Decides.{nat_tests}
use Rattle.std.proofs.lemmas.List.Elements.{All-contains, All-append}
use Rattle.tp_machine.specs.declared.machine.Machine.{Machine}
use Rattle.tp_schedule.proofs.Membership.{Contains-here}
use Rattle.tp_schedule.specs.Plans.{IsTimedPlan, end_of_plan, point}
use Rattle.tp_schedule.specs.declared.parts.Plan.{Plan}
use Rattle.tp_schedule.specs.declared.parts.SheetId.{SheetId}
use Rattle.tp_schedule.specs.declared.records.Record.TheVariants.{Broken}
use Rattle.tp_event_rules.specs.FallBacks.{Displaced, fall_back, fall_back_unless_broken, fate_in_break, fate_in_fall_back, is_copy, is_later, is_line_entering, is_on_its_way, job_break, later_fall_back, next_waits}
use Rattle.tp_event_rules.specs.Fates.{Fate, is_cut_by, told_by}
use Rattle.tp_event_rules.specs.Labels.{job_name}
use Rattle.tp_event_rules.specs.Lines.{is_job_broken}
use Rattle.tp_event_rules.specs.Moments.{is_entering, is_in_flight, is_running_on, is_to_run_on, is_to_tray, is_unstarted}
use Rattle.tp_event_rules.specs.Outages.{displaced, fate_in_outage, fate_of_others, fate_of_running, fate_unless_lost, going_out, outage, told_in_outage, with_out}
use Rattle.tp_event_rules.specs.States.{Outcome, SessionState, and_then, for_each, nothing_told}
use Rattle.tp_outage_laws.proofs.JobFacts.{unbroken-mark, broken-mark}
use Rattle.tp_outage_laws.proofs.Flight.{flight-range, last-end, running-on-range, to-run-above, up-to}
use Rattle.tp_outage_laws.proofs.Midway.{IsFlying, IsMeet, IsMid, befall-mid}
use Rattle.tp_headline.proofs.QuietFates.{befall-quiet}
use Rattle.tp_headline.proofs.Silent.{silent-job_break, silent-one, silent-told_by}
use Rattle.tp_headline.proofs.Steps.{IsNoDelivery, IsQuiet, quiet-refl, quiet-trans}
use Rattle.tp_event_rules.specs.Fates as fates

-- what a part leads to in the midst
abbrev pub Keeps : Machine → SessionState → Outcome → Type 0
Keeps machine s o = IsMid machine o.state × IsQuiet s o.state o.records

pub keeps-then : (machine : Machine) (s : SessionState) (o : Outcome) (next : SessionState → Outcome) → Keeps machine s o → Keeps machine o.state (next o.state) → Keeps machine s (and_then o next)
keeps-then machine s o next first later = (later.0, quiet-trans s o.state (next o.state).state o.records (next o.state).records first.1 later.1)

-- which fates fit
meets-stays : (now : ℕ) (p : Plan) → IsMeet now p fates.stays
meets-stays now p = record { cut = λ e. absurd (cc); stays = λ past. refl }

meets-started : (now : ℕ) (p : Plan) (f : Fate) → IsFlying now p → IsMeet now p f
meets-started now p f flying = record { cut = λ e. flying; stays = λ past. absurd (let ends : now < end_of_plan p = flying.ends in omega arith) }

meets-gone : (now : ℕ) (p : Plan) (f : Fate) → is_cut_by f ≡ false → now < end_of_plan p → IsMeet now p f
meets-gone now p f none ends = record { cut = λ e. absurd (cc); stays = λ past. absurd (omega arith) }

module _ (machine : Machine) (now : ℕ) (p : Plan) (timed : IsTimedPlan machine p) where
  unstarted-ends : is_unstarted now p ≡ true → now < end_of_plan p
  unstarted-ends e = let low : now < point p 0 = grind (arith, nat_tests) in let up = up-to machine now p timed (length p.acts) (omega arith) in omega arith

  flying-way : is_on_its_way now p ≡ true → IsFlying now p
  flying-way e = let r = flight-range machine now p timed (and_parts (is_in_flight now p) (is_to_tray p.goal) e).0 in record { started = r.0; ends = r.1 }

module _ (machine : Machine) (s : SessionState) (p : Plan) (timed : IsTimedPlan machine p) where
  pub break-meets : (job : ℕ) → IsMeet s.now p (fate_in_break s job p)
  break-meets job = go ((p.sheet.job == job) && is_copy s p) (is_unstarted s.now p) refl (is_on_its_way s.now p) refl (not (is_entering s.now p)) where
    go : (a b : Bool) → is_unstarted s.now p ≡ b → (c : Bool) → is_on_its_way s.now p ≡ c → (d : Bool) → IsMeet s.now p (cond (not a) fates.stays (cond b fates.dropped (cond (c && d) fates.purged fates.stays)))
    go false b e c f d = meets-stays s.now p
    go true true e c f d = meets-gone s.now p fates.dropped refl (unstarted-ends machine s.now p timed e)
    go true false e true f true = meets-started s.now p fates.purged (flying-way machine s.now p timed f)
    go true false e true f false = meets-stays s.now p
    go true false e false f d = meets-stays s.now p

  pub fall-meets : (copy : SheetId) → IsMeet s.now p (fate_in_fall_back s copy p)
  fall-meets copy = go (is_later s copy p) (is_unstarted s.now p) refl (is_on_its_way s.now p) refl where
    go : (a b : Bool) → is_unstarted s.now p ≡ b → (c : Bool) → is_on_its_way s.now p ≡ c → IsMeet s.now p (cond (not a) fates.stays (cond b fates.withdrawn (cond c fates.replaced fates.stays)))
    go false b e c f = meets-stays s.now p
    go true true e c f = meets-gone s.now p fates.withdrawn refl (unstarted-ends machine s.now p timed e)
    go true false e true f = meets-started s.now p fates.replaced (flying-way machine s.now p timed f)
    go true false e false f = meets-stays s.now p

  others-meet : (m : ℕ) → IsMeet s.now p (fate_of_others machine m s p)
  others-meet m = go (is_copy s p) (is_to_run_on machine s.now m p) refl (is_unstarted s.now p) refl where
    go : (a b : Bool) → is_to_run_on machine s.now m p ≡ b → (c : Bool) → is_unstarted s.now p ≡ c → IsMeet s.now p (cond (not (a && b)) fates.stays (cond c fates.withdrawn fates.cut))
    go false b e c f = meets-stays s.now p
    go true false e c f = meets-stays s.now p
    go true true e true f = meets-gone s.now p fates.withdrawn refl (unstarted-ends machine s.now p timed f)
    go true true e false f =
        let above = to-run-above machine s.now p timed m e in
        let last = last-end machine s.now p timed in
        meets-started s.now p fates.cut (record { started = grind (arith, nat_tests); ends = omega arith })

  pub outage-meets : (m : ℕ) (jam : Bool) → IsMeet s.now p (fate_in_outage machine m jam s p)
  outage-meets m jam = go jam (is_copy s p) (is_running_on machine s.now m p) refl where
    go : (j c r : Bool) → is_running_on machine s.now m p ≡ r → IsMeet s.now p (cond ((j && c) && r) fates.lost (fate_of_others machine m s p))
    go true true true e = let r = running-on-range machine s.now p timed m e in meets-started s.now p fates.lost (record { started = r.0; ends = r.1 })
    go true true false e = others-meet m
    go true false r e = others-meet m
    go false c r e = others-meet m

module _ (machine : Machine) where
  timed-at : (s : SessionState) → IsMid machine s → (p : Plan) → Contains s.plans p → IsTimedPlan machine p
  timed-at s mid p in' = All-contains (IsTimedPlan machine) s.plans p mid.plans.legal.timed in'

  pub keeps-break : (job : ℕ) (s : SessionState) → IsMid machine s → Keeps machine s (job_break job s)
  keeps-break job s mid =
      let meets : (p : Plan) → Contains s.plans p → IsMeet s.now p (fate_in_break s job p) = λ p in'. break-meets machine s p (timed-at s mid p in') job in
      let after = befall-mid machine (fate_in_break s job) s mid meets in
      let q = befall-quiet machine (fate_in_break s job) s mid meets (job_break job s).records (silent-job_break job s) in (
        record { plans = after.plans; flying = after.flying },
        record {
          now = refl;
          jobs = unbroken-mark job s.jobs;
          broke = λ n e. elim (broken-mark job s.jobs n e) [
            | inl before ↦ inl before
            | inr is ↦ inr (subst (λ k. Contains (job_break job s).records (Broken (job_name s.jobs k))) (sym is) (Contains-here _ _))
          ];
          to = q.to;
          from = q.from;
          none = q.none;
        },
      )

  keeps-either : (s : SessionState) (b : Bool) (o q : Outcome) → Keeps machine s o → Keeps machine s q → Keeps machine s (cond b o q)
  keeps-either s true o q one other = one
  keeps-either s false o q one other = other

  pub keeps-nothing : (s : SessionState) → IsMid machine s → Keeps machine s (nothing_told s)
  keeps-nothing s mid = (mid, quiet-refl s)

  keeps-waits : (d : Displaced) (s : SessionState) → IsMid machine s → Keeps machine s (next_waits d s)
  keeps-waits d s mid = keeps-either s d.again _ (nothing_told s)
      (record { plans = mid.plans; flying = mid.flying }, record { now = refl; jobs = refl; broke = λ n e. inl e; to = λ c d. d; from = λ c d. d; none = silent-one _ refl })
      (keeps-nothing s mid)

  keeps-later : (copy : SheetId) (s : SessionState) → IsMid machine s → Keeps machine s (later_fall_back copy s)
  keeps-later copy s mid =
      let meets : (p : Plan) → Contains s.plans p → IsMeet s.now p (fate_in_fall_back s copy p) = λ p in'. fall-meets machine s p (timed-at s mid p in') copy in
      (befall-mid machine (fate_in_fall_back s copy) s mid meets, befall-quiet machine (fate_in_fall_back s copy) s mid meets (told_by (fate_in_fall_back s copy) s) (silent-told_by (fate_in_fall_back s copy) s))

  pub keeps-fall_back : (s : SessionState) (d : Displaced) → IsMid machine s → Keeps machine s (fall_back s d)
  keeps-fall_back s d mid =
      let waits = keeps-waits d s mid in
      keeps-either s (is_line_entering s d.sheet) (job_break d.sheet.job s) (and_then (next_waits d s) (later_fall_back d.sheet)) (keeps-break d.sheet.job s mid)
      (keeps-then machine s (next_waits d s) (later_fall_back d.sheet) waits (keeps-later d.sheet (next_waits d s).state waits.0))

  keeps-unless : (s : SessionState) (d : Displaced) → IsMid machine s → Keeps machine s (fall_back_unless_broken s d)
  keeps-unless s d mid = keeps-either s (is_job_broken s.jobs d.sheet.job) (nothing_told s) (fall_back s d) (keeps-nothing s mid) (keeps-fall_back s d mid)

  pub keeps-each : {X : Type 0} (part : SessionState → X → Outcome) → ((s : SessionState) (x : X) → IsMid machine s → Keeps machine s (part s x)) → (xs : List X) (s : SessionState) → IsMid machine s → Keeps machine s (for_each part xs s)
  keeps-each part each [] s mid = keeps-nothing s mid
  keeps-each part each (x ∷ xs) s mid =
      let first = each s x mid in
      keeps-then machine s (part s x) (for_each part xs) first (keeps-each part each xs (part s x).state first.0)

  keeps-going : (m : ℕ) (jam : Bool) (s : SessionState) → IsMid machine s → Keeps machine s (going_out machine m jam s)
  keeps-going m jam s mid =
      let mid' : IsMid machine (with_out m s) = record { plans = mid.plans; flying = mid.flying } in
      let meets : (p : Plan) → Contains s.plans p → IsMeet s.now p (fate_in_outage machine m jam s p) = λ p in'. outage-meets machine s p (timed-at s mid p in') m jam in
      let q = befall-quiet machine (fate_in_outage machine m jam s) (with_out m s) mid' meets (told_in_outage machine m jam s)
      (All-append IsNoDelivery (told_by (fate_of_running machine m jam s) s) (told_by (fate_unless_lost machine m jam s) s) (silent-told_by _ s) (silent-told_by _ s)) in
      (befall-mid machine (fate_in_outage machine m jam s) (with_out m s) mid' meets, record { now = q.now; jobs = q.jobs; broke = q.broke; to = q.to; from = q.from; none = q.none })

  pub keeps-outage : (m : ℕ) (jam : Bool) (s : SessionState) → IsMid machine s → Keeps machine s (outage machine m jam s)
  keeps-outage m jam s mid =
      let going = keeps-going m jam s mid in
      keeps-then machine s (going_out machine m jam s) (for_each fall_back_unless_broken (displaced machine m jam s)) going
      (keeps-each fall_back_unless_broken keeps-unless (displaced machine m jam s) (going_out machine m jam s).state going.0)
