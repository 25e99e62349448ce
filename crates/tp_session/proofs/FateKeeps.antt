-- A state stays sound where fates befall its plans, where a job breaks, and where a copy falls back.
use Rattle.std.proofs.Common.{◌≡◌, ℕ, inl, inr, Bool, true, false, cond, not, [], ◌∷◌, flat_map, sym, subst, arith, Contains, IsTrue}
use Rattle.tp_machine.specs.declared.machine.Machine.{Machine}
use Rattle.tp_schedule.proofs.Membership.{Contains-cons_cases, Contains-filter_from, flat_map-from}
use Rattle.tp_schedule.specs.declared.parts.Plan.{Plan}
use Rattle.tp_schedule.specs.declared.parts.SheetId.{SheetId}
use Rattle.tp_jobs.specs.Backlogs.{next_copy}
use Rattle.tp_jobs.specs.JobRefusals.{has_media}
use Rattle.tp_jobs.specs.WaitingCopies.{put_waiting}
use Rattle.tp_jobs.specs.declared.parts.WaitingCopy.{WaitingCopy}
use Rattle.tp_event_rules.specs.FallBacks.{Displaced, fall_back, fall_back_unless_broken, fate_in_break, fate_in_fall_back, is_line_entering, job_break, later_fall_back, next_waits}
use Rattle.tp_event_rules.specs.Fates.{Fate, befall, left_of, waits_for}
use Rattle.tp_event_rules.specs.Fates as fates
use Rattle.tp_event_rules.specs.Lines.{is_job_broken, is_of_job}
use Rattle.tp_event_rules.specs.Moments.{front_of}
use Rattle.tp_event_rules.specs.States.{Outcome, SessionState, and_then, nothing_told}
use Rattle.tp_outage_laws.proofs.Waits.{put-all-from, put-from}
use Rattle.tp_session_standing.specs.Sound.{AreModules}
use Rattle.tp_session.specs.Kept.{IsCounted, KeepsRefills, KeepsWaiting}
use Rattle.tp_session.proofs.PlanKeeps.{StaysPlan, stays-front, stays-purged}

-- what is kept in the midst of a turn
pub record StaysSound (machine : Machine) (s : SessionState) : Type 0 where
  pub outs : AreModules machine s.outs
  pub plans : (p : Plan) → Contains s.plans p → StaysPlan machine s.now p
  pub waiting : (w : WaitingCopy) → Contains s.waiting w → KeepsWaiting machine w
  pub stock : KeepsRefills machine s.refills

pub only : {X : Type 0} (x y : X) → Contains (x ∷ []) y → x ≡ y
only x y i = elim (Contains-cons_cases x [] y i) [
  | inl is ↦ is
  | inr none ↦ absurd (omega (arith, none.1))
]

module _ (machine : Machine) (now : ℕ) where
  -- what is left of a plan
  stays-left : (p q : Plan) (x : Fate) → StaysPlan machine now p → Contains (left_of now p x) q → StaysPlan machine now q
  stays-left p q fates.stays s i = subst (StaysPlan machine now) (only p q i) s
  stays-left p q fates.lost s i = subst (StaysPlan machine now) (only _ q i) (stays-front machine now p s)
  stays-left p q fates.withdrawn s i = absurd (omega (arith, i.1))
  stays-left p q fates.cut s i = subst (StaysPlan machine now) (only _ q i) (stays-front machine now p s)
  stays-left p q fates.purged s i = subst (StaysPlan machine now) (only _ q i) (stays-purged machine now (front_of now p) (stays-front machine now p s))
  stays-left p q fates.replaced s i = subst (StaysPlan machine now) (only _ q i) (stays-purged machine now (front_of now p) (stays-front machine now p s))
  stays-left p q fates.dropped s i = absurd (omega (arith, i.1))

  -- what waits for it
  pub counted-next : (c : SheetId) → IsCounted c → IsCounted (next_copy c)
  counted-next c k = record { sheets = k.sheets; copies = (let one = k.copies in omega arith) }

  stays-waits : (p : Plan) (w : WaitingCopy) (x : Fate) → StaysPlan machine now p → Contains (waits_for p x) w → KeepsWaiting machine w
  stays-waits p w fates.stays s i = absurd (omega (arith, i.1))
  stays-waits p w fates.lost s i = absurd (omega (arith, i.1))
  stays-waits p w fates.withdrawn s i = subst (KeepsWaiting machine) (only _ w i) (record { counted = s.kept.counted; media = s.media })
  stays-waits p w fates.cut s i = absurd (omega (arith, i.1))
  stays-waits p w fates.purged s i = absurd (omega (arith, i.1))
  stays-waits p w fates.replaced s i = subst (KeepsWaiting machine) (only _ w i) (record { counted = counted-next p.sheet s.kept.counted; media = s.media })
  stays-waits p w fates.dropped s i = absurd (omega (arith, i.1))

module _ (machine : Machine) where
  pub stays-befall : (fate : Plan → Fate) (s : SessionState) → StaysSound machine s → StaysSound machine (befall fate s)
  stays-befall fate s k = record {
    outs = k.outs;
    plans = λ q in'.
        (let from = flat_map-from (λ p. left_of s.now p (fate p)) s.plans q in' in
        stays-left machine s.now from.0 q (fate from.0) (k.plans from.0 from.1) from.2);
    waiting = λ w in'. elim (put-all-from (flat_map (λ p. waits_for p (fate p)) s.plans) s.waiting w in') [
      | inl old ↦ k.waiting w old
      | inr new ↦
          let from = flat_map-from (λ p. waits_for p (fate p)) s.plans w new in
          stays-waits machine s.now from.0 w (fate from.0) (k.plans from.0 from.1) from.2
    ];
    stock = k.stock;
  }

  pub stays-break : (job : ℕ) (s : SessionState) → StaysSound machine s → StaysSound machine (job_break job s).state
  stays-break job s k =
      let b = stays-befall (fate_in_break s job) s k in
      record {
        outs = b.outs;
        plans = b.plans;
        waiting = λ w in'. b.waiting w (Contains-filter_from (λ v. not (is_of_job job v)) (befall (fate_in_break s job) s).waiting w in').0;
        stock = b.stock;
      }

  -- one of two outcomes
  either : (b : Bool) (o q : Outcome) → StaysSound machine o.state → StaysSound machine q.state → StaysSound machine (cond b o q).state
  either true o q one other = one
  either false o q one other = other

  -- a copy that is to fall back
  pub record StaysDisplaced (d : Displaced) : Type 0 where
    pub counted : IsCounted d.sheet
    pub media : IsTrue (has_media machine d.want.media)

  stays-next : (d : Displaced) (s : SessionState) → StaysDisplaced d → StaysSound machine s → StaysSound machine (next_waits d s).state
  stays-next d s of k = either d.again _ (nothing_told s) waits k where
    waits : StaysSound machine (record s { waiting = put_waiting s.waiting (record { sheet = next_copy d.sheet; want = d.want }) })
    waits = record {
      outs = k.outs;
      plans = k.plans;
      waiting = λ w in'. elim (put-from (record { sheet = next_copy d.sheet; want = d.want }) s.waiting w in') [
        | inl is ↦ subst (KeepsWaiting machine) (sym is) (record { counted = counted-next machine s.now d.sheet of.counted; media = of.media })
        | inr old ↦ k.waiting w old
      ];
      stock = k.stock;
    }

  pub stays-fall_back : (s : SessionState) (d : Displaced) → StaysDisplaced d → StaysSound machine s → StaysSound machine (fall_back s d).state
  stays-fall_back s d of k =
      either (is_line_entering s d.sheet) (job_break d.sheet.job s) (and_then (next_waits d s) (later_fall_back d.sheet)) (stays-break d.sheet.job s k)
      (stays-befall (fate_in_fall_back (next_waits d s).state d.sheet) (next_waits d s).state (stays-next d s of k))

  pub stays-unless_broken : (s : SessionState) (d : Displaced) → StaysDisplaced d → StaysSound machine s → StaysSound machine (fall_back_unless_broken s d).state
  stays-unless_broken s d of k = either (is_job_broken s.jobs d.sheet.job) (nothing_told s) (fall_back s d) k (stays-fall_back s d of k)
