-- Which copies wait, or are to fall back, where fates befall the plans.
use Rattle.std.proofs.Common.{◌≡◌, ℕ, ◌+◌, ◌<◌, ◌≤◌, ◌⊎◌, inl, inr, Bool, true, false, List, [], ◌∷◌, flat_map, refl, ap, arith, Contains, subst}
use Rattle.tp_machine.specs.declared.machine.Machine.{Machine}
use Rattle.tp_jobs.specs.Backlogs.{next_copy}
use Rattle.tp_jobs.specs.declared.parts.WaitingCopy.{WaitingCopy}
use Rattle.tp_schedule.proofs.Membership.{Contains-cons_cases, flat_map-from}
use Rattle.tp_schedule.specs.Plans.{end_of_plan}
use Rattle.tp_schedule.specs.declared.parts.Plan.{Plan}
use Rattle.tp_event_rules.specs.FallBacks.{Displaced}
use Rattle.tp_event_rules.specs.Fates.{Fate, befall, left_of, to_purge, waits_for}
use Rattle.tp_event_rules.specs.Lines.{is_job_broken}
use Rattle.tp_event_rules.specs.Moments.{front_of}
use Rattle.tp_event_rules.specs.States.{SessionState}
use Rattle.tp_outage_laws.proofs.Falls.{Outset, is_open}
use Rattle.tp_outage_laws.proofs.Waits.{put-all-from}
use Rattle.tp_outage_laws.proofs.Fits.{IsFit, IsPass, again_for, stay, lose_sent, lose_purged, withdraw, displace, cut_off, give_up, replace, drop}

module _ {machine : Machine} {base : Outset} {ex : ℕ → Bool} {s : SessionState} {ds : List Displaced} (pass : IsPass machine base ex s ds) where
  -- a copy that waits anew
  pub record IsWaitOf (p : Plan) (w : WaitingCopy) : Type 0 where
    pub job : w.sheet.job ≡ p.sheet.job
    pub number : w.sheet.number ≡ p.sheet.number
    pub newer : p.sheet.copy ≤ w.sheet.copy
    pub opened : is_open s p ≡ true
    pub whole : is_job_broken s.jobs p.sheet.job ≡ false
    pub ends : s.now < end_of_plan p
    pub left_older : (q : Plan) → Contains (left_of s.now p (pass.fate p)) q → q.sheet.copy < w.sheet.copy

  wait-one : (p : Plan) (v w : WaitingCopy) → IsWaitOf p v → Contains (v ∷ []) w → IsWaitOf p w
  wait-one p v w of i = elim (Contains-cons_cases v [] w i) [
    | inl is ↦ subst (IsWaitOf p) is of
    | inr none ↦ absurd (omega (arith, none.1))
  ]

  none-waiting : (A : Type 0) → (w : WaitingCopy) → Contains {X = WaitingCopy} [] w → A
  none-waiting A w i = absurd (omega (arith, i.1))

  pub wait-is : (p : Plan) → Contains s.plans p → (x : Fate) (es : List Displaced) → pass.fate p ≡ x → IsFit s p x es → (w : WaitingCopy) → Contains (waits_for p x) w → IsWaitOf p w
  wait-is p in' _ _ e stay w i = none-waiting (IsWaitOf p w) w i
  wait-is p in' _ _ e (lose_sent o fl) w i = none-waiting (IsWaitOf p w) w i
  wait-is p in' _ _ e (lose_purged l g fl) w i = none-waiting (IsWaitOf p w) w i
  wait-is p in' _ _ e (withdraw o low ends whole) w i = wait-one p _ w (record { job = refl; number = refl; newer = omega arith; opened = o; whole = whole; ends = ends; left_older = λ q j. absurd (let k = subst (λ x. Contains (left_of s.now p x) q) e j in omega (arith, k.1)) }) i
  wait-is p in' _ _ e (displace o low ends whole) w i = wait-one p _ w (record { job = refl; number = refl; newer = omega arith; opened = o; whole = whole; ends = ends; left_older = λ q j. absurd (let k = subst (λ x. Contains (left_of s.now p x) q) e j in omega (arith, k.1)) }) i
  wait-is p in' _ _ e (cut_off l fl wh) w i = none-waiting (IsWaitOf p w) w i
  wait-is p in' _ _ e (give_up o fl) w i = none-waiting (IsWaitOf p w) w i
  wait-is p in' _ _ e (replace o fl whole) w i = wait-one p (record { sheet = next_copy p.sheet; want = p.want }) w (record {
    job = refl;
    number = refl;
    newer = omega arith;
    opened = o;
    whole = whole;
    ends = fl.ends;
    left_older = λ q j. older q (Contains-cons_cases (to_purge (front_of s.now p)) [] q (subst (λ x. Contains (left_of s.now p x) q) e j));
  }) i where
    older : (q : Plan) → (to_purge (front_of s.now p) ≡ q) ⊎ Contains {X = Plan} [] q → q.sheet.copy < p.sheet.copy + 1
    older q (inl is) = let same : p.sheet.copy ≡ q.sheet.copy = ap (λ (x : Plan). x.sheet.copy) is in omega arith
    older q (inr none) = absurd (omega (arith, none.1))
  wait-is p in' _ _ e (drop o low ends) w i = none-waiting (IsWaitOf p w) w i

  -- where a copy that waits comes from
  pub wait-from : (w : WaitingCopy) → Contains (befall pass.fate s).waiting w → Contains s.waiting w ⊎ ((p : Plan) × Contains s.plans p × IsWaitOf p w × Contains (waits_for p (pass.fate p)) w)
  wait-from w in' = elim (put-all-from (flat_map (λ p. waits_for p (pass.fate p)) s.plans) s.waiting w in') [
    | inl before ↦ inl before
    | inr new ↦ let r = flat_map-from (λ p. waits_for p (pass.fate p)) s.plans w new in inr (r.0, r.1, wait-is r.0 r.1 (pass.fate r.0) (pass.pend r.0) refl (pass.fits r.0 r.1) w r.2, r.2)
  ]

  -- a copy that is displaced
  pub record IsSentOf (p : Plan) (d : Displaced) : Type 0 where
    pub sheet : d.sheet ≡ p.sheet
    pub opened : is_open s p ≡ true
    pub ends : s.now < end_of_plan p

  pub sent-is : (p : Plan) (x : Fate) (es : List Displaced) → IsFit s p x es → (d : Displaced) → Contains es d → IsSentOf p d
  sent-is p _ _ stay d i = absurd (omega (arith, i.1))
  sent-is p _ _ (lose_sent o fl) d i = sent-one (again_for true p) i (record { sheet = refl; opened = o; ends = fl.ends }) where
    sent-one : (e : Displaced) → Contains (e ∷ []) d → IsSentOf p e → IsSentOf p d
    sent-one e i of = elim (Contains-cons_cases e [] d i) [
      | inl is ↦ subst (IsSentOf p) is of
      | inr none ↦ absurd (omega (arith, none.1))
    ]
  sent-is p _ _ (lose_purged l g fl) d i = absurd (omega (arith, i.1))
  sent-is p _ _ (withdraw o low ends w) d i = absurd (omega (arith, i.1))
  sent-is p _ _ (displace o low ends w) d i = sent-one (again_for false p) i (record { sheet = refl; opened = o; ends = ends }) where
    sent-one : (e : Displaced) → Contains (e ∷ []) d → IsSentOf p e → IsSentOf p d
    sent-one e i of = elim (Contains-cons_cases e [] d i) [
      | inl is ↦ subst (IsSentOf p) is of
      | inr none ↦ absurd (omega (arith, none.1))
    ]
  sent-is p _ _ (cut_off l fl w) d i = absurd (omega (arith, i.1))
  sent-is p _ _ (give_up o fl) d i = absurd (omega (arith, i.1))
  sent-is p _ _ (replace o fl w) d i = absurd (omega (arith, i.1))
  sent-is p _ _ (drop o low ends) d i = absurd (omega (arith, i.1))
