-- What a live state keeps besides in the midst of an outage: its plans are live, fronts have started whole, copy numbers are
-- bounded, and not too many copies are live or open.
use Rattle.std.proofs.Common.{◌≡◌, ℕ, ◌+◌, ◌<◌, ◌≤◌, ◌⊎◌, inl, inr, Bool, true, List, [], ◌∷◌, flat_map, length, refl, sym, ap, ◌∙◌, arith, Contains, subst, nat_lt}
use Rattle.std.specs.Prelude.{count_by}
use Rattle.std.proofs.lemmas.Bool.Decides.{nat_tests}
use Rattle.std.proofs.lemmas.List.Folds.{list_any_at}
use Rattle.std.proofs.lemmas.List.{length-append}
use Rattle.std.proofs.lemmas.List.Concat.{flat_map-cons}
use Rattle.tp_machine.specs.declared.machine.Machine.{Machine}
use Rattle.tp_jobs.specs.declared.parts.WaitingCopy.{WaitingCopy}
use Rattle.tp_schedule.proofs.Membership.{Contains-cons_cases}
use Rattle.tp_schedule.specs.Limits.{most_live}
use Rattle.tp_schedule.specs.LivePlans.{is_live}
use Rattle.tp_schedule.specs.Plans.{IsTimedPlan, end_of_plan}
use Rattle.tp_schedule.specs.declared.parts.Plan.{Plan}
use Rattle.tp_schedule.specs.declared.parts.SheetId.{SheetId}
use Rattle.tp_event_rules.specs.FallBacks.{Displaced}
use Rattle.tp_event_rules.specs.Fates.{Fate, befall, left_by, left_of, to_purge, waits_for}
use Rattle.tp_event_rules.specs.StateInvariants.{is_clear, most_open}
use Rattle.tp_event_rules.specs.Moments.{front_of}
use Rattle.tp_event_rules.specs.Ready.{HasStartedWhole}
use Rattle.tp_event_rules.specs.States.{SessionState}
use Rattle.tp_outage_laws.proofs.Clears.{clear-started}
use Rattle.tp_outage_laws.proofs.Falls.{Outset, pending_by, total_by}
use Rattle.tp_outage_laws.proofs.FateCounts.{IsCounted, total-few}
use Rattle.tp_outage_laws.proofs.FateLeft.{plan-from, timed-at}
use Rattle.tp_outage_laws.proofs.FateWaits.{sent-is, wait-from}
use Rattle.tp_outage_laws.proofs.Fits.{IsFit, IsPass, cut_off, displace, drop, give_up, lose_purged, lose_sent, replace, stay, withdraw}
use Rattle.tp_outage_laws.proofs.Flight.{front-end, front-points, front-started}
use Rattle.tp_outage_laws.proofs.Midway.{IsFlying}
use Rattle.tp_event_rules.specs.Fates as fates

-- the plan is live, has started whole where it is a front, and its copy's number is bounded
pub record IsRiding (machine : Machine) (copies now : ℕ) (p : Plan) : Type 0 where
  pub live : is_live machine now p ≡ true
  pub started : HasStartedWhole now p
  pub number : p.sheet.copy ≤ copies

-- its end is to come
abbrev pub is_coming : ℕ → Plan → Bool
is_coming now p = nat_lt now (end_of_plan p)

abbrev pub any_sheet : SheetId → Bool
any_sheet c = true

-- how many copies wait, are open and end later, or are to wait
abbrev pub arriving : SessionState → List Displaced → ℕ
arriving s ds = total_by (is_coming s.now) any_sheet s ds

pub record Lives (machine : Machine) (copies : ℕ) (s : SessionState) (ds : List Displaced) : Type 0 where
  pub plans : (p : Plan) → Contains s.plans p → IsRiding machine copies s.now p
  pub waits : (w : WaitingCopy) → Contains s.waiting w → w.sheet.copy ≤ copies + 1
  pub pends : (d : Displaced) → Contains ds d → d.again ≡ true → d.sheet.copy ≤ copies
  pub few_live : length s.plans ≤ most_live
  pub few_open : arriving s ds ≤ most_open

abbrev pub AreClear : Machine → SessionState → Type 0
AreClear machine s = (p : Plan) → Contains s.plans p → is_clear machine s p ≡ true

-- a plan that ends above the moment is live
pub live-end : (machine : Machine) (now : ℕ) (p : Plan) → length p.points ≡ length p.acts + 1 → now < end_of_plan p → is_live machine now p ≡ true
live-end machine now p one_more high = rw (list_any_at (nat_lt now) p.points (length p.acts) 0 (omega arith) later) refl where
  later : nat_lt now (end_of_plan p) ≡ true
  later = grind (arith, nat_tests)

-- what comes is counted
pub counts-coming : (machine : Machine) (now : ℕ) → IsCounted machine now (is_coming now) any_sheet
counts-coming machine now = record {
  front = λ p timed flies. sym (yes (end_of_plan p) flies.ends ∙ sym (yes (end_of_plan (front_of now p)) (front-end machine now p timed flies.ends)));
  sheet = λ p ends. sym (yes (end_of_plan p) ends);
  next = λ c. refl;
} where
  yes : (n : ℕ) → now < n → nat_lt now n ≡ true
  yes n low = grind (arith, nat_tests)

module _ (machine : Machine) (copies now : ℕ) where
  pub riding-front : (p : Plan) → IsTimedPlan machine p → IsFlying now p → p.sheet.copy ≤ copies → IsRiding machine copies now (front_of now p)
  riding-front p timed flies number = record {
    live = live-end machine now (front_of now p) (front-points machine now p timed) (front-end machine now p timed flies.ends);
    started = λ front i low. front-started machine now p timed i low;
    number = number;
  }

  pub riding-purge : (p : Plan) → IsRiding machine copies now p → IsRiding machine copies now (to_purge p)
  riding-purge p r = record { live = r.live; started = r.started; number = r.number }

left-few : (now : ℕ) (p : Plan) (x : Fate) → length (left_of now p x) ≤ 1
left-few now p fates.stays = omega arith
left-few now p fates.lost = omega arith
left-few now p fates.withdrawn = omega arith
left-few now p fates.cut = omega arith
left-few now p fates.purged = omega arith
left-few now p fates.replaced = omega arith
left-few now p fates.dropped = omega arith

fewer-left : (now : ℕ) (fate : Plan → Fate) (plans : List Plan) → length (left_by fate now plans) ≤ length plans
fewer-left now fate [] = omega arith
fewer-left now fate (p ∷ plans) =
    let rest = fewer-left now fate plans in
    let here = left-few now p (fate p) in
    let all : length (left_by fate now (p ∷ plans)) ≡ length (left_of now p (fate p)) + length (left_by fate now plans) =
    ap (λ (l : List Plan). length l) (flat_map-cons (λ p. left_of now p (fate p)) p plans) ∙ length-append (left_of now p (fate p)) (left_by fate now plans) in
    omega arith

only : {X : Type 0} (x y : X) → Contains (x ∷ []) y → x ≡ y
only x y i = elim (Contains-cons_cases x [] y i) [
  | inl is ↦ is
  | inr none ↦ absurd (omega (arith, none.1))
]

waits-number : (p : Plan) (x : Fate) (w : WaitingCopy) → Contains (waits_for p x) w → w.sheet.copy ≤ p.sheet.copy + 1
waits-number p fates.stays w i = absurd (omega (arith, i.1))
waits-number p fates.lost w i = absurd (omega (arith, i.1))
waits-number p fates.withdrawn w i = let same : p.sheet.copy ≡ w.sheet.copy = ap (λ (v : WaitingCopy). v.sheet.copy) (only _ w i) in omega arith
waits-number p fates.cut w i = absurd (omega (arith, i.1))
waits-number p fates.purged w i = absurd (omega (arith, i.1))
waits-number p fates.replaced w i = let same : p.sheet.copy + 1 ≡ w.sheet.copy = ap (λ (v : WaitingCopy). v.sheet.copy) (only _ w i) in omega arith
waits-number p fates.dropped w i = absurd (omega (arith, i.1))

-- What befalls the copies.
module _ {machine : Machine} {base : Outset} {ex : ℕ → Bool} {s : SessionState} {ds : List Displaced} (pass : IsPass machine base ex s ds) (copies : ℕ) where
  riding-left : (p q : Plan) → Contains s.plans p → (x : Fate) (es : List Displaced) → IsFit s p x es → Contains (left_of s.now p x) q → IsRiding machine copies s.now p → IsRiding machine copies s.now q
  riding-left p q in' _ _ stay i r = subst (IsRiding machine copies s.now) (only p q i) r
  riding-left p q in' _ _ (lose_sent o fl) i r = subst (IsRiding machine copies s.now) (only _ q i) (riding-front machine copies s.now p (timed-at pass p in') fl r.number)
  riding-left p q in' _ _ (lose_purged l g fl) i r = subst (IsRiding machine copies s.now) (only _ q i) (riding-front machine copies s.now p (timed-at pass p in') fl r.number)
  riding-left p q in' _ _ (withdraw o low ends w) i r = absurd (omega (arith, i.1))
  riding-left p q in' _ _ (displace o low ends w) i r = absurd (omega (arith, i.1))
  riding-left p q in' _ _ (cut_off l fl w) i r = subst (IsRiding machine copies s.now) (only _ q i) (riding-front machine copies s.now p (timed-at pass p in') fl r.number)
  riding-left p q in' _ _ (give_up o fl) i r = subst (IsRiding machine copies s.now) (only _ q i) (riding-purge machine copies s.now (front_of s.now p) (riding-front machine copies s.now p (timed-at pass p in') fl r.number))
  riding-left p q in' _ _ (replace o fl w) i r = subst (IsRiding machine copies s.now) (only _ q i) (riding-purge machine copies s.now (front_of s.now p) (riding-front machine copies s.now p (timed-at pass p in') fl r.number))
  riding-left p q in' _ _ (drop o low ends) i r = absurd (omega (arith, i.1))

  pub lives-befall : (ds' : List Displaced)
      → ((d : Displaced) → Contains ds' d → Contains ds d ⊎ ((p : Plan) × Contains s.plans p × Contains (pass.pend p) d))
      → ((of_sheet : SheetId → Bool) → count_by (pending_by of_sheet) ds' ≡ count_by (pending_by of_sheet) ds + count_by (pending_by of_sheet) (flat_map pass.pend s.plans))
      → Lives machine copies s ds → Lives machine copies (befall pass.fate s) ds'
  lives-befall ds' sent counts l = record {
    plans = λ q in'. let m = plan-from pass q in' in riding-left m.0 q m.1 (pass.fate m.0) (pass.pend m.0) (pass.fits m.0 m.1) m.3 (l.plans m.0 m.1);
    waits = λ w in'. elim (wait-from pass w in') [
      | inl old ↦ l.waits w old
      | inr new ↦ (let number = (l.plans new.0 new.1).number in let more = waits-number new.0 (pass.fate new.0) w new.3 in omega arith)
    ];
    pends = λ d in' again. elim (sent d in') [
      | inl old ↦ l.pends d old again
      | inr new ↦ (
          let number = (l.plans new.0 new.1).number in
          let same : d.sheet.copy ≡ new.0.sheet.copy = ap (λ (c : SheetId). c.copy) (sent-is pass new.0 (pass.fate new.0) (pass.pend new.0) (pass.fits new.0 new.1) d new.2).sheet in
          omega arith)
    ];
    few_live = let few = l.few_live in let fewer = fewer-left s.now pass.fate s.plans in omega arith;
    few_open = let few = l.few_open in let fewer = total-few pass (is_coming s.now) any_sheet (counts-coming machine s.now) ds' (counts any_sheet) in omega arith;
  }

  clear-left : (p q : Plan) → Contains s.plans p → (x : Fate) (es : List Displaced) → pass.fate p ≡ x → IsFit s p x es → Contains (left_of s.now p x) q → (pass.fate p ≡ fates.stays → is_clear machine s p ≡ true) → is_clear machine s q ≡ true
  clear-left p q in' _ _ e stay i clear = subst (λ x. is_clear machine s x ≡ true) (only p q i) (clear e)
  clear-left p q in' _ _ e (lose_sent o fl) i clear = subst (λ x. is_clear machine s x ≡ true) (only _ q i) (clear-started machine s (front_of s.now p) (front-started machine s.now p (timed-at pass p in')))
  clear-left p q in' _ _ e (lose_purged l g fl) i clear = subst (λ x. is_clear machine s x ≡ true) (only _ q i) (clear-started machine s (front_of s.now p) (front-started machine s.now p (timed-at pass p in')))
  clear-left p q in' _ _ e (withdraw o low ends w) i clear = absurd (omega (arith, i.1))
  clear-left p q in' _ _ e (displace o low ends w) i clear = absurd (omega (arith, i.1))
  clear-left p q in' _ _ e (cut_off l fl w) i clear = subst (λ x. is_clear machine s x ≡ true) (only _ q i) (clear-started machine s (front_of s.now p) (front-started machine s.now p (timed-at pass p in')))
  clear-left p q in' _ _ e (give_up o fl) i clear = subst (λ x. is_clear machine s x ≡ true) (only _ q i) (clear-started machine s (to_purge (front_of s.now p)) (front-started machine s.now p (timed-at pass p in')))
  clear-left p q in' _ _ e (replace o fl w) i clear = subst (λ x. is_clear machine s x ≡ true) (only _ q i) (clear-started machine s (to_purge (front_of s.now p)) (front-started machine s.now p (timed-at pass p in')))
  clear-left p q in' _ _ e (drop o low ends) i clear = absurd (omega (arith, i.1))

  pub clear-befall : ((p : Plan) → Contains s.plans p → pass.fate p ≡ fates.stays → is_clear machine s p ≡ true) → AreClear machine (befall pass.fate s)
  clear-befall clear q in' = let m = plan-from pass q in' in clear-left m.0 q m.1 (pass.fate m.0) (pass.pend m.0) refl (pass.fits m.0 m.1) m.3 (clear m.0 m.1)
