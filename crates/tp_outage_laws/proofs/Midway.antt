-- In the midst of an outage the schedule can be planned on, and each front of a copy that is not lost runs.
use Rattle.std.proofs.Common.{◌≡◌, ℕ, ◌+◌, ◌<◌, ◌≤◌, ◌⊎◌, inl, inr, Bool, true, false, ◌||◌, List, [], ◌∷◌, filter, take, refl, sym, ap, ◌∙◌, arith, Contains, subst, slice_index}
use Rattle.std.proofs.lemmas.List.{get_or-take}
use Rattle.std.specs.List.{list_any}
use Rattle.std.proofs.lemmas.Bool.Decides.{nat_tests}
use Rattle.std.proofs.lemmas.List.Elements.{All-contains}
use Rattle.tp_machine.specs.declared.machine.Machine.{Machine}
use Rattle.tp_schedule.proofs.Membership.{Contains-cons_cases, Contains-filter, Contains-map, flat_map-from}
use Rattle.tp_schedule.specs.Plans.{IsTimedPlan, end_of_plan, is_front, is_same_copy, point}
use Rattle.tp_schedule.specs.declared.parts.Plan.{Plan}
use Rattle.tp_event_rules.specs.Fates.{Fate, befall, is_cut_by, is_loss, left_of, lost_by, to_purge}
use Rattle.tp_event_rules.specs.Laws.{IsPlannable}
use Rattle.tp_event_rules.specs.Lines.{is_lost}
use Rattle.tp_event_rules.specs.Moments.{front_of, is_unstarted}
use Rattle.tp_event_rules.specs.States.{SessionState}
use Rattle.tp_event_rules.proofs.PlanOnFacts.{fates_keep_planning}
use Rattle.tp_outage_laws.proofs.Flight.{front-end}
use Rattle.tp_outage_laws.proofs.Members.{lost-any}
use Rattle.tp_event_rules.specs.Fates as fates

-- each front of a copy that is not lost runs
pub record IsFlying (now : ℕ) (p : Plan) : Type 0 where
  pub started : point p 0 ≤ now
  pub ends : now < end_of_plan p

abbrev pub AreFlying : SessionState → Type 0
AreFlying s = (p : Plan) → Contains s.plans p → is_front p.kind ≡ true → is_lost s p ≡ false → IsFlying s.now p

-- the state in the midst of an outage
pub record IsMid (machine : Machine) (s : SessionState) : Type 0 where
  pub plans : IsPlannable machine s
  pub flying : AreFlying s

-- the fate fits the plan: what is cut has started, and what is not as before has not ended
pub record IsMeet (now : ℕ) (p : Plan) (f : Fate) : Type 0 where
  pub cut : is_cut_by f ≡ true → IsFlying now p
  pub stays : end_of_plan p ≤ now → f ≡ fates.stays

pub left-one : (now : ℕ) (p q r : Plan) → Contains (r ∷ []) q → IsFlying now r → IsFlying now q
left-one now p q r in' f = elim (Contains-cons_cases r [] q in') [
  | inl e ↦ subst (IsFlying now) e f
  | inr none ↦ absurd (omega (arith, none.1))
]

pub one-same : (p q r : Plan) → Contains (r ∷ []) q → r ≡ q
one-same p q r in' = elim (Contains-cons_cases r [] q in') [
  | inl e ↦ e
  | inr none ↦ absurd (omega (arith, none.1))
]

pub one-sheet : (p q r : Plan) → r.sheet ≡ p.sheet → Contains (r ∷ []) q → q.sheet ≡ p.sheet
one-sheet p q r same in' = ap (λ (x : Plan). x.sheet) (sym (one-same p q r in')) ∙ same

module _ (machine : Machine) (fate : Plan → Fate) (s : SessionState) (mid : IsMid machine s) (meets : (p : Plan) → Contains s.plans p → IsMeet s.now p (fate p)) where
  -- who is lost after it
  pub lost-after : (p q : Plan) → Contains s.plans p → (is_lost s p || is_loss (fate p)) ≡ true → q.sheet ≡ p.sheet → is_lost (befall fate s) q ≡ true
  lost-after p q in' e same =
      subst (λ c. list_any (is_same_copy c) (lost_by fate s) ≡ true) (sym same)
      (lost-any (lost_by fate s) p.sheet (Contains-map (λ p. p.sheet) (filter (λ p. is_lost s p || is_loss (fate p)) s.plans) p (Contains-filter (λ p. is_lost s p || is_loss (fate p)) s.plans p in' e)))

  timed : (p : Plan) → Contains s.plans p → IsTimedPlan machine p
  timed p in' = All-contains (IsTimedPlan machine) s.plans p mid.plans.legal.timed in'

  front-flies : (p : Plan) → Contains s.plans p → IsFlying s.now p → IsFlying s.now (front_of s.now p)
  front-flies p in' f = record { started = first; ends = front-end machine s.now p (timed p in') f.ends } where
    first : point (front_of s.now p) 0 ≤ s.now
    first = let same : point (front_of s.now p) 0 ≡ point p 0 = first-point p.points _ in let low = f.started in omega arith where
      first-point : (xs : List ℕ) (k : ℕ) → slice_index (take (k + 1) xs) 0 ≡ slice_index xs 0
      first-point xs k = get_or-take (k + 1) xs 0 0 (omega arith)

  flies-left : (p q : Plan) (f : Fate) → Contains s.plans p → IsMeet s.now p f → Contains (left_of s.now p f) q → is_front q.kind ≡ true → ((is_lost s p || is_loss f) ≡ false) → IsFlying s.now q
  flies-left p q fates.stays in' meet in'' front not_lost = one (Contains-cons_cases p [] q in'') where
    one : ((p ≡ q) ⊎ Contains {X = Plan} [] q) → IsFlying s.now q
    one (inl e) = subst (IsFlying s.now) e (mid.flying p in' (subst (λ x. is_front x.kind ≡ true) (sym e) front) (or-none (is_lost s p) not_lost)) where
      or-none : (b : Bool) → (b || false) ≡ false → b ≡ false
      or-none true e = absurd (cc)
      or-none false e = refl
    one (inr none) = absurd (omega (arith, none.1))
  flies-left p q fates.lost in' meet in'' front not_lost = absurd (or-one (is_lost s p) not_lost) where
    or-one : (b : Bool) → (b || true) ≡ false → ⊥
    or-one true e = cc
    or-one false e = cc
  flies-left p q fates.withdrawn in' meet in'' front not_lost = absurd (omega (arith, in''.1))
  flies-left p q fates.cut in' meet in'' front not_lost = left-one s.now p q (front_of s.now p) in'' (front-flies p in' (meet.cut refl))
  flies-left p q fates.purged in' meet in'' front not_lost = left-one s.now p q (to_purge (front_of s.now p)) in'' (let f = front-flies p in' (meet.cut refl) in record { started = f.started; ends = f.ends })
  flies-left p q fates.replaced in' meet in'' front not_lost = left-one s.now p q (to_purge (front_of s.now p)) in'' (let f = front-flies p in' (meet.cut refl) in record { started = f.started; ends = f.ends })
  flies-left p q fates.dropped in' meet in'' front not_lost = absurd (omega (arith, in''.1))

  left-sheet : (p q : Plan) (f : Fate) → Contains (left_of s.now p f) q → q.sheet ≡ p.sheet
  left-sheet p q fates.stays in' = one-sheet p q p refl in'
  left-sheet p q fates.lost in' = one-sheet p q (front_of s.now p) refl in'
  left-sheet p q fates.withdrawn in' = absurd (omega (arith, in'.1))
  left-sheet p q fates.cut in' = one-sheet p q (front_of s.now p) refl in'
  left-sheet p q fates.purged in' = one-sheet p q (to_purge (front_of s.now p)) refl in'
  left-sheet p q fates.replaced in' = one-sheet p q (to_purge (front_of s.now p)) refl in'
  left-sheet p q fates.dropped in' = absurd (omega (arith, in'.1))

  befall-flying : AreFlying (befall fate s)
  befall-flying q in' front not_lost = go (flat_map-from (λ p. left_of s.now p (fate p)) s.plans q in') where
    go : ((p : Plan) × Contains s.plans p × Contains (left_of s.now p (fate p)) q) → IsFlying s.now q
    go (p, there, left) = flies-left p q (fate p) there (meets p there) left front (was (is_lost s p || is_loss (fate p)) refl) where
      was : (b : Bool) → (is_lost s p || is_loss (fate p)) ≡ b → b ≡ false
      was true e = absurd (let lost = lost-after p q there e (left-sheet p q (fate p) left) in cc)
      was false e = refl

  pub befall-mid : IsMid machine (befall fate s)
  befall-mid = record {
    plans = fates_keep_planning machine fate s (λ p in' cut. started p in' cut) mid.plans;
    flying = befall-flying;
  } where
    started : (p : Plan) → Contains s.plans p → is_cut_by (fate p) ≡ true → is_unstarted s.now p ≡ false
    started p in' cut = let low = ((meets p in').cut cut).started in grind (arith, nat_tests)
