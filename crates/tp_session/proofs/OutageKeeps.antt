-- A state stays sound as a module goes out, and where an ask in the loop gives no plan.
use Rattle.std.proofs.Common.{◌≡◌, ℕ, ◌<◌, inl, inr, Bool, true, false, cond, List, [], ◌∷◌, length, subst, arith, Contains, Some}
use Rattle.tp_machine.specs.declared.machine.Machine.{Machine}
use Rattle.tp_schedule.specs.Answers.{kept_acts}
use Rattle.tp_schedule.specs.Plans.{is_same_copy, change_plan}
use Rattle.tp_schedule.specs.declared.parts.Ask.{Ask}
use Rattle.tp_schedule.specs.declared.parts.Goal.{Goal}
use Rattle.tp_schedule.specs.declared.parts.Goal.TheVariants.{Tray, Purge}
use Rattle.tp_schedule.specs.declared.parts.Plan.{Plan}
use Rattle.tp_schedule.specs.declared.parts.SheetId.{SheetId}
use Rattle.tp_schedule.proofs.Membership.{Contains-cons_cases, Contains-here, Contains-later, flat_map-from}
use Rattle.tp_event_rules.specs.FallBacks.{Displaced, fall_back_unless_broken}
use Rattle.tp_event_rules.specs.Fates.{Fate, to_purge}
use Rattle.tp_event_rules.specs.Fates as fates
use Rattle.tp_event_rules.specs.Labels.{last_of}
use Rattle.tp_event_rules.specs.Loops.{next_ask, not_planned, stuck_module}
use Rattle.tp_event_rules.specs.Moments.{is_to_tray}
use Rattle.tp_event_rules.specs.Outages.{displaced, displaced_by, fate_in_outage, going_out, outage, with_out}
use Rattle.tp_event_rules.specs.States.{SessionState, for_each}
use Rattle.tp_event_rules.proofs.PlannableTurns.{asked}
use Rattle.tp_session.proofs.FateKeeps.{StaysDisplaced, StaysSound, only, stays-befall, stays-fall_back, stays-unless_broken}
use Rattle.tp_session.proofs.ModulesOut.{out-modules, stuck-module}
use Rattle.tp_session.proofs.PlanKeeps.{StaysPlan, stays-purged}

module _ (machine : Machine) where
  -- each of the copies that are to fall back, one after another
  stays-each : (ds : List Displaced) (s : SessionState) → ((d : Displaced) → Contains ds d → StaysDisplaced machine d) → StaysSound machine s → StaysSound machine (for_each fall_back_unless_broken ds s).state
  stays-each [] s of k = k
  stays-each (d ∷ ds) s of k =
      stays-each ds (fall_back_unless_broken s d).state (λ e in'. of e (Contains-later d ds e in')) (stays-unless_broken machine s d (of d (Contains-here d ds)) k)

  -- who is displaced has a plan
  displaced-one : (now : ℕ) (p : Plan) (again : Bool) (d : Displaced) → StaysPlan machine now p → Contains (record { sheet = p.sheet; want = p.want; again = again } ∷ []) d → StaysDisplaced machine d
  displaced-one now p again d s i = subst (StaysDisplaced machine) (only (record { sheet = p.sheet; want = p.want; again = again }) d i) (record { counted = s.kept.counted; media = s.media })

  displaced-of : (now : ℕ) (p : Plan) (x : Fate) (d : Displaced) → StaysPlan machine now p → Contains (displaced_by p x) d → StaysDisplaced machine d
  displaced-of now p fates.stays d s i = absurd (omega (arith, i.1))
  displaced-of now p fates.lost d s i = go (is_to_tray p.goal) i where
    go : (b : Bool) → Contains (cond b (record { sheet = p.sheet; want = p.want; again = true } ∷ []) []) d → StaysDisplaced machine d
    go true i = displaced-one now p true d s i
    go false i = absurd (omega (arith, i.1))
  displaced-of now p fates.withdrawn d s i = displaced-one now p false d s i
  displaced-of now p fates.cut d s i = absurd (omega (arith, i.1))
  displaced-of now p fates.purged d s i = absurd (omega (arith, i.1))
  displaced-of now p fates.replaced d s i = absurd (omega (arith, i.1))
  displaced-of now p fates.dropped d s i = absurd (omega (arith, i.1))

  pub stays-outage : (m : ℕ) (jam : Bool) (s : SessionState) → m < length machine.modules → StaysSound machine s → StaysSound machine (outage machine m jam s).state
  stays-outage m jam s known k =
      let out : StaysSound machine (with_out m s) = record { outs = out-modules machine s.outs m known k.outs; plans = k.plans; waiting = k.waiting; stock = k.stock } in
      stays-each (displaced machine m jam s) (going_out machine m jam s).state
      (λ d in'. let from = flat_map-from (λ p. displaced_by p (fate_in_outage machine m jam s p)) s.plans d in' in displaced-of s.now from.0 (fate_in_outage machine m jam s from.0) d (k.plans from.0 from.1) from.2)
      (stays-befall machine (fate_in_outage machine m jam s) (with_out m s) out)

  -- a plan is changed
  pub changed-from : (copy : SheetId) (f : Plan → Plan) (plans : List Plan) (r : Plan) → Contains (change_plan copy f plans) r → (P : Plan → Type 0)
      → ((p : Plan) → Contains plans p → P p) → ((p : Plan) → Contains plans p → P (f p)) → P r
  changed-from copy f [] r in' P same other = absurd (omega (arith, in'.1))
  changed-from copy f (p ∷ plans) r in' P same other = go (is_same_copy p.sheet copy) in' (λ i. changed-from copy f plans r i P (λ q j. same q (Contains-later p plans q j)) (λ q j. other q (Contains-later p plans q j))) where
    go : (b : Bool) → Contains (cond b (f p ∷ plans) (p ∷ change_plan copy f plans)) r → (Contains (change_plan copy f plans) r → P r) → P r
    go true i rest = elim (Contains-cons_cases (f p) plans r i) [
      | inl is ↦ subst P is (other p (Contains-here p plans))
      | inr later ↦ same r (Contains-later p plans r later)
    ]
    go false i rest = elim (Contains-cons_cases p (change_plan copy f plans) r i) [
      | inl is ↦ subst P is (same p (Contains-here p plans))
      | inr later ↦ rest later
    ]

  -- the copy gives its tray up, or is stuck
  pub stays-not_planned : (s : SessionState) (ask : Ask) (goal : Goal) → next_ask machine s ≡ Some ask → StaysSound machine s → StaysSound machine (not_planned machine ask goal s).state
  stays-not_planned s ask (Tray t) e k =
      let of = asked machine s ask e in
      let given : StaysSound machine (record s { plans = change_plan ask.sheet to_purge s.plans }) =
      record {
        outs = k.outs;
        plans = λ r in'. changed-from ask.sheet to_purge s.plans r in' (StaysPlan machine s.now) k.plans (λ p i. stays-purged machine s.now p (k.plans p i));
        waiting = k.waiting;
        stock = k.stock;
      } in
      let mine = k.plans of.p of.there in
      stays-fall_back machine (record s { plans = change_plan ask.sheet to_purge s.plans }) (record { sheet = ask.sheet; want = ask.want; again = true })
      (subst (λ (a : Ask). StaysDisplaced machine (record { sheet = a.sheet; want = a.want; again = true })) of.is (record { counted = mine.kept.counted; media = mine.media })) given
  stays-not_planned s ask Purge e k = stays-outage (stuck_module machine s ask).0 true s (stuck-module machine (last_of (kept_acts ask.sheet s.plans)).0) k
