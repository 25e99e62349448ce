-- One plan of a schedule less some copies is changed, and where a plan starts.
use Rattle.std.proofs.Common.{◌≡◌, ◌<◌, Bool, true, false, cond, ◌&&◌, ◌||◌, ◌==◌, not, List, [], ◌∷◌, length, filter, find, refl, sym, ap, ◌∙◌, arith, Contains, Option, Some, None, option_and_then}
use Rattle.std.proofs.lemmas.Bool.Decides.{nat_tests}
use Rattle.tp_machine.specs.Steps.{step_of}
use Rattle.tp_machine.specs.ModuleUse.{action_at}
use Rattle.tp_machine.specs.declared.parts.ActId.{ActId}
use Rattle.tp_machine.specs.declared.parts.Action.{Action}
use Rattle.tp_machine.specs.declared.parts.LocId.{LocId}
use Rattle.tp_machine.specs.declared.parts.Sheet.{Sheet}
use Rattle.tp_machine.specs.declared.parts.State.{State}
use Rattle.tp_machine.specs.declared.machine.Machine.{Machine}
use Rattle.tp_choices.specs.LiveParts.{less}
use Rattle.tp_schedule.specs.Plans.{IsTimedPlan, change_plan, is_same_copy}
use Rattle.tp_schedule.specs.Routes.{fresh, walk}
use Rattle.tp_schedule.specs.declared.parts.Plan.{Plan}
use Rattle.tp_schedule.specs.declared.parts.SheetId.{SheetId}
use Rattle.tp_schedule.proofs.CopyFacts.{same_copy-is}
use Rattle.tp_schedule.proofs.Membership.{Contains-here, Contains-later}
use Rattle.tp_event_rules.proofs.ListFacts.{Any-contains}
use Rattle.tp_event_rules.specs.StateInvariants.{is_planned_among}
use Rattle.tp_event_rules.specs.Loops.{first_location, from_in, start_of}
use Rattle.tp_event_turn.proofs.PartedLists.{gone_from}

-- the first action of a walk starts where the sheet is
walk-start : (machine : Machine) (want : Sheet) (act : ActId) (acts : List ActId) (s end : State) → walk machine want (act ∷ acts) s ≡ Some end → s.loc ≡ from_in (action_at machine act.0)
walk-start machine want act acts s end e = go (action_at machine act.0) e where
  at : (a : Action) (b : Bool) → (s.loc.0 == a.from.0) ≡ b → (rest : Bool) (o : Option State) → option_and_then (walk machine want acts) (cond (b && rest) o None) ≡ Some end → s.loc ≡ a.from
  at a true f rest o e = let same : s.loc.0 ≡ a.from.0 = grind (arith, nat_tests) in λ i. record { 0 = same i }
  at a false f rest o e = absurd (cc)

  go : (o : Option Action) → option_and_then (walk machine want acts) (option_and_then (λ a. step_of a want s) o) ≡ Some end → s.loc ≡ from_in o
  go None e = absurd (cc)
  go (Some a) e = at a (s.loc.0 == a.from.0) refl _ _ e

-- so a plan starts from the state of its first action's location
pub starts-there : (machine : Machine) (p : Plan) (timed : IsTimedPlan machine p) → start_of machine p ≡ timed.start
starts-there machine p timed =
    let at = Any-contains _ machine.feeders timed.starts in
    let is : timed.start ≡ fresh at.0.loc = at.2.1 in
    go p.acts timed.some timed.start timed.end timed.leads at.0.loc is where
      go : (acts : List ActId) → 0 < length acts → (s end : State) → walk machine p.want acts s ≡ Some end → (l : LocId) → s ≡ fresh l → fresh (first_location machine acts) ≡ s
      go [] some s end leads l is = absurd (omega arith)
      go (act ∷ acts) some s end leads l is =
          let here : s.loc ≡ first_location machine (act ∷ acts) = walk-start machine p.want act acts s end leads in
          let loc : s.loc ≡ l = ap (λ (t : State). t.loc) is in
          ap fresh (sym here ∙ loc) ∙ sym is

pub find-part : {X : Type 0} (q t t' : X → Bool) (xs : List X) → ((x : X) → Contains xs x → q x ≡ false → t x ≡ false) → ((x : X) → Contains xs x → q x ≡ true → t' x ≡ t x) → find t' (filter q xs) ≡ find t xs
find-part q t t' [] fails same = refl
find-part {X} q t t' (x ∷ xs) fails same = go (q x) refl (find-part q t t' xs (λ y in'. fails y (Contains-later x xs y in')) (λ y in'. same y (Contains-later x xs y in'))) where
  go : (b : Bool) → q x ≡ b → find t' (filter q xs) ≡ find t xs → find t' (cond b (x ∷ filter q xs) (filter q xs)) ≡ cond (t x) (Some x) (find t xs)
  go true e rest = rw (same x (Contains-here x xs) e) (ap (cond (t x) (Some x)) rest)
  go false e rest = rw (fails x (Contains-here x xs) e) rest

pub not-not : (b : Bool) → not b ≡ false → b ≡ true
not-not true e = refl
not-not false e = absurd (cc)

pub not-yes : (b : Bool) → not b ≡ true → b ≡ false
not-yes true e = absurd (cc)
not-yes false e = refl

-- one plan changed, its copy as it was
module _ (c : SheetId) (f : Plan → Plan) (same : (p : Plan) → (f p).sheet ≡ p.sheet) where
  pub change-part : (g : SheetId → Bool) → g c ≡ false → (ps : List Plan) → less g (change_plan c f ps) ≡ change_plan c f (less g ps)
  change-part g stays [] = refl
  change-part g stays (p ∷ ps) = go (is_same_copy p.sheet c) refl (g p.sheet) refl (change-part g stays ps) where
    go : (b : Bool) → is_same_copy p.sheet c ≡ b → (d : Bool) → g p.sheet ≡ d → less g (change_plan c f ps) ≡ change_plan c f (less g ps)
        → less g (cond b (f p ∷ ps) (p ∷ change_plan c f ps)) ≡ change_plan c f (cond (not d) (p ∷ less g ps) (less g ps))
    go true e true h rest = absurd (let no : g p.sheet ≡ false = ap g (same_copy-is p.sheet c e) ∙ stays in cc)
    go true e false h rest = let kept : g (f p).sheet ≡ false = ap g (same p) ∙ h in rw (kept, e) refl
    go false e true h rest = rw h rest
    go false e false h rest = rw (h, e) (ap (λ l. p ∷ l) rest)

  pub gone-change : (g : SheetId → Bool) → g c ≡ false → (ps : List Plan) → gone_from g (change_plan c f ps) ≡ gone_from g ps
  gone-change g stays [] = refl
  gone-change g stays (p ∷ ps) = go (is_same_copy p.sheet c) refl (g p.sheet) refl (gone-change g stays ps) where
    go : (b : Bool) → is_same_copy p.sheet c ≡ b → (d : Bool) → g p.sheet ≡ d → gone_from g (change_plan c f ps) ≡ gone_from g ps
        → gone_from g (cond b (f p ∷ ps) (p ∷ change_plan c f ps)) ≡ cond d (p ∷ gone_from g ps) (gone_from g ps)
    go true e true h rest = absurd (let no : g p.sheet ≡ false = ap g (same_copy-is p.sheet c e) ∙ stays in cc)
    go true e false h rest = let kept : g (f p).sheet ≡ false = ap g (same p) ∙ h in rw kept refl
    go false e true h rest = rw h (ap (λ l. p ∷ l) rest)
    go false e false h rest = rw h rest

  pub change-among : (d : SheetId) (ps : List Plan) → is_planned_among (change_plan c f ps) d ≡ is_planned_among ps d
  change-among d [] = refl
  change-among d (p ∷ ps) = go (is_same_copy p.sheet c) (change-among d ps) where
    go : (b : Bool) → is_planned_among (change_plan c f ps) d ≡ is_planned_among ps d → is_planned_among (cond b (f p ∷ ps) (p ∷ change_plan c f ps)) d ≡ is_planned_among (p ∷ ps) d
    go true rest = ap (λ e. is_same_copy e d || is_planned_among ps d) (same p)
    go false rest = ap (λ b. is_same_copy p.sheet d || b) rest
