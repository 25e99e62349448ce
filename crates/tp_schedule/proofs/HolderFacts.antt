-- Who holds a resource: the list of its holders says it all.
use Rattle.std.proofs.Common.{◌≡◌, inl, inr, ℕ, Bool, true, false, cond, ◌&&◌, ◌||◌, ◌==◌, List, [], ◌∷◌, ◌++◌, map, filter, flat_map, refl, ap, sym, subst, arith, All, AllPairs, Contains, ◌∙◌, Option, Some, None}
use Rattle.std.specs.List.{list_any}
use Rattle.std.proofs.lemmas.List.{map-append}
use Rattle.std.proofs.lemmas.List.Elements.{All-head, All-tail, Contains-append_cases, Contains-append_left, Contains-append_right}
use Rattle.tp_machine.specs.Machines.{IsMachine}
use Rattle.tp_machine.specs.Modes.{mode_of}
use Rattle.tp_machine.specs.ModuleUse.{action_at, covers}
use Rattle.tp_machine.specs.declared.parts.Action.{Action}
use Rattle.tp_machine.specs.declared.parts.HoldRule.{HoldRule}
use Rattle.tp_machine.specs.declared.machine.Machine.{Machine}
use Rattle.tp_schedule.specs.Holders.{Holder, IsHeldIn, Run, held, hold_of, holder_of, holders, holders_in, holds_at, holds_of_act, is_held_by, runs, runs_of}
use Rattle.tp_schedule.specs.Laws.{HeldByHolders}
use Rattle.tp_schedule.specs.declared.parts.Hold.{Hold}
use Rattle.tp_schedule.specs.declared.parts.Plan.{Plan}
use Rattle.tp_schedule.proofs.HeldCount.{Differ, NotOn, none_held, others_not_on}
use Rattle.tp_schedule.proofs.Membership.{Contains-cons_cases, Contains-filter, Contains-filter_from, Contains-here, Contains-later, Contains-map, Contains-map_from}
use Rattle.tp_schedule.proofs.Pairs.{AllPairs-head, AllPairs-nil, AllPairs-tail}

-- an element of what f gives of an element
Contains-flat : {X Y : Type 0} (f : X → List Y) (xs : List X) (x : X) (y : Y) → Contains xs x → Contains (f x) y → Contains (flat_map f xs) y
Contains-flat f [] x y in' at = absurd (omega (arith, in'.1))
Contains-flat f (z ∷ xs) x y in' at = elim (Contains-cons_cases z xs x in') [
  | inl same ↦ Contains-append_left (f z) (flat_map f xs) y (subst (λ k. Contains (f k) y) (sym same) at)
  | inr later ↦ Contains-append_right (f z) (flat_map f xs) y (Contains-flat f xs x y later at)
]

Contains-flat_from : {X Y : Type 0} (f : X → List Y) (xs : List X) (y : Y) → Contains (flat_map f xs) y → (x : X) × Contains xs x × Contains (f x) y
Contains-flat_from f [] y in' = absurd (omega (arith, in'.1))
Contains-flat_from f (z ∷ xs) y in' = elim (Contains-append_cases (f z) (flat_map f xs) y in') [
  | inl here ↦ (z, Contains-here z xs, here)
  | inr later ↦ let r = Contains-flat_from f xs y later in (r.0, Contains-later z xs r.0 r.1, r.2)
]

module _ (machine : Machine) (resource tick : ℕ) where
  abbrev is_by : Run → HoldRule → Bool
  is_by run h = is_held_by h resource run.start run.end tick

  abbrev pairs : List Holder → List Hold
  pairs hs = map (λ (h : Holder). h.hold) hs

  -- ---- an action has at most one hold on the resource

  none-kept : (run : Run) (rules : List HoldRule) → All (NotOn resource) rules → filter (is_by run) rules ≡ []
  none-kept run [] all = refl
  none-kept run (h ∷ rules) all = rw (All-head (NotOn resource) h rules all) (none-kept run rules (All-tail (NotOn resource) h rules all))

  one-run : (run : Run) (rules : List HoldRule) → AllPairs Differ rules → pairs (map (holder_of run) (filter (is_by run) rules)) ≡ cond (list_any (is_by run) rules) (hold_of run ∷ []) []
  one-run run [] differ = refl
  one-run run (h ∷ rules) differ = go (h.resource.0 == resource) refl (one-run run rules (AllPairs-tail Differ h rules differ)) where
    one : (c : Bool) → pairs (map (holder_of run) (cond c (h ∷ []) [])) ≡ cond (c || false) (hold_of run ∷ []) []
    one true = refl
    one false = refl

    go : (b : Bool) → (h.resource.0 == resource) ≡ b → pairs (map (holder_of run) (filter (is_by run) rules)) ≡ cond (list_any (is_by run) rules) (hold_of run ∷ []) []
        → pairs (map (holder_of run) (cond (b && covers h run.start run.end tick) (h ∷ filter (is_by run) rules) (filter (is_by run) rules)))
        ≡ cond ((b && covers h run.start run.end tick) || list_any (is_by run) rules) (hold_of run ∷ []) []
    go true e rest =
        let not_on = others_not_on resource h rules e (AllPairs-head Differ h rules differ) in
        rw (none-kept run rules not_on, none_held resource run.start run.end tick rules not_on) (one (covers h run.start run.end tick))
    go false e rest = rest

  one-act : IsMachine machine → (run : Run) → pairs (holders_in machine resource tick run) ≡ cond (holds_at machine resource tick run) (hold_of run ∷ []) []
  one-act rules run = one-run run (holds_of_act (action_at machine run.act.0)) (go (action_at machine run.act.0) refl) where
    go : (o : Option Action) → action_at machine run.act.0 ≡ o → AllPairs Differ (holds_of_act o)
    go None e = AllPairs-nil Differ
    go (Some a) e = rules.differ run.act.0 a e

  -- ---- the runs one after another

  held-is : IsMachine machine → (rs : List Run) → map hold_of (filter (holds_at machine resource tick) rs) ≡ pairs (flat_map (holders_in machine resource tick) rs)
  held-is rules [] = refl
  held-is rules (run ∷ rs) =
      step (holds_at machine resource tick run) (held-is rules rs)
      ∙ ap (λ z. z ++ pairs (flat_map (holders_in machine resource tick) rs)) (sym (one-act rules run))
      ∙ sym (map-append (λ (h : Holder). h.hold) (holders_in machine resource tick run) (flat_map (holders_in machine resource tick) rs)) where
        step : (b : Bool) → map hold_of (filter (holds_at machine resource tick) rs) ≡ pairs (flat_map (holders_in machine resource tick) rs)
            → map hold_of (cond b (run ∷ filter (holds_at machine resource tick) rs) (filter (holds_at machine resource tick) rs)) ≡ cond b (hold_of run ∷ []) [] ++ pairs (flat_map (holders_in machine resource tick) rs)
        step true e = ap (λ z. hold_of run ∷ z) e
        step false e = e

  -- ---- the modes

  holder-in : (plans : List Plan) (mode : ℕ) → IsHeldIn machine plans resource tick mode → (h : Holder) × Contains (holders machine plans resource tick) h × (h.mode ≡ mode)
  holder-in plans mode a =
      let run = Contains-flat runs_of plans a.plan a.run a.planned a.runs in
      let rule = Contains-filter (is_by a.run) (holds_of_act (action_at machine a.run.act.0)) a.hold a.holds a.covers in
      (holder_of a.run a.hold, Contains-flat (holders_in machine resource tick) (runs plans) a.run (holder_of a.run a.hold) run (Contains-map (holder_of a.run) (filter (is_by a.run) (holds_of_act (action_at machine a.run.act.0))) a.hold rule), a.mode_is)

  in-holder : (plans : List Plan) (mode : ℕ) → (h : Holder) × Contains (holders machine plans resource tick) h × (h.mode ≡ mode) → IsHeldIn machine plans resource tick mode
  in-holder plans mode (h, in', is) =
      let r = Contains-flat_from (holders_in machine resource tick) (runs plans) h in' in
      let p = Contains-flat_from runs_of plans r.0 r.1 in
      let m = Contains-map_from (holder_of r.0) (filter (is_by r.0) (holds_of_act (action_at machine r.0.act.0))) h r.2 in
      let f = Contains-filter_from (is_by r.0) (holds_of_act (action_at machine r.0.act.0)) m.0 m.1 in
      record { plan = p.0; planned = p.1; run = r.0; runs = p.2; hold = m.0; holds = f.0; covers = f.1; mode_is = ap (λ (k : Holder). k.mode) (sym m.2) ∙ is }

pub held_by_holders : HeldByHolders
held_by_holders machine plans resource tick rules =
    (held-is machine resource tick rules (runs plans), λ mode. (holder-in machine resource tick plans mode, in-holder machine resource tick plans mode))
