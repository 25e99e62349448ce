-- The goal states of an ask: they are at locations of the machine, and goal states.
use Rattle.std.proofs.Common.{◌≡◌, ℕ, zero, suc, ◌<◌, ◌≤◌, All, Contains, arith, length, Bool, true, false, cond, ◌||◌, ◌==◌, subst, List, [], ◌∷◌, filter, flat_map, refl}
use Rattle.std.specs.List.{list_any}
use Rattle.std.proofs.lemmas.Bool.Decides.{nat_tests}
use Rattle.std.proofs.lemmas.List.Elements.{All-append, All-cons, All-contains, All-filter, All-from_recursion, All-head, All-nil, All-push, All-tail}
use Rattle.tp_machine.specs.declared.parts.LocId.{LocId}
use Rattle.tp_machine.specs.declared.parts.Sheet.{Sheet}
use Rattle.tp_machine.specs.declared.parts.State.{State}
use Rattle.tp_machine.specs.declared.machine.Machine.{Machine}
use Rattle.tp_machine.specs.Machines.{IsLocation}
use Rattle.tp_machine.proofs.MachineFacts.{is_machine}
use Rattle.tp_schedule.proofs.Membership.{Contains-here, Contains-later}
use Rattle.tp_schedule.specs.Routes.{IsGoalState, finished}
use Rattle.tp_schedule.specs.declared.parts.Goal.{Goal}
use Rattle.tp_schedule.specs.declared.parts.Goal.TheVariants.{Purge, Tray}
use Rattle.tp_bound_laws.specs.Places.{goal_states, is_done_wanted, is_purge, locations_below, states_at}
use Rattle.tp_schedule.specs.PlannerAnswers.{IsKnownGoal}

-- ---- goal states are at locations of the machine
below-known : (n most : ℕ) → n ≤ most → All (λ (l : LocId). l.0 < most) (locations_below n)
below-known zero most e = All-nil (λ (l : LocId). l.0 < most)
below-known (suc n) most e = All-push (λ (l : LocId). l.0 < most) (locations_below n) (record { 0 = n }) (below-known n most (omega (arith, e))) (omega (arith, e))

at-all : (P : LocId → Type 0) (ls : List LocId) → All P ls → All (λ (s : State). P s.loc) (flat_map states_at ls)
at-all P [] h = All-nil (λ (s : State). P s.loc)
at-all P (l ∷ ls) h =
    let k = All-head P l ls h in
    All-append (λ (s : State). P s.loc) (states_at l) (flat_map states_at ls) (All-from_recursion (λ (s : State). P s.loc) (states_at l) (k, (k, (k, (k, (k, (k, (k, (k, tt))))))))) (at-all P ls (All-tail P l ls h))

-- what holds of the purge trays below the machine's locations holds of the goal states at them
purges-all : (machine : Machine) (sheet : Sheet) (P : LocId → Type 0) → All P (filter (is_purge machine) (locations_below (length machine.locations))) → All (λ (s : State). P s.loc) (goal_states machine sheet Purge)
purges-all machine sheet P h =
    let locs = filter (is_purge machine) (locations_below (length machine.locations)) in
    All-filter (is_done_wanted sheet) (λ (s : State). P s.loc) (flat_map states_at locs) (at-all P locs h)

pub goals-known : (machine : Machine) (sheet : Sheet) (goal : Goal) → IsKnownGoal machine goal → All (λ (s : State). s.loc.0 < length machine.locations) (goal_states machine sheet goal)
goals-known machine sheet (Tray tray) known =
    let P : State → Type 0 = λ s. s.loc.0 < length machine.locations in
    All-cons P (finished sheet tray) [] (All-contains (IsLocation machine) machine.trays tray (is_machine machine).trays known) (All-nil P)
goals-known machine sheet Purge known =
    let most = length machine.locations in
    purges-all machine sheet (λ (l : LocId). l.0 < most) (All-filter (is_purge machine) (λ (l : LocId). l.0 < most) (locations_below most) (below-known most most (omega arith)))

-- ---- and they are goal states
purge-contained : (purges : List LocId) (loc : LocId) → list_any (λ p. p.0 == loc.0) purges ≡ true → Contains purges loc
purge-contained [] loc e = absurd cc
purge-contained (p ∷ purges) loc e = go (p.0 == loc.0) refl e (purge-contained purges loc) where
  go : (t : Bool) → (p.0 == loc.0) ≡ t → (t || list_any (λ q. q.0 == loc.0) purges) ≡ true → (list_any (λ q. q.0 == loc.0) purges ≡ true → Contains purges loc) → Contains (p ∷ purges) loc
  go true same h rest = let is : p.0 ≡ loc.0 = grind (arith, nat_tests) in subst (λ n. Contains (p ∷ purges) (record { 0 = n })) is (Contains-here p purges)
  go false other h rest = Contains-later p purges loc (rest h)

purges-passed : (machine : Machine) (ls : List LocId) → All (λ (l : LocId). Contains machine.purges l) (filter (is_purge machine) ls)
purges-passed machine [] = All-nil (λ (l : LocId). Contains machine.purges l)
purges-passed machine (l ∷ ls) = go (is_purge machine l) refl (purges-passed machine ls) where
  go : (t : Bool) → is_purge machine l ≡ t → All (λ (k : LocId). Contains machine.purges k) (filter (is_purge machine) ls)
      → All (λ (k : LocId). Contains machine.purges k) (cond t (l ∷ filter (is_purge machine) ls) (filter (is_purge machine) ls))
  go true e rest = All-cons (λ (k : LocId). Contains machine.purges k) l (filter (is_purge machine) ls) (purge-contained machine.purges l e) rest
  go false e rest = rest

pub goals-are : (machine : Machine) (sheet : Sheet) (goal : Goal) → All (IsGoalState machine sheet goal) (goal_states machine sheet goal)
goals-are machine sheet (Tray tray) = All-cons (IsGoalState machine sheet (Tray tray)) (finished sheet tray) [] refl (All-nil (IsGoalState machine sheet (Tray tray)))
goals-are machine sheet Purge = purges-all machine sheet (λ (l : LocId). Contains machine.purges l) (purges-passed machine (locations_below (length machine.locations)))
