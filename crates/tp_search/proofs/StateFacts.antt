-- The state before an action, and the states by their numbers.
use Rattle.std.proofs.Common.{◌≡◌, ◌==◌, ℕ, zero, suc, ◌*◌, ◌/◌, ◌%◌, ◌<◌, ◌≤◌, List, [], ◌∷◌, length, Option, Some, None, refl, sym, ap, subst, ◌∙◌, arith}
use Rattle.std.proofs.lemmas.Bool.{and_parts, eqb-true}
use Rattle.std.proofs.lemmas.Option.{same_Some}
use Rattle.tp_machine.specs.Steps.{Step, step_of}
use Rattle.tp_machine.specs.ModuleUse.{action_at}
use Rattle.tp_machine.specs.declared.parts.ActId.{ActId}
use Rattle.tp_machine.specs.declared.parts.Action.{Action}
use Rattle.tp_machine.specs.declared.parts.LocId.{LocId}
use Rattle.tp_machine.specs.declared.parts.Sheet.{Sheet}
use Rattle.tp_machine.specs.declared.parts.State.{State}
use Rattle.tp_machine.specs.declared.machine.Machine.{Machine}
use Rattle.tp_machine.proofs.MachineFacts.{is_machine}
use Rattle.tp_schedule.specs.Routes.{HasNoRoom, step_by, walk}
use Rattle.tp_schedule.specs.declared.parts.Ask.{Ask}
use Rattle.tp_schedule.proofs.RoomFacts.{Step-step_of}
use Rattle.tp_schedule.proofs.Walks.{walk_first}
use Rattle.tp_routes.specs.Numbers.{number_of, state_at, side_bit, side_from, done_bit}
use Rattle.tp_routes.specs.Tables.{IsKnownOrigin}
use Rattle.tp_routes.proofs.NumberFacts.{state_of_number}
use Rattle.tp_routes.proofs.RoomFacts.{leads_to, number_within, start_known}
use Rattle.tp_search.specs.States.{HasNoneBefore}

-- a sheet is at a location of the machine before an action
pub step_within : (machine : Machine) (act : ActId) (a : Action) (sheet : Sheet) (before after : State) → action_at machine act.0 ≡ Some a → Step a sheet before after
    → before.loc.0 < length machine.locations
step_within machine act a sheet before after at step =
    let location = eqb-true before.loc.0 a.from.0 (and_parts _ _ step.can).0 in
    omega (arith, location, ((is_machine machine).ways act.0 a at).from_known)

-- where an action leads here from no other state, its number doesn't either
pub only_before : (machine : Machine) (act : ActId) (a : Action) (sheet : Sheet) (before after : State) → action_at machine act.0 ≡ Some a → ((other : State) → Step a sheet other after → other ≡ before)
    → (other : State) → step_by machine sheet act other ≡ Some after → other ≡ before
only_before machine act a sheet before after at only other steps = only other (Step-step_of a sheet other after (rw at at steps))

-- where that state has no room, none before the action has
pub none_before : (machine : Machine) (ask : Ask) (act : ActId) (a : Action) (before after : State) → action_at machine act.0 ≡ Some a → ((other : State) → Step a ask.want other after → other ≡ before)
    → HasNoRoom machine ask before → HasNoneBefore machine ask act after
none_before machine ask act a before after at only none other steps allowed =
    subst (λ (s : State). HasNoRoom machine ask s) (sym (only_before machine act a ask.want before after at only other steps)) none

-- a walk from a location of the machine ends at one
pub walk_within : (machine : Machine) (sheet : Sheet) (acts : List ActId) (s t : State) → s.loc.0 < length machine.locations → walk machine sheet acts s ≡ Some t → t.loc.0 < length machine.locations
walk_within machine sheet [] s t known leads = subst (λ (q : State). q.loc.0 < length machine.locations) (same_Some s t leads) known
walk_within machine sheet (act ∷ acts) s t known leads =
    let first = walk_first machine sheet act acts s t leads in
    walk_within machine sheet acts first.0 t (after_step (action_at machine act.0) refl first.0 first.1) first.2
  where
    after_step : (o : Option Action) → action_at machine act.0 ≡ o → (next : State) → step_by machine sheet act s ≡ Some next → next.loc.0 < length machine.locations
    after_step None at next steps = (let k : None ≡ Some next = rw at at steps in absurd cc)
    after_step (Some a) at next steps =
        let step : step_of a sheet s ≡ Some next = rw at at steps in
        subst (λ (l : LocId). l.0 < length machine.locations) (sym (leads_to a sheet s next step)) ((is_machine machine).ways act.0 a at).to_known

-- a state at no location of the machine has no room, where the ask's origin is known
pub none_outside : (machine : Machine) (ask : Ask) (s : State) → IsKnownOrigin machine ask.origin → length machine.locations ≤ s.loc.0 → HasNoRoom machine ask s
none_outside machine ask s origin outside acts allowed reaches =
    let known = start_known machine ask reaches.start origin reaches.starts in
    let within = walk_within machine ask.want acts reaches.start s known reaches.leads in
    omega arith

side_of_bit : (k : ℕ) → k < 2 → side_bit (side_from k) ≡ k
side_of_bit zero h = refl
side_of_bit (suc zero) h = refl
side_of_bit (suc (suc k)) h = absurd (omega arith)

done_of_bit : (k : ℕ) → k < 2 → done_bit (k == 1) ≡ k
done_of_bit zero h = refl
done_of_bit (suc zero) h = refl
done_of_bit (suc (suc k)) h = absurd (omega arith)

-- the number of the state of a number is that number
pub number_of_state : (n : ℕ) → number_of (state_at n) ≡ n
number_of_state n =
    let up = side_of_bit (n / 4 % 2) (omega arith) in
    let front = done_of_bit (n / 2 % 2) (omega arith) in
    let back = done_of_bit (n % 2) (omega arith) in
    omega (arith, up, front, back)

-- each state at a location of the machine is the state of one number
pub every_state : (machine : Machine) (s : State) → s.loc.0 < length machine.locations
    → (n : ℕ) × (n < 8 * length machine.locations) × (state_at n ≡ s) × ((other : ℕ) → state_at other ≡ s → other ≡ n)
every_state machine s known =
    (number_of s, number_within s (length machine.locations) known, state_of_number s, λ other is. sym (number_of_state other) ∙ ap number_of is)
