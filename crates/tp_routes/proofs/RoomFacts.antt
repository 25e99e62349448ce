-- A table at rest has the rooms: each list of actions is followed through it step by step.
use Rattle.std.proofs.Common.{◌≡◌, ℕ, ◌+◌, ◌*◌, ◌<◌, Bool, true, false, List, [], ◌∷◌, ◌++◌, length, Option, Some, None, IsTrue, cond, refl, sym, ap, subst, ◌∙◌, arith}
use Rattle.std.specs.Prelude.{option_and_then, MatchOption}
use Rattle.std.specs.List.{Contains}
use Rattle.std.proofs.lemmas.Option.{same_Some}
use Rattle.std.proofs.lemmas.List.Elements.{All-contains}
use Rattle.tp_machine.specs.Steps.{step_of, can_step, after}
use Rattle.tp_machine.specs.ModuleUse.{action_at}
use Rattle.tp_machine.specs.declared.parts.ActId.{ActId}
use Rattle.tp_machine.specs.declared.parts.Action.{Action}
use Rattle.tp_machine.specs.declared.parts.Sheet.{Sheet}
use Rattle.tp_machine.specs.declared.parts.State.{State}
use Rattle.tp_machine.specs.declared.machine.Machine.{Machine}
use Rattle.tp_machine.proofs.MachineFacts.{is_machine}
use Rattle.tp_schedule.specs.Routes.{walk, step_by, IsFreshStart, IsStart, IsStartFrom, Reaches, AreAllowed, is_act_allowed, least_sum, least_of, IsRoom, HasNoRoom}
use Rattle.tp_schedule.specs.declared.parts.Ask.{Ask}
use Rattle.tp_schedule.specs.declared.parts.Origin.{Origin}
use Rattle.tp_schedule.specs.declared.parts.Origin.TheVariants.{Feeder as FromFeeder, Front as FromFront}
use Rattle.tp_routes.specs.Numbers.{number_of, state_at, side_bit, done_bit}
use Rattle.tp_routes.specs.Tables.{sum_at, AreRooms, IsKnownOrigin}
use Rattle.tp_routes.specs.FilledRooms.{IsSum, AreSums, HasAtMost, StartsAreIn, IsStepIn}
use Rattle.tp_routes.specs.Laws.{StepsKeepRoom}
use Rattle.tp_schedule.proofs.Walks.{walk_first, walk_on, least_sum-push, AreAllowed-head, AreAllowed-tail, AreAllowed-push}
use Rattle.tp_machine.specs.Machines.{IsLocation, IsOpenLocation}
use Rattle.tp_machine.specs.declared.parts.Face.{Face}
use Rattle.tp_machine.specs.declared.parts.Face.TheVariants.{Front, Back}
use Rattle.tp_machine.specs.declared.parts.Feeder.{Feeder}
use Rattle.tp_machine.specs.declared.parts.LocId.{LocId}
use Rattle.tp_routes.proofs.NumberFacts.{state_of_number}

-- a sum of a state, and one action more, is a sum of the state after it
pub sum_on : (machine : Machine) (ask : Ask) (act : ActId) (a : Action) (s s' : State) (sum : ℕ) → action_at machine act.0 ≡ Some a → IsTrue (is_act_allowed machine ask.outs act)
    → step_of a ask.want s ≡ Some s' → IsSum machine ask s sum → IsSum machine ask s' (sum + a.least)
sum_on machine ask act a s s' sum at allowed steps is_sum =
    let steps_by : step_by machine ask.want act s ≡ Some s' = rw at steps in
    let least : least_of machine act ≡ a.least = rw at refl in
    record {
      acts = is_sum.acts ++ act ∷ [];
      allowed = AreAllowed-push machine ask.outs is_sum.acts act is_sum.allowed allowed;
      reaches = record { start = is_sum.reaches.start; starts = is_sum.reaches.starts; leads = walk_on machine ask.want is_sum.acts act is_sum.reaches.start s s' is_sum.reaches.leads steps_by };
      sums = least_sum-push machine is_sum.acts act ∙ omega (arith, least, is_sum.sums);
    }

pub steps_keep_room : StepsKeepRoom
steps_keep_room machine ask act a s s' room at allowed steps is_room room' is_room' =
    let sum = sum_on machine ask act a s s' room at allowed steps (record { acts = is_room.acts; allowed = is_room.allowed; reaches = is_room.reaches; sums = is_room.sum }) in
    omega (arith, is_room'.least sum.acts sum.allowed sum.reaches, sum.sums)

-- an action leads to a location of the machine
pub leads_to : (a : Action) (sheet : Sheet) (s s' : State) → step_of a sheet s ≡ Some s' → s'.loc ≡ a.to
leads_to a sheet s s' steps = go (can_step a sheet s) steps
  where
    go : (b : Bool) → cond b (Some (after a s)) None ≡ Some s' → s'.loc ≡ a.to
    go true e = (let k : after a s ≡ s' = same_Some (after a s) s' e in ap (λ (t : State). t.loc) (sym k))
    go false e = absurd cc

pub number_within : (s : State) (count : ℕ) → s.loc.0 < count → number_of s < 8 * count
number_within s count known = below s.up s.front_done s.back_done
  where
    below : (up : Face) (front back : Bool) → s.loc.0 * 8 + (side_bit up * 4 + (done_bit front * 2 + done_bit back)) < 8 * count
    below Front false false = omega arith
    below Front false true = omega arith
    below Front true false = omega arith
    below Front true true = omega arith
    below Back false false = omega arith
    below Back false true = omega arith
    below Back true false = omega arith
    below Back true true = omega arith

-- all steps of all states that have a sum are in the table
abbrev pub IsAtRest : Machine → Ask → List (Option ℕ) → Type 0
IsAtRest machine ask sums = (n sum : ℕ) → n < length sums → sum_at sums n ≡ Some sum → (act : ℕ) → IsStepIn machine ask sums (state_at n) sum act

-- along a walk of allowed actions the table has at most their sum
along : (machine : Machine) (ask : Ask) (sums : List (Option ℕ)) → length sums ≡ 8 * length machine.locations → IsAtRest machine ask sums
    → (acts : List ActId) (s t : State) (sum : ℕ) → AreAllowed machine ask.outs acts → s.loc.0 < length machine.locations → walk machine ask.want acts s ≡ Some t → HasAtMost sums s sum
    → HasAtMost sums t (sum + least_sum machine acts)
along machine ask sums states rest [] s t sum allowed known leads (v, is, most) = rw (sym (same_Some s t leads)) (v, is, omega arith)
along machine ask sums states rest (act ∷ acts) s t sum allowed known leads (v, is, most) =
    let first = walk_first machine ask.want act acts s t leads in
    go (λ s' sum' known' later next. along machine ask sums states rest acts s' t sum' (AreAllowed-tail machine ask.outs act acts allowed) known' later next) (action_at machine act.0) refl first.0 first.1 first.2
  where
    go : ((s' : State) (sum' : ℕ) → s'.loc.0 < length machine.locations → walk machine ask.want acts s' ≡ Some t → HasAtMost sums s' sum' → HasAtMost sums t (sum' + least_sum machine acts))
        → (o : Option Action) → action_at machine act.0 ≡ o → (s' : State) → option_and_then (λ a. step_of a ask.want s) (action_at machine act.0) ≡ Some s' → walk machine ask.want acts s' ≡ Some t → HasAtMost sums t (sum + least_sum machine (act ∷ acts))
    go others None at s' steps later = (let k : None ≡ Some s' = rw at at steps in absurd cc)
    go others (Some a) at s' steps later =
        let step : step_of a ask.want s ≡ Some s' = rw at at steps in
        let within : number_of s < length sums = subst (λ k. number_of s < k) (sym states) (number_within s (length machine.locations) known) in
        let here : step_of a ask.want (state_at (number_of s)) ≡ Some s' = subst (λ (q : State). step_of a ask.want q ≡ Some s') (sym (state_of_number s)) step in
        let next = rest (number_of s) v within is act.0 a s' at (AreAllowed-head machine ask.outs act acts allowed) here in
        let known' : s'.loc.0 < length machine.locations = subst (λ (l : LocId). l.0 < length machine.locations) (sym (leads_to a ask.want s s' step)) ((is_machine machine).ways act.0 a at).to_known in
        let least : least_of machine act ≡ a.least = rw at refl in
        let last = others s' (v + a.least) known' later next in
        (last.0, last.1, omega (arith, last.2, most, least))

fresh_known : (machine : Machine) (f : Feeder) → Contains machine.feeders f → f.loc.0 < length machine.locations
fresh_known machine f has = (All-contains (λ g. IsLocation machine g.loc × IsOpenLocation machine g.loc) machine.feeders f (is_machine machine).feeders has).0

-- a fresh start is at a location of the machine
pub fresh_start_known : (machine : Machine) (sheet : Sheet) (s : State) → IsFreshStart machine sheet s → s.loc.0 < length machine.locations
fresh_start_known machine sheet s (k, f, below, at, both) = subst (λ (t : State). t.loc.0 < length machine.locations) (sym both.1) (fresh_known machine f (k, below, at))

-- and so is a start state
pub start_known : (machine : Machine) (ask : Ask) (s : State) → IsKnownOrigin machine ask.origin → IsStart machine ask s → s.loc.0 < length machine.locations
start_known machine ask s known starts = go ask.origin known starts
  where
    go : (o : Origin) → IsKnownOrigin machine o → IsStartFrom machine ask o s → s.loc.0 < length machine.locations
    go FromFeeder known (starts, free) = fresh_start_known machine ask.want s starts
    go (FromFront state end count) known is = subst (λ (t : State). t.loc.0 < length machine.locations) (sym is) known

-- a table at rest has the rooms
pub at_rest : (machine : Machine) (ask : Ask) (sums : List (Option ℕ)) → length sums ≡ 8 * length machine.locations → IsKnownOrigin machine ask.origin
    → AreSums machine ask sums → StartsAreIn machine ask sums → IsAtRest machine ask sums → AreRooms machine ask sums
at_rest machine ask sums states origin reached starts rest s known = go (sum_at sums (number_of s)) refl
  where
    bounded : (acts : List ActId) → AreAllowed machine ask.outs acts → Reaches machine ask acts s → HasAtMost sums s (least_sum machine acts)
    bounded acts allowed reaches =
        let k = along machine ask sums states rest acts reaches.start s 0 allowed (start_known machine ask reaches.start origin reaches.starts) reaches.leads (starts reaches.start reaches.starts) in
        (k.0, k.1, omega (arith, k.2))

    go : (o : Option ℕ) → sum_at sums (number_of s) ≡ o → MatchOption o (HasNoRoom machine ask s) (IsRoom machine ask s)
    go None is = λ acts allowed reaches. (let k = bounded acts allowed reaches in let both : None ≡ Some k.0 = sym is ∙ k.1 in absurd cc)
    go (Some v) is =
        let within : number_of s < length sums = subst (λ k. number_of s < k) (sym states) (number_within s (length machine.locations) known) in
        let sum : IsSum machine ask s v = subst (λ t. IsSum machine ask t v) (state_of_number s) (reached (number_of s) v within is) in
        record {
          acts = sum.acts;
          allowed = sum.allowed;
          reaches = sum.reaches;
          sum = sum.sums;
          least = λ others allowed reaches. (let k = bounded others allowed reaches in let same : v ≡ k.0 = same_Some v k.0 (sym is ∙ k.1) in omega (arith, same, k.2));
        }
