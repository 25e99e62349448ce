-- Closed labels cover the route of a complete list.
use Rattle.std.proofs.Common.{◌≡◌, inl, inr, ℕ, suc, ◌+◌, ◌≤◌, ◌<◌, Bool, true, false, not, ◌&&◌, ◌||◌, cond, ◌==◌, List, [], ◌∷◌, ◌++◌, length, refl, ap, sym, arith, Contains, subst, Option, Some, None}
use Rattle.std.specs.Prelude.{option_and_then}
use Rattle.std.proofs.lemmas.Bool.{cases_lt}
use Rattle.std.proofs.lemmas.Bool.Decides.{nat_tests}
use Rattle.std.proofs.lemmas.List.{append-nil}
use Rattle.std.proofs.lemmas.List.Elements.{Contains-append_left, Contains-append_right}
use Rattle.tp_machine.proofs.MachineFacts.{is_machine}
use Rattle.tp_machine.specs.Steps.{after, can_step, is_done, prints, prints_kind, step_of, wanted}
use Rattle.tp_machine.specs.ModuleUse.{action_at}
use Rattle.tp_machine.specs.declared.machine.Machine.{Machine}
use Rattle.tp_machine.specs.declared.parts.ActId.{ActId}
use Rattle.tp_machine.specs.declared.parts.Action.{Action}
use Rattle.tp_machine.specs.declared.parts.State.{State}
use Rattle.tp_schedule.proofs.HeldModes.{Contains-slots_by}
use Rattle.tp_schedule.proofs.Membership.{Contains-here, Contains-later}
use Rattle.tp_schedule.proofs.Walks.{walk_first}
use Rattle.tp_schedule.specs.Choices.{CanStop, Choice, ChoiceList, ChoicesLast, IsComplete, IsCompleteFrom, OpensTo, acts_of, start_floor}
use Rattle.tp_schedule.specs.Holders.{holds_of_act}
use Rattle.tp_schedule.specs.PlannerAnswers.{IsKnownGoal}
use Rattle.tp_schedule.specs.declared.parts.Goal.{Goal}
use Rattle.tp_schedule.specs.declared.parts.Goal.TheVariants.{Tray, Purge}
use Rattle.tp_schedule.specs.Routes.{AreAllowed, IsGoalState, IsStart, IsStartFrom, step_by, walk}
use Rattle.tp_schedule.specs.Spots.{Slot, Ticks, slots_by}
use Rattle.tp_schedule.specs.Spots.Spot.{kept, own}
use Rattle.tp_schedule.specs.declared.parts.Ask.{Ask}
use Rattle.tp_schedule.specs.declared.parts.Origin.{Origin}
use Rattle.tp_schedule.specs.declared.parts.Origin.TheVariants.{Feeder as FromFeeder, Front as FromFront}
use Rattle.tp_schedule.specs.declared.parts.Plan.{Plan}
use Rattle.tp_choices.proofs.ShorterLists.{LastsWithin-least}
use Rattle.tp_choices.proofs.OwnSlots.{own_slots}
use Rattle.tp_windows.proofs.Gapping.{AllStand, all-stand}
use Rattle.tp_windows.specs.Windows.{HoldsWithin, NoneIn, Windows}
use Rattle.tp_windows.specs.Ways.{CanBeginFrom, FitsLine, GoalsAreLast, GoalsLast, IsClosed, IsRest, MayRun}
use Rattle.tp_windows.specs.Labels.{BoundLaw, CoverLaw, IsCovered}

same-number : (n : ℕ) → (n == n) ≡ true
same-number n = grind (arith, nat_tests)

-- a complete list has a start state from which it leads to its goal, and begins when the ask may
pub record Begins (machine : Machine) (ask : Ask) (list : ChoiceList) (tick : ℕ) : Type 0 where
  pub state : State
  pub leads : walk machine ask.want (acts_of list.choices) state ≡ Some list.goal
  pub starts : IsStart machine ask state
  pub begins : CanBeginFrom machine ask.now ask.origin tick

begins : (machine : Machine) (plans : List Plan) (ask : Ask) (list : ChoiceList) (end : ℕ) → IsComplete machine ask list → (o : OpensTo machine plans ask list end) → Begins machine ask list (o.ticks (own (length list.choices)))
begins machine plans ask list end complete o = go ask.origin refl complete where
  go : (origin : Origin) → ask.origin ≡ origin → IsCompleteFrom machine ask list origin → Begins machine ask list (o.ticks (own (length list.choices)))
  go FromFeeder e (s, leads, starts) =
      let first : start_floor machine ask.now ask.origin ≤ o.ticks (own (length list.choices)) = (let f = o.times.first in omega (arith, f)) in
      record {
        state = s;
        leads = leads;
        starts = starts;
        begins = subst (λ r. CanBeginFrom machine ask.now r (o.ticks (own (length list.choices)))) (sym e) (subst (λ r. start_floor machine ask.now r ≤ o.ticks (own (length list.choices))) e first);
      }
  go (FromFront s tick count) e stopped =
      let can = subst (CanStop machine ask list) e (o.is_list.can_stop stopped) in
      let at-front : o.ticks (own (length list.choices)) ≡ start_floor machine ask.now ask.origin = o.times.stopped stopped in
      record {
        state = s;
        leads = can.1;
        starts = subst (λ r. IsStartFrom machine ask r s) (sym e) refl;
        begins = subst (λ r. CanBeginFrom machine ask.now r (o.ticks (own (length list.choices)))) (sym e) (subst (λ r. o.ticks (own (length list.choices)) ≡ start_floor machine ask.now r) e at-front);
      }

module _ (machine : Machine) (plans : List Plan) (ask : Ask) (w : Windows) (rest : State → Option ℕ) (limit : ℕ) (labels : State → ℕ → Type 0)
    (last : GoalsAreLast machine ask) (needs : IsRest machine ask rest) (closed : IsClosed machine plans ask w rest limit labels) (t : Ticks) (within : HoldsWithin w plans t) (goal : State)
    (is-goal : IsGoalState machine ask.want ask.goal goal) (by : t (own 0) ≤ limit) (line : FitsLine plans ask w (t (own 0))) where
  abbrev Leads : List Choice → State → Type 0
  Leads choices s = walk machine ask.want (acts_of choices) s ≡ Some goal

  -- each state of the route has a rest, and its tick leaves it
  pub record HasRest (choices : List Choice) (s : State) : Type 0 where
    pub least : ℕ
    pub rests : rest s ≡ Some least
    pub leaves : t (own (length choices)) + least ≤ t (own 0)

  has-rest : (choices : List Choice) (s : State) → Leads choices s → AreAllowed machine ask.outs (acts_of choices) → ChoicesLast machine t choices → HasRest choices s
  has-rest [] s leads allowed lasts =
      let same : s ≡ goal = cc in
      record { least = 0; rests = subst (λ g. rest g ≡ Some 0) (sym same) (needs.goals goal is-goal); leaves = omega arith }
  has-rest (c ∷ choices) s leads allowed lasts =
      let first = walk_first machine ask.want c.act (acts_of choices) s goal leads in
      let more = has-rest choices first.0 first.2 (λ act in'. allowed act (Contains-later c.act (acts_of choices) act in')) lasts.1 in
      let step = needs.steps c.act s first.0 more.least (allowed c.act (Contains-here c.act (acts_of choices))) first.1 more.rests in
      let long = LastsWithin-least machine c.act (t (own (suc (length choices)))) (t (own (length choices))) lasts.0 in
      let leaves = more.leaves in
      let few = step.2 in
      record { least = step.0; rests = step.1; leaves = omega (arith, long, leaves, few) }

  abbrev here : Choice → List Choice → ℕ → List Slot
  here c choices resource = slots_by resource (own (suc (length choices))) (own (length choices)) (holds_of_act (action_at machine c.act.0))

  runs : (c : Choice) (choices : List Choice) → ChoicesLast machine t (c ∷ choices) → AllStand machine plans w t within (c ∷ choices) → MayRun machine plans w c.act (t (own (suc (length choices)))) (t (own (length choices)))
  runs c choices lasts stand =
      let n : ℕ = length choices in
      record {
        lasts = lasts.0;
        stands = λ rule in'.
            let r : ℕ = rule.resource.0 in
            let x : Slot = record { rule = rule; from = own (suc n); to = own n } in
            stand r x (Contains-append_left (here c choices r) (own_slots machine r choices) x (Contains-slots_by r (own (suc n)) (own n) (holds_of_act (action_at machine c.act.0)) rule in' (same-number r)));
      }

  -- a goal state comes last, where the end fits the line
  ends-there : (choices : List Choice) (s : State) → Leads choices s → IsGoalState machine ask.want ask.goal s → FitsLine plans ask w (t (own (length choices)))
  ends-there [] s leads is = line
  ends-there (c ∷ choices) s leads is = let first = walk_first machine ask.want c.act (acts_of choices) s goal leads in absurd (last c.act s first.0 is first.1)

  pub covered : (before behind : List Choice) (s : State) → Leads (before ++ behind) s → AreAllowed machine ask.outs (acts_of (before ++ behind)) → ChoicesLast machine t (before ++ behind) → AllStand machine plans w t within (before ++ behind)
      → labels s (t (own (length (before ++ behind)))) → (r : State) × Leads behind r × labels r (t (own (length behind)))
  covered [] behind s leads allowed lasts stand label = (s, leads, label)
  covered (c ∷ before) behind s leads allowed lasts stand label =
      let choices : List Choice = before ++ behind in
      let first = walk_first machine ask.want c.act (acts_of choices) s goal leads in
      let rest-allowed : AreAllowed machine ask.outs (acts_of choices) = λ act in'. allowed act (Contains-later c.act (acts_of choices) act in') in
      let more = has-rest choices first.0 first.2 rest-allowed lasts.1 in
      let leaves = more.leaves in
      covered before behind first.0 first.2 rest-allowed lasts.1
      (λ r x in'. stand r x (Contains-append_right (here c choices r) (own_slots machine r choices) x in'))
      (closed.steps s first.0 (t (own (suc (length choices)))) (t (own (length choices))) label (record {
        act = c.act;
        needs = more.least;
        allowed = allowed c.act (Contains-here c.act (acts_of choices));
        leads = first.1;
        runs = runs c choices lasts stand;
        rests = more.rests;
        in_time = omega (arith, leaves, by);
        line = λ is. ends-there choices first.0 first.2 is;
      }))

module _ (machine : Machine) (plans : List Plan) (ask : Ask) (w : Windows) (rest : State → Option ℕ) (limit : ℕ) (labels : State → ℕ → Type 0)
    (last : GoalsAreLast machine ask) (needs : IsRest machine ask rest) (closed : IsClosed machine plans ask w rest limit labels)
    (list : ChoiceList) (end : ℕ) (complete : IsComplete machine ask list) (o : OpensTo machine plans ask list end) (within : HoldsWithin w plans o.ticks) (le : end ≤ limit) where
  by-limit : o.ticks (own 0) ≤ limit
  by-limit = let ends = o.ends in omega (arith, ends, le)

  fits : FitsLine plans ask w (o.ticks (own 0))
  fits p in' tray goes delivered =
      let line = o.times.line p in' tray goes delivered in
      let window = within (kept p.sheet (length p.acts)) (record { plan = p; number = length p.acts; in_plans = in'; within = omega arith; spot = refl }) in
      let low = window.0 in
      let high = window.1 in
      ((λ before. let less = line.0 before in omega (arith, less, low)), (λ behind. let less = line.1 behind in omega (arith, less, high)))

  abbrev start : Begins machine ask list (o.ticks (own (length list.choices)))
  start = begins machine plans ask list end complete o

  first-label : labels start.state (o.ticks (own (length list.choices)))
  first-label =
      let rests = has-rest machine plans ask w rest limit labels last needs closed o.ticks within list.goal o.is_list.goal by-limit fits list.choices start.state start.leads o.is_list.allowed o.times.lasts in
      let leaves = rests.leaves in
      let le' = by-limit in
      closed.starts start.state (o.ticks (own (length list.choices))) (record {
        needs = rests.least;
        starts = start.starts;
        begins = start.begins;
        rests = rests.rests;
        in_time = omega (arith, leaves, le');
      })

  pub covers : (before behind : List Choice) → list.choices ≡ before ++ behind → (s : State) × (walk machine ask.want (acts_of behind) s ≡ Some list.goal) × labels s (o.ticks (own (length behind)))
  covers before behind e =
      covered machine plans ask w rest limit labels last needs closed o.ticks within list.goal o.is_list.goal by-limit fits before behind start.state
      (subst (λ cs. walk machine ask.want (acts_of cs) start.state ≡ Some list.goal) e start.leads)
      (subst (λ cs. AreAllowed machine ask.outs (acts_of cs)) e o.is_list.allowed)
      (subst (λ cs. ChoicesLast machine o.ticks cs) e o.times.lasts)
      (subst (λ cs. AllStand machine plans w o.ticks within cs) e (all-stand machine plans w o.ticks within list.choices o.is_list.places o.times.apart))
      (subst (λ cs. labels start.state (o.ticks (own (length cs)))) e first-label)

  pub at-goal : labels list.goal (o.ticks (own 0))
  at-goal =
      let found = covers list.choices [] (sym (append-nil list.choices)) in
      let same : found.0 ≡ list.goal = (let e = found.1 in cc) in
      subst (λ s. labels s (o.ticks (own 0))) same found.2

pub cover_law : CoverLaw
cover_law machine plans ask w rest limit labels list end before behind last needs closed complete o within le e =
    covers machine plans ask w rest limit (IsCovered labels) last needs closed list end complete o within le before behind e

-- the same for any states at ticks
pub none-in : (machine : Machine) (plans : List Plan) (ask : Ask) (w : Windows) (rest : State → Option ℕ) (limit : ℕ) (labels : State → ℕ → Type 0)
    → GoalsAreLast machine ask → IsRest machine ask rest → IsClosed machine plans ask w rest limit labels
    → ((goal : State) (tick : ℕ) → IsGoalState machine ask.want ask.goal goal → labels goal tick → limit < tick) → NoneIn machine plans ask w limit
none-in machine plans ask w rest limit labels last needs closed none list end complete o within = elim (cases_lt limit end) [
  | inl late ↦ late
  | inr by ↦
      let le : end ≤ limit = omega (arith, by) in
      let found = at-goal machine plans ask w rest limit labels last needs closed list end complete o within le in
      let late = none list.goal (o.ticks (own 0)) o.is_list.goal found in
      let ends = o.ends in
      omega (arith, late, ends)
]

pub bound_law : BoundLaw
bound_law machine plans ask w rest limit labels last needs closed none = none-in machine plans ask w rest limit (IsCovered labels) last needs closed none

same-location : (s : State) (a : Action) (other : Bool) → ((s.loc.0 == a.from.0) && other) ≡ true → s.loc ≡ a.from
same-location s a other can = let same : s.loc.0 ≡ a.from.0 = grind (arith, nat_tests) in ap (λ n. record { 0 = n }) same

-- an action leads on from a location that is neither a tray nor a purge tray
can-go : (machine : Machine) (ask : Ask) (act : ActId) (s next : State) → step_by machine ask.want act s ≡ Some next → (¬ Contains machine.trays s.loc) × (¬ Contains machine.purges s.loc)
can-go machine ask act s next leads = go (action_at machine act.0) refl leads where
  known : (a : Action) (b : Bool) → action_at machine act.0 ≡ Some a → can_step a ask.want s ≡ b → cond b (Some (after a s)) None ≡ Some next → (¬ Contains machine.trays s.loc) × (¬ Contains machine.purges s.loc)
  known a false e can to = absurd cc
  known a true e can to =
      let same : s.loc ≡ a.from = same-location s a (not (prints a) || (not (is_done s s.up) && prints_kind a (wanted ask.want s.up))) can in
      subst (λ l. (¬ Contains machine.trays l) × (¬ Contains machine.purges l)) (sym same) ((is_machine machine).ways act.0 a e).leaves

  go : (o : Option Action) → action_at machine act.0 ≡ o → option_and_then (λ a. step_of a ask.want s) o ≡ Some next → (¬ Contains machine.trays s.loc) × (¬ Contains machine.purges s.loc)
  go None e to = absurd cc
  go (Some a) e to = known a (can_step a ask.want s) e refl to

pub goals_last : GoalsLast
goals_last machine ask is_known act s next is leads = go ask.goal is_known is (can-go machine ask act s next leads) where
  go : (goal : Goal) → IsKnownGoal machine goal → IsGoalState machine ask.want goal s → (¬ Contains machine.trays s.loc) × (¬ Contains machine.purges s.loc) → ⊥
  go (Tray t) known same gone = gone.0 (subst (λ (g : State). Contains machine.trays g.loc) (sym same) known)
  go Purge known in' gone = gone.1 in'
