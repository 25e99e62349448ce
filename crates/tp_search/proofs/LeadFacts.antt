-- The actions that lead to a state stand in a chain. Those between them lead elsewhere, so that no child has them.
use Rattle.std.proofs.Common.{◌≡◌, ◌≢◌, inl, inr, ltb, ◌∷◌, slice_get, ℕ, zero, suc, ◌+◌, ◌-◌, ◌<◌, ◌≤◌, List, [], length, Option, Some, None, option_map, refl, sym, ap, subst, arith}
use Rattle.std.proofs.lemmas.Bool.{cases_Bool, ltb-true, ltb-false}
use Rattle.tp_base.specs.Readings.{Reading}
use Rattle.tp_machine.specs.ModuleUse.{action_at}
use Rattle.tp_machine.specs.declared.parts.ActId.{ActId}
use Rattle.tp_machine.specs.declared.parts.Action.{Action}
use Rattle.tp_machine.specs.declared.parts.LocId.{LocId}
use Rattle.tp_machine.specs.declared.parts.State.{State}
use Rattle.tp_machine.specs.declared.machine.Machine.{Machine}
use Rattle.tp_pool.specs.Entries.{choices_before}
use Rattle.tp_schedule.specs.Choices.{Choice}
use Rattle.tp_schedule.specs.Routes.{HasNoRoom, IsRoom, step_by}
use Rattle.tp_schedule.specs.declared.parts.Ask.{Ask}
use Rattle.tp_schedule.specs.declared.parts.Plan.{Plan}
use Rattle.tp_routes.proofs.AlongFacts.{next-to}
use Rattle.tp_routes.proofs.RoomFacts.{leads_to}
use Rattle.tp_routes.specs.Tables.{IsKnownOrigin}
use Rattle.tp_constraints.specs.Suffixes.{HaveRooms}
use Rattle.tp_routes.specs.Index.{IsLeadIndex, IsNextTo, NoneTo, number_at}
use Rattle.tp_placing.specs.Boards.{BoardValue}
use Rattle.tp_search.specs.Boards.{IsLaid}
use Rattle.tp_search.specs.OpenedLists.{IsAtProgress}
use Rattle.tp_search.specs.OpenedLists.Progress.{up_to}
use Rattle.tp_search.specs.States.{HasNoneBefore}
use Rattle.tp_search.specs.Stored.{choices_by}
use Rattle.tp_search.specs.Stores.{StoreValue}
use Rattle.tp_search.specs.declared.opening.Opening.{Opening}
use Rattle.tp_search.proofs.ActSteps.{act-shut}
use Rattle.tp_search.proofs.BoardSteps.{the-way}
use Rattle.tp_search.proofs.PlaceFacts.{opening-next_act}
use Rattle.tp_search.proofs.StateFacts.{none_outside}

-- an action that leads elsewhere leads here from no state
elsewhere : (machine : Machine) (ask : Ask) (act : ActId) (first : State) → ((a : Action) → action_at machine act.0 ≡ Some a → a.to.0 ≢ first.loc.0) → HasNoneBefore machine ask act first
elsewhere machine ask act first other before steps allowed = go (action_at machine act.0) refl steps where
  go : (o : Option Action) → action_at machine act.0 ≡ o → step_by machine ask.want act before ≡ Some first → HasNoRoom machine ask before
  go None at leads = (let both : None ≡ Some first = rw at at leads in absurd cc)
  go (Some a) at leads = absurd (other a at (sym (ap (λ (l : LocId). l.0) (leads_to a ask.want before first (rw at at leads)))))

module _ {N : Type 0} (reading : Reading N) (b : BoardValue N) (machine : Machine) (ask : Ask) (first : State) (o : Opening) (s : StoreValue)
    (l : IsLaid reading b machine ask o.goal first (choices_by machine (choices_before s.entries o.parent))) where
  -- one action that leads elsewhere
  over-one : (act : ℕ) → ((a : Action) → action_at machine act ≡ Some a → a.to.0 ≢ first.loc.0) → IsAtProgress machine b.plans ask o s (up_to act []) → IsAtProgress machine b.plans ask o s (up_to (act + 1) [])
  over-one act other opening =
      opening-next_act machine b.plans ask o s act
      (act-shut reading b machine ask first (record { 0 = act }) o s l (elsewhere machine ask (record { 0 = act }) first other) opening)

  over-so_many : (count low : ℕ) → NoneTo machine.actions first.loc.0 low (low + count) → IsAtProgress machine b.plans ask o s (up_to low []) → IsAtProgress machine b.plans ask o s (up_to (low + count) [])
  over-so_many zero low none opening = (let e : low ≡ low + 0 = omega arith in subst (λ n. IsAtProgress machine b.plans ask o s (up_to n [])) e opening)
  over-so_many (suc count) low none opening =
      let e : low + 1 + count ≡ low + suc count = omega arith in
      subst (λ n. IsAtProgress machine b.plans ask o s (up_to n [])) e
      (over-so_many count (low + 1) (λ k a from below there. none k a (omega arith) (omega arith) there)
      (over-one low (λ a there. none low a (omega arith) (omega arith) there) opening))

  -- the actions up to the next one that leads here
  pub over-others : (low high : ℕ) → low ≤ high → NoneTo machine.actions first.loc.0 low high → IsAtProgress machine b.plans ask o s (up_to low []) → IsAtProgress machine b.plans ask o s (up_to high [])
  over-others low high within none opening =
      let e : low + (high - low) ≡ high = omega arith in
      subst (λ n. IsAtProgress machine b.plans ask o s (up_to n [])) e
      (over-so_many (high - low) low (subst (NoneTo machine.actions first.loc.0 low) (sym e) none) opening)

-- the number of an action, if there is one
abbrev pub number : Option ActId → Option ℕ
number act = option_map (λ a. a.0) act

-- the next action is the first one from some number on that leads to the location
pub record IsChain (machine : Machine) (loc : ℕ) (next : Option ActId) : Type 0 where
  pub low : ℕ
  pub leads : IsNextTo machine.actions loc low (number next)

-- all children were looked at whose action stands before the next one that leads to their first state
pub record IsLed (machine : Machine) (plans : List Plan) (ask : Ask) (o : Opening) (s : StoreValue) (loc : ℕ) (next : Option ActId) : Type 0 where
  pub chain : IsChain machine loc next
  pub within : chain.low ≤ length machine.actions
  pub progress : IsAtProgress machine plans ask o s (up_to chain.low [])

first-room : (machine : Machine) (ask : Ask) (goal s : State) (choices : List Choice) (rooms : List ℕ) → HaveRooms machine ask goal s choices rooms → (room : ℕ) × IsRoom machine ask s room
first-room machine ask goal s [] [] h = absurd h
first-room machine ask goal s [] (room ∷ rooms) h = (room, h.1)
first-room machine ask goal s (c ∷ choices) [] h = absurd h
first-room machine ask goal s (c ∷ choices) (room ∷ rooms) h = (room, h.0)

within-locations : (machine : Machine) (ask : Ask) (s : State) (room : ℕ) → IsKnownOrigin machine ask.origin → IsRoom machine ask s room → s.loc.0 < length machine.locations
within-locations machine ask s room origin r = elim (cases_Bool (ltb s.loc.0 (length machine.locations))) [
  | inl below ↦ ltb-true s.loc.0 (length machine.locations) below
  | inr above ↦ absurd (none_outside machine ask s origin (ltb-false s.loc.0 (length machine.locations) above) r.acts r.allowed r.reaches)
]

-- the list on a board begins at a location of the machine
pub laid-known : {N : Type 0} (reading : Reading N) (b : BoardValue N) (machine : Machine) (ask : Ask) (goal first : State) (choices : List Choice)
    → IsLaid reading b machine ask goal first choices → IsKnownOrigin machine ask.origin → first.loc.0 < length machine.locations
laid-known reading b machine ask goal first choices l origin =
    let w = the-way reading b machine ask goal first choices l in
    let r = first-room machine ask goal first w.x.choices w.x.rooms w.is.way.rooms in
    within-locations machine ask first r.0 origin r.1

module _ (machine : Machine) (firsts nexts : List (Option ℕ)) (loc : ℕ) (index : IsLeadIndex machine firsts nexts) where
  -- where the chain begins
  pub leads-first : (next : Option ActId) → loc < length machine.locations → number next ≡ number_at firsts loc → IsNextTo machine.actions loc 0 (number next)
  leads-first next known is = (let p = index.locations in subst (IsNextTo machine.actions loc 0) (sym is) (index.indexed.first loc (omega arith)))

  -- and how it goes on
  pub leads-next : (act : ActId) (next : Option ActId) → act.0 < length machine.actions → ((a : Action) → slice_get machine.actions act.0 ≡ Some a → a.to.0 ≡ loc) → number next ≡ number_at nexts act.0
      → IsNextTo machine.actions loc (act.0 + 1) (number next)
  leads-next act next within to is = subst (IsNextTo machine.actions loc (act.0 + 1)) (sym is) (next-to machine.actions firsts nexts loc act.0 index.indexed within to)

-- the next action of the chain
pub led-here : (machine : Machine) (loc low : ℕ) (next : Option ActId) (act : ActId) → next ≡ Some act → IsNextTo machine.actions loc low (number next) → IsNextTo machine.actions loc low (Some act.0)
led-here machine loc low next act is leads = subst (λ n. IsNextTo machine.actions loc low (number n)) is leads
