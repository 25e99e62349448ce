-- How the items of an event tell the answers to asks, and how times are settled.
use Rattle.std.specs.Prelude.{◌≡◌, ℕ, ◌≤◌, Bool, true, false, List, [], ◌∷◌, ◌++◌, map, drop, Option, Some, IsFalse, if◌then◌else◌}
use Rattle.tp_bounds.specs.declared.tree.BoundTree.{BoundTree}
use Rattle.tp_log.specs.GatheredItems.{is_tree}
use Rattle.tp_log.specs.declared.item.Item.{Item}
use Rattle.tp_log.specs.declared.item.Item.TheVariants.{Event, Note, Tree}
use Rattle.tp_machine.specs.declared.machine.Machine.{Machine}
use Rattle.tp_schedule.specs.PlannerAnswers.{Deed, Due, HasRisen, IsSettled}
use Rattle.tp_schedule.specs.PlannerAnswers.Deed.{replied, settled}
use Rattle.tp_schedule.specs.PlannerAnswers.Due.{asking, settling}
use Rattle.tp_schedule.specs.Plans.{AreNamed, end_of_plan, plan_of}
use Rattle.tp_schedule.specs.declared.parts.Ask.{Ask}
use Rattle.tp_schedule.specs.declared.parts.Halt.{Halt}
use Rattle.tp_schedule.specs.declared.parts.Halt.TheVariants.{Stopped}
use Rattle.tp_schedule.specs.declared.parts.Plan.{Plan}
use Rattle.tp_schedule.specs.declared.parts.Reply.{Reply}
use Rattle.tp_schedule.specs.declared.parts.Reply.TheVariants.{Never, Planned, Spent}
use Rattle.tp_schedule.specs.declared.records.Record.{Record}
use Rattle.tp_schedule.specs.declared.records.Record.TheVariants.{Plan as TellsPlan, Move, Never as TellsNever, Budget}
use Rattle.tp_event_rules.specs.AnswerRecords.{moves, told_of_reply}
use Rattle.tp_bound_laws.specs.Claims.{IsTreeFor}
use Rattle.tp_bound_laws.specs.declared.claim.Claim.TheVariants.{Earliest, Never as NeverClaim}
use Rattle.tp_schedule_check.specs.Faults.{IsRight}
use Rattle.tp_log_planner.specs.declared.failure.WrongItem.{WrongItem}

-- the items of an event, how many of them are taken, how often the planner stopped, and why it stopped last, if it did
pub record ToldValue : Type 0 where
  pub items : List Item
  pub at : ℕ
  pub stops : ℕ
  pub stop : Option WrongItem

-- the items that are to come
abbrev pub ahead : ToldValue → List Item
ahead p = drop p.at p.items

-- a record that gives no answer: neither a plan, a move, a none nor a budget
abbrev pub is_other : Record → Bool
is_other (TellsPlan sheet place points acts) = false
is_other (Move sheet points) = false
is_other (TellsNever sheet goal) = false
is_other (Budget sheet goal bound) = false
is_other _ = true

abbrev pub is_plan : Record → Bool
is_plan (TellsPlan sheet place points acts) = true
is_plan _ = false

abbrev pub is_aside : Item → Bool
is_aside (Event event) = false
is_aside (Note told) = is_other told
is_aside (Tree tree) = false

-- the items from the first that is no aside
abbrev pub behind_asides : List Item → List Item
behind_asides [] = []
behind_asides (item ∷ items) = if is_aside item then behind_asides items else (item ∷ items)

abbrev pub notes : List Record → List Item
notes records = map (λ r. Note r) records

abbrev pub is_move : Item → Bool
is_move (Note (Move sheet points)) = true
is_move _ = false

abbrev pub begins_with_move : List Item → Bool
begins_with_move [] = false
begins_with_move (item ∷ items) = is_move item

abbrev pub begins_with_tree : List Item → Bool
begins_with_tree [] = false
begins_with_tree (item ∷ items) = is_tree item

-- what a right answer leaves: an alternative with least times, or the schedule as it was
abbrev pub IsSaid : Machine → List Plan → Ask → Reply → List Plan → Type 0
IsSaid machine plans ask Planned plans' = IsRight machine plans ask plans'
IsSaid machine plans ask Never plans' = plans' ≡ plans
IsSaid machine plans ask (Spent bound) plans' = plans' ≡ plans

-- the items that show it: a tree for a plan and a none, and nothing for a budget
abbrev pub IsShown : Machine → List Plan → Ask → Reply → List Plan → List Item → Type 0
IsShown machine plans ask Planned plans' shown =
    (tree : BoundTree) × ((plan : Plan) × (plan_of ask.sheet plans' ≡ Some plan)
    × IsTreeFor machine plans ask (Earliest (end_of_plan plan)) tree × (shown ≡ Tree tree ∷ []))
IsShown machine plans ask Never plans' shown = (tree : BoundTree) × IsTreeFor machine plans ask NeverClaim tree × (shown ≡ Tree tree ∷ [])
IsShown machine plans ask (Spent bound) plans' shown = shown ≡ []

-- the items tell this answer, and these are left of them
pub record Tells (machine : Machine) (plans : List Plan) (ask : Ask) (items : List Item) (reply : Reply) (plans' : List Plan) (rest : List Item) : Type 0 where
  pub shown : List Item
  pub told : behind_asides items ≡ notes (told_of_reply machine plans ask reply plans') ++ (shown ++ rest)
  pub said : IsSaid machine plans ask reply plans'
  pub shows : IsShown machine plans ask reply plans' shown

-- the items tell how the times are settled
pub record TellsSettled (machine : Machine) (plans : List Plan) (now : ℕ) (items : List Item) (plans' : List Plan) (rest : List Item) : Type 0 where
  pub told : behind_asides items ≡ notes (moves plans plans') ++ rest
  pub over : IsFalse (begins_with_move rest)
  pub settles : IsSettled machine now plans plans'

-- the items tell the deed
abbrev pub TellsDeed : Machine → List Plan → List Item → Deed → List Plan → List Item → Type 0
TellsDeed machine plans items (replied ask reply) plans' rest = Tells machine plans ask items reply plans' rest
TellsDeed machine plans items (settled now) plans' rest = TellsSettled machine plans now items plans' rest

-- they tell what is due
abbrev pub TellsDue : Machine → List Plan → List Item → Due → Type 0
TellsDue machine plans items (asking ask) = (reply : Reply) × ((plans' : List Plan) × ((rest : List Item) × Tells machine plans ask items reply plans' rest))
TellsDue machine plans items (settling now) = (plans' : List Plan) × ((rest : List Item) × TellsSettled machine plans now items plans' rest)

-- of what is due they tell this alone
abbrev pub TellsOnly : Machine → List Plan → List Item → Deed → List Plan → List Item → Type 0
TellsOnly machine plans items (replied ask reply) plans' rest =
    (reply' : Reply) (others : List Plan) (rest' : List Item) → Tells machine plans ask items reply' others rest' → (reply' ≡ reply) × (others ≡ plans') × (rest' ≡ rest)
TellsOnly machine plans items (settled now) plans' rest =
    (others : List Plan) (rest' : List Item) → TellsSettled machine plans now items others rest' → (others ≡ plans') × (rest' ≡ rest)

-- a deed is given by the items to come, and takes them. Where plans of different jobs have different names, they tell it alone
pub record TakesOn (p : ToldValue) (machine : Machine) (plans : List Plan) (deed : Deed) (plans' : List Plan) (p' : ToldValue) : Type 0 where
  pub told : TellsDeed machine plans (ahead p) deed plans' (ahead p')
  pub only : AreNamed plans → TellsOnly machine plans (ahead p) deed plans' (ahead p')
  pub further : p.at ≤ p'.at
  pub same : p' ≡ record p { at = p'.at }

-- a stop is counted, and why is kept
pub record HasStopped (p : ToldValue) (halt : Halt) (p' : ToldValue) : Type 0 where
  pub halts : halt ≡ Stopped
  pub risen : HasRisen p.stops p'.stops
  pub at_least : p.stops ≤ p'.stops
  pub same : p' ≡ record p { stops = p'.stops; stop = p'.stop }
