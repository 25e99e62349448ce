-- The live part of a schedule is enough: plans that are past constrain nothing that may still move.
use Rattle.std.specs.Prelude.{◌≡◌, ◌↔◌, ℕ, ◌+◌, ◌<◌, ◌≤◌, Bool, not, List, [], ◌∷◌, length, map, filter, Contains, AllPairs, IsTrue, IsFalse}
use Rattle.tp_machine.specs.ModuleUse.{action_at}
use Rattle.tp_machine.specs.declared.parts.HoldRule.{HoldRule}
use Rattle.tp_machine.specs.declared.machine.Machine.{Machine}
use Rattle.tp_schedule.specs.Answers.{IsAlternative, IsEarliest, NoneBefore, IsRetimed, IsLeast, IsAsked}
use Rattle.tp_schedule.specs.Choices.{Choice, ChoiceList, OpensTo, IsBound}
use Rattle.tp_schedule.specs.Holders.{holds_of_act}
use Rattle.tp_schedule.specs.SpentBudget.{FewListsOpen, IsSpent}
use Rattle.tp_schedule.specs.Spots.{slot_order}
use Rattle.tp_schedule.specs.Legality.{IsLegal}
use Rattle.tp_schedule.specs.LivePlans.{is_live}
use Rattle.tp_schedule.specs.Plans.{IsEarlier, point, is_before, is_delivered_to, goes_to}
use Rattle.tp_schedule.specs.declared.parts.Ask.{Ask}
use Rattle.tp_schedule.specs.declared.parts.Origin.{Origin}
use Rattle.tp_schedule.specs.declared.parts.Origin.TheVariants.{Feeder as FromFeeder, Front as FromFront}
use Rattle.tp_schedule.specs.declared.parts.Plan.{Plan}
use Rattle.tp_schedule.specs.declared.parts.SheetId.{SheetId}
use Rattle.tp_choices.specs.Retimings.{IgnoresPoints}

-- a schedule less the plans of some copies, and those plans
abbrev pub less : (SheetId → Bool) → List Plan → List Plan
less gone plans = filter (λ p. not (gone p.sheet)) plans

abbrev pub only : (SheetId → Bool) → List Plan → List Plan
only gone plans = filter (λ p. gone p.sheet) plans

-- these copies may be forgotten, as a move of the clock leaves the schedule: it is legal, their plans are not live at the
-- moment, and each unreleased start is above it
pub record MayForget (machine : Machine) (now : ℕ) (plans : List Plan) (gone : SheetId → Bool) : Type 0 where
  pub legal : IsLegal machine plans
  pub past : (p : Plan) → Contains plans p → IsTrue (gone p.sheet) → IsFalse (is_live machine now p)
  pub ahead : (p : Plan) → Contains plans p → (i : ℕ) → p.released ≤ i → i < length p.acts → now < point p i

-- the live plans, changed, joined with those that were forgotten, in the order of copies
pub record IsJoined (gone : SheetId → Bool) (plans live new : List Plan) : Type 0 where
  pub in_order : AllPairs IsEarlier new
  pub live_part : less gone new ≡ live
  pub past_part : only gone new ≡ only gone plans

-- the front of an asked copy in flight ends after the moment
abbrev pub EndsAhead : ℕ → Origin → Type 0
EndsAhead now FromFeeder = Unit {0}
EndsAhead now (FromFront state end count) = now < end

-- the asked copy is not forgotten, its front ends after the moment, and forgotten plans to its tray are of earlier copies
pub record MayAskBeside (machine : Machine) (plans : List Plan) (ask : Ask) (gone : SheetId → Bool) : Type 0 where
  pub asked : IsAsked machine plans ask
  pub stays : IsFalse (gone ask.sheet)
  pub ends_ahead : EndsAhead ask.now ask.origin
  pub earlier : (p : Plan) → Contains plans p → IsTrue (gone p.sheet) → (tray : ℕ) → IsTrue (goes_to ask.goal tray) → IsTrue (is_delivered_to p tray) → IsTrue (is_before p.sheet ask.sheet)

-- an alternative, less the plans of other copies, is one on the schedule less those, whether they may be forgotten or not
abbrev pub LessAnswers : Type 0
LessAnswers = (machine : Machine) (plans new : List Plan) (ask : Ask) (gone : SheetId → Bool) → IsFalse (gone ask.sheet)
    → (a : IsAlternative machine plans ask new) → (b : IsAlternative machine (less gone plans) ask (less gone new)) × (b.plan ≡ a.plan)

-- an alternative on the whole schedule leaves what is forgotten, and less that it is an alternative on the live part
abbrev pub WholeAnswers : Type 0
WholeAnswers = (machine : Machine) (plans new : List Plan) (ask : Ask) (gone : SheetId → Bool) → MayForget machine ask.now plans gone → IsFalse (gone ask.sheet)
    → (a : IsAlternative machine plans ask new)
    → IsJoined gone plans (less gone new) new × ((b : IsAlternative machine (less gone plans) ask (less gone new)) × (b.plan ≡ a.plan))

-- an alternative on the live part, joined with what is forgotten, is one on the whole schedule
abbrev pub LiveAnswers : Type 0
LiveAnswers = (machine : Machine) (plans live new : List Plan) (ask : Ask) (gone : SheetId → Bool) → MayForget machine ask.now plans gone → MayAskBeside machine plans ask gone
    → IsJoined gone plans live new → (a : IsAlternative machine (less gone plans) ask live) → (b : IsAlternative machine plans ask new) × (b.plan ≡ a.plan)

-- the same of schedules that differ in ticks alone
abbrev pub WholeRetimes : Type 0
WholeRetimes = (machine : Machine) (now : ℕ) (exempt : Plan → Bool) (plans new : List Plan) (gone : SheetId → Bool) → MayForget machine now plans gone
    → IsRetimed machine now exempt plans new → IsJoined gone plans (less gone new) new × IsRetimed machine now exempt (less gone plans) (less gone new)

-- a plan that is exempt from the floors has a released action
abbrev pub HaveReleased : (Plan → Bool) → List Plan → Type 0
HaveReleased exempt plans = (p : Plan) → Contains plans p → IsTrue (exempt p) → 0 < p.released

abbrev pub LiveRetimes : Type 0
LiveRetimes = (machine : Machine) (now : ℕ) (exempt : Plan → Bool) (plans live new : List Plan) (gone : SheetId → Bool) → MayForget machine now plans gone → IgnoresPoints exempt → HaveReleased exempt plans
    → IsJoined gone plans live new → IsRetimed machine now exempt (less gone plans) live → IsRetimed machine now exempt plans new

-- so a schedule is least where its live part is, and the reverse
abbrev pub WholeIsLeast : Type 0
WholeIsLeast = (machine : Machine) (now : ℕ) (exempt : Plan → Bool) (plans : List Plan) (gone : SheetId → Bool) → MayForget machine now plans gone
    → IsLeast machine now exempt (less gone plans) → IsLeast machine now exempt plans

abbrev pub LiveIsLeast : Type 0
LiveIsLeast = (machine : Machine) (now : ℕ) (exempt : Plan → Bool) (plans : List Plan) (gone : SheetId → Bool) → MayForget machine now plans gone → IgnoresPoints exempt → HaveReleased exempt plans
    → IsLeast machine now exempt plans → IsLeast machine now exempt (less gone plans)

-- live plans in the order of copies, none of them forgotten, can be joined
abbrev pub JoinExists : Type 0
JoinExists = (gone : SheetId → Bool) (plans live : List Plan) → AllPairs IsEarlier plans → AllPairs IsEarlier live → ((p : Plan) → Contains live p → IsFalse (gone p.sheet))
    → (new : List Plan) × IsJoined gone plans live new

-- how many forgotten holds a resource has
abbrev pub forgotten_on : Machine → List Plan → (SheetId → Bool) → ℕ → ℕ
forgotten_on machine plans gone resource = length (slot_order machine (only gone plans) resource)

-- places further by so many as a count of their resources tells
abbrev pub shift_places : (ℕ → ℕ) → List HoldRule → List ℕ → List ℕ
shift_places count [] places = places
shift_places count (rule ∷ rules) [] = []
shift_places count (rule ∷ rules) (place ∷ places) = (place + count rule.resource.0) ∷ shift_places count rules places

abbrev pub shift_choice : Machine → (ℕ → ℕ) → Choice → Choice
shift_choice machine count c = record { act = c.act; places = shift_places count (holds_of_act (action_at machine c.act.0)) c.places }

abbrev pub shifted : Machine → (ℕ → ℕ) → ChoiceList → ChoiceList
shifted machine count list = record { goal = list.goal; choices = map (shift_choice machine count) list.choices; stopped = list.stopped }

-- a list that opens on the live part opens on the whole schedule to the same end, its places behind the forgotten holds
abbrev pub LiveOpens : Type 0
LiveOpens = (machine : Machine) (plans : List Plan) (ask : Ask) (gone : SheetId → Bool) (list : ChoiceList) (end : ℕ) → MayForget machine ask.now plans gone → MayAskBeside machine plans ask gone
    → OpensTo machine (less gone plans) ask list end → OpensTo machine plans ask (shifted machine (forgotten_on machine plans gone) list) end

-- and each list that opens on the whole schedule is such a one
abbrev pub WholeOpens : Type 0
WholeOpens = (machine : Machine) (plans : List Plan) (ask : Ask) (gone : SheetId → Bool) (list : ChoiceList) (end : ℕ) → MayForget machine ask.now plans gone → MayAskBeside machine plans ask gone
    → OpensTo machine plans ask list end → (small : ChoiceList) × (list ≡ shifted machine (forgotten_on machine plans gone) small) × OpensTo machine (less gone plans) ask small end

-- so they have the same bounds
abbrev pub LiveBounds : Type 0
LiveBounds = (machine : Machine) (plans : List Plan) (ask : Ask) (gone : SheetId → Bool) (list : ChoiceList) (bound : ℕ) → MayForget machine ask.now plans gone → MayAskBeside machine plans ask gone
    → IsBound machine (less gone plans) ask list bound ↔ IsBound machine plans ask (shifted machine (forgotten_on machine plans gone) list) bound

-- an earliest answer on the live part, joined with what is forgotten, is an earliest one on the whole schedule
abbrev pub LiveIsEarliest : Type 0
LiveIsEarliest = (machine : Machine) (plans live new : List Plan) (ask : Ask) (gone : SheetId → Bool) → MayForget machine ask.now plans gone → MayAskBeside machine plans ask gone
    → IsJoined gone plans live new → IsEarliest machine (less gone plans) ask live → IsEarliest machine plans ask new

-- no alternative on the live part ends before a tick, or none exists: so it is on the whole schedule
abbrev pub LiveBoundsAnswers : Type 0
LiveBoundsAnswers = (machine : Machine) (plans : List Plan) (ask : Ask) (gone : SheetId → Bool) (bound : ℕ) → MayForget machine ask.now plans gone → IsFalse (gone ask.sheet)
    → NoneBefore machine (less gone plans) ask bound → NoneBefore machine plans ask bound

abbrev pub LiveHasNone : Type 0
LiveHasNone = (machine : Machine) (plans : List Plan) (ask : Ask) (gone : SheetId → Bool) → MayForget machine ask.now plans gone → IsFalse (gone ask.sheet)
    → ((other : List Plan) → ¬ IsAlternative machine (less gone plans) ask other) → (other : List Plan) → ¬ IsAlternative machine plans ask other

-- a budget that is spent on the live part is spent on the whole schedule
abbrev pub LiveSpends : Type 0
LiveSpends = (machine : Machine) (plans : List Plan) (ask : Ask) (gone : SheetId → Bool) (budget bound : ℕ) → MayForget machine ask.now plans gone → MayAskBeside machine plans ask gone
    → IsSpent machine (less gone plans) ask budget bound → IsSpent machine plans ask budget bound

-- and at most so many open lists of the live part are at most so many of the whole schedule
abbrev pub LiveHasFew : Type 0
LiveHasFew = (machine : Machine) (plans : List Plan) (ask : Ask) (gone : SheetId → Bool) (most : ℕ) → MayForget machine ask.now plans gone → MayAskBeside machine plans ask gone
    → FewListsOpen machine (less gone plans) ask most → FewListsOpen machine plans ask most
