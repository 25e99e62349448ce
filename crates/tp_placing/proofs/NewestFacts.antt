-- The newest action of a board that stands, and its next hold.
use Rattle.std.proofs.Common.{◌≡◌, ℕ, ◌-◌, ◌<◌, ◌≤◌, Bool, List, ◌∷◌, length, refl, ap, sym, ◌∙◌, subst, arith, Option, Some, None, IsSomeAnd}
use Rattle.std.specs.List.{slice_get}
use Rattle.std.proofs.lemmas.Option.{same_Some, slice_get_within}
use Rattle.tp_base.specs.Readings.{Reading}
use Rattle.tp_base.specs.Net.{Net}
use Rattle.tp_machine.proofs.MachineFacts.{is_machine}
use Rattle.tp_machine.specs.ModuleUse.{action_at}
use Rattle.tp_machine.specs.declared.parts.ActId.{ActId}
use Rattle.tp_machine.specs.declared.parts.Action.{Action}
use Rattle.tp_machine.specs.declared.parts.HoldRule.{HoldRule}
use Rattle.tp_machine.specs.declared.machine.Machine.{Machine}
use Rattle.tp_schedule.specs.Choices.{Choice}
use Rattle.tp_schedule.specs.Holders.{holds_of_act}
use Rattle.tp_schedule.specs.declared.parts.Ask.{Ask}
use Rattle.tp_timelines.specs.Orders.{order_on}
use Rattle.tp_constraints.specs.Numbers.{table_of}
use Rattle.tp_constraints.specs.Suffixes.{Suffix, order_in}
use Rattle.tp_constraints.proofs.Lists.{contains-get}
use Rattle.tp_placing.specs.Boards.{BoardValue, suffix_after}
use Rattle.tp_placing.specs.Calls.{CanPlace}
use Rattle.tp_placing.specs.Candidates.{IsCandidate}
use Rattle.tp_placing.specs.LoadedBoard.{IsAtWith, IsAtHand, HasSmallOffsets, StandsOn, newest_in}
use Rattle.tp_placing.specs.declared.candidates.Candidate.{Candidate}
use Rattle.tp_placing.specs.declared.parts.Step.{Step}
use Rattle.tp_placing.proofs.StandFacts.{some-and, at-suffix}
use Rattle.tp_placing.proofs.StepFacts.{some-steps}

-- what is known where a hold is placed
pub record PlacesHere {N : Type 0} (net : N → Net) (b : BoardValue N) (m : Machine) (ask : Ask) (newest : Step) (act : ActId) (rule : HoldRule) (hold place : ℕ) : Type 0 where
  pub choice : Choice
  pub choices : List Choice
  pub rooms : List ℕ
  pub stopped : Bool
  pub suffix : suffix_after b.steps ≡ Some (record { choices = choice ∷ choices; rooms = rooms; stopped = stopped })
  pub act_is : choice.act ≡ act
  pub next : hold ≡ length choice.places
  pub is_rule : slice_get (holds_of_act (action_at m choice.act.0)) (length choice.places) ≡ Some rule
  pub within : place ≤ length (order_in m b.plans (record { choices = choice ∷ choices; rooms = rooms; stopped = stopped }) rule.resource.0)
  pub at : IsAtWith m b.plans ask (Some (record { choices = choice ∷ choices; rooms = rooms; stopped = stopped })) b.steps (net b.net) b.orders.orders b.held
  pub hand : IsAtHand (length (table_of b.plans)) (Some (record { choices = choice ∷ choices; rooms = rooms; stopped = stopped })) newest
  pub some : 0 < length b.steps

-- the newest action of a board where a hold can be placed
pub record HasNewest {N : Type 0} (net : N → Net) (b : BoardValue N) (m : Machine) (ask : Ask) (newest : Step) (hold place : ℕ) : Type 0 where
  pub x : Suffix
  pub suffix : suffix_after b.steps ≡ Some x
  pub can : CanPlace m b.plans x hold place
  pub at : IsAtWith m b.plans ask (Some x) b.steps (net b.net) b.orders.orders b.held
  pub hand : IsAtHand (length (table_of b.plans)) (Some x) newest
  pub some : 0 < length b.steps

pub has-newest : {N : Type 0} (reading : Reading N) (b : BoardValue N) (m : Machine) (ask : Ask) (newest : Step) (hold place : ℕ) → StandsOn reading b m ask
    → IsSomeAnd (suffix_after b.steps) (λ x. CanPlace m b.plans x hold place) → slice_get b.steps (length b.steps - 1) ≡ Some newest → HasNewest reading.net b m ask newest hold place
has-newest reading b m ask newest hold place s next last =
    let y = some-and (suffix_after b.steps) (λ x. CanPlace m b.plans x hold place) next in
    let at = at-suffix reading b m ask y.0 s y.1 in
    record { x = y.0; suffix = y.1; can = y.2; at = at; hand = at.at_hand newest last; some = some-steps b.steps y.0 y.1 }

pub newest-act : {N : Type 0} (net : N → Net) (b : BoardValue N) (m : Machine) (ask : Ask) (newest : Step) (hold place : ℕ) (h : HasNewest net b m ask newest hold place) → newest.newest ≡ Some h.can.choice.act
newest-act net b m ask newest hold place h = h.hand.0 ∙ ap newest_in h.can.newest

-- the action and the rule that are read are those of the newest choice
read-rule : (o : Option Action) (hold : ℕ) (rule : HoldRule) → slice_get (holds_of_act o) hold ≡ Some rule → (a : Action) × (o ≡ Some a)
read-rule None hold rule e = absurd cc
read-rule (Some a) hold rule e = (a, refl)

pub act-known : {N : Type 0} (net : N → Net) (b : BoardValue N) (m : Machine) (ask : Ask) (newest : Step) (hold place : ℕ) (h : HasNewest net b m ask newest hold place) → h.can.choice.act.0 < length m.actions
act-known net b m ask newest hold place h =
    let a = read-rule (action_at m h.can.choice.act.0) hold h.can.rule h.can.is_rule in
    slice_get_within m.actions h.can.choice.act.0 a.0 a.1

pub hold-known : {N : Type 0} (net : N → Net) (b : BoardValue N) (m : Machine) (ask : Ask) (newest : Step) (hold place : ℕ) (h : HasNewest net b m ask newest hold place) (act : ActId) (a : Action) → newest.newest ≡ Some act → slice_get m.actions act.0 ≡ Some a
    → slice_get a.holds hold ≡ Some h.can.rule
hold-known net b m ask newest hold place h act a e read =
    let same : h.can.choice.act ≡ act = same_Some h.can.choice.act act (sym (newest-act net b m ask newest hold place h) ∙ e) in
    let o : action_at m h.can.choice.act.0 ≡ Some a = ap (λ (k : ActId). action_at m k.0) same ∙ read in
    ap (λ o. slice_get (holds_of_act o) hold) (sym o) ∙ h.can.is_rule

pub places-here : {N : Type 0} (net : N → Net) (b : BoardValue N) (m : Machine) (ask : Ask) (newest : Step) (hold place : ℕ) (h : HasNewest net b m ask newest hold place) (act : ActId) (rule : HoldRule) → newest.newest ≡ Some act → h.can.rule ≡ rule
    → PlacesHere net b m ask newest act rule hold place
places-here net b m ask newest hold place h act rule e same =
    let x : h.x ≡ record { choices = h.can.choice ∷ h.can.choices; rooms = h.x.rooms; stopped = h.x.stopped } = (λ i. record { choices = h.can.newest i; rooms = h.x.rooms; stopped = h.x.stopped }) in
    record {
      choice = h.can.choice;
      choices = h.can.choices;
      rooms = h.x.rooms;
      stopped = h.x.stopped;
      suffix = h.suffix ∙ ap Some x;
      act_is = same_Some h.can.choice.act act (sym (newest-act net b m ask newest hold place h) ∙ e);
      next = h.can.next;
      is_rule = ap (slice_get (holds_of_act (action_at m h.can.choice.act.0))) (sym h.can.next) ∙ h.can.is_rule ∙ ap Some same;
      within = subst (λ (y : Suffix). place ≤ length (order_in m b.plans y rule.resource.0)) x (subst (λ (r : HoldRule). place ≤ length (order_in m b.plans h.x r.resource.0)) same h.can.within);
      at = subst (λ y. IsAtWith m b.plans ask (Some y) b.steps (net b.net) b.orders.orders b.held) x h.at;
      hand = subst (λ y. IsAtHand (length (table_of b.plans)) (Some y) newest) x h.hand;
      some = h.some;
    }

-- the hold that is read is one of an action
holds-read : (o : Option Action) (hold : ℕ) (rule : HoldRule) → slice_get (holds_of_act o) hold ≡ Some rule → (a : Action) × (o ≡ Some a) × (slice_get a.holds hold ≡ Some rule)
holds-read None hold rule e = absurd cc
holds-read (Some a) hold rule e = (a, refl, e)

-- the board stands, and the hold is the next one
pub record IsNext {N : Type 0} (reading : Reading N) (b : BoardValue N) (m : Machine) (hold place : ℕ) (c : Candidate) : Type 0 where
  pub ask : Ask
  pub stands : StandsOn reading b m ask
  pub next : IsSomeAnd (suffix_after b.steps) (λ x. CanPlace m b.plans x hold place)
  pub is : IsCandidate b m hold c
  pub resources : length b.orders.orders ≡ b.made_for.resources

module _ {N : Type 0} {reading : Reading N} {b : BoardValue N} {m : Machine} {hold place : ℕ} {c : Candidate} (k : IsNext reading b m hold place c) where
  pub newest-is : HasNewest reading.net b m k.ask c.newest hold place
  newest-is = has-newest reading b m k.ask c.newest hold place k.stands k.next k.is.newest

  abbrev pub act : ActId
  act = newest-is.can.choice.act

  act-is : c.newest.newest ≡ Some act
  act-is = newest-act reading.net b m k.ask c.newest hold place newest-is

  rule-is : newest-is.can.rule ≡ c.hold.rule
  rule-is =
      let read = some-and c.newest.newest (λ (a : ActId). slice_get (holds_of_act (action_at m a.0)) hold ≡ Some c.hold.rule) k.is.rule in
      let same : act ≡ read.0 = same_Some act read.0 (sym act-is ∙ read.1) in
      same_Some newest-is.can.rule c.hold.rule (sym newest-is.can.is_rule ∙ ap (λ (a : ActId). slice_get (holds_of_act (action_at m a.0)) hold) same ∙ read.2)

  pub places : PlacesHere reading.net b m k.ask c.newest act c.hold.rule hold place
  places = places-here reading.net b m k.ask c.newest hold place newest-is act c.hold.rule act-is rule-is

  action : (a : Action) × (action_at m act.0 ≡ Some a) × (slice_get a.holds hold ≡ Some c.hold.rule)
  action = holds-read (action_at m act.0) hold c.hold.rule (newest-is.can.is_rule ∙ ap Some rule-is)

  pub four : hold < 4
  four =
      let few = (is_machine m).few_holds act.0 action.0 action.1 in
      let within = slice_get_within action.0.holds hold c.hold.rule action.2 in
      omega arith

  pub resource : c.hold.rule.resource.0 < length m.resources
  resource = (is_machine m).known act.0 action.0 action.1 c.hold.rule (contains-get action.0.holds hold c.hold.rule action.2)

  pub known : c.hold.rule.resource.0 < length b.orders.orders
  known = let r = resource in let e = k.resources in let made = k.stands.made.1 in omega arith

  pub offsets : HasSmallOffsets c.hold.rule
  offsets = (is_machine m).offsets act.0 action.0 action.1 c.hold.rule (contains-get action.0.holds hold c.hold.rule action.2)

  abbrev pub suffix : Suffix
  suffix = record { choices = places.choice ∷ places.choices; rooms = places.rooms; stopped = places.stopped }

  abbrev pub order : List ℕ
  order = order_on b.orders.orders c.hold.rule.resource.0
