-- A list whose places are further on has the same actions and the same own points, so it lasts as long, and begins and stops
-- where the list does. At ticks that keep a schedule's times, forgotten slots have ended by the moment.
use Rattle.std.proofs.Common.{◌≡◌, ℕ, suc, ◌+◌, ◌≤◌, ◌<◌, Bool, true, false, not, List, [], ◌∷◌, map, filter, length, refl, ap, sym, arith, Contains, All, AllPairs, ◌∙◌, subst, Some, slice_index}
use Rattle.std.proofs.lemmas.List.{length-map}
use Rattle.std.proofs.lemmas.List.Elements.{All-contains}
use Rattle.tp_machine.specs.Modes.{gap_at}
use Rattle.tp_machine.specs.declared.machine.Machine.{Machine}
use Rattle.tp_schedule.specs.declared.parts.Ask.{Ask}
use Rattle.tp_schedule.specs.declared.parts.Origin.{Origin}
use Rattle.tp_schedule.specs.declared.parts.Origin.TheVariants.{Feeder as FromFeeder, Front as FromFront}
use Rattle.tp_schedule.specs.declared.parts.Plan.{Plan}
use Rattle.tp_schedule.specs.declared.parts.SheetId.{SheetId}
use Rattle.tp_schedule.specs.Choices.{Choice, ChoiceList, acts_of, placed, ChoicesLast, CanStop, start_floor}
use Rattle.tp_schedule.specs.Legality.{IsLegal}
use Rattle.tp_schedule.specs.Plans.{IsTimedPlan}
use Rattle.tp_schedule.specs.Routes.{walk}
use Rattle.tp_schedule.specs.Spots.{Ticks, Slot, IsSoundSlot, slots, slots_of, slot_order}
use Rattle.tp_schedule.specs.Spots.Spot.{kept, own}
use Rattle.tp_schedule.specs.Times.{KeepsTimes}
use Rattle.tp_schedule.proofs.HeldCount.{IsTimedBy}
use Rattle.tp_choices.specs.LiveParts.{less, MayForget, EndsAhead, shift_choice, forgotten_on}
use Rattle.tp_choices.proofs.CompletePlans.{ChoicesLast-rise}
use Rattle.tp_choices.proofs.ShorterLists.{AllPairs-put_places_out}
use Rattle.tp_choices.proofs.LiveOrders.{others_of, filter-same, stays-others}
use Rattle.tp_choices.proofs.LiveSlots.{slots-in, slot_of}
use Rattle.tp_choices.proofs.OwnSlots.{own_slots}
use Rattle.tp_choices.proofs.PastFacts.{HasPassed, past_slots}
use Rattle.tp_choices.proofs.PointFacts.{past-fixed}
use Rattle.tp_choices.proofs.SamePlaces.{kept-sound}
use Rattle.tp_choices.proofs.SameTicks.{in-order, order-staying}
use Rattle.tp_choices.proofs.ShiftedPlaces.{IsEnded, AreOwn}
use Rattle.tp_choices.proofs.PlansLeft.{stays, on_copy}
use Rattle.tp_choices.proofs.TimedSlots.{All-own_slots}

pub acts-shifted : (machine : Machine) (counts : ℕ → ℕ) (choices : List Choice) → acts_of (map (shift_choice machine counts) choices) ≡ acts_of choices
acts-shifted machine counts [] = refl
acts-shifted machine counts (c ∷ choices) = ap (λ rest. c.act ∷ rest) (acts-shifted machine counts choices)

pub lasts-shifted : (machine : Machine) (counts : ℕ → ℕ) (t t' : Ticks) (choices : List Choice) → ((n : ℕ) → t' (own n) ≡ t (own n)) → ChoicesLast machine t choices → ChoicesLast machine t' (map (shift_choice machine counts) choices)
lasts-shifted machine counts t t' [] same lasts = tt
lasts-shifted machine counts t t' (c ∷ choices) same lasts =
    (rw (length-map choices (shift_choice machine counts), same (suc (length choices)), same (length choices)) lasts.0, lasts-shifted machine counts t t' choices same lasts.1)

pub can_stop-as : (machine : Machine) (ask : Ask) (list other : ChoiceList) (o : Origin) → acts_of list.choices ≡ acts_of other.choices → list.goal ≡ other.goal → CanStop machine ask list o → CanStop machine ask other o
can_stop-as machine ask list other FromFeeder acts goal can = absurd can
can_stop-as machine ask list other (FromFront state end count) acts goal can = (
  λ none. can.0 (empty list.choices (acts ∙ ap acts_of none)),
  subst (λ g. walk machine ask.want (acts_of other.choices) state ≡ Some g) goal (subst (λ path. walk machine ask.want path state ≡ Some list.goal) acts can.1),
) where
  empty : (cs : List Choice) → acts_of cs ≡ [] → cs ≡ []
  empty [] e = refl
  empty (c ∷ cs) e = absurd (cc)

-- the order of the choices' resource, less the choices
pub apart-base : (R : Slot → Slot → Type 0) (machine : Machine) (resource : ℕ) (order : List Slot) (choices : List Choice) → AllPairs R (placed machine resource order choices) → AllPairs R order
apart-base R machine resource order [] all = all
apart-base R machine resource order (c ∷ choices) all = apart-base R machine resource order choices (AllPairs-put_places_out R resource (own (suc (length choices))) (own (length choices)) _ c.places (placed machine resource order choices) all)

-- own points lie after the moment
pub after-floor : (machine : Machine) (ask : Ask) (t : Ticks) (choices : List Choice) (room : ℕ) → EndsAhead ask.now ask.origin → ChoicesLast machine t choices → start_floor machine ask.now ask.origin + room ≤ t (own (length choices)) → (n : ℕ) → n ≤ length choices → ask.now < t (own n)
after-floor machine ask t choices room ahead lasts first n le =
    let rises = ChoicesLast-rise machine t choices lasts n le in
    go ask.origin ahead first rises.0 where
      go : (o : Origin) → EndsAhead ask.now o → start_floor machine ask.now o + room ≤ t (own (length choices)) → t (own (length choices)) ≤ t (own n) → ask.now < t (own n)
      go FromFeeder ahead' first' rise = omega arith
      go (FromFront state end count) ahead' first' rise = omega arith

-- what stays, and the slots of choices among it
abbrev pub keeping : (SheetId → Bool) → Slot → Bool
keeping gone s = not (stays false gone s)

pub are-own : (machine : Machine) (ask : Ask) (gone : SheetId → Bool) (t : Ticks) (choices : List Choice) (room : ℕ) → EndsAhead ask.now ask.origin → ChoicesLast machine t choices → start_floor machine ask.now ask.origin + room ≤ t (own (length choices)) → AreOwn t ask.now (keeping gone) (length choices)
are-own machine ask gone t choices room ahead lasts first = record { late = λ n le. (let after = after-floor machine ask t choices room ahead lasts first n le in omega arith); stays = λ rule from n. refl }

pub keep-own_slots : (machine : Machine) (gone : SheetId → Bool) (resource : ℕ) (choices : List Choice) → All (λ s. keeping gone s ≡ true) (own_slots machine resource choices)
keep-own_slots machine gone resource choices = All-own_slots (λ s. keeping gone s ≡ true) machine resource choices (λ n within rule. refl)

-- forgotten slots have ended, at ticks that keep the fixed points
pub ended-at : (machine : Machine) (now : ℕ) (plans : List Plan) (gone : SheetId → Bool) (exempt : Plan → Bool) (t : Ticks) → MayForget machine now plans gone → KeepsTimes machine now exempt plans t
    → (resource : ℕ) (s : Slot) → Contains (slots machine resource plans) s → keeping gone s ≡ false → IsEnded (gap_at machine resource) t now s
ended-at machine now plans gone exempt t f keeps resource s in' e =
    let from = slots-in machine resource plans s in' in
    let of = slot_of machine resource from.0 s from.2 in
    let is-gone : gone from.0.sheet ≡ true = not-false (gone from.0.sheet) (subst (λ x. not (on_copy false gone x) ≡ false) of.to e) in
    let one = All-contains (IsTimedPlan machine) plans from.0 f.legal.timed from.1 in
    let timed : IsTimedBy t from.0 = (
      one.one_more,
      λ i j is within. subst (λ n. t (kept from.0.sheet n) ≡ slice_index from.0.points i) (let back : i ≡ j = omega arith in back)
          (keeps.fixed from.0 from.1 i (past-fixed machine now plans gone f from.0 from.1 is-gone i (let more = one.one_more in omega arith)) (let more = one.one_more in omega arith)),
    ) in
    let past = All-contains (HasPassed (gap_at machine resource) now t) (slots_of machine resource from.0) s (past_slots machine now t resource from.0 timed (f.past from.0 from.1 is-gone)) from.2 in
    let sound = All-contains (IsSoundSlot t) (slot_order machine plans resource) s (kept-sound machine now exempt plans t keeps resource) (in-order machine plans resource s in') in
    record { long = sound.long; ended = past } where
      not-false : (b : Bool) → not b ≡ false → b ≡ true
      not-false true e' = refl
      not-false false e' = absurd (cc)

-- so many are forgotten on a resource
pub counted : (machine : Machine) (plans : List Plan) (gone : SheetId → Bool) → IsLegal machine plans → (resource : ℕ) → forgotten_on machine plans gone resource ≡ length (filter (λ s. not (keeping gone s)) (slot_order machine plans resource))
counted machine plans gone legal resource = ap length (order-staying false gone machine plans resource legal ∙ filter-same (stays false gone) (λ s. not (keeping gone s)) (slot_order machine plans resource) (λ s. twice (stays false gone s))) where
  twice : (b : Bool) → b ≡ not (not b)
  twice true = refl
  twice false = refl

-- the order of the live part
pub live-order : (machine : Machine) (plans : List Plan) (gone : SheetId → Bool) → IsLegal machine plans → (resource : ℕ) → filter (keeping gone) (slot_order machine plans resource) ≡ slot_order machine (less gone plans) resource
live-order machine plans gone legal resource = sym (filter-same (stays true (others_of gone)) (keeping gone) (slot_order machine plans resource) (stays-others gone)) ∙ sym (order-staying true (others_of gone) machine plans resource legal)

-- choices last as long at ticks that agree on own points
pub own-lasts : (machine : Machine) (t t' : Ticks) (choices : List Choice) → ((n : ℕ) → t' (own n) ≡ t (own n)) → ChoicesLast machine t choices → ChoicesLast machine t' choices
own-lasts machine t t' [] same lasts = tt
own-lasts machine t t' (c ∷ choices) same lasts = (rw (same (suc (length choices)), same (length choices)) lasts.0, own-lasts machine t t' choices same lasts.1)
