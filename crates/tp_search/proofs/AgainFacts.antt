-- What changes that are made again lead to: each first part of them can be carried, and all of them give the same suffix.
use Rattle.std.proofs.Common.{◌≡◌, ℕ, suc, ◌+◌, ◌<◌, ◌≤◌, Bool, false, List, [], ◌∷◌, ◌++◌, length, take, drop, get_or, fold, refl, sym, ap, ◌∙◌, subst, arith, Option, Some, None, IsSome, IsSomeAnd}
use Rattle.std.specs.Prelude.{slice_get}
use Rattle.std.proofs.lemmas.List.{take-append-drop, take_more}
use Rattle.std.proofs.lemmas.List.Sums.{fold-append}
use Rattle.tp_machine.specs.ModuleUse.{action_at}
use Rattle.tp_machine.specs.declared.parts.ActId.{ActId}
use Rattle.tp_machine.specs.declared.parts.Action.{Action}
use Rattle.tp_machine.specs.declared.parts.HoldRule.{HoldRule}
use Rattle.tp_machine.specs.declared.machine.Machine.{Machine}
use Rattle.tp_schedule.specs.Choices.{AreWithin, Choice, HavePlaces}
use Rattle.tp_schedule.specs.Holders.{holds_of_act}
use Rattle.tp_schedule.specs.Plans.{LastsWithin}
use Rattle.tp_schedule.specs.Spots.{Slot, slot_order}
use Rattle.tp_schedule.specs.declared.parts.Ask.{Ask}
use Rattle.tp_schedule.specs.declared.parts.Plan.{Plan}
use Rattle.tp_constraints.specs.Suffixes.{AreWithinSoFar, HavePlacesSoFar, Suffix, order_in, with_action, with_place}
use Rattle.tp_constraints.proofs.PlaceGaps.{place_law}
use Rattle.tp_constraints.proofs.Steps.{action_law}
use Rattle.tp_placing.specs.Boards.{after_change}
use Rattle.tp_placing.specs.declared.parts.Change.{Change}
use Rattle.tp_placing.specs.declared.parts.Change.TheVariants.{Action as Act, Goal as Open, Place, Stop}
use Rattle.tp_constraints.proofs.WayMeets.{rooms-count}
use Rattle.tp_constraints.proofs.WaySteps.{order-next}
use Rattle.tp_search.specs.Again.{CanCarry, CanCarryIf, CanLayAgain, after_again, again_by, suffix_by}

-- an action that lasts is the machine's
lasts-known : (machine : Machine) (act : ActId) (start end : ℕ) → LastsWithin machine act start end → IsSome (action_at machine act.0)
lasts-known machine act start end lasts = go (action_at machine act.0) lasts where
  go : (o : Option Action) → IsSomeAnd o (λ a. (start + a.least ≤ end) × (end ≤ start + a.most)) → IsSome o
  go None h = absurd h
  go (Some a) h = refl

-- places for all holds are places so far
within-so-far : (orders : ℕ → List Slot) (rules : List HoldRule) (places : List ℕ) → AreWithin orders rules places → AreWithinSoFar orders rules places
within-so-far orders [] [] within = tt
within-so-far orders [] (place ∷ places) within = absurd within
within-so-far orders (rule ∷ rules) [] within = tt
within-so-far orders (rule ∷ rules) (place ∷ places) within = (within.0, within-so-far orders rules places within.1)

so-far : (machine : Machine) (orders : ℕ → List Slot) (choices : List Choice) → HavePlaces machine orders choices → HavePlacesSoFar machine orders choices
so-far machine orders [] have = tt
so-far machine orders (c ∷ choices) have = (within-so-far _ (holds_of_act (action_at machine c.act.0)) c.places have.0, have.1)

-- of places so far, those before the last, and what the last is for
within-less : (orders : ℕ → List Slot) (rules : List HoldRule) (places : List ℕ) (place : ℕ) → AreWithinSoFar orders rules (places ++ place ∷ []) → AreWithinSoFar orders rules places
within-less orders rules [] place within = tt
within-less orders [] (p ∷ places) place within = absurd within
within-less orders (rule ∷ rules) (p ∷ places) place within = (within.0, within-less orders rules places place within.1)

record IsNext (orders : ℕ → List Slot) (rules : List HoldRule) (places : List ℕ) (place : ℕ) : Type 0 where
  pub rule : HoldRule
  pub is_rule : slice_get rules (length places) ≡ Some rule
  pub within : place ≤ length (orders rule.resource.0)

within-next : (orders : ℕ → List Slot) (rules : List HoldRule) (places : List ℕ) (place : ℕ) → AreWithinSoFar orders rules (places ++ place ∷ []) → IsNext orders rules places place
within-next orders [] [] place within = absurd within
within-next orders [] (p ∷ places) place within = absurd within
within-next orders (rule ∷ rules) [] place within = record { rule = rule; is_rule = refl; within = within.0 }
within-next orders (rule ∷ rules) (p ∷ places) place within =
    let next = within-next orders rules places place within.1 in
    record { rule = next.rule; is_rule = next.is_rule; within = next.within }

-- the hold that a place is for, and that the order of its resource has the place
pub record IsHold (machine : Machine) (plans : List Plan) (x : Suffix) (c : Choice) (place : ℕ) : Type 0 where
  pub rule : HoldRule
  pub is_rule : slice_get (holds_of_act (action_at machine c.act.0)) (length c.places) ≡ Some rule
  pub within : place ≤ length (order_in machine plans x rule.resource.0)

module _ (machine : Machine) (plans : List Plan) (ask : Ask) where
  -- what is carried with an action more, or with a place more, is carried without
  action-less : (act : ActId) (room : ℕ) (x : Suffix) → CanCarry machine plans ask (with_action act room x) → CanCarry machine plans ask x
  action-less act room x can =
      let lengths : length x.rooms ≡ suc (length x.choices) = let all = can.rooms in omega arith in
      let known = lasts-known machine act _ _ can.are_times.lasts.0 in
      record {
        rooms = lengths;
        places = so-far machine (slot_order machine plans) x.choices can.places.1;
        going = can.going;
        at_most = let most = can.at_most in omega (arith, most);
        ticks = can.ticks;
        are_times = ((action_law machine plans ask x act room can.ticks lengths can.going known).0 can.are_times).0;
      }

  module _ (place : ℕ) (c : Choice) (choices : List Choice) (rooms : List ℕ) (stopped : Bool) where
    abbrev old : Suffix
    old = record { choices = c ∷ choices; rooms = rooms; stopped = stopped }

    pub hold-next : CanCarry machine plans ask (with_place place old) → IsHold machine plans old c place
    hold-next can =
        let next = within-next _ (holds_of_act (action_at machine c.act.0)) c.places place can.places.0 in
        let same = order-next machine plans c choices next.rule next.is_rule in
        record { rule = next.rule; is_rule = next.is_rule; within = subst (λ order. place ≤ length order) (sym same) next.within }

    hold-less : CanCarry machine plans ask (with_place place old) → CanCarry machine plans ask old
    hold-less can =
        let next = hold-next can in
        record {
          rooms = can.rooms;
          places = (within-less _ (holds_of_act (action_at machine c.act.0)) c.places place can.places.0, can.places.1);
          going = can.going;
          at_most = can.at_most;
          ticks = can.ticks;
          are_times = ((place_law machine plans ask old c choices next.rule place can.ticks refl next.is_rule next.within).0 can.are_times).0;
        }

  place-less : (place : ℕ) (choices : List Choice) (rooms : List ℕ) (stopped : Bool) → CanCarry machine plans ask (with_place place (record { choices = choices; rooms = rooms; stopped = stopped }))
      → CanCarry machine plans ask (record { choices = choices; rooms = rooms; stopped = stopped })
  place-less place [] rooms stopped can = can
  place-less place (c ∷ choices) rooms stopped can = hold-less place c choices rooms stopped can

  pub carried-before : (o : Option Suffix) (change : Change) → CanCarryIf machine plans ask (after_again o change) → CanCarryIf machine plans ask o
  carried-before None change can = tt
  carried-before (Some x) (Open room) can = can
  carried-before (Some x) (Act act room) can = action-less act room x can
  carried-before (Some x) (Place place) can = place-less place x.choices x.rooms x.stopped can
  carried-before (Some x) Stop can = can

  carried-first : (rest : List Change) (o : Option Suffix) → CanCarryIf machine plans ask (fold after_again o rest) → CanCarryIf machine plans ask o
  carried-first [] o can = can
  carried-first (c ∷ rest) o can = carried-before o c (carried-first rest (after_again o c) can)

  -- the first changes of those that can be carried can be carried
  pub carried-part : (changes : List Change) (count : ℕ) → CanCarryIf machine plans ask (again_by changes) → CanCarryIf machine plans ask (again_by (take count changes))
  carried-part changes count can =
      let parts : again_by changes ≡ fold after_again (again_by (take count changes)) (drop count changes) = ap again_by (sym (take-append-drop count changes)) ∙ fold-append after_again None (take count changes) (drop count changes) in
      carried-first (drop count changes) (again_by (take count changes)) (subst (CanCarryIf machine plans ask) parts can)

-- one change more
pub again-next : (changes : List Change) (at : ℕ) → at < length changes → again_by (take (at + 1) changes) ≡ after_again (again_by (take at changes)) (get_or changes at (Open 0))
again-next changes at less = ap again_by (take_more changes at (Open 0) less) ∙ fold-append after_again None (take at changes) (get_or changes at (Open 0) ∷ [])

-- the suffix without the stop
abbrev pub going_of : Suffix → Suffix
going_of x = record { choices = x.choices; rooms = x.rooms; stopped = false }

abbrev going_if : Option Suffix → Option Suffix
going_if None = None
going_if (Some x) = Some (going_of x)

going-next : (o : Option Suffix) (c : Change) → after_again (going_if o) c ≡ going_if (after_change o c)
going-next None (Open room) = refl
going-next None (Act act room) = refl
going-next None (Place place) = refl
going-next None Stop = refl
going-next (Some x) (Open room) = refl
going-next (Some x) (Act act room) = refl
going-next (Some x) (Place place) = refl
going-next (Some x) Stop = refl

going-all : (changes : List Change) (o : Option Suffix) → fold after_again (going_if o) changes ≡ going_if (fold after_change o changes)
going-all [] o = refl
going-all (c ∷ changes) o = ap (λ s. fold after_again s changes) (going-next o c) ∙ going-all changes (after_change o c)

pub again-going : (changes : List Change) (x : Suffix) → suffix_by changes ≡ Some x → again_by changes ≡ Some (going_of x)
again-going changes x is = going-all changes None ∙ ap going_if is

-- a list that can be committed can be carried without its stop
pub carried-going : (machine : Machine) (plans : List Plan) (ask : Ask) (x : Suffix) → CanLayAgain machine plans ask x → CanCarry machine plans ask (going_of x)
carried-going machine plans ask x can =
    let t = can.are_times in
    record {
      rooms = rooms-count machine ask can.commit.goal can.commit.first x.choices x.rooms can.commit.rooms;
      places = so-far machine (slot_order machine plans) x.choices can.commit.is_list.places;
      going = refl;
      at_most = can.commit.is_list.at_most;
      ticks = can.ticks;
      are_times = record { keeps = t.keeps; lasts = t.lasts; lows = t.lows; last = t.last; line = t.line; apart = t.apart; stopped = λ is. absurd cc };
    }
