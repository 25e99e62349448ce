-- Complete ways: they begin at a start state, and can be committed.
use Rattle.std.proofs.Common.{◌≡◌, refl, sym, subst, IsTrue}
use Rattle.tp_machine.specs.declared.parts.State.{State}
use Rattle.tp_machine.specs.declared.machine.Machine.{Machine}
use Rattle.tp_schedule.specs.Choices.{CanStop, ChoiceList, IsCompleteFrom, IsFirstState}
use Rattle.tp_schedule.specs.Routes.{IsStartFrom}
use Rattle.tp_schedule.specs.declared.parts.Ask.{Ask}
use Rattle.tp_schedule.specs.declared.parts.Origin.{Origin}
use Rattle.tp_schedule.specs.declared.parts.Origin.TheVariants.{Feeder as FromFeeder, Front as FromFront}
use Rattle.tp_constraints.specs.Suffixes.{list_of}
use Rattle.tp_constraints.proofs.WayLists.{first-only, way-walk}
use Rattle.tp_constraints.specs.WayLaws.{CompleteStart, GoingIncomplete, StartComplete}

-- the one first state of a complete list is a start state
start-of : (machine : Machine) (ask : Ask) (list : ChoiceList) (first : State) (o : Origin) → ((other : State) → IsFirstState machine ask list other → other ≡ first) → (ask.origin ≡ o)
    → (IsTrue list.stopped → CanStop machine ask list o) → IsCompleteFrom machine ask list o → IsStartFrom machine ask o first
start-of machine ask list first FromFeeder only is can complete =
    let start : IsStartFrom machine ask FromFeeder complete.0 = subst (λ o. IsStartFrom machine ask o complete.0) is complete.2 in
    subst (λ s. IsStartFrom machine ask FromFeeder s) (only complete.0 complete.1) start
start-of machine ask list first (FromFront state end count) only is can complete = sym (only state (can complete).1)

pub complete-start : CompleteStart
complete-start machine plans ask goal first x way complete =
    start-of machine ask (list_of goal x) first ask.origin (λ other leads. first-only machine plans ask goal first x other way leads) refl way.can_stop complete

pub start-complete : StartComplete
start-complete machine plans ask goal first x origin way start =
    subst (λ o. IsCompleteFrom machine ask (list_of goal x) o) (sym origin) (first, way-walk machine plans ask goal first x way, start)

pub going-incomplete : GoingIncomplete
going-incomplete machine ask goal state end count x origin going complete =
    let stop : IsTrue x.stopped = subst (λ o. IsCompleteFrom machine ask (list_of goal x) o) origin complete in
    cc
