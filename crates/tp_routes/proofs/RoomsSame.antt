-- Two asks that want the same, begin alike and lack the same modules have the same rooms.
use Rattle.std.proofs.Common.{ℕ, List, Option, Some, None, IsFalse, IfSome, IsSomeAnd, sym, ap, subst, ◌∙◌}
use Rattle.std.specs.Prelude.{MatchOption}
use Rattle.tp_machine.specs.declared.parts.ActId.{ActId}
use Rattle.tp_machine.specs.declared.parts.State.{State}
use Rattle.tp_machine.specs.declared.machine.Machine.{Machine}
use Rattle.tp_schedule.specs.LocationSets.{has}
use Rattle.tp_schedule.specs.Routes.{AreAllowed, HasNoRoom, IsFreshStart, IsRoom, IsStartFrom, Reaches, walk}
use Rattle.tp_schedule.specs.declared.parts.Ask.{Ask}
use Rattle.tp_schedule.specs.declared.parts.Origin.{Origin}
use Rattle.tp_schedule.specs.declared.parts.Origin.TheVariants.{Feeder as FromFeeder, Front as FromFront}
use Rattle.tp_routes.specs.Numbers.{number_of}
use Rattle.tp_routes.specs.Tables.{AreRooms, HaveSameRooms, IsFilledFor, KeepsRooms, RoomTable, sum_at}

back : (a b : Ask) → HaveSameRooms a b → HaveSameRooms b a
back a b same = record { want = sym same.want; origin = sym same.origin; outs = sym same.outs; empty = sym same.empty }

start-on : (machine : Machine) (a b : Ask) → HaveSameRooms a b → (o : Origin) (s : State) → IsStartFrom machine a o s → IsStartFrom machine b o s
start-on machine a b same FromFeeder s starts = (
  subst (λ w. IsFreshStart machine w s) (sym same.want) starts.0,
  subst (λ e. IsFalse (has e s.loc)) (sym same.empty) starts.1,
)
start-on machine a b same (FromFront state end kept) s starts = starts

reaches-on : (machine : Machine) (a b : Ask) → HaveSameRooms a b → (acts : List ActId) (s : State) → Reaches machine a acts s → Reaches machine b acts s
reaches-on machine a b same acts s reaches = record {
  start = reaches.start;
  starts = subst (λ o. IsStartFrom machine b o reaches.start) (sym same.origin) (start-on machine a b same a.origin reaches.start reaches.starts);
  leads = ap (λ w. walk machine w acts reaches.start) same.want ∙ reaches.leads;
}

allowed-on : (machine : Machine) (a b : Ask) → HaveSameRooms a b → (acts : List ActId) → AreAllowed machine a.outs acts → AreAllowed machine b.outs acts
allowed-on machine a b same acts allowed = subst (λ o. AreAllowed machine o acts) (sym same.outs) allowed

pub rooms-same : (machine : Machine) (a b : Ask) (sums : List (Option ℕ)) → HaveSameRooms a b → AreRooms machine a sums → AreRooms machine b sums
rooms-same machine a b sums same are s known = go (sum_at sums (number_of s)) (are s known) where
  other : HaveSameRooms b a
  other = back a b same

  go : (o : Option ℕ) → MatchOption o (HasNoRoom machine a s) (IsRoom machine a s) → MatchOption o (HasNoRoom machine b s) (IsRoom machine b s)
  go None none = λ acts allowed reaches. none acts (allowed-on machine b a other acts allowed) (reaches-on machine b a other acts s reaches)
  go (Some room) is = record {
    acts = is.acts;
    allowed = allowed-on machine a b same is.acts is.allowed;
    reaches = reaches-on machine a b same is.acts s is.reaches;
    sum = is.sum;
    least = λ others allowed reaches. is.least others (allowed-on machine b a other others allowed) (reaches-on machine b a other others s reaches);
  }

-- a table that was filled for the one is filled for the other
pub filled-for : (machine : Machine) (table : RoomTable) (ask : Ask) → KeepsRooms table machine → IsSomeAnd table.filled (λ last. HaveSameRooms last ask) → IsFilledFor table machine ask
filled-for machine table ask keeps some = go table.filled keeps some where
  go : (o : Option Ask) → IfSome o (IsFilledFor table machine) → IsSomeAnd o (λ last. HaveSameRooms last ask) → IsFilledFor table machine ask
  go None none some = absurd some
  go (Some last) filled same = record { rooms = rooms-same machine last ask table.sums same filled.rooms; leads = filled.leads; starts = filled.starts }
