-- What a look at a half found.
use Rattle.std.proofs.Common.{ℕ, ◌-◌, ◌<◌, ◌≤◌, List, All, arith}
use Rattle.tp_machine.specs.declared.machine.Machine.{Machine}
use Rattle.tp_schedule.specs.Spots.{Ticks}
use Rattle.tp_schedule.specs.declared.parts.Ask.{Ask}
use Rattle.tp_schedule.specs.declared.parts.Plan.{Plan}
use Rattle.tp_windows.specs.SoughtWays.{IsSoughtIn, IsWay}
use Rattle.tp_windows.specs.declared.sought.Sought.{Sought}
use Rattle.tp_windows.specs.declared.way.Way.{Way}
use Rattle.tp_windows.specs.declared.way.Way.TheVariants.{Found as WayFound, GaveUp as WayGaveUp, Never}
use Rattle.tp_windows.specs.Windows.{MayStand, NoneIn, Windows}
use Rattle.tp_windows.specs.Walks.{CanClose, IsSeen, IsSeenIn, IsSooner, IsVerdict, IsWayIn}
use Rattle.tp_windows.specs.Halves.{AreWindowsOf, Half, Meets}
use Rattle.tp_windows.specs.declared.halves.Looked.{Looked}
use Rattle.tp_windows.specs.declared.halves.Looked.TheVariants.{Closed, Found, Split, GaveUp}
use Rattle.tp_windows.proofs.Waiting.{halves_close, halves_refuse}

pub seen_verdict : (machine : Machine) (plans : List Plan) (ask : Ask) (w : Windows) (end from : ℕ) (r : Looked) → IsVerdict from r → IsSooner end r → ((bound : ℕ) → bound < from → bound ≤ end - 1 → NoneIn machine plans ask w bound) → IsSeenIn machine plans ask w end r
seen_verdict machine plans ask w end from Closed is sooner none = absurd is
seen_verdict machine plans ask w end from (Found tick) is sooner none =
    let some = sooner.0 in
    let less = sooner.1 in
    none (tick - 1) (omega (arith, is, some)) (omega (arith, less))
seen_verdict machine plans ask w end from (Split side) is sooner none = tt
seen_verdict machine plans ask w end from GaveUp is sooner none = tt

-- ticks that may stand where the copy ends by a limit may where it ends by a greater one
stand-later : (machine : Machine) (plans : List Plan) (ask : Ask) (lower limit : ℕ) (t : Ticks) → lower ≤ limit → MayStand machine plans ask lower t → MayStand machine plans ask limit t
stand-later machine plans ask lower limit t le stands = record {
  keeps = stands.keeps;
  orders = stands.orders;
  line = λ p in' tray goes delivered before. let less = stands.line p in' tray goes delivered before in omega (arith, less, le);
}

-- what was found in the windows of a half closes it
pub seen_half : (machine : Machine) (plans : List Plan) (ask : Ask) (w : Windows) (halves : List Half) (end : ℕ) (r : Looked) → AreWindowsOf machine plans ask (end - 1) halves w → IsSooner end r → IsSeenIn machine plans ask w end r → IsSeen machine plans ask halves end r
seen_half machine plans ask w halves end Closed windows sooner none = λ waiting left. halves_close machine plans ask (end - 1) w halves waiting left windows none
seen_half machine plans ask w halves end (Found tick) windows sooner none = λ waiting left.
    let less = sooner.1 in
    halves_close machine plans ask (tick - 1) w halves waiting left (λ t stands meets. windows t (stand-later machine plans ask (tick - 1) (end - 1) t (omega (arith, less)) stands) meets) none
seen_half machine plans ask w halves end (Split side) windows sooner none = tt
seen_half machine plans ask w halves end GaveUp windows sooner none = tt

pub refused_half : (machine : Machine) (plans : List Plan) (ask : Ask) (halves : List Half) (end : ℕ) → ((t : Ticks) → MayStand machine plans ask (end - 1) t → All (Meets t) halves → ⊥) → CanClose machine plans ask (end - 1) halves
refused_half machine plans ask halves end none waiting left = halves_refuse machine plans ask (end - 1) halves waiting left none

pub way_in : (sought : Sought) (way : Way) (plans : List Plan) (w : Windows) → IsWay sought way → IsSoughtIn sought plans w → IsWayIn sought.machine.now plans sought.ask.now w sought.limit way
way_in sought (WayFound label end) plans w is sought-in = λ bound less le. is bound less le plans w sought-in
way_in sought Never plans w is sought-in = is plans w sought-in
way_in sought WayGaveUp plans w is sought-in = tt
