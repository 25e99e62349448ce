-- A board whose parts are loaded stands on the ask.
use Rattle.std.proofs.Common.{◌≡◌, ℕ, ◌+◌, ◌≤◌, List, [], filter, refl, ap, sym, ◌∙◌, subst, arith, true, Some, Contains}
use Rattle.tp_base.specs.Readings.{Reading}
use Rattle.tp_base.specs.Net.{Net}
use Rattle.tp_machine.specs.declared.machine.Machine.{Machine}
use Rattle.tp_machine.proofs.MachineFacts.{is_machine}
use Rattle.tp_schedule.specs.Answers.{IsAsked, kept_of}
use Rattle.tp_schedule.specs.Choices.{start_floor}
use Rattle.tp_schedule.specs.LivePlans.{is_live}
use Rattle.tp_schedule.specs.PlannerAnswers.{CanAsk}
use Rattle.tp_schedule.specs.declared.parts.Ask.{Ask}
use Rattle.tp_schedule.specs.declared.parts.Plan.{Plan}
use Rattle.tp_placing.specs.Boards.{BoardValue, past_of}
use Rattle.tp_placing.specs.Loaded.{CanLoad, IsLoaded}
use Rattle.tp_placing.specs.LoadedNet.{point_count}
use Rattle.tp_placing.specs.Settled.{AreSettled}
use Rattle.tp_placing.specs.LoadedBoard.{AreCaused, IsAt, IsMadeFor, StandsOn}
use Rattle.tp_placing.specs.declared.causes.EdgeCause.{EdgeCause}
use Rattle.tp_placing.specs.declared.parts.Held.{Held}
use Rattle.tp_base.specs.declared.edges.PointId.{PointId}
use Rattle.tp_placing.proofs.LivePlans.{live-few, live-asked, live-loads}
use Rattle.tp_placing.proofs.LoadTable.{length-table-of}

at-first : (machine : Machine) (plans : List Plan) (ask : Ask) (n : Net) (timelines : List (List ℕ)) (held : List Held) (firsts : List PointId) (causes : List EdgeCause) → kept_of ask ≤ 64 → IsLoaded machine ask.now plans n timelines held firsts causes → IsAt machine plans ask [] n timelines held
at-first machine plans ask n timelines held firsts causes few l = record {
  net = l.net;
  says = l.says;
  solved = l.solved;
  orders = l.orders;
  at_hand = λ s at. absurd cc;
  few_steps = (refl, few);
  few_edges = let e = l.few_edges in omega arith;
  few_holds = let h = l.few_holds in omega arith;
  all_held = l.all_held;
  small = l.small;
}

pub stands-held : {N : Type 0} (reading : Reading N) (b : BoardValue N) (machine : Machine) (ask : Ask) → CanLoad machine ask.now b.plans → IsAsked machine b.plans ask
    → kept_of ask ≤ 64 → point_count b.plans + 65 ≤ 16641 + kept_of ask
    → IsMadeFor b.made_for machine → b.ask ≡ Some ask → b.floor ≡ start_floor machine ask.now ask.origin → b.horizon ≡ ask.now + machine.window
    → b.steps ≡ [] → b.last.0 ≡ point_count b.plans → past_of reading b ≡ []
    → IsLoaded machine ask.now b.plans (reading.net b.net) b.orders.orders b.held b.firsts b.causes
    → (b.settled ≡ true → AreSettled machine ask.now b.plans) → StandsOn reading b machine ask
stands-held reading b machine ask can origin kept points made asked floor horizon closed last none loaded settled = record {
  made = made;
  asked = asked;
  floor = floor;
  horizon = horizon;
  small_horizon = let w = (is_machine machine).window in let now = can.now_at_most in omega (arith, w.1);
  loadable = can.loadable;
  origin = origin;
  last = last ∙ sym (length-table-of b.plans);
  firsts = loaded.at_firsts;
  few_points = omega arith;
  few_plans = can.few;
  on_time = can.horizon;
  now = subst (λ s. IsAt machine b.plans ask s (reading.net b.net) b.orders.orders b.held) (sym closed) (at-first machine b.plans ask (reading.net b.net) b.orders.orders b.held b.firsts b.causes kept loaded);
  before = λ x inside. (let gone = subst (λ cs. Contains cs x) none inside in absurd (omega (arith, gone.1)));
  plain = loaded.plain;
  caused = subst (λ s. AreCaused machine b.plans ask b.causes s (reading.net b.net)) (sym closed) (record { hops = loaded.hops ask; safe = loaded.safe });
  caused_before = λ x inside. (let gone = subst (λ cs. Contains cs x) none inside in absurd (omega (arith, gone.1)));
  settled = settled;
}

-- a board that is loaded with the live plans of a schedule
pub stands-loaded : {N : Type 0} (reading : Reading N) (b : BoardValue N) (machine : Machine) (plans : List Plan) (ask : Ask) → CanAsk machine plans ask
    → IsMadeFor b.made_for machine → b.ask ≡ Some ask → b.floor ≡ start_floor machine ask.now ask.origin → b.horizon ≡ ask.now + machine.window
    → b.plans ≡ filter (is_live machine ask.now) plans → b.steps ≡ [] → b.last.0 ≡ point_count b.plans → past_of reading b ≡ []
    → IsLoaded machine ask.now b.plans (reading.net b.net) b.orders.orders b.held b.firsts b.causes
    → (b.settled ≡ true → AreSettled machine ask.now b.plans) → StandsOn reading b machine ask
stands-loaded reading b machine plans ask can made asked floor horizon live closed last none loaded settled =
    let few = live-few machine plans ask can ask.origin can.asked in
    let kept = few.2 in
    let points = few.1 in
    let p = ap point_count live in
    stands-held reading b machine ask (subst (CanLoad machine ask.now) (sym live) (live-loads machine plans ask can)) (subst (λ ps. IsAsked machine ps ask) (sym live) (live-asked machine plans ask can ask.origin can.asked can.has_time)) kept
    (omega arith) made asked floor horizon closed last none loaded settled
