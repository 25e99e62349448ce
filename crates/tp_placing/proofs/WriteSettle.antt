-- The live plans at their least ticks are a settled schedule with the plans that are not live.
use Rattle.std.proofs.Common.{◌≡◌, ℕ, ◌<◌, Bool, true, false, List, length, filter, map, refl, ap, sym, ◌∙◌, subst, arith, Contains}
use Rattle.std.proofs.lemmas.List.Sums.{length-filter}
use Rattle.tp_base.specs.Net.{Net, IsLeast as IsLeastSolution}
use Rattle.tp_machine.specs.declared.machine.Machine.{Machine}
use Rattle.tp_schedule.specs.Answers.{IsLeast, IsRetimed}
use Rattle.tp_schedule.specs.LivePlans.{is_live}
use Rattle.tp_schedule.specs.PlannerAnswers.{CanSettle, IsSettled, none_exempt}
use Rattle.tp_schedule.specs.Spots.{Spot, Ticks}
use Rattle.tp_schedule.specs.Times.{timed_by}
use Rattle.tp_schedule.specs.declared.parts.Plan.{Plan}
use Rattle.tp_schedule.proofs.CopyFacts.{plan_of-itself}
use Rattle.tp_schedule.proofs.Membership.{All-from_contains, Contains-filter, Contains-filter_from}
use Rattle.tp_choices.specs.LiveParts.{MayForget, only}
use Rattle.tp_choices.proofs.Lists.{filter-all}
use Rattle.tp_choices.proofs.LiveTimes.{live_retimes, whole_is_least}
use Rattle.tp_constraints.specs.Nets.{IsLoadedNet}
use Rattle.tp_constraints.specs.Numbers.{table_of, ticks_by}
use Rattle.tp_constraints.proofs.LeastSolutions.{settle_law}
use Rattle.tp_constraints.proofs.PointNumbers.{number-at}
use Rattle.tp_placing.specs.Loaded.{CanLoad, IsLoaded}
use Rattle.tp_placing.specs.Settled.{AreOfSchedule}
use Rattle.tp_placing.specs.Commits.{AreLeastTicks, retimed_in}
use Rattle.tp_placing.proofs.LivePlans.{can-load}
use Rattle.tp_placing.proofs.LoadedTicks.{points-fit}
use Rattle.tp_placing.proofs.WriteJoined.{joined-times}
use Rattle.tp_placing.proofs.WriteLive.{gone, may-forget}
use Rattle.tp_placing.proofs.WriteWhole.{less-live}

-- the live plans can be loaded
pub live-settles : (machine : Machine) (now : ℕ) (plans : List Plan) → CanSettle machine now plans → CanLoad machine now (filter (is_live machine now) plans)
live-settles machine now plans can = can-load machine now plans can.plan_on (let few = can.few_live in let l = length-filter (is_live machine now) plans in omega arith)

pub settled : (machine : Machine) (now : ℕ) (plans : List Plan) (can : CanSettle machine now plans) (table : List Spot) (net : Net) (sol : ℕ → ℕ) → IsLoadedNet machine now (λ _. false) (filter (is_live machine now) plans) table net → IsLeastSolution net sol
    → IsSettled machine now plans (map (retimed_in (filter (is_live machine now) plans) (ticks_by table sol)) plans)
settled machine now plans can table net sol is l =
    let t : Ticks = ticks_by table sol in
    let j = joined-times machine plans now can.plan_on (ticks_by table sol) in
    let law = settle_law machine now none_exempt (filter (is_live machine now) plans) table net sol (live-settles machine now plans can).loadable (λ p points. refl) is l in
    let small = subst (λ ps. IsRetimed machine now none_exempt ps (map (timed_by (ticks_by table sol)) (filter (is_live machine now) plans))) (sym (less-live machine plans now can.plan_on)) law.0 in
    let whole = live_retimes machine now none_exempt plans (map (timed_by (ticks_by table sol)) (filter (is_live machine now) plans)) (map (retimed_in (filter (is_live machine now) plans) (ticks_by table sol)) plans) (gone machine plans now can.plan_on) (may-forget machine plans now can.plan_on) (λ p points. refl) (λ p in' e. absurd cc) j small in
    record {
      retimed = whole;
      least = whole_is_least machine now none_exempt (map (retimed_in (filter (is_live machine now) plans) (ticks_by table sol)) plans) (gone machine plans now can.plan_on) (forget whole)
          (subst (IsLeast machine now none_exempt) (sym j.live_part) law.1);
    } where
      forget : IsRetimed machine now none_exempt plans (map (retimed_in (filter (is_live machine now) plans) (ticks_by table sol)) plans) → MayForget machine now (map (retimed_in (filter (is_live machine now) plans) (ticks_by table sol)) plans) (gone machine plans now can.plan_on)
      forget r = record {
        legal = r.legal;
        past = λ p in' is.
            let here : Contains (only (gone machine plans now can.plan_on) plans) p = subst (λ ps. Contains ps p) (joined-times machine plans now can.plan_on (ticks_by table sol)).past_part (Contains-filter (λ q. gone machine plans now can.plan_on q.sheet) (map (retimed_in (filter (is_live machine now) plans) (ticks_by table sol)) plans) p in' is) in
            (may-forget machine plans now can.plan_on).past p (Contains-filter_from (λ q. gone machine plans now can.plan_on q.sheet) plans p here).0 is;
        ahead = λ p in' i le within. (let f = r.floors p in' refl i le within in omega arith);
      }

-- all of the live plans are the schedule's
live-again : (machine : Machine) (now : ℕ) (plans : List Plan) → filter (is_live machine now) (filter (is_live machine now) plans) ≡ filter (is_live machine now) plans
live-again machine now plans =
    filter-all (is_live machine now) (filter (is_live machine now) plans) (All-from_contains (λ p. is_live machine now p ≡ true) (filter (is_live machine now) plans) (λ p in'. (Contains-filter_from (is_live machine now) plans p in').1))

pub live-part : (machine : Machine) (now : ℕ) (plans : List Plan) (net : Net) → CanSettle machine now plans → AreOfSchedule net (filter (is_live machine now) plans) plans (is_live machine now)
live-part machine now plans net can = record {
  planned = λ p in' alive. plan_of-itself plans p can.plan_on.legal.in_order (Contains-filter_from (is_live machine now) plans p in').0;
  settled = λ p in' dead. (let alive = (Contains-filter_from (is_live machine now) plans p in').1 in absurd cc);
}

-- the schedule that the times make
pub settled-is : (machine : Machine) (now : ℕ) (plans live new : List Plan) (timelines : _) (held : _) (firsts : _) (causes : _) (net : Net) → CanSettle machine now plans → live ≡ filter (is_live machine now) plans → IsLoaded machine now live net timelines held firsts causes
    → ((test : Plan → Bool) → AreOfSchedule net live plans test → (t : Ticks) → AreLeastTicks net (table_of live) t → new ≡ map (retimed_in (filter test live) t) plans) → IsSettled machine now plans new
settled-is machine now plans live new timelines held firsts causes net can part l times =
    let still : filter (is_live machine now) live ≡ live = ap (filter (is_live machine now)) part ∙ live-again machine now plans ∙ sym part in
    let part' : AreOfSchedule net live plans (is_live machine now) = subst (λ ps. AreOfSchedule net ps plans (is_live machine now)) (sym part) (live-part machine now plans net can) in
    let P : List Plan → Type 0 = λ ps. IsLoadedNet machine now (λ _. false) ps (table_of live) net in
    let e = times (is_live machine now) part' (ticks_by (table_of live) l.solved.0) (record { solution = l.solved.0; least = l.solved.1; there = λ i s at. ap l.solved.0 (number-at (table_of live) l.net.is_table.differ i s at) }) in
    subst (IsSettled machine now plans) (sym (e ∙ ap (λ ps. map (retimed_in ps (ticks_by (table_of live) l.solved.0)) plans) (still ∙ part))) (settled machine now plans can (table_of live) net l.solved.0 (subst P part l.net) l.solved.1)

-- the points of the live plans are few
pub settled-few : (machine : Machine) (now : ℕ) (plans live : List Plan) → CanSettle machine now plans → live ≡ filter (is_live machine now) plans → length (table_of live) < 4294967296
settled-few machine now plans live can part = subst (λ ps. length (table_of ps) < 4294967296) (sym part) (points-fit machine now (filter (is_live machine now) plans) (live-settles machine now plans can))
