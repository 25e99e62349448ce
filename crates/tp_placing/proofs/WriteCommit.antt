-- What is written is an alternative that ends at the least tick of the asked copy's end, and is least.
use Rattle.std.proofs.Common.{◌≡◌, ℕ, false, List, filter, map, ap, sym, ◌∙◌, subst, AllPairs}
use Rattle.tp_base.specs.Net.{Net, IsLeast as IsLeastSolution}
use Rattle.tp_machine.specs.declared.machine.Machine.{Machine}
use Rattle.tp_schedule.specs.Answers.{IsAlternative, IsAsked, IsLeast, follows_front}
use Rattle.tp_schedule.specs.Choices.{Choice}
use Rattle.tp_schedule.specs.Completions.{answered, asked_plan, settled_ticks, total_of}
use Rattle.tp_schedule.specs.LivePlans.{is_live}
use Rattle.tp_schedule.specs.PlannerAnswers.{CanAsk}
use Rattle.tp_schedule.specs.Plans.{IsEarlier, end_of_plan, put_plan, without}
use Rattle.tp_schedule.specs.Spots.{Spot, Ticks}
use Rattle.tp_schedule.specs.Spots.Spot.{own}
use Rattle.tp_schedule.specs.Times.{timed_by}
use Rattle.tp_schedule.specs.declared.parts.Ask.{Ask}
use Rattle.tp_schedule.specs.declared.parts.Plan.{Plan}
use Rattle.tp_choices.proofs.LiveAnswers.{live_answers}
use Rattle.tp_choices.proofs.LiveTimes.{whole_is_least}
use Rattle.tp_constraints.specs.Laws.{IsLoadable}
use Rattle.tp_constraints.specs.Nets.{IsBoardNet}
use Rattle.tp_constraints.specs.Numbers.{number, ticks_by}
use Rattle.tp_constraints.specs.Suffixes.{Suffix}
use Rattle.tp_constraints.proofs.LeastSolutions.{commit_law}
use Rattle.tp_constraints.proofs.Solutions.{board_least, board_solutions}
use Rattle.tp_placing.specs.Commits.{AreLeastTimes, CanCommit, IsHeldFrom, IsWrittenFor, retimed_in, written_for}
use Rattle.tp_placing.proofs.WriteHeld.{IsAnswered, answered-on_live, asked_plan-alive}
use Rattle.tp_placing.proofs.WriteJoined.{joined}
use Rattle.tp_placing.proofs.WriteLive.{gone, may-ask, may-forget, put-of}
use Rattle.tp_placing.proofs.WritePlans.{in_order-retimed}
use Rattle.tp_placing.proofs.WriteWhole.{forget-new, less-live}

-- it is an answer, and ends so
pub record IsWritten (machine : Machine) (plans : List Plan) (ask : Ask) (end : ℕ) (new : List Plan) : Type 0 where
  pub answer : IsAlternative machine plans ask new
  pub ends : end_of_plan answer.plan ≡ end
  pub least : IsLeast machine ask.now (follows_front ask) new

-- an answer on the live plans makes one on the schedule
commits : (machine : Machine) (plans : List Plan) (ask : Ask) (choices : List Choice) (t : Ticks) (end : ℕ) → CanAsk machine plans ask → IsAnswered machine (filter (is_live machine ask.now) plans) ask choices t end
    → AllPairs IsEarlier (map (retimed_in (filter (is_live machine ask.now) plans) t) plans) → AllPairs IsEarlier (written_for plans (filter (is_live machine ask.now) plans) ask choices t)
    → IsWritten machine plans ask end (written_for plans (filter (is_live machine ask.now) plans) ask choices t)
commits machine plans ask choices t end can a before in_order =
    let j = joined machine plans ask can choices t before in_order in
    let P : List Plan → Type 0 = λ ps. (b : IsAlternative machine ps ask (answered (filter (is_live machine ask.now) plans) ask choices t)) × (end_of_plan b.plan ≡ end) in
    let small = subst P (sym (less-live machine plans ask.now can.plan_on)) (a.answer, a.ends) in
    let whole = live_answers machine plans (answered (filter (is_live machine ask.now) plans) ask choices t) (written_for plans (filter (is_live machine ask.now) plans) ask choices t) ask (gone machine plans ask.now can.plan_on) (may-forget machine plans ask.now can.plan_on) (may-ask machine plans ask (put-of machine plans ask can)) j small.0 in
    record {
      answer = whole.0;
      ends = ap end_of_plan whole.1 ∙ small.1;
      least = whole_is_least machine ask.now (follows_front ask) (written_for plans (filter (is_live machine ask.now) plans) ask choices t) (gone machine plans ask.now can.plan_on)
          (forget-new machine plans ask (put-of machine plans ask can) (answered (filter (is_live machine ask.now) plans) ask choices t) (written_for plans (filter (is_live machine ask.now) plans) ask choices t) j whole.0)
          (subst (IsLeast machine ask.now (follows_front ask)) (sym j.live_part) a.least);
    }

-- the network of what the board holds makes an answer on it, and so on the live plans
answers : (machine : Machine) (plans held : List Plan) (ask : Ask) (x : Suffix) (table : List Spot) (net : Net) (sol : ℕ → ℕ) → IsHeldFrom machine plans ask held
    → IsLoadable machine ask.now (λ _. false) held → IsAsked machine held ask → IsBoardNet machine held ask x table net → CanCommit machine held ask x → IsLeastSolution net sol
    → IsAnswered machine (filter (is_live machine ask.now) plans) ask x.choices (ticks_by table sol) (sol (number table (own 0)))
answers machine plans held ask x table net sol from load asked is complete l =
    let law = commit_law machine held ask x complete.goal complete.first table net sol load asked is complete.rooms complete.starts complete.is_list complete.complete complete.some l in
    subst (λ ps. IsAnswered machine ps ask x.choices (ticks_by table sol) (sol (number table (own 0)))) from.live_part
    (answered-on_live machine held ask from.can_put x.choices (ticks_by table sol) (sol (number table (own 0))) (record { answer = law.0.0; ends = law.0.1; least = law.1 }))

-- a schedule that was made step by step is the one that is written
pub made-so : (machine : Machine) (plans held : List Plan) (ask : Ask) (choices : List Choice) (t : Ticks) → IsHeldFrom machine plans ask held
    → (mid new : List Plan) (p : Plan) → mid ≡ map (retimed_in (filter (is_live machine ask.now) held) t) plans → p ≡ timed_by (settled_ticks ask (total_of ask choices) t) (asked_plan held ask choices)
    → p.sheet ≡ ask.sheet → new ≡ put_plan p (without p.sheet mid) → new ≡ written_for plans (filter (is_live machine ask.now) plans) ask choices t
made-so machine plans held ask choices t from mid new p times plan sheet made =
    let times' : mid ≡ map (retimed_in (filter (is_live machine ask.now) plans) t) plans = times ∙ ap (λ ps. map (retimed_in ps t) plans) from.live_part in
    let same : asked_plan held ask choices ≡ asked_plan (filter (is_live machine ask.now) plans) ask choices = asked_plan-alive machine held ask from.can_put choices ∙ ap (λ ps. asked_plan ps ask choices) from.live_part in
    let plan' : p ≡ timed_by (settled_ticks ask (total_of ask choices) t) (asked_plan (filter (is_live machine ask.now) plans) ask choices) = plan ∙ ap (timed_by (settled_ticks ask (total_of ask choices) t)) same in
    made ∙ (λ i. put_plan (plan' i) (without (sheet i) (times' i)))

-- the least solution gives the least times
least-times : (machine : Machine) (held : List Plan) (ask : Ask) (x : Suffix) (table : List Spot) (net : Net) (sol : ℕ → ℕ) → IsBoardNet machine held ask x table net → IsLeastSolution net sol
    → AreLeastTimes machine held ask x (ticks_by table sol)
least-times machine held ask x table net sol is l = record {
  times = (board_solutions machine held ask x table net is sol).0 l.solution;
  least = λ others h s known. (board_least machine held ask x table net is sol l s known).0 others h;
}

-- what is written is an answer, and made for the suffix
pub written-is : (machine : Machine) (plans held : List Plan) (ask : Ask) (x : Suffix) (table : List Spot) (net : Net) (sol : ℕ → ℕ) → IsHeldFrom machine plans ask held
    → IsLoadable machine ask.now (λ _. false) held → IsAsked machine held ask → IsBoardNet machine held ask x table net → CanCommit machine held ask x → IsLeastSolution net sol
    → (new : List Plan) → new ≡ written_for plans (filter (is_live machine ask.now) plans) ask x.choices (ticks_by table sol) → AllPairs IsEarlier new
    → IsWritten machine plans ask (sol (number table (own 0))) new × IsWrittenFor machine plans held ask new x
written-is machine plans held ask x table net sol from load asked is complete l new e in_order = (
  subst (IsWritten machine plans ask (sol (number table (own 0)))) (sym e)
      (commits machine plans ask x.choices (ticks_by table sol) (sol (number table (own 0))) from.can_ask (answers machine plans held ask x table net sol from load asked is complete l)
      (in_order-retimed (filter (is_live machine ask.now) plans) (ticks_by table sol) plans from.can_ask.plan_on.legal.in_order) (subst (AllPairs IsEarlier) e in_order)),
  record { ticks = ticks_by table sol; least = least-times machine held ask x table net sol is l; made = e },
)
