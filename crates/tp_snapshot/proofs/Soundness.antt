-- A standing that keeps the rules is sound.
use Rattle.std.proofs.Common.{◌≡◌, ℕ, ◌+◌, ◌<◌, ◌≤◌, length, get_or, All, inr, subst, arith, codes, lit≤}
use Rattle.std.proofs.lemmas.Bool.{lt-ltb}
use Rattle.std.proofs.lemmas.List.{length-map}
use Rattle.std.proofs.lemmas.List.Elements.{All-contains}
use Rattle.serde_json.specs.Data.{Data}
use Rattle.tp_machine.specs.declared.machine.Machine.{Machine}
use Rattle.tp_schedule.specs.Answers.{KeepsFloors}
use Rattle.tp_schedule.specs.PlannerAnswers.{none_exempt}
use Rattle.tp_schedule.specs.Plans.{point}
use Rattle.tp_schedule.specs.declared.parts.Plan.{Plan}
use Rattle.tp_schedule.specs.declared.parts.SheetId.{SheetId}
use Rattle.tp_words.proofs.Steps.{and_then_some}
use Rattle.tp_jobs.specs.Backlogs.{names_of}
use Rattle.tp_jobs.specs.declared.parts.Job.{Job}
use Rattle.tp_jobs.specs.declared.standing.Standing.{Standing}
use Rattle.tp_session_standing.specs.Sound.{IsKeptPlan, IsKeptWaiting, IsNumbered, IsReleasedBy, IsSound}
use Rattle.tp_snapshot_rules.specs.Rules.{AreOnTheirWay}
use Rattle.tp_snapshot.proofs.MomentsRead.{outs-read, stock-read}
use Rattle.tp_snapshot.proofs.PartsRead.{IsCopy, job-read, waiting-read}
use Rattle.tp_snapshot.proofs.PlansRead.{IsPlanRead, plan-read, released-read}
use Rattle.tp_snapshot.proofs.ReadFacts.{field-value, list-read, whole-most}
use Rattle.tp_snapshot.specs.Jobs.{job_of}
use Rattle.tp_snapshot.specs.Moments.{none_out, out_from, stock_from}
use Rattle.tp_snapshot.specs.Plans.{plan_of}
use Rattle.tp_snapshot.specs.Rules.{KeepsTo}
use Rattle.tp_snapshot.specs.Values.{field_of, list_of, whole_of}
use Rattle.tp_snapshot.specs.WaitingCopies.{wait_of}

numbered : (t : Standing) (copy : SheetId) → IsCopy (length t.jobs) copy → IsNumbered t copy
numbered t copy is = record { known = lt-ltb copy.job (length t.jobs) is.known; sheets = is.sheets; copies = is.copies }

module _ (n : ℕ) (machine : Machine) (d : Data) (t : Standing) (six : 6 ≤ n) (keeps : KeepsTo n machine d t) where
  -- each plan was read, and where it is a timed plan it has as many released actions as count as released
  read : All (IsPlanRead t.jobs (t.now + machine.lead)) t.plans
  read k p low =
      let all = (list-read 256 (codes "plans") (plan_of machine t.now t.jobs) d t.plans (keeps.plans (omega arith)).plans).1 in
      let (v, is) = all k p low in
      plan-read machine t.now t.jobs v (get_or t.plans k p) is

  released : AreOnTheirWay machine t → All (IsReleasedBy machine t.now) t.plans
  released way k p low = released-read machine t.now (get_or t.plans k p) (way k p low).timed (read k p low).released

  pub keeps-floors : AreOnTheirWay machine t → KeepsFloors machine t.now none_exempt t.plans
  keeps-floors way p in' exempt i from within =
      let by = All-contains (IsReleasedBy machine t.now) t.plans p (released way) in' in
      let late : ¬ (point p i ≤ t.now + machine.lead) = λ soon. (let count = (by i within).1 (inr soon) in omega (arith, count, from)) in
      omega (arith, late)

  pub few-plans : length t.plans ≤ 256
  few-plans = (list-read 256 (codes "plans") (plan_of machine t.now t.jobs) d t.plans (keeps.plans (omega arith)).plans).0

  pub moment-at-most : t.now ≤ 1000000000
  moment-at-most =
      let (v, is) = field-value (codes "now") (whole_of 1000000000) d t.now (keeps.moment (omega arith)).now in
      whole-most 1000000000 t.now v is

module _ (machine : Machine) (d : Data) (t : Standing) (keeps : KeepsTo 10 machine d t) where
  way : AreOnTheirWay machine t
  way = keeps.later.courses (lit≤ tt)

  plan : All (IsKeptPlan machine t) t.plans
  plan k p low =
      let q : Plan = get_or t.plans k p in
      let read-it = read 10 machine d t (lit≤ tt) keeps k p low in
      let come = (keeps.later.schedule (lit≤ tt)).come k p low in
      record {
        numbered = numbered t q.sheet read-it.copy;
        own = read-it.own;
        points = read-it.points;
        released = released 10 machine d t (lit≤ tt) keeps way k p low;
        live = (way k p low).live;
        front = come.front;
        purge = come.purge;
        broken = (keeps.later.copies (lit≤ tt)).broken k p low;
        clear = come.clear;
      }

  waiting : All (IsKeptWaiting machine t) t.waiting
  waiting k w low =
      let told = keeps.waiting (lit≤ tt) in
      let all = (list-read 4352 (codes "waiting") (wait_of (names_of t.jobs)) d t.waiting told.waiting).1 in
      let (v, is) = all k w low in
      let copy = waiting-read (names_of t.jobs) v (get_or t.waiting k w) is in
      let can = told.keeps.can_wait k w low in
      record {
        numbered = numbered t (get_or t.waiting k w).sheet (subst (λ size. IsCopy size (get_or t.waiting k w).sheet) (length-map t.jobs (λ (j : Job). j.name)) copy);
        media = can.media;
        unplanned = can.unplanned;
        whole = can.whole;
        line = (keeps.later.copies (lit≤ tt)).line k w low;
      }

  pub is-sound : IsSound machine t
  is-sound =
      let told = keeps.moment (lit≤ tt) in
      let jobs = keeps.jobs (lit≤ tt) in
      let jobs-read = list-read 1000000 (codes "jobs") (job_of machine) d t.jobs jobs.jobs in
      let plans-read = list-read 256 (codes "plans") (plan_of machine t.now t.jobs) d t.plans (keeps.plans (lit≤ tt)).plans in
      let waits = keeps.waiting (lit≤ tt) in
      let waiting-few = (list-read 4352 (codes "waiting") (wait_of (names_of t.jobs)) d t.waiting waits.waiting).0 in
      let schedule = keeps.later.schedule (lit≤ tt) in
      let copies = keeps.later.copies (lit≤ tt) in
      let (ds, a, outs) = and_then_some (field_of (codes "out") list_of d) (λ ds. out_from 0 machine.modules ds none_out) t.outs told.outs in
      let (es, b, stock) = and_then_some (field_of (codes "stock") list_of d) (stock_from machine.feeders) t.stock told.stock in
      record {
        now_at_most = moment-at-most 10 machine d t (lit≤ tt) keeps;
        outs = outs-read machine.modules ds t.outs outs;
        stock = stock-read machine.feeders es t.stock stock;
        few_jobs = jobs-read.0;
        jobs = record { trays = (λ k j low. (let (v, is) = jobs-read.1 k j low in job-read machine v (get_or t.jobs k j) is)); names = jobs.differ };
        few_plans = plans-read.0;
        plans = plan;
        few_waiting = waiting-few;
        few_open = waits.keeps.few_open;
        in_order = waits.keeps.in_order;
        waiting = waiting;
        one = copies.one;
        newest = copies.newest;
        legal = schedule.legal;
        horizon = schedule.horizon;
        least = keeps.later.times (lit≤ tt);
      }
