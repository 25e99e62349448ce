-- Where a rule from 3 to 6 is broken, it is the first that is.
use Rattle.std.proofs.Common.{◌≡◌, ◌≢◌, ◌∙◌, ℕ, ◌-◌, ◌<◌, ◌≤◌, List, [], Some, None, ap, sym, subst, arith, lit≤}
use Rattle.serde_json.specs.Data.{Data}
use Rattle.tp_machine.specs.declared.machine.Machine.{Machine}
use Rattle.tp_schedule.specs.declared.parts.Plan.{Plan}
use Rattle.tp_jobs.specs.Backlogs.{names_of}
use Rattle.tp_jobs.specs.declared.parts.Job.{Job}
use Rattle.tp_jobs.specs.declared.standing.Standing.{Standing}
use Rattle.tp_snapshot_rules.specs.Rules.{AreInOrder, AreKeptTo, IsFirstBroken, KeepsWaiting}
use Rattle.tp_snapshot.proofs.OneTold.{one}
use Rattle.tp_snapshot.proofs.TellFacts.{both, none-some}
use Rattle.tp_snapshot.specs.Jobs.{DoNamesDiffer, jobs_of}
use Rattle.tp_snapshot.specs.Moments.{none_out, now_of, outs_of, stock_of}
use Rattle.tp_snapshot.specs.Plans.{plans_of}
use Rattle.tp_snapshot.specs.Rules.{BreaksOf, KeepsTo, TellsJobs, TellsMoment, TellsPlans, TellsWaiting}
use Rattle.tp_snapshot.specs.Told.{IsToldBy}
use Rattle.tp_snapshot.specs.WaitingCopies.{waiting_of}

-- the rules from 7 on ask nothing as long as none of them is looked at
none-later : (n : ℕ) → n < 7 → (machine : Machine) (t : Standing) → AreKeptTo n machine t
none-later n low machine t = record {
  courses = λ from. absurd (omega (arith, from, low));
  schedule = λ from. absurd (omega (arith, from, low));
  copies = λ from. absurd (omega (arith, from, low));
  times = λ from. absurd (omega (arith, from, low));
}

pub nothing : Standing
nothing = record { now = 0; outs = none_out; stock = []; jobs = []; waiting = []; plans = [] }

module _ (m : Machine) (d : Data) where
  two : KeepsTo 2 m d nothing
  two = record {
    moment = λ from. absurd (omega (arith, from));
    jobs = λ from. absurd (omega (arith, from));
    plans = λ from. absurd (omega (arith, from));
    waiting = λ from. absurd (omega (arith, from));
    later = none-later 2 (omega arith) m nothing;
  }

  three : (t : Standing) → TellsMoment m d t → KeepsTo 3 m d t
  three t moment = record {
    moment = λ from. moment;
    jobs = λ from. absurd (omega (arith, from));
    plans = λ from. absurd (omega (arith, from));
    waiting = λ from. absurd (omega (arith, from));
    later = none-later 3 (omega arith) m t;
  }

  four : (t : Standing) → TellsMoment m d t → TellsJobs m d t → KeepsTo 4 m d t
  four t moment jobs = record {
    moment = λ from. moment;
    jobs = λ from. jobs;
    plans = λ from. absurd (omega (arith, from));
    waiting = λ from. absurd (omega (arith, from));
    later = none-later 4 (omega arith) m t;
  }

  five : (t : Standing) → TellsMoment m d t → TellsJobs m d t → TellsPlans m d t → KeepsTo 5 m d t
  five t moment jobs plans = record {
    moment = λ from. moment;
    jobs = λ from. jobs;
    plans = λ from. plans;
    waiting = λ from. absurd (omega (arith, from));
    later = none-later 5 (omega arith) m t;
  }

  pub six : (t : Standing) → TellsMoment m d t → TellsJobs m d t → TellsPlans m d t → TellsWaiting m d t → KeepsTo 6 m d t
  six t moment jobs plans waiting = record {
    moment = λ from. moment;
    jobs = λ from. jobs;
    plans = λ from. plans;
    waiting = λ from. waiting;
    later = none-later 6 (omega arith) m t;
  }

  -- where the rules up to 6 are kept, all of the standing is given
  pub all-told : (n : ℕ) → 6 ≤ n → (t : Standing) → KeepsTo n m d t → IsToldBy m d t
  all-told n from t keeps =
      let moment = keeps.moment (omega arith) in
      let jobs = keeps.jobs (omega arith) in
      record {
        now = moment.now;
        outs = moment.outs;
        stock = moment.stock;
        jobs = jobs.jobs;
        differ = jobs.differ;
        plans = (keeps.plans (omega arith)).plans;
        waiting = (keeps.waiting from).waiting;
      }

  pub breaks-three : ((t : Standing) → ¬ TellsMoment m d t) → BreaksOf 3 m d
  breaks-three never = record { from = lit≤ tt; to = lit≤ tt; before = (nothing, two); broken = λ t keeps. never t (keeps.moment (lit≤ tt)) }

  pub no-now : now_of d ≡ None → BreaksOf 3 m d
  no-now none = breaks-three (λ t told. none-some (now_of d) t.now none told.now)

  pub no-outs : outs_of m d ≡ None → BreaksOf 3 m d
  no-outs none = breaks-three (λ t told. none-some (outs_of m d) t.outs none told.outs)

  pub no-stock : stock_of m d ≡ None → BreaksOf 3 m d
  no-stock none = breaks-three (λ t told. none-some (stock_of m d) t.stock none told.stock)

  module _ (t : Standing) (moment : TellsMoment m d t) where
    breaks-four : ((u : Standing) → ¬ TellsJobs m d u) → BreaksOf 4 m d
    breaks-four never = record { from = lit≤ tt; to = lit≤ tt; before = (t, three t moment); broken = λ u keeps. never u (keeps.jobs (lit≤ tt)) }

    pub no-jobs : jobs_of m d ≡ None → BreaksOf 4 m d
    no-jobs none = breaks-four (λ u told. none-some (jobs_of m d) u.jobs none told.jobs)

    pub twice-named : (jobs : List Job) → jobs_of m d ≡ Some jobs → ¬ DoNamesDiffer jobs → BreaksOf 4 m d
    twice-named jobs is never = breaks-four (λ u told. never (subst (λ (js : List Job). DoNamesDiffer js) (both (jobs_of m d) u.jobs jobs told.jobs is) told.differ))

    module _ (jobs : TellsJobs m d t) where
      breaks-five : ((u : Standing) → u.now ≡ t.now → u.jobs ≡ t.jobs → ¬ TellsPlans m d u) → BreaksOf 5 m d
      breaks-five never = record {
        from = lit≤ tt;
        to = lit≤ tt;
        before = (t, four t moment jobs);
        broken = λ u keeps. never u (both (now_of d) u.now t.now (keeps.moment (lit≤ tt)).now moment.now) (both (jobs_of m d) u.jobs t.jobs (keeps.jobs (lit≤ tt)).jobs jobs.jobs) (keeps.plans (lit≤ tt));
      }

      -- other values of the same moment and jobs tell the same plans
      same-plans : (u : Standing) → u.now ≡ t.now → u.jobs ≡ t.jobs → plans_of m u.now u.jobs d ≡ plans_of m t.now t.jobs d
      same-plans u now js = ap (λ (n : ℕ). plans_of m n u.jobs d) now ∙ ap (λ (k : List Job). plans_of m t.now k d) js

      pub no-plans : plans_of m t.now t.jobs d ≡ None → BreaksOf 5 m d
      no-plans none = breaks-five (λ u now js told. none-some (plans_of m t.now t.jobs d) u.plans none (sym (same-plans u now js) ∙ told.plans))

      pub out-of-order : (plans : List Plan) → plans_of m t.now t.jobs d ≡ Some plans → ¬ AreInOrder plans → BreaksOf 5 m d
      out-of-order plans is never = breaks-five (λ u now js told. never (subst (λ (ps : List Plan). AreInOrder ps) (both (plans_of m t.now t.jobs d) u.plans plans (sym (same-plans u now js) ∙ told.plans) is) told.in_order))

      module _ (plans : TellsPlans m d t) where
        breaks-six : ((u : Standing) → KeepsTo 6 m d u → ⊥) → BreaksOf 6 m d
        breaks-six never = record { from = lit≤ tt; to = lit≤ tt; before = (t, five t moment jobs plans); broken = never }

        same-jobs : (u : Standing) → KeepsTo 6 m d u → u.jobs ≡ t.jobs
        same-jobs u keeps = both (jobs_of m d) u.jobs t.jobs (keeps.jobs (lit≤ tt)).jobs jobs.jobs

        pub no-waiting : waiting_of (names_of t.jobs) d ≡ None → BreaksOf 6 m d
        no-waiting none = breaks-six (λ u keeps. none-some (waiting_of (names_of t.jobs) d) u.waiting none (sym (ap (λ (js : List Job). waiting_of (names_of js) d) (same-jobs u keeps)) ∙ (keeps.waiting (lit≤ tt)).waiting))

        -- one standing alone is given with the copies that wait
        told-by : waiting_of (names_of t.jobs) d ≡ Some t.waiting → IsToldBy m d t
        told-by is = record { now = moment.now; outs = moment.outs; stock = moment.stock; jobs = jobs.jobs; differ = jobs.differ; plans = plans.plans; waiting = is }

        pub cannot-wait : waiting_of (names_of t.jobs) d ≡ Some t.waiting → ¬ KeepsWaiting m t → BreaksOf 6 m d
        cannot-wait is never = breaks-six (λ u keeps. never (subst (λ (v : Standing). KeepsWaiting m v) (one m d u t (all-told 6 (lit≤ tt) u keeps) (told-by is)) (keeps.waiting (lit≤ tt)).keeps))

  -- with what is kept of the rules from 7 on
  with-later : (n : ℕ) (t : Standing) → KeepsTo 6 m d t → AreKeptTo n m t → KeepsTo n m d t
  with-later n t keeps later = record {
    moment = λ _. keeps.moment (lit≤ tt);
    jobs = λ _. keeps.jobs (lit≤ tt);
    plans = λ _. keeps.plans (lit≤ tt);
    waiting = λ _. keeps.waiting (lit≤ tt);
    later = later;
  }

  pub keeps-all : (t : Standing) → KeepsTo 6 m d t → AreKeptTo 10 m t → KeepsTo 10 m d t
  keeps-all t keeps later = with-later 10 t keeps later

  pub breaks-later : (n : ℕ) (t : Standing) → KeepsTo 6 m d t → IsFirstBroken n m t → BreaksOf n m d
  breaks-later n t keeps first = record {
    from = (let low = first.from in omega (arith, low));
    to = first.to;
    before = (t, with-later (n - 1) t keeps first.before);
    broken = λ u all. first.broken (subst (λ (v : Standing). AreKeptTo n m v) (one m d u t (all-told n (let low = first.from in omega (arith, low)) u all) (all-told 6 (lit≤ tt) t keeps)) all.later);
  }
