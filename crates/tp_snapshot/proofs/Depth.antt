-- What is written nests four deep, so that it is read back.
use Rattle.std.proofs.Common.{◌≡◌, ap, ◌∙◌, ℕ, ◌≤◌, List, [], ◌∷◌, map, Option, Some, None, arith}
use Rattle.serde_json.specs.Data.{Data, string, depth, items_depth}
use Rattle.std.specs.Prelude.{IsUtf8}
use Rattle.serde_json.specs.Read.{read}
use Rattle.serde_json.specs.View.{items_of}
use Rattle.tp_machine.specs.declared.machine.Machine.{Machine}
use Rattle.tp_schedule.specs.declared.parts.Goal.{Goal}
use Rattle.tp_schedule.specs.declared.parts.Goal.TheVariants.{Tray, Purge}
use Rattle.tp_schedule.specs.declared.parts.Plan.{Plan}
use Rattle.tp_jobs.specs.declared.parts.Job.{Job}
use Rattle.tp_jobs.specs.declared.parts.WaitingCopy.{WaitingCopy}
use Rattle.tp_jobs.specs.declared.standing.Standing.{Standing}
use Rattle.tp_machine_text.specs.Texts.{IsMachineText}
use Rattle.tp_snapshot.specs.Texts.{IsWritten}
use Rattle.tp_snapshot.specs.Written.{act_data, goal_data, job_data, out_names, plan_data, snapshot_data, stock_data, wait_data, whole_data}

items-shallow : {X : Type 0} (f : X → Data) (k : ℕ) → ((x : X) → depth (f x) ≤ k) → (xs : List X) → items_depth (items_of (map f xs)) ≤ k
items-shallow f k h [] = omega arith
items-shallow f k h (x ∷ xs) = omega (arith, h x, items-shallow f k h xs)

job-shallow : (m : Machine) (j : Job) → depth (job_data m j) ≤ 1
job-shallow m j = omega arith

wait-shallow : (jobs : List Job) (w : WaitingCopy) → depth (wait_data jobs w) ≤ 1
wait-shallow jobs w = omega arith

goal-shallow : (m : Machine) (g : Goal) → depth (goal_data m g) ≤ 0
goal-shallow m (Tray t) = omega arith
goal-shallow m Purge = omega arith

stock-shallow : (o : Option ℕ) → depth (stock_data o) ≤ 0
stock-shallow None = omega arith
stock-shallow (Some n) = omega arith

plan-shallow : (m : Machine) (p : Plan) → depth (plan_data m p) ≤ 2
unfolding plan_data
plan-shallow m p =
    let acts = items-shallow (act_data m) 0 (λ a. omega arith) p.acts in
    let points = items-shallow whole_data 0 (λ n. omega arith) p.points in
    let goal = goal-shallow m p.goal in
    omega (arith, acts, points, goal)

pub snapshot-shallow : (text : List ℕ) (m : Machine) (t : Standing) → depth (snapshot_data text m t) ≤ 127
unfolding snapshot_data
snapshot-shallow text m t =
    let jobs = items-shallow (job_data m) 1 (job-shallow m) t.jobs in
    let plans = items-shallow (plan_data m) 2 (plan-shallow m) t.plans in
    let stock = items-shallow stock_data 0 stock-shallow t.stock in
    let waiting = items-shallow (wait_data t.jobs) 1 (wait-shallow t.jobs) t.waiting in
    let outs = items-shallow string 0 (λ s. omega arith) (out_names t.outs 0 m.modules) in
    omega (arith, jobs, plans, stock, waiting, outs)

pub written : (text bytes : List ℕ) (m : Machine) (t : Standing) (d : Data) → IsMachineText text m → d ≡ snapshot_data text m t → IsUtf8 bytes → (depth d ≤ 127 → read bytes ≡ Some d) → IsWritten bytes m t
written text bytes m t d of made utf8 back = record {
  text = text;
  of_machine = of;
  json = record { utf8 = utf8; reads = back (rw made (snapshot-shallow text m t)) ∙ ap (λ x. Some x) made };
}
