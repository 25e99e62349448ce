-- Plans as they were read.
use Rattle.std.proofs.Common.{◌≡◌, ◌∙◌, ◌⊎◌, ◌↔◌, ℕ, zero, suc, ◌+◌, ◌-◌, ◌<◌, ◌≤◌, ◌&&◌, Bool, true, false, List, length, get_or, take, All, Option, Some, inl, inr, refl, ap, sym, subst, arith, codes, IsTrue, nat_le, length-take}
use Rattle.std.specs.Prelude.{slice_get}
use Rattle.std.specs.List.{prefix_len}
use Rattle.std.specs.Str.{bytes_eq}
use Rattle.std.proofs.lemmas.Bool.{and_from, cases_lt, leb-true, lt-ltb}
use Rattle.std.proofs.lemmas.Bool.Decides.{nat_tests}
use Rattle.std.proofs.lemmas.List.{get_or-take, length-map}
use Rattle.std.proofs.lemmas.List.Sums.{prefix_len_passes, prefix_len_stops}
use Rattle.std.proofs.lemmas.Option.{same_Some, slice_get_within}
use Rattle.std.proofs.lemmas.Slice.Eq.{bytes_eq-Decides}
use Rattle.serde_json.specs.Data.{Data}
use Rattle.serde_json.specs.Find.{as_bool}
use Rattle.tp_machine.specs.declared.machine.Machine.{Machine}
use Rattle.tp_schedule.specs.Plans.{IsTimedPlan, is_front, point}
use Rattle.tp_schedule.specs.declared.parts.Goal.{Goal}
use Rattle.tp_schedule.specs.declared.parts.Kind.{Kind}
use Rattle.tp_schedule.specs.declared.parts.Kind.TheVariants.{Whole, Front}
use Rattle.tp_schedule.specs.declared.parts.Plan.{Plan}
use Rattle.tp_words.proofs.Steps.{and_then_some}
use Rattle.tp_jobs.specs.Backlogs.{names_of, tray_in as job_tray}
use Rattle.tp_jobs.specs.declared.parts.Job.{Job}
use Rattle.tp_event_rules.specs.StateInvariants.{is_known, is_of_its_job, is_own_goal}
use Rattle.tp_event_rules.specs.Labels.{job_name, job_name_in}
use Rattle.tp_session_standing.specs.Sound.{IsReleasedBy}
use Rattle.tp_snapshot.proofs.PartsRead.{IsCopy, copy-read, goal-read}
use Rattle.tp_snapshot.proofs.ReadFacts.{field-value, list-read, when_some, whole-most}
use Rattle.tp_snapshot.specs.Copies.{copy_in, want_in}
use Rattle.tp_snapshot.specs.Plans.{act_in, course_of, goal_in, is_course, owner_of, plan_from, plan_of, plan_with, released_of}
use Rattle.tp_snapshot.specs.Values.{each_of, field_of, has_members, whole_of}
use Rattle.tp_snapshot.specs.declared.course.TimedActs.{TimedActs}
use Rattle.tp_snapshot.specs.declared.course.Owner.{Owner}

-- what is known of a plan that was read, among these jobs and with the tick by which its actions are released
pub record IsPlanRead (jobs : List Job) (by : ℕ) (p : Plan) : Type 0 where
  pub copy : IsCopy (length jobs) p.sheet
  pub own : is_of_its_job jobs p ≡ true
  pub points : All (λ x. x ≤ 2000000000) p.points
  pub released : p.released ≡ released_of by p.kind (take (length p.acts) p.points)

points-few : (machine : Machine) (d : Data) (course : TimedActs) → course_of machine d ≡ Some course → All (λ x. x ≤ 2000000000) course.points
unfolding course_of
points-few machine d course e =
    let (acts, a, more) = and_then_some (each_of 64 (codes "acts") (act_in machine) d) _ course e in
    let (points, at, made) = and_then_some (each_of 65 (codes "points") (whole_of 2000000000) d) _ course more in
    let both : TimedActs = record { acts = acts; points = points } in
    let (size, is) = when_some (is_course acts points) (Some both) course made in
    let all = (list-read 65 (codes "points") (whole_of 2000000000) d points at).1 in
    subst (λ (c : TimedActs). All (λ x. x ≤ 2000000000) c.points) (same_Some both course is)
    (λ k x low. (let (v, read) = all k x low in whole-most 2000000000 (get_or points k x) v read))

owner-copy : (names : List (List ℕ)) (d : Data) (owner : Owner) → owner_of names d ≡ Some owner → IsCopy (length names) owner.sheet
unfolding owner_of
owner-copy names d owner e =
    let (sheet, at, more) = and_then_some (field_of (codes "sheet") (copy_in names) d) _ owner e in
    let (want, b, rest) = and_then_some (field_of (codes "want") want_in d) _ owner more in
    let (whole, c, made) = and_then_some (field_of (codes "whole") as_bool d) _ owner rest in
    let (v, is) = field-value (codes "sheet") (copy_in names) d sheet at in
    let all : Owner = record { sheet = sheet; want = want; whole = whole } in
    subst (λ (o : Owner). IsCopy (length names) o.sheet) (same_Some all owner made) (copy-read names v sheet is)

own-job : (jobs : List Job) (n : ℕ) (job : Job) (g : Goal) (p : Plan) → slice_get jobs n ≡ Some job → p.sheet.job ≡ n → p.name ≡ job.name → p.goal ≡ g → is_own_goal g job.tray.0 ≡ true → is_of_its_job jobs p ≡ true
own-job jobs n job g p at is name goal own =
    let found : slice_get jobs p.sheet.job ≡ Some job = ap (slice_get jobs) is ∙ at in
    let known : is_known jobs p.sheet ≡ true = lt-ltb p.sheet.job (length jobs) (slice_get_within jobs p.sheet.job job found) in
    let called : bytes_eq p.name (job_name jobs p.sheet.job) ≡ true = (bytes_eq-Decides p.name (job_name jobs p.sheet.job)).1 (name ∙ sym (ap job_name_in found)) in
    let goes : is_own_goal p.goal (job_tray (slice_get jobs p.sheet.job)).0 ≡ true = ap (λ (o : Option Job). is_own_goal p.goal (job_tray o).0) found ∙ ap (λ (x : Goal). is_own_goal x job.tray.0) goal ∙ own in
    and_from (is_known jobs p.sheet && bytes_eq p.name (job_name jobs p.sheet.job)) (is_own_goal p.goal (job_tray (slice_get jobs p.sheet.job)).0) (and_from (is_known jobs p.sheet) (bytes_eq p.name (job_name jobs p.sheet.job)) known called) goes

pub plan-read : (machine : Machine) (now : ℕ) (jobs : List Job) (d : Data) (p : Plan) → plan_of machine now jobs d ≡ Some p → IsPlanRead jobs (now + machine.lead) p
unfolding plan_of plan_from
plan-read machine now jobs d p e =
    let (six, from) = when_some (has_members 6 d) (plan_from machine now jobs d) p e in
    let (owner, o, more) = and_then_some (owner_of (names_of jobs) d) _ p from in
    let (job, at, rest) = and_then_some (slice_get jobs owner.sheet.job) _ p more in
    let (course, c, last) = and_then_some (course_of machine d) _ p rest in
    let (goal, g, made) = and_then_some (field_of (codes "goal") (goal_in machine job.tray) d) _ p last in
    let (v, is) = field-value (codes "goal") (goal_in machine job.tray) d goal g in
    let copy : IsCopy (length jobs) owner.sheet = subst (λ n. IsCopy n owner.sheet) (length-map jobs (λ (j : Job). j.name)) (owner-copy (names_of jobs) d owner o) in
    let q : Plan = plan_with (now + machine.lead) job owner course goal in
    subst (IsPlanRead jobs (now + machine.lead)) (same_Some q p made) (record {
      copy = copy;
      own = own-job jobs owner.sheet.job job goal q at refl refl refl (goal-read machine job.tray v goal is);
      points = points-few machine d course c;
      released = refl;
    })

-- ---- which actions count as released

module _ (machine : Machine) (now : ℕ) (p : Plan) (timed : IsTimedPlan machine p) where
  abbrev by : ℕ
  by = now + machine.lead

  abbrev starts : List ℕ
  starts = take (length p.acts) p.points

  abbrev is_soon : ℕ → Bool
  is_soon start = nat_le start by

  size : length starts ≡ length p.acts
  size = let most = length-take (length p.acts) p.points in let more = timed.one_more in omega (arith, most, more)

  read : (i : ℕ) → i < length p.acts → get_or starts i 0 ≡ point p i
  read i low = get_or-take (length p.acts) p.points i 0 low

  rise : (i n : ℕ) → i + n ≤ length p.acts → point p i ≤ point p (i + n)
  rise i zero within = let e : i + 0 ≡ i = omega arith in subst (λ k. point p i ≤ point p k) (sym e) (omega arith)
  rise i (suc n) within =
      let before = rise i n (omega (arith, within)) in
      let next = timed.rise (i + n) (omega (arith, within)) in
      let e : i + suc n ≡ i + n + 1 = omega arith in
      subst (λ k. point p i ≤ point p k) (sym e) (omega (arith, before, next))

  -- the first that is not soon, and all behind it
  late : (i : ℕ) → prefix_len is_soon starts ≤ i → i < length p.acts → by < point p i
  late i from within =
      let k : ℕ = prefix_len is_soon starts in
      let stops = prefix_len_stops is_soon starts 0 (omega (arith, size, from, within)) in
      let here = read k (omega (arith, from, within)) in
      let after : by < get_or starts k 0 = grind (arith, nat_tests) in
      let n : ℕ = i - k in
      let e : k + n ≡ i = omega arith in
      let up : point p k ≤ point p i = subst (λ j. point p k ≤ point p j) e (rise k n (omega (arith, e, within))) in
      omega (arith, after, here, up)

  released-by : (kind : Kind) → p.kind ≡ kind → (count : ℕ) → count ≡ released_of by kind starts → (i : ℕ) → i < length p.acts → (i < count) ↔ (IsTrue (is_front p.kind) ⊎ (point p i ≤ by))
  released-by Front is count e i within = (λ low. inl (ap is_front is), λ some. omega (arith, e, size, within))
  released-by Whole is count e i within = (before, after) where
    before : i < count → IsTrue (is_front p.kind) ⊎ (point p i ≤ by)
    before low =
        let soon = prefix_len_passes is_soon starts i 0 (omega (arith, e, low)) in
        let at = leb-true (get_or starts i 0) by soon in
        let here = read i within in
        inr (omega (arith, at, here))

    after : IsTrue (is_front p.kind) ⊎ (point p i ≤ by) → i < count
    after (inl front) = let whole : is_front p.kind ≡ false = ap is_front is in absurd cc
    after (inr at) = go (cases_lt i count) where
      go : (i < count) ⊎ (count ≤ i) → i < count
      go (inl low) = low
      go (inr from) = let far = late i (omega (arith, e, from)) within in absurd (omega (arith, far, at))

  pub released-read : p.released ≡ released_of by p.kind starts → IsReleasedBy machine now p
  released-read e = released-by p.kind refl p.released e
