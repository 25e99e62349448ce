-- The plans of a standing, written and read back.
use Rattle.std.proofs.Common.{◌≡◌, ◌≢◌, ℕ, zero, suc, ◌+◌, ◌<◌, ◌≤◌, ◌-◌, ◌&&◌, ◌⊎◌, Bool, true, false, not, List, [], ◌∷◌, length, get_or, map, take, All, Contains, Option, Some, inl, inr, refl, sym, ap, subst, ◌∙◌, arith, codes}
use Rattle.std.specs.Prelude.{position, slice_get, nat_le, IsTrue}
use Rattle.std.specs.List.{position_or_len, prefix_len}
use Rattle.std.specs.Str.{bytes_eq}
use Rattle.std.proofs.lemmas.Bool.{and_parts, cases_Bool, cases_lt, eq-eqb, eqb-true, le-leb, leb-true, lt-ltb}
use Rattle.std.proofs.lemmas.List.{get_or-map, get_or-take, length-map, length-take}
use Rattle.std.proofs.lemmas.List.Sums.{position_or_len_is}
use Rattle.std.proofs.lemmas.Option.{slice_get_cases}
use Rattle.std.proofs.lemmas.Slice.Eq.{bytes_eq-Decides}
use Rattle.serde_json.specs.Data.{Data, array, string}
use Rattle.serde_json.specs.Find.{get}
use Rattle.serde_json.specs.View.{items_of}
use Rattle.tp_machine.proofs.MachineFacts.{is_machine}
use Rattle.tp_machine.specs.declared.machine.Machine.{Machine}
use Rattle.tp_machine.specs.declared.parts.ActId.{ActId}
use Rattle.tp_machine.specs.declared.parts.Action.{Action}
use Rattle.tp_machine.specs.declared.parts.LocId.{LocId}
use Rattle.tp_schedule.specs.Plans.{IsTimedPlan, is_front, point}
use Rattle.tp_schedule.specs.declared.parts.Goal.{Goal}
use Rattle.tp_schedule.specs.declared.parts.Goal.TheVariants.{Tray, Purge}
use Rattle.tp_schedule.specs.declared.parts.Kind.{Kind}
use Rattle.tp_schedule.specs.declared.parts.Kind.TheVariants.{Whole, Front}
use Rattle.tp_schedule.specs.declared.parts.Plan.{Plan}
use Rattle.tp_words.proofs.SpelledWords.{name_spells}
use Rattle.tp_words.specs.Fields.{IsName}
use Rattle.tp_jobs.specs.Backlogs.{names_of, tray_in}
use Rattle.tp_jobs.specs.declared.parts.Job.{Job}
use Rattle.tp_event_records.proofs.NameFacts.{acts-known}
use Rattle.tp_event_rules.specs.StateInvariants.{is_known, is_of_its_job, is_own_goal}
use Rattle.tp_event_rules.specs.Labels.{action_name, job_name, job_name_in}
use Rattle.tp_session_standing.specs.Sound.{IsReleasedBy}
use Rattle.tp_snapshot.proofs.Back.{copy-back, unequal, want-back}
use Rattle.tp_snapshot.proofs.ListsBack.{each-told, name-at, tray-back}
use Rattle.tp_snapshot.proofs.PlanFacts.{plan-made}
use Rattle.tp_snapshot.specs.declared.course.TimedActs.{TimedActs}
use Rattle.tp_snapshot.specs.declared.course.Owner.{Owner}
use Rattle.tp_snapshot.specs.Jobs.{DoNamesDiffer}
use Rattle.tp_snapshot.specs.Plans.{act_in, course_of, goal_in, kind_of, owner_of, plan_of, plan_with, released_of}
use Rattle.tp_snapshot.specs.Values.{field_of, has_members, whole_of}
use Rattle.tp_snapshot.specs.Written.{act_data, goal_data, plan_data, whole_data}

-- an action is read back
act-back : (machine : Machine) (a : ActId) → a.0 < length machine.actions → act_in machine (string (action_name machine a)) ≡ Some a
act-back machine a known =
    elim ((slice_get_cases machine.actions a.0).1) [
      | inl s ↦
          (let named : IsName s.0.name = subst (λ (b : Action). IsName b.name) s.3 ((is_machine machine).action_names.0 a.0 s.0 known) in
          let place : position_or_len (λ b. bytes_eq s.0.name b.name) machine.actions ≡ a.0 = placed s.0 s.3 in
          rw (s.2, name_spells.again s.0.name named, place, lt-ltb a.0 (length machine.actions) known) refl)
      | inr s ↦ absurd (omega (arith, s.0, known))
    ]
  where
    placed : (d : Action) → get_or machine.actions a.0 d ≡ d → position_or_len (λ b. bytes_eq d.name b.name) machine.actions ≡ a.0
    placed d at =
        position_or_len_is (λ b. bytes_eq d.name b.name) machine.actions a.0 d (omega (arith, known)) (λ k low. unequal d.name (get_or machine.actions k d).name (other k low)) (λ low. (bytes_eq-Decides d.name (get_or machine.actions a.0 d).name).1 (ap (λ (b : Action). b.name) (sym at)))
      where
        named : (k : ℕ) → k < length machine.actions → get_or (map (λ (b : Action). b.name) machine.actions) k d.name ≡ (get_or machine.actions k d).name
        named k low = get_or-map (λ (b : Action). b.name) machine.actions k d d.name low

        other : (k : ℕ) → k < a.0 → d.name ≢ (get_or machine.actions k d).name
        other k low same =
            (is_machine machine).action_names.1 k a.0 d.name low (omega (arith, known, length-map machine.actions (λ (b : Action). b.name)))
            (named k (omega (arith, low, known)) ∙ sym same ∙ ap (λ (b : Action). b.name) (sym at) ∙ sym (named a.0 known))

kind-back : (k : Kind) → kind_of (not (is_front k)) ≡ k
kind-back Whole = refl
kind-back Front = refl

-- how many of the first pass
prefix-is : (q : ℕ → Bool) (xs : List ℕ) (r : ℕ) → r ≤ length xs → ((i : ℕ) → i < r → q (get_or xs i 0) ≡ true) → (r < length xs → q (get_or xs r 0) ≡ false) → prefix_len q xs ≡ r
prefix-is q [] r few passes stops = omega arith
prefix-is q (x ∷ xs) zero few passes stops = rw (stops (omega arith)) refl
prefix-is q (x ∷ xs) (suc r) few passes stops =
    let rest = prefix-is q xs r (omega (arith, few)) (λ i low. passes (suc i) (omega (arith, low))) (λ low. stops (omega (arith, low))) in
    rw (passes 0 (omega arith), rest) (omega arith)

module _ (machine : Machine) (now : ℕ) (p : Plan) (one_more : length p.points ≡ length p.acts + 1) (few : p.released ≤ length p.acts) (by : IsReleasedBy machine now p) where
  abbrev starts : List ℕ
  starts = take (length p.acts) p.points

  size : length starts ≡ length p.acts
  size = omega (arith, length-take (length p.acts) p.points)

  last-started : is_front p.kind ≡ true → (0 < length p.acts) ⊎ (length p.acts ≤ 0) → length starts ≡ p.released
  last-started front (inl some) = let all = (by (length p.acts - 1) (omega arith)).1 (inl front) in omega (arith, all, few, size)
  last-started front (inr none) = omega (arith, none, few, size)

  read : (i : ℕ) → i < length p.acts → get_or starts i 0 ≡ point p i
  read i low = get_or-take (length p.acts) p.points i 0 low

  early : (i : ℕ) → is_front p.kind ≡ false → (IsTrue (is_front p.kind) ⊎ (point p i ≤ now + machine.lead)) → point p i ≤ now + machine.lead
  early i whole (inl front) = absurd cc
  early i whole (inr at) = at

  passes : is_front p.kind ≡ false → (i : ℕ) → i < p.released → nat_le (get_or starts i 0) (now + machine.lead) ≡ true
  passes whole i low =
      let within : i < length p.acts = omega (arith, low, few) in
      let at = early i whole ((by i within).0 low) in
      le-leb (get_or starts i 0) (now + machine.lead) (omega (arith, at, read i within))

  stops : p.released < length starts → nat_le (get_or starts p.released 0) (now + machine.lead) ≡ false
  stops low =
      let within : p.released < length p.acts = omega (arith, low, size) in
      elim (cases_Bool (nat_le (get_or starts p.released 0) (now + machine.lead))) [
        | inl soon ↦
            (let at = leb-true (get_or starts p.released 0) (now + machine.lead) soon in
            let again = (by p.released within).1 (inr (omega (arith, at, read p.released within))) in
            absurd (omega (arith, again)))
        | inr late ↦ late
      ]

  released-by : (k : Kind) → p.kind ≡ k → released_of (now + machine.lead) k starts ≡ p.released
  released-by Front is = last-started (ap is_front is) (cases_lt 0 (length p.acts))
  released-by Whole is = prefix-is (λ start. nat_le start (now + machine.lead)) starts p.released (omega (arith, few, size)) (passes (ap is_front is)) stops

  released-back : released_of (now + machine.lead) p.kind (take (length p.acts) p.points) ≡ p.released
  released-back = released-by p.kind refl

goal-back : (machine : Machine) (tray : LocId) (g : Goal) → Contains machine.trays tray → is_own_goal g tray.0 ≡ true → goal_in machine tray (goal_data machine g) ≡ Some g
goal-back machine tray (Tray t) in' own =
    let same : t ≡ tray = (λ i. record { 0 = eqb-true t.0 tray.0 own i }) in
    rw (tray-back machine t (subst (λ (l : LocId). Contains machine.trays l) (sym same) in'), own) refl
goal-back machine tray Purge in' own = refl

module _ (machine : Machine) (now : ℕ) (jobs : List Job) (p : Plan) where
  abbrev d : Data
  d = plan_data machine p

  abbrev owner : Owner
  owner = record { sheet = p.sheet; want = p.want; whole = not (is_front p.kind) }

  abbrev course : TimedActs
  course = record { acts = p.acts; points = p.points }

  six : has_members 6 d ≡ true
  unfolding plan_data
  six = refl

  owner-back : IsName p.name → IsName p.want.media → position (bytes_eq p.name) (names_of jobs) ≡ Some p.sheet.job → (1 ≤ p.sheet.number) × (p.sheet.number ≤ 4096) → (1 ≤ p.sheet.copy) × (p.sheet.copy ≤ 4000000000) → owner_of (names_of jobs) d ≡ Some owner
  unfolding owner_of plan_data
  owner-back named media at sheets copies = rw (copy-back (names_of jobs) p.name p.sheet named at sheets copies, want-back p.want media) refl

  acts-at : get (codes "acts") d ≡ Some (array (items_of (map (act_data machine) p.acts)))
  unfolding plan_data
  acts-at = refl

  points-at : get (codes "points") d ≡ Some (array (items_of (map whole_data p.points)))
  unfolding plan_data
  points-at = refl

  goal-at : field_of (codes "goal") (goal_in machine (tray_in (slice_get jobs p.sheet.job))) d ≡ goal_in machine (tray_in (slice_get jobs p.sheet.job)) (goal_data machine p.goal)
  unfolding plan_data
  goal-at = refl

  course-back : IsTimedPlan machine p → All (λ x. x ≤ 2000000000) p.points → course_of machine d ≡ Some course
  unfolding course_of
  course-back timed few =
      let acts = each-told 64 (codes "acts") (act_data machine) (act_in machine) p.acts d acts-at timed.at_most (λ k a low. act-back machine (get_or p.acts k a) (acts-known machine p timed k a low)) in
      let points = each-told 65 (codes "points") whole_data (whole_of 2000000000) p.points d points-at (omega (arith, timed.one_more, timed.at_most)) (λ k a low. (rw (le-leb (get_or p.points k a) 2000000000 (few k a low)) refl)) in
      rw (acts, points, le-leb 1 (length p.acts) timed.some, eq-eqb (length p.points) (length p.acts + 1) timed.one_more) refl

  pub plan-back : p.sheet.job < length jobs → DoNamesDiffer jobs → All (λ j. IsName j.name) jobs → All (λ j. Contains machine.trays j.tray) jobs → IsTrue (is_of_its_job jobs p) → IsName p.want.media
      → (1 ≤ p.sheet.number) × (p.sheet.number ≤ 4096) → (1 ≤ p.sheet.copy) × (p.sheet.copy ≤ 4000000000) → All (λ x. x ≤ 2000000000) p.points → IsTimedPlan machine p → IsReleasedBy machine now p → plan_of machine now jobs d ≡ Some p
  plan-back low apart named trays own media sheets copies few timed by =
      elim ((slice_get_cases jobs p.sheet.job).1) [ inl s ↦ of s.0 s.2 s.3 | inr s ↦ absurd (omega (arith, s.0, low)) ]
    where
      of : (j : Job) → slice_get jobs p.sheet.job ≡ Some j → get_or jobs p.sheet.job j ≡ j → plan_of machine now jobs d ≡ Some p
      of j at is =
          let (two, goes) = and_parts (is_known jobs p.sheet && bytes_eq p.name (job_name jobs p.sheet.job)) (is_own_goal p.goal (tray_in (slice_get jobs p.sheet.job)).0) own in
          let (known, called) = and_parts (is_known jobs p.sheet) (bytes_eq p.name (job_name jobs p.sheet.job)) two in
          let name : p.name ≡ j.name = (bytes_eq-Decides p.name (job_name jobs p.sheet.job)).0 called ∙ ap job_name_in at in
          let spelled : IsName j.name = subst (λ (k : Job). IsName k.name) is (named p.sheet.job j low) in
          let place : position (bytes_eq j.name) (names_of jobs) ≡ Some p.sheet.job = subst (λ (k : Job). position (bytes_eq k.name) (names_of jobs) ≡ Some p.sheet.job) is (name-at jobs p.sheet.job j low apart) in
          let tray : Contains machine.trays j.tray = subst (λ (k : Job). Contains machine.trays k.tray) is (trays p.sheet.job j low) in
          let o = owner-back (subst IsName (sym name) spelled) media (subst (λ (n : List ℕ). position (bytes_eq n) (names_of jobs) ≡ Some p.sheet.job) (sym name) place) sheets copies in
          let own-tray : is_own_goal p.goal j.tray.0 ≡ true = subst (λ (k : Option Job). is_own_goal p.goal (tray_in k).0 ≡ true) at goes in
          let g : field_of (codes "goal") (goal_in machine j.tray) d ≡ Some p.goal = subst (λ (k : Option Job). field_of (codes "goal") (goal_in machine (tray_in k)) d ≡ goal_in machine (tray_in k) (goal_data machine p.goal)) at goal-at ∙ goal-back machine j.tray p.goal tray own-tray in
          let released : released_of (now + machine.lead) (kind_of (not (is_front p.kind))) (take (length p.acts) p.points) ≡ p.released = ap (λ (k : Kind). released_of (now + machine.lead) k (take (length p.acts) p.points)) (kind-back p.kind) ∙ released-back machine now p timed.one_more timed.released by in
          let same : plan_with (now + machine.lead) j owner course p.goal ≡ p =
          (λ i. record { sheet = p.sheet; name = sym name i; want = p.want; goal = p.goal; kind = kind-back p.kind i; acts = p.acts; points = p.points; released = released i }) in
          plan-made machine now jobs d owner j course p.goal six o at (course-back timed few) g ∙ ap (λ (q : Plan). Some q) same
