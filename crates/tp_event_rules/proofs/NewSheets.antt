-- A new job has one open copy of each of its sheets, and no more copies wait than may.
use Rattle.std.proofs.Common.{◌≡◌, ℕ, ◌+◌, ◌-◌, ◌<◌, ◌≤◌, ◌⊎◌, inl, inr, Bool, true, false, cond, ◌&&◌, List, [], ◌∷◌, ◌++◌, map, filter, length, refl, sym, ap, ◌∙◌, arith, All, Any, Contains, IsTrue, subst, nat_lt, nat_le}
use Rattle.std.specs.Prelude.{◌==◌, IsFalse}
use Rattle.std.proofs.lemmas.Bool.Decides.{nat_tests}
use Rattle.std.proofs.lemmas.List.{length-append, map-append, get_or_append_left}
use Rattle.std.proofs.lemmas.List.Elements.{All-map, All-head, All-tail, All-append, All-weaker, All-contains, Contains-append_cases, Contains-append_left, Contains-append_right}
use Rattle.std.proofs.lemmas.List.Folds.{list_any_at}
use Rattle.std.proofs.lemmas.List.Sums.{length-filter}
use Rattle.std.proofs.Math.Seq.{get_or-append_seam}
use Rattle.tp_machine.specs.declared.parts.Sheet.{Sheet}
use Rattle.tp_machine.specs.declared.machine.Machine.{Machine}
use Rattle.tp_script.specs.Form.{GroupForm}
use Rattle.tp_jobs.specs.declared.parts.Job.{Job}
use Rattle.tp_jobs.specs.declared.parts.WaitingCopy.{WaitingCopy}
use Rattle.tp_jobs.specs.JobRefusals.{sheet_count}
use Rattle.tp_jobs.specs.WaitingCopies.{first_copies, sheets_of, new_job}
use Rattle.tp_jobs.proofs.FirstCopies.{length-first_copies, length-sheets_of}
use Rattle.tp_schedule.specs.LivePlans.{is_live, live_count}
use Rattle.tp_schedule.specs.Plans.{IsTimedPlan, end_of_plan}
use Rattle.tp_schedule.specs.declared.parts.Plan.{Plan}
use Rattle.tp_schedule.specs.declared.parts.SheetId.{SheetId}
use Rattle.tp_schedule.proofs.Membership.{Contains-map, Contains-here, Contains-later, All-from_contains}
use Rattle.tp_event_rules.specs.StateInvariants.{KeepsPlans, KeepsLines, KeepsSheets, IsOlder, is_known, is_sheet_of, is_to_arrive, tray_plans, open_copies, is_copy_of, total_of}
use Rattle.tp_event_rules.specs.Lines.{is_job_broken, broken_in}
use Rattle.tp_event_rules.specs.Moments.{is_tray_plan}
use Rattle.tp_event_rules.specs.States.{SessionState}
use Rattle.tp_event_rules.specs.Turns.{with_job}
use Rattle.tp_event_rules.proofs.FirstCopies.{IsFirstCopy, IsAccepted}
use Rattle.tp_event_rules.proofs.NewJob.{Known, before-same, earlier-other, firsts, firsts-are, known-plans}
use Rattle.tp_event_rules.proofs.ListFacts.{All-both, Any-contains, contains-Any}

-- the open copies stay open
still-open : (old news : List WaitingCopy) (sheets : List SheetId) (copy : SheetId) → Contains (map (λ w. w.sheet) old ++ sheets) copy → Contains (map (λ w. w.sheet) (old ++ news) ++ sheets) copy
still-open old news sheets copy in' =
    rw (map-append (λ (w : WaitingCopy). w.sheet) old news)
    (elim (Contains-append_cases (map (λ w. w.sheet) old) sheets copy in') [
      | inl waits ↦ Contains-append_left (map (λ w. w.sheet) old ++ map (λ w. w.sheet) news) sheets copy (Contains-append_left (map (λ w. w.sheet) old) (map (λ w. w.sheet) news) copy waits)
      | inr planned ↦ Contains-append_right (map (λ w. w.sheet) old ++ map (λ w. w.sheet) news) sheets copy planned
    ])

now-open : (old news : List WaitingCopy) (sheets : List SheetId) (w : WaitingCopy) → Contains news w → Contains (map (λ w. w.sheet) (old ++ news) ++ sheets) w.sheet
now-open old news sheets w in' =
    Contains-append_left (map (λ w. w.sheet) (old ++ news)) sheets w.sheet (Contains-map (λ w. w.sheet) (old ++ news) w (Contains-append_right old news w in'))

-- the first copy of a number is there
record IsNumbered (job number : ℕ) (w : WaitingCopy) : Type 0 where
  of_job : w.sheet.job ≡ job
  numbered : w.sheet.number ≡ number

first-there : (job n k : ℕ) (wants : List Sheet) → n ≤ k → k < n + length wants → (w : WaitingCopy) × Contains (first_copies job n wants) w × IsNumbered job k w
first-there job n k [] from to = absurd (omega arith)
first-there job n k (want ∷ wants) from to = go (n == k) refl (λ low. first-there job (n + 1) k wants low (omega arith)) where
  go : (b : Bool) → (n == k) ≡ b → (n + 1 ≤ k → (w : WaitingCopy) × Contains (first_copies job (n + 1) wants) w × IsNumbered job k w)
      → (w : WaitingCopy) × Contains (first_copies job n (want ∷ wants)) w × IsNumbered job k w
  go true e later = (record { sheet = record { job = job; number = n; copy = 1 }; want = want }, Contains-here _ (first_copies job (n + 1) wants), record { of_job = refl; numbered = grind (arith, nat_tests) })
  go false e later =
      let differ : n + 1 ≤ k = grind (arith, nat_tests) in
      let there = later differ in (there.0, Contains-later _ (first_copies job (n + 1) wants) there.0 there.1, there.2)

copy-of : (job number : ℕ) (w : WaitingCopy) → IsNumbered job number w → is_copy_of job number w.sheet ≡ true
copy-of job number w is = let e = is.of_job in let f = is.numbered in grind (arith, nat_tests)

-- the totals of before, and that of the new job
old-total : (totals : List ℕ) (n job : ℕ) → job < length totals → total_of (totals ++ n ∷ []) job ≡ total_of totals job
old-total totals n job within = get_or_append_left totals (n ∷ []) 0 job within

new-total : (totals : List ℕ) (n job : ℕ) → job ≡ length totals → total_of (totals ++ n ∷ []) job ≡ n
new-total totals n job e = ap (total_of (totals ++ n ∷ [])) e ∙ get_or-append_seam totals n [] 0

sheet-same : (totals : List ℕ) (n : ℕ) (jobs : List Job) → length totals ≡ length jobs → (copy : SheetId) → is_known jobs copy ≡ true → is_sheet_of totals copy ≡ true → is_sheet_of (totals ++ n ∷ []) copy ≡ true
sheet-same totals n jobs long copy known e = subst (λ m. (nat_le 1 copy.number && nat_le copy.number m) ≡ true) (sym (old-total totals n copy.job within)) e where
  within : copy.job < length totals
  within = let low : copy.job < length jobs = grind (arith, nat_tests) in omega arith

new-sheet : (totals : List ℕ) (n : ℕ) (copy : SheetId) → copy.job ≡ length totals → 1 ≤ copy.number → copy.number ≤ n → is_sheet_of (totals ++ n ∷ []) copy ≡ true
new-sheet totals n copy e first last = subst (λ m. (nat_le 1 copy.number && nat_le copy.number m) ≡ true) (sym (new-total totals n copy.job e)) (both copy.number n first last) where
  both : (k n : ℕ) → 1 ≤ k → k ≤ n → (nat_le 1 k && nat_le k n) ≡ true
  both k n first last = grind (arith, nat_tests)

open-cases : (old news : List WaitingCopy) (sheets : List SheetId) (copy : SheetId) → Contains (map (λ w. w.sheet) (old ++ news) ++ sheets) copy
    → Contains (map (λ w. w.sheet) old ++ sheets) copy ⊎ Contains (map (λ w. w.sheet) news) copy
open-cases old news sheets copy in' = elim (Contains-append_cases (map (λ w. w.sheet) (old ++ news)) sheets copy in') [
  | inl waits ↦ elim (Contains-append_cases (map (λ w. w.sheet) old) (map (λ w. w.sheet) news) copy (subst (λ l. Contains l copy) (map-append (λ (w : WaitingCopy). w.sheet) old news) waits)) [
    | inl before ↦ inl (Contains-append_left (map (λ w. w.sheet) old) sheets copy before)
    | inr new ↦ inr new
  ]
  | inr planned ↦ inl (Contains-append_right (map (λ w. w.sheet) old) sheets copy planned)
]

-- each sheet has an open copy
each-job : (totals : List ℕ) (n : ℕ) (jobs : List Job) (j : Job) (old news : List WaitingCopy) (sheets : List SheetId) → length totals ≡ length jobs
    → ((job number : ℕ) → job < length jobs → IsFalse (is_job_broken jobs job) → 1 ≤ number → number ≤ total_of totals job → Any (λ copy. IsTrue (is_copy_of job number copy)) (map (λ w. w.sheet) old ++ sheets))
    → ((number : ℕ) → 1 ≤ number → number ≤ n → (w : WaitingCopy) × Contains news w × IsNumbered (length jobs) number w)
    → (job number : ℕ) → job < length (jobs ++ j ∷ []) → IsFalse (is_job_broken (jobs ++ j ∷ []) job) → 1 ≤ number → number ≤ total_of (totals ++ n ∷ []) job
    → Any (λ copy. IsTrue (is_copy_of job number copy)) (map (λ w. w.sheet) (old ++ news) ++ sheets)
each-job totals n jobs j old news sheets long each new job number within whole first last = go (nat_lt job (length jobs)) refl where
  go : (b : Bool) → nat_lt job (length jobs) ≡ b → Any (λ copy. IsTrue (is_copy_of job number copy)) (map (λ w. w.sheet) (old ++ news) ++ sheets)
  go true e =
      let same = before-same jobs j (record { job = job; number = number; copy = 0 }) e in
      let low : job < length jobs = grind (arith, nat_tests) in
      let there = Any-contains (λ copy. IsTrue (is_copy_of job number copy)) (map (λ w. w.sheet) old ++ sheets)
      (each job number low (sym (ap broken_in same) ∙ whole) first (subst (λ m. number ≤ m) (old-total totals n job (omega arith)) last)) in
      contains-Any (λ copy. IsTrue (is_copy_of job number copy)) (map (λ w. w.sheet) (old ++ news) ++ sheets) there.0 (still-open old news sheets there.0 there.1) there.2
  go false e =
      let longer = length-append jobs (j ∷ []) in
      let high : length jobs ≤ job = grind (arith, nat_tests) in
      let is : job ≡ length jobs = omega arith in
      let there = new number first (subst (λ m. number ≤ m) (new-total totals n job (omega arith)) last) in
      let numbered : IsNumbered job number there.0 = record { of_job = there.2.of_job ∙ sym is; numbered = there.2.numbered } in
      contains-Any (λ copy. IsTrue (is_copy_of job number copy)) (map (λ w. w.sheet) (old ++ news) ++ sheets) there.0.sheet (now-open old news sheets there.0 there.1) (copy-of job number there.0 numbered)

-- no planned copy is older than an open one of its sheet: the new copies are of no sheet of before
pub older-job : (machine : Machine) (name tray media : List ℕ) (groups : List GroupForm) (s : SessionState) → KeepsLines s → All (λ p. All (IsOlder p) (open_copies s)) s.plans
    → All (λ p. All (IsOlder p) (open_copies (with_job machine name tray media groups s))) s.plans
older-job machine name tray media groups s lines older =
    let firsts-of = firsts-are (length s.jobs) media groups in
    let plans : All (λ p. is_known s.jobs p.sheet ≡ true) s.plans = known-plans s.jobs s.plans lines.plans_known in
    All-both (λ p. is_known s.jobs p.sheet ≡ true) (λ p. All (IsOlder p) (open_copies s)) (λ p. All (IsOlder p) (open_copies (with_job machine name tray media groups s)))
    (λ p known old. All-from_contains (IsOlder p) (open_copies (with_job machine name tray media groups s))
    (λ copy in'. elim (open-cases s.waiting (firsts (length s.jobs) media groups) (map (λ p. p.sheet) (tray_plans s.plans)) copy in') [
      | inl before ↦ All-contains (IsOlder p) (open_copies s) copy old before
      | inr new ↦
          let of : copy.job ≡ length s.jobs = All-contains (λ c. c.job ≡ length s.jobs) (map (λ w. w.sheet) (firsts (length s.jobs) media groups)) copy
          (All-map (λ c. c.job ≡ length s.jobs) (λ w. w.sheet) (firsts (length s.jobs) media groups)
          (All-weaker (IsFirstCopy (length s.jobs) 1 (1 + sheet_count groups)) (λ w. w.sheet.job ≡ length s.jobs) (λ w is. is.of_job) (firsts (length s.jobs) media groups) firsts-of)) new in
          λ not_tray same. absurd (let other = earlier-other s.jobs p.sheet copy known of in cc)
    ])) s.plans plans older

pub sheets-job : (machine : Machine) (name tray media : List ℕ) (groups : List GroupForm) (totals : List ℕ) (s : SessionState) → KeepsLines s → KeepsSheets totals s
    → KeepsSheets (totals ++ sheet_count groups ∷ []) (with_job machine name tray media groups s)
sheets-job machine name tray media groups totals s lines keeps =
    let firsts-of = firsts-are (length s.jobs) media groups in
    let plans : All (λ p. is_known s.jobs p.sheet ≡ true) s.plans = known-plans s.jobs s.plans lines.plans_known in
    let many = length-sheets_of media groups in
    record {
      known = length-append totals (sheet_count groups ∷ []) ∙ ap (λ n. n + 1) keeps.known ∙ sym (length-append s.jobs (new_job machine name tray groups ∷ []));
      each = each-job totals (sheet_count groups) s.jobs (new_job machine name tray groups) s.waiting (firsts (length s.jobs) media groups) (map (λ p. p.sheet) (tray_plans s.plans)) keeps.known keeps.each
          (λ number first last. first-there (length s.jobs) 1 number (sheets_of media groups) first (omega arith));
      waiting_sheets = All-append (λ w. IsTrue (is_sheet_of (totals ++ sheet_count groups ∷ []) w.sheet)) s.waiting (firsts (length s.jobs) media groups)
          (All-both (Known s.jobs) (λ w. IsTrue (is_sheet_of totals w.sheet)) (λ w. IsTrue (is_sheet_of (totals ++ sheet_count groups ∷ []) w.sheet))
          (λ w known e. sheet-same totals (sheet_count groups) s.jobs keeps.known w.sheet known e) s.waiting lines.waiting_known keeps.waiting_sheets)
          (All-weaker (IsFirstCopy (length s.jobs) 1 (1 + sheet_count groups)) (λ w. IsTrue (is_sheet_of (totals ++ sheet_count groups ∷ []) w.sheet))
          (λ w is. new-sheet totals (sheet_count groups) w.sheet (is.of_job ∙ sym keeps.known) is.at_least (omega (arith, is.below))) (firsts (length s.jobs) media groups) firsts-of);
      planned_sheets = All-both (λ p. is_known s.jobs p.sheet ≡ true) (λ p. IsTrue (is_sheet_of totals p.sheet)) (λ p. IsTrue (is_sheet_of (totals ++ sheet_count groups ∷ []) p.sheet))
          (λ p known e. sheet-same totals (sheet_count groups) s.jobs keeps.known p.sheet known e) s.plans plans keeps.planned_sheets;
      older = older-job machine name tray media groups s lines keeps.older;
    }

-- a copy on its way to a tray is live
arrives-live : (machine : Machine) (now : ℕ) (p : Plan) → IsTimedPlan machine p → is_to_arrive now p ≡ true → is_live machine now p ≡ true
arrives-live machine now p timed e =
    let one_more : length p.points ≡ length p.acts + 1 = timed.one_more in
    let above : nat_lt now (end_of_plan p) ≡ true = second (is_tray_plan p) (nat_lt now (end_of_plan p)) e in
    rw (list_any_at (nat_lt now) p.points (length p.acts) 0 (omega arith) above) refl where
      second : (a b : Bool) → (a && b) ≡ true → b ≡ true
      second true b e = e
      second false b e = absurd (cc)

arriving-few : (machine : Machine) (now : ℕ) (plans : List Plan) → All (IsTimedPlan machine) plans → length (filter (is_to_arrive now) plans) ≤ length (filter (is_live machine now) plans)
arriving-few machine now [] timed = omega arith
arriving-few machine now (p ∷ plans) timed =
    go (is_to_arrive now p) refl (is_live machine now p) refl (arriving-few machine now plans (All-tail (IsTimedPlan machine) p plans timed)) where
      go : (b : Bool) → is_to_arrive now p ≡ b → (c : Bool) → is_live machine now p ≡ c → length (filter (is_to_arrive now) plans) ≤ length (filter (is_live machine now) plans)
          → length (cond b (p ∷ filter (is_to_arrive now) plans) (filter (is_to_arrive now) plans)) ≤ length (cond c (p ∷ filter (is_live machine now) plans) (filter (is_live machine now) plans))
      go true e true f rest = omega arith
      go true e false f rest = absurd (let live = arrives-live machine now p (All-head (IsTimedPlan machine) p plans timed) e in cc)
      go false e true f rest = omega arith
      go false e false f rest = rest

-- what is kept of the plans
pub plans-job : (machine : Machine) (name tray media : List ℕ) (groups : List GroupForm) (s : SessionState) → IsAccepted machine s.jobs (length s.waiting) name tray groups
    → KeepsPlans machine s → KeepsPlans machine (with_job machine name tray media groups s)
plans-job machine name tray media groups s ok keeps = record {
  legal = keeps.legal;
  floors = keeps.floors;
  horizon = keeps.horizon;
  few_live = keeps.few_live;
  few_open =
      let few : live_count machine s.now s.plans ≤ 256 = keeps.few_live in
      let room : length s.waiting + sheet_count groups ≤ 4096 = ok.fits in
      let arriving = arriving-few machine s.now s.plans keeps.legal.timed in
      let one = length-filter (is_to_arrive s.now) s.plans in
      let other = length-filter (is_live machine s.now) s.plans in
      let waiting = length-append s.waiting (firsts (length s.jobs) media groups) in
      let new = length-first_copies (length s.jobs) 1 (sheets_of media groups) in
      let many = length-sheets_of media groups in
      omega arith;
  clear = keeps.clear;
}
