-- A new job keeps what is kept between events.
use Rattle.std.proofs.Common.{◌≡◌, ◌≢◌, ℕ, suc, cond, ◌+◌, ◌<◌, Bool, true, false, ◌&&◌, List, [], ◌∷◌, ◌++◌, map, length, refl, sym, ap, ◌∙◌, arith, All, AllPairs, Contains, IsTrue, subst, Option, Some, None, slice_get}
use Rattle.std.specs.Prelude.{IsFalse, is_some, position, ◌==◌, ◌||◌}
use Rattle.std.specs.Str.{bytes_eq}
use Rattle.std.proofs.lemmas.Bool.{and_parts}
use Rattle.std.proofs.lemmas.Bool.Decides.{nat_tests, not_from_Decides}
use Rattle.std.proofs.lemmas.List.{length-append, map-append}
use Rattle.std.proofs.lemmas.List.Elements.{All-nil, All-cons, All-append, All-filter, All-map, All-weaker}
use Rattle.std.proofs.lemmas.List.Folds.{list_any_none}
use Rattle.std.proofs.lemmas.Slice.Eq.{bytes_eq-Decides}
use Rattle.tp_base.proofs.SliceFacts.{slice_get_left}
use Rattle.tp_machine.specs.Rules.{is_among}
use Rattle.tp_machine.specs.declared.parts.LocId.{LocId}
use Rattle.tp_machine.specs.declared.machine.Machine.{Machine}
use Rattle.tp_jobs.specs.declared.parts.Job.{Job}
use Rattle.tp_jobs.specs.declared.parts.WaitingCopy.{WaitingCopy}
use Rattle.tp_schedule.specs.Plans.{is_before, is_same_copy}
use Rattle.tp_schedule.specs.declared.parts.Plan.{Plan}
use Rattle.tp_schedule.specs.declared.parts.SheetId.{SheetId}
use Rattle.tp_script.specs.Form.{GroupForm}
use Rattle.tp_jobs.specs.Backlogs.{tray_of, tray_in}
use Rattle.tp_jobs.specs.JobRefusals.{sheet_count, is_taken, is_tray_name, tray_named, tray_at}
use Rattle.tp_jobs.specs.WaitingCopies.{first_copies, sheets_of, new_job, given_tray}
use Rattle.tp_event_rules.specs.StateInvariants.{KeepsJobs, KeepsLines, StandsBehind, is_planned_among, is_known, is_own_goal, is_of_its_job, tray_plans, is_same_sheet}
use Rattle.tp_event_rules.specs.Labels.{job_name}
use Rattle.tp_event_rules.specs.Lines.{is_same_line}
use Rattle.tp_event_rules.specs.Moments.{is_tray_plan}
use Rattle.tp_event_rules.specs.States.{SessionState}
use Rattle.tp_event_rules.specs.Turns.{with_job}
use Rattle.tp_jobs.proofs.FirstCopies.{length-sheets_of}
use Rattle.tp_event_rules.proofs.FirstCopies.{IsFirstCopy, All-first_copies, AllPairs-first_copies, IsAccepted}
use Rattle.tp_schedule.proofs.Pairs.{AllPairs-nil, AllPairs-cons, AllPairs-append, AllPairs-append_right}
use Rattle.tp_event_rules.proofs.ListFacts.{AllPairs-append_left, AllPairs-append_across, AllPairs-map_list, All-both}

-- the jobs that came before are reported as before
pub known-within : (jobs : List Job) (copy : SheetId) → is_known jobs copy ≡ true → copy.job < length jobs
known-within jobs copy e = grind (arith, nat_tests)

pub before-same : (jobs : List Job) (j : Job) (copy : SheetId) → is_known jobs copy ≡ true → slice_get (jobs ++ j ∷ []) copy.job ≡ slice_get jobs copy.job
before-same jobs j copy e = slice_get_left jobs (j ∷ []) copy.job (known-within jobs copy e)

tray-same : (jobs : List Job) (j : Job) (copy : SheetId) → is_known jobs copy ≡ true → tray_of (jobs ++ j ∷ []) copy ≡ tray_of jobs copy
tray-same jobs j copy e = ap tray_in (before-same jobs j copy e)

known-more : (jobs : List Job) (j : Job) (copy : SheetId) → is_known jobs copy ≡ true → is_known (jobs ++ j ∷ []) copy ≡ true
known-more jobs j copy e =
    let within = known-within jobs copy e in
    let longer = length-append jobs (j ∷ []) in
    let now : copy.job < length (jobs ++ j ∷ []) = omega arith in
    grind (arith, nat_tests)

new-known : (jobs : List Job) (j : Job) (copy : SheetId) → copy.job ≡ length jobs → is_known (jobs ++ j ∷ []) copy ≡ true
new-known jobs j copy e =
    let longer = length-append jobs (j ∷ []) in
    let now : copy.job < length (jobs ++ j ∷ []) = omega arith in
    grind (arith, nat_tests)

known-plan : (jobs : List Job) (p : Plan) → is_of_its_job jobs p ≡ true → is_known jobs p.sheet ≡ true
known-plan jobs p e = (and_parts (is_known jobs p.sheet) _ (and_parts (is_known jobs p.sheet && bytes_eq p.name (job_name jobs p.sheet.job)) _ e).0).0

own-more : (jobs : List Job) (j : Job) (p : Plan) → is_of_its_job jobs p ≡ true → is_of_its_job (jobs ++ j ∷ []) p ≡ true
own-more jobs j p e =
    let known = known-plan jobs p e in
    rw (known-more jobs j p.sheet known, before-same jobs j p.sheet known) (subst (λ b. (b && bytes_eq p.name (job_name jobs p.sheet.job) && is_own_goal p.goal (tray_of jobs p.sheet).0) ≡ true) known e)

-- the tray of an accepted job is one of the machine's
among-trays : (trays : List LocId) (loc : LocId) → is_among trays loc ≡ true → Contains trays loc
among-trays [] loc e = absurd (cc)
among-trays (t ∷ trays) loc e = go (among-trays trays loc) (t.0 == loc.0) refl e where
  go : (is_among trays loc ≡ true → Contains trays loc) → (b : Bool) → (t.0 == loc.0) ≡ b → (b || is_among trays loc) ≡ true → Contains (t ∷ trays) loc
  go rest true f g = let same : t.0 ≡ loc.0 = grind (arith, nat_tests) in (0, omega arith, ap (λ n. record { 0 = n }) same)
  go rest false f g = let r = rest g in (suc r.0, omega (arith, r.1), r.2)

is-tray : (machine : Machine) (n : ℕ) (b : Bool) → is_among machine.trays (record { 0 = n }) ≡ b → is_some {T = LocId} (cond b (Some (record { 0 = n })) None) ≡ true → Contains machine.trays (given_tray (cond b (Some (record { 0 = n })) None))
is-tray machine n true g h = among-trays machine.trays (record { 0 = n }) g
is-tray machine n false g h = absurd (cc)

new-tray : (machine : Machine) (tray : List ℕ) → is_tray_name machine tray ≡ true → Contains machine.trays (given_tray (tray_named machine tray))
new-tray machine tray e = at (position (bytes_eq tray) machine.locations) e where
  at : (o : Option ℕ) → is_some (tray_at machine o) ≡ true → Contains machine.trays (given_tray (tray_at machine o))
  at None f = absurd (cc)
  at (Some n) f = is-tray machine n (is_among machine.trays (record { 0 = n })) refl f

-- and its name is new
new-name : (jobs : List Job) (name : List ℕ) → is_taken jobs name ≡ false → All (λ j. j.name ≢ name) jobs
new-name [] name e = All-nil (λ j. j.name ≢ name)
new-name (j ∷ jobs) name e =
    let other : bytes_eq name j.name ≡ false = grind arith in
    let rest : is_taken jobs name ≡ false = grind arith in
    All-cons (λ j. j.name ≢ name) j jobs (λ same. not_from_Decides (bytes_eq name j.name) (bytes_eq-Decides name j.name) other (sym same)) (new-name jobs name rest)

abbrev pub firsts : ℕ → List ℕ → List GroupForm → List WaitingCopy
firsts n media groups = first_copies n 1 (sheets_of media groups)

pub firsts-are : (n : ℕ) (media : List ℕ) (groups : List GroupForm) → All (IsFirstCopy n 1 (1 + sheet_count groups)) (firsts n media groups)
firsts-are n media groups =
    let many = length-sheets_of media groups in
    All-first_copies n 1 1 (1 + sheet_count groups) (sheets_of media groups) (omega arith) (omega arith)

-- a copy of an earlier job stands before one of the new job, and is of another sheet
earlier-before : (jobs : List Job) (v w : SheetId) → is_known jobs v ≡ true → w.job ≡ length jobs → is_before v w ≡ true
earlier-before jobs v w known e = let within = known-within jobs v known in let low : v.job < w.job = omega arith in grind (arith, nat_tests)

pub earlier-other : (jobs : List Job) (v w : SheetId) → is_known jobs v ≡ true → w.job ≡ length jobs → is_same_sheet v w ≡ false
earlier-other jobs v w known e = let within = known-within jobs v known in let low : v.job < w.job = omega arith in grind (arith, nat_tests)

later-other : (jobs : List Job) (v w : SheetId) → is_known jobs v ≡ true → w.job ≡ length jobs → is_same_sheet w v ≡ false
later-other jobs v w known e = let within = known-within jobs v known in let low : v.job < w.job = omega arith in grind (arith, nat_tests)

earlier-not_same : (jobs : List Job) (v w : SheetId) → is_known jobs v ≡ true → w.job ≡ length jobs → is_same_copy v w ≡ false
earlier-not_same jobs v w known e = let within = known-within jobs v known in let low : v.job < w.job = omega arith in grind (arith, nat_tests)

-- the same line, told by the jobs before
line-same : (jobs : List Job) (j : Job) (v w : SheetId) → is_known jobs v ≡ true → is_known jobs w ≡ true → is_same_line (jobs ++ j ∷ []) v w ≡ is_same_line jobs v w
line-same jobs j v w known known' = rw (tray-same jobs j v known, tray-same jobs j w known') refl

behind-more : (jobs : List Job) (j : Job) (w : WaitingCopy) (p : Plan) → is_known jobs w.sheet ≡ true → is_known jobs p.sheet ≡ true → StandsBehind jobs w p → StandsBehind (jobs ++ j ∷ []) w p
behind-more jobs j w p known known' behind same = behind (sym (line-same jobs j w.sheet p.sheet known known') ∙ same)

abbrev pub Known : List Job → WaitingCopy → Type 0
Known jobs w = is_known jobs w.sheet ≡ true

pub known-plans : (jobs : List Job) (plans : List Plan) → All (λ p. IsTrue (is_of_its_job jobs p)) plans → All (λ p. is_known jobs p.sheet ≡ true) plans
known-plans jobs plans all = All-weaker (λ p. IsTrue (is_of_its_job jobs p)) (λ p. is_known jobs p.sheet ≡ true) (known-plan jobs) plans all

-- one open copy of each sheet: the new ones are of other sheets than the old ones, and of different sheets
abbrev Apart : SheetId → SheetId → Type 0
Apart a b = IsFalse (is_same_sheet a b)

apart-numbers : (v w : SheetId) → v.job ≡ w.job → v.number < w.number → is_same_sheet v w ≡ false
apart-numbers v w e low = grind (arith, nat_tests)

before-numbers : (v w : SheetId) → v.job ≡ w.job → v.number < w.number → is_before v w ≡ true
before-numbers v w e low = grind (arith, nat_tests)

sheets-more : (jobs : List Job) (news : List WaitingCopy) (old : List WaitingCopy) (planned : List Plan) → All (λ w. w.sheet.job ≡ length jobs) news → AllPairs (λ v w. Apart v.sheet w.sheet) news
    → All (Known jobs) old → All (λ p. is_known jobs p.sheet ≡ true) planned
    → AllPairs Apart (map (λ w. w.sheet) old ++ map (λ p. p.sheet) planned) → AllPairs Apart (map (λ w. w.sheet) (old ++ news) ++ map (λ p. p.sheet) planned)
sheets-more jobs news old planned are apart known known' pairs =
    rw (map-append (λ (w : WaitingCopy). w.sheet) old news)
    (AllPairs-append Apart (map (λ w. w.sheet) old ++ map (λ w. w.sheet) news) (map (λ p. p.sheet) planned)
    (AllPairs-append Apart (map (λ w. w.sheet) old) (map (λ w. w.sheet) news)
    (AllPairs-append_left Apart (map (λ w. w.sheet) old) (map (λ p. p.sheet) planned) pairs)
    (AllPairs-map_list Apart (λ w. w.sheet) news apart)
    (All-map (λ v. All (Apart v) (map (λ w. w.sheet) news)) (λ w. w.sheet) old
    (All-weaker (Known jobs) (λ v. All (Apart v.sheet) (map (λ w. w.sheet) news))
    (λ v k. All-map (Apart v.sheet) (λ w. w.sheet) news (All-weaker (λ w. w.sheet.job ≡ length jobs) (λ w. Apart v.sheet w.sheet) (λ w e. earlier-other jobs v.sheet w.sheet k e) news are)) old known)))
    (AllPairs-append_right Apart (map (λ w. w.sheet) old) (map (λ p. p.sheet) planned) pairs)
    (All-append (λ v. All (Apart v) (map (λ p. p.sheet) planned)) (map (λ w. w.sheet) old) (map (λ w. w.sheet) news)
    (AllPairs-append_across Apart (map (λ w. w.sheet) old) (map (λ p. p.sheet) planned) pairs)
    (All-map (λ v. All (Apart v) (map (λ p. p.sheet) planned)) (λ w. w.sheet) news
    (All-weaker (λ w. w.sheet.job ≡ length jobs) (λ w. All (Apart w.sheet) (map (λ p. p.sheet) planned))
    (λ w e. All-map (Apart w.sheet) (λ p. p.sheet) planned (All-weaker (λ p. is_known jobs p.sheet ≡ true) (λ p. Apart w.sheet p.sheet) (λ p k. later-other jobs p.sheet w.sheet k e) planned known')) news are))))

pub lines-job : (machine : Machine) (name tray media : List ℕ) (groups : List GroupForm) (s : SessionState) → IsAccepted machine s.jobs (length s.waiting) name tray groups
    → KeepsLines s → KeepsLines (with_job machine name tray media groups s)
lines-job machine name tray media groups s ok keeps =
    let firsts-of : All (λ w. w.sheet.job ≡ length s.jobs) (firsts (length s.jobs) media groups) =
    All-weaker (IsFirstCopy (length s.jobs) 1 (1 + sheet_count groups)) (λ w. w.sheet.job ≡ length s.jobs) (λ w is. is.of_job) (firsts (length s.jobs) media groups) (firsts-are (length s.jobs) media groups) in
    let plans : All (λ p. is_known s.jobs p.sheet ≡ true) s.plans = known-plans s.jobs s.plans keeps.plans_known in
    let tray_known : All (λ p. is_known s.jobs p.sheet ≡ true) (tray_plans s.plans) = All-filter is_tray_plan (λ p. is_known s.jobs p.sheet ≡ true) s.plans plans in
    record {
      in_order = AllPairs-append (λ v w. IsTrue (is_before v.sheet w.sheet)) s.waiting (firsts (length s.jobs) media groups) keeps.in_order
          (AllPairs-first_copies (λ v w. IsTrue (is_before v.sheet w.sheet)) (λ v w. before-numbers v.sheet w.sheet) (length s.jobs) 1 (sheets_of media groups))
          (All-weaker (Known s.jobs) (λ v. All (λ w. IsTrue (is_before v.sheet w.sheet)) (firsts (length s.jobs) media groups))
          (λ v known. All-weaker (λ w. w.sheet.job ≡ length s.jobs) (λ w. IsTrue (is_before v.sheet w.sheet)) (λ w e. earlier-before s.jobs v.sheet w.sheet known e) (firsts (length s.jobs) media groups) firsts-of)
          s.waiting keeps.waiting_known);
      waiting_known = All-append (λ w. IsTrue (is_known (s.jobs ++ new_job machine name tray groups ∷ []) w.sheet)) s.waiting (firsts (length s.jobs) media groups)
          (All-weaker (Known s.jobs) (λ w. IsTrue (is_known (s.jobs ++ new_job machine name tray groups ∷ []) w.sheet)) (λ w. known-more s.jobs (new_job machine name tray groups) w.sheet) s.waiting keeps.waiting_known)
          (All-weaker (λ w. w.sheet.job ≡ length s.jobs) (λ w. IsTrue (is_known (s.jobs ++ new_job machine name tray groups ∷ []) w.sheet)) (λ w. new-known s.jobs (new_job machine name tray groups) w.sheet) (firsts (length s.jobs) media groups) firsts-of);
      unplanned = All-append (λ w. IsFalse (is_planned_among s.plans w.sheet)) s.waiting (firsts (length s.jobs) media groups) keeps.unplanned
          (All-weaker (λ w. w.sheet.job ≡ length s.jobs) (λ w. IsFalse (is_planned_among s.plans w.sheet))
          (λ w e. list_any_none (λ p. is_same_copy p.sheet w.sheet) s.plans
          (All-weaker (λ p. is_known s.jobs p.sheet ≡ true) (λ p. is_same_copy p.sheet w.sheet ≡ false) (λ p known. earlier-not_same s.jobs p.sheet w.sheet known e) s.plans plans))
          (firsts (length s.jobs) media groups) firsts-of);
      line = All-append (λ w. All (StandsBehind (s.jobs ++ new_job machine name tray groups ∷ []) w) (tray_plans s.plans)) s.waiting (firsts (length s.jobs) media groups)
          (All-both (Known s.jobs) (λ w. All (StandsBehind s.jobs w) (tray_plans s.plans)) (λ w. All (StandsBehind (s.jobs ++ new_job machine name tray groups ∷ []) w) (tray_plans s.plans))
          (λ w known behind. All-both (λ p. is_known s.jobs p.sheet ≡ true) (StandsBehind s.jobs w) (StandsBehind (s.jobs ++ new_job machine name tray groups ∷ []) w)
          (λ p known'. behind-more s.jobs (new_job machine name tray groups) w p known known') (tray_plans s.plans) tray_known behind) s.waiting keeps.waiting_known keeps.line)
          (All-weaker (λ w. w.sheet.job ≡ length s.jobs) (λ w. All (StandsBehind (s.jobs ++ new_job machine name tray groups ∷ []) w) (tray_plans s.plans))
          (λ w e. All-weaker (λ p. is_known s.jobs p.sheet ≡ true) (StandsBehind (s.jobs ++ new_job machine name tray groups ∷ []) w) (λ p known same. earlier-before s.jobs p.sheet w.sheet known e) (tray_plans s.plans) tray_known)
          (firsts (length s.jobs) media groups) firsts-of);
      one = sheets-more s.jobs (firsts (length s.jobs) media groups) s.waiting (tray_plans s.plans) firsts-of
          (AllPairs-first_copies (λ v w. Apart v.sheet w.sheet) (λ v w. apart-numbers v.sheet w.sheet) (length s.jobs) 1 (sheets_of media groups))
          keeps.waiting_known tray_known keeps.one;
      plans_known = All-weaker (λ p. IsTrue (is_of_its_job s.jobs p)) (λ p. IsTrue (is_of_its_job (s.jobs ++ new_job machine name tray groups ∷ []) p)) (own-more s.jobs (new_job machine name tray groups)) s.plans keeps.plans_known;
      fronts = keeps.fronts;
    }

pub jobs-job : (machine : Machine) (name tray media : List ℕ) (groups : List GroupForm) (s : SessionState) → IsAccepted machine s.jobs (length s.waiting) name tray groups
    → KeepsJobs machine s.jobs → KeepsJobs machine (with_job machine name tray media groups s).jobs
jobs-job machine name tray media groups s ok keeps = record {
  trays = All-append (λ j. Contains machine.trays j.tray) s.jobs (new_job machine name tray groups ∷ []) keeps.trays
      (All-cons (λ j. Contains machine.trays j.tray) (new_job machine name tray groups) [] (new-tray machine tray ok.is_tray) (All-nil (λ j. Contains machine.trays j.tray)));
  names = AllPairs-append (λ i j. i.name ≢ j.name) s.jobs (new_job machine name tray groups ∷ []) keeps.names
      (AllPairs-cons (λ i j. i.name ≢ j.name) (new_job machine name tray groups) [] (All-nil (λ j. name ≢ j.name)) (AllPairs-nil (λ i j. i.name ≢ j.name)))
      (All-weaker (λ j. j.name ≢ name) (λ j. All (λ i. j.name ≢ i.name) (new_job machine name tray groups ∷ []))
      (λ j differ. All-cons (λ i. j.name ≢ i.name) (new_job machine name tray groups) [] differ (All-nil (λ i. j.name ≢ i.name))) s.jobs (new-name s.jobs name ok.is_new));
}
