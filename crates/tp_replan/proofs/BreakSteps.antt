-- Where a job breaks: its fates fit, no copy waits after them, and what is reported and left are those of the break.
use Rattle.std.proofs.Common.{◌≡◌, ℕ, ◌+◌, ◌≤◌, arith, length, not, List, [], ◌∷◌, ◌++◌, map, filter, flat_map, All, sym, ap, ◌∙◌, subst}
use Rattle.std.proofs.lemmas.List.Elements.{All-contains}
use Rattle.tp_jobs.specs.Backlogs.{mark_broken}
use Rattle.tp_jobs.specs.declared.parts.Job.{Job}
use Rattle.tp_jobs.specs.declared.parts.WaitingCopy.{WaitingCopy}
use Rattle.tp_schedule.specs.Plans.{IsFormed}
use Rattle.tp_schedule.specs.declared.parts.SheetId.{SheetId}
use Rattle.tp_schedule.specs.declared.records.Record.TheVariants.{Broken}
use Rattle.tp_event_rules.specs.Fates.{befall, waits_for}
use Rattle.tp_event_rules.specs.FallBacks.{by_copy, fate_in_break, job_break}
use Rattle.tp_event_rules.specs.Labels.{job_name}
use Rattle.tp_event_rules.specs.Lines.{is_of_job, put_all_waiting}
use Rattle.tp_event_rules.specs.States.{SessionState}
use Rattle.tp_replan.specs.Meanings.{AreCutStarted, AreFates, CanAllWait, notice_of_plan, told_by_copy, waits_in}
use Rattle.tp_replan.specs.declared.fate.Fate.{Fate}
use Rattle.tp_replan.proofs.BreakFacts.{break-fits, none-wait, notices-are}
use Rattle.tp_replan.proofs.FateFacts.{waits-by}
use Rattle.tp_replan.specs.Open.{CanFall, most_waiting}
use Rattle.std.proofs.lemmas.List.Sums.{count_by-le-length, length-filter}
use Rattle.tp_replan.proofs.OpenFacts.{can-room, cut-started}

-- the copies that wait and are not of the job
abbrev pub waiting_of_others : ℕ → List WaitingCopy → List WaitingCopy
waiting_of_others job waiting = filter (λ w. not (is_of_job job w)) waiting

-- a copy that is cut has started
pub break-cuts : (s : SessionState) (job : ℕ) (fates : List Fate) → All IsFormed s.plans
    → AreFates (fate_in_break s job) s.plans fates → AreCutStarted s.now s.plans fates
break-cuts s job fates formed e =
    cut-started s (fate_in_break s job) fates (λ p in'. break-fits s job p (All-contains IsFormed s.plans p formed in')) e

-- no copy is to wait
pub break-waits_none : (s : SessionState) (job : ℕ) (fates : List Fate) (waiting : List WaitingCopy)
    → AreFates (fate_in_break s job) s.plans fates → CanAllWait waiting (waits_in s.plans fates)
break-waits_none s job fates waiting e =
    subst (CanAllWait waiting) (sym (waits-by (fate_in_break s job) s.plans fates e ∙ none-wait s job s.plans)) tt

-- and one more copy can wait
pub break-room : (s : SessionState) (job : ℕ) (fates : List Fate) → CanFall s [] → All IsFormed s.plans → AreFates (fate_in_break s job) s.plans fates
    → length (waiting_of_others job s.waiting) + length (waits_in s.plans fates) ≤ most_waiting
break-room s job fates can formed e =
    let room = can-room s [] (fate_in_break s job) fates can (λ p in'. break-fits s job p (All-contains IsFormed s.plans p formed in')) e in
    let others = length-filter (λ (w : WaitingCopy). not (is_of_job job w)) s.waiting in
    let fewer = count_by-le-length (λ (w : WaitingCopy). not (is_of_job job w)) s.waiting in
    omega arith

-- the state that follows, where the copies of the job were taken before
pub break-leaves : (job : ℕ) (s mid end : SessionState) → mid ≡ record s { waiting = waiting_of_others job s.waiting }
    → end ≡ befall (fate_in_break s job) mid → record end { jobs = mark_broken job end.jobs } ≡ (job_break job s).state
break-leaves job s mid end taken follows =
    let rule = fate_in_break s job in
    let waits = flat_map (λ p. waits_for p (rule p)) s.plans in
    let all = follows ∙ ap (befall rule) taken in
    let none = none-wait s job s.plans in
    let waiting : end.waiting ≡ waiting_of_others job (put_all_waiting s.waiting waits) =
    ap (λ (t : SessionState). t.waiting) all ∙ ap (put_all_waiting (waiting_of_others job s.waiting)) none
    ∙ sym (ap (λ ws. waiting_of_others job (put_all_waiting s.waiting ws)) none) in
    λ k. record {
      now = (all k).now;
      plans = (all k).plans;
      lost = (all k).lost;
      jobs = mark_broken job (all k).jobs;
      waiting = waiting k;
      outs = (all k).outs;
      refills = (all k).refills;
    }

-- what is reported
pub break-tells : (job : ℕ) (s : SessionState) (jobs : List Job) (copies : List SheetId)
    → copies ≡ map (λ w. w.sheet) (filter (is_of_job job) s.waiting) → jobs ≡ s.jobs
    → (Broken (job_name s.jobs job) ∷ []) ++ told_by_copy jobs s.now (fate_in_break s job) copies s.plans ≡ (job_break job s).records
break-tells job s jobs copies taken same =
    let rule = fate_in_break s job in
    ap (λ rs. Broken (job_name s.jobs job) ∷ rs)
    (ap (λ js. told_by_copy js s.now rule copies s.plans) same ∙ ap (λ cs. told_by_copy s.jobs s.now rule cs s.plans) taken
    ∙ ap (λ ns. flat_map (λ n. n.records) (by_copy (ns ++ map (notice_of_plan s.jobs s.now rule) s.plans))) (sym (notices-are s job)))
