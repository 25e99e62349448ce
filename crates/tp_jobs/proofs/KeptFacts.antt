-- The parts of the lines keep what they keep.
use Rattle.std.proofs.Common.{◌≡◌, ◌≢◌, ℕ, ◌+◌, ◌<◌, ◌^◌, Bool, not, List, [], ◌∷◌, ◌++◌, length, get_or, None, AllPairs, true, sym, ap, subst, ◌∙◌, arith}
use Rattle.std.specs.List.{IsDistinct}
use Rattle.std.specs.Str.{bytes_eq}
use Rattle.std.proofs.lemmas.Bool.Decides.{nat_tests}
use Rattle.std.proofs.lemmas.List.{get_or-map, map-append, length-append, length-map}
use Rattle.std.proofs.lemmas.List.Elements.{All-append, All-filter}
use Rattle.std.proofs.lemmas.List.Kept.{AllPairs-filter}
use Rattle.std.proofs.lemmas.List.Sums.{count_by-le-length, length-filter}
use Rattle.std.proofs.lemmas.Map.Made.{AllPairs-from_IsDistinct}
use Rattle.std.proofs.lemmas.Slice.Eq.{bytes_eq-Decides}
use Rattle.tp_machine.specs.declared.parts.Sheet.{Sheet}
use Rattle.tp_schedule.proofs.Pairs.{AllPairs-append}
use Rattle.tp_schedule.specs.Plans.{is_before, is_same_copy}
use Rattle.tp_schedule.specs.declared.parts.SheetId.{SheetId}
use Rattle.tp_jobs.specs.Backlogs.{Backlog, IsBacklog, IsOfJob, WaitsBefore, names_of}
use Rattle.tp_jobs.specs.LineInvariants.{Keeps}
use Rattle.tp_jobs.specs.WaitingCopies.{find_waiting, first_copies, put_waiting, without_waiting}
use Rattle.tp_jobs.specs.declared.parts.Job.{Job}
use Rattle.tp_jobs.specs.declared.parts.WaitingCopy.{WaitingCopy}
use Rattle.tp_jobs.proofs.FirstCopies.{first_copies-are_of, first_copies-in_order, length-first_copies}
use Rattle.tp_jobs.proofs.OrderFacts.{All-put_waiting, in_order-put, length-put_waiting}

pub keeps-put : (names : List (List ℕ)) (jobs : List Job) (waiting : List WaitingCopy) (w : WaitingCopy) → Keeps names jobs waiting → IsOfJob jobs w → find_waiting w.sheet waiting ≡ None → length waiting + 1 < 2 ^ 32 → Keeps names jobs (put_waiting waiting w)
keeps-put names jobs waiting w keeps known new room = record {
  of_names = keeps.of_names;
  distinct = keeps.distinct;
  in_order = in_order-put w waiting keeps.in_order new;
  of_jobs = All-put_waiting (IsOfJob jobs) w waiting known keeps.of_jobs;
  few_jobs = keeps.few_jobs;
  few_waiting = omega (arith, length-put_waiting w waiting, room);
}

abbrev stays : SheetId → WaitingCopy → Bool
stays copy w = not (is_same_copy w.sheet copy)

-- a copy waits no more
pub keeps-without : (names : List (List ℕ)) (jobs : List Job) (waiting : List WaitingCopy) (copy : SheetId) → Keeps names jobs waiting → Keeps names jobs (without_waiting copy waiting)
keeps-without names jobs waiting copy keeps = record {
  of_names = keeps.of_names;
  distinct = keeps.distinct;
  in_order = AllPairs-filter WaitsBefore (stays copy) waiting keeps.in_order;
  of_jobs = All-filter (stays copy) (IsOfJob jobs) waiting keeps.of_jobs;
  few_jobs = keeps.few_jobs;
  few_waiting = omega (arith, length-filter (stays copy) waiting, count_by-le-length (stays copy) waiting, keeps.few_waiting);
}

-- a copy of an earlier job waits before one of a later job
earlier_job : (v w : WaitingCopy) (n : ℕ) → v.sheet.job < n → w.sheet.job ≡ n → is_before v.sheet w.sheet ≡ true
earlier_job v w n before is = grind (arith, nat_tests)

-- a new job, whose copies wait behind all others
pub keeps-job : (names : List (List ℕ)) (jobs : List Job) (waiting : List WaitingCopy) (job : Job) (wants : List Sheet) (names' : List (List ℕ)) → Keeps names jobs waiting → names' ≡ names ++ job.name ∷ [] → IsDistinct bytes_eq names'
    → length jobs + 1 < 2 ^ 32 → length waiting + length wants < 2 ^ 32 → Keeps names' (jobs ++ job ∷ []) (waiting ++ first_copies (length jobs) 1 wants)
keeps-job names jobs waiting job wants names' keeps is distinct room few = record {
  of_names = is ∙ ap (λ ns. ns ++ job.name ∷ []) keeps.of_names ∙ sym (map-append (λ j. j.name) jobs (job ∷ []));
  distinct = distinct;
  in_order =
      AllPairs-append WaitsBefore waiting (first_copies (length jobs) 1 wants) keeps.in_order (first_copies-in_order (length jobs) 1 wants)
      (λ i d within k e within'. earlier_job (get_or waiting i d) (get_or (first_copies (length jobs) 1 wants) k e) (length jobs) (keeps.of_jobs i d within) (first_copies-are_of (length jobs) 1 wants k e within').0);
  of_jobs =
      All-append (IsOfJob (jobs ++ job ∷ [])) waiting (first_copies (length jobs) 1 wants)
      (λ k d within. omega (arith, keeps.of_jobs k d within, length-append jobs (job ∷ [])))
      (λ k d within. omega (arith, (first_copies-are_of (length jobs) 1 wants k d within).0, length-append jobs (job ∷ [])));
  few_jobs = omega (arith, length-append jobs (job ∷ []), room);
  few_waiting = omega (arith, length-append waiting (first_copies (length jobs) 1 wants), length-first_copies (length jobs) 1 wants, few);
}

jobs_differ : (jobs : List Job) → IsDistinct bytes_eq (names_of jobs) → AllPairs (λ i j. i.name ≢ j.name) jobs
jobs_differ jobs distinct i j d before within =
    let differ = AllPairs-from_IsDistinct bytes_eq-Decides (names_of jobs) distinct i j d.name before (omega (arith, length-map jobs (λ k. k.name))) in
    λ same. differ (get_or-map (λ (k : Job). k.name) jobs i d d.name (omega arith) ∙ same ∙ sym (get_or-map (λ (k : Job). k.name) jobs j d d.name within))

pub kept-backlog : (names : List (List ℕ)) (lines : Backlog) → Keeps names lines.jobs lines.waiting → IsBacklog lines
kept-backlog names lines keeps = record {
  named = jobs_differ lines.jobs (subst (IsDistinct bytes_eq) keeps.of_names keeps.distinct);
  in_order = keeps.in_order;
  of_jobs = keeps.of_jobs;
  few_jobs = keeps.few_jobs;
  few_waiting = keeps.few_waiting;
}

-- what equal parts keep
pub same-keeps : (names names' : List (List ℕ)) (jobs jobs' : List Job) (waiting waiting' : List WaitingCopy) → names ≡ names' → jobs ≡ jobs' → waiting ≡ waiting' → Keeps names jobs waiting → Keeps names' jobs' waiting'
same-keeps names names' jobs jobs' waiting waiting' ns js ws keeps = coe 0 1 (k. Keeps (ns k) (js k) (ws k)) keeps
