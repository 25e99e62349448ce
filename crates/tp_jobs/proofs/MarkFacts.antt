-- What is kept of a mark stays what it was, and there is room to go back.
use Rattle.std.proofs.Common.{◌≡◌, ◌∙◌, ℕ, zero, suc, ◌+◌, ◌≤◌, Bool, false, not, cond, List, [], ◌∷◌, ◌++◌, length, take, ap, arith}
use Rattle.std.specs.List.{count_by}
use Rattle.std.proofs.lemmas.List.{length-map, length-take-le, take-append-le, take_all}
use Rattle.std.proofs.lemmas.List.Sums.{sum_by-cons}
use Rattle.tp_jobs.proofs.WholeFacts.{length-all_whole}
use Rattle.tp_machine.specs.declared.parts.Sheet.{Sheet}
use Rattle.tp_jobs.specs.Backlogs.{Backlog}
use Rattle.tp_jobs.specs.LineInvariants.{Keeps, jobs_then, mark_all_whole, mark_whole, whole_count}
use Rattle.tp_jobs.specs.WaitingCopies.{first_copies, with_job}
use Rattle.tp_jobs.specs.declared.parts.Job.{Job}
use Rattle.tp_jobs.specs.declared.parts.WaitingCopy.{WaitingCopy}

-- as many names as jobs
pub length-names : (names : List (List ℕ)) (jobs : List Job) (waiting : List WaitingCopy) → Keeps names jobs waiting → length names ≡ length jobs
length-names names jobs waiting keeps = ap length keeps.of_names ∙ length-map jobs (λ j. j.name)

-- the jobs of the mark stay as one more comes
pub then-job : (came : ℕ) (ns : List ℕ) (jobs : List Job) (job : Job) → came ≤ length jobs → jobs_then came ns (jobs ++ job ∷ []) ≡ jobs_then came ns jobs
then-job came ns jobs job within = ap (mark_all_whole ns) (take-append-le came jobs (job ∷ []) within)

pub keeps-then_job : (came : ℕ) (ns : List ℕ) (names : List (List ℕ)) (jobs : List Job) (waiting waited : List WaitingCopy) (name : List ℕ) (job : Job) → Keeps names jobs waiting → came ≤ length jobs
    → Keeps (take came names) (jobs_then came ns jobs) waited → Keeps (take came (names ++ name ∷ [])) (jobs_then came ns (jobs ++ job ∷ [])) waited
keeps-then_job came ns names jobs waiting waited name job keeps within then =
    let many = length-names names jobs waiting keeps in
    let same = take-append-le came names (name ∷ []) (omega arith) in
    let same' = then-job came ns jobs job within in
    rw (same, same') then

abbrev lines-of : ℕ → List ℕ → List Job → List WaitingCopy → List WaitingCopy → Backlog
lines-of came ns jobs waiting waited = record { jobs = jobs; waiting = waiting; kept = record { jobs = jobs_then came ns jobs; waiting = waited } }

-- the lines of parts to which a job and its copies were added are the lines with that job
pub with-job : (came : ℕ) (ns ns' : List ℕ) (jobs jobs' : List Job) (waiting waiting' waited : List WaitingCopy) (job : Job) (wants : List Sheet) → came ≤ length jobs → ns' ≡ ns → jobs' ≡ jobs ++ job ∷ []
    → waiting' ≡ waiting ++ first_copies (length jobs) 1 wants → lines-of came ns' jobs' waiting' waited ≡ with_job job wants (lines-of came ns jobs waiting waited)
with-job came ns ns' jobs jobs' waiting waiting' waited job wants within broken more waits =
    let then : jobs_then came ns' jobs' ≡ jobs_then came ns jobs = (λ k. jobs_then came (broken k) (more k)) ∙ then-job came ns jobs job within in
    λ k. record { jobs = more k; waiting = waits k; kept = record { jobs = then k; waiting = waited } }

-- to go back twice is to go back once
pub then-then : (came : ℕ) (ns : List ℕ) (jobs : List Job) → came ≤ length jobs → jobs_then came [] (jobs_then came ns jobs) ≡ jobs_then came ns jobs
then-then came ns jobs within =
    let many = length-all_whole ns (take came jobs) ∙ length-take-le came jobs within in
    take_all came (jobs_then came ns jobs) (omega arith)

count-cons : {X : Type 0} (p : X → Bool) (x : X) (xs : List X) → count_by p (x ∷ xs) ≡ cond (p x) 1 0 + count_by p xs
count-cons p x xs = sum_by-cons (λ y. cond (p y) 1 0) x xs

count-take : {X : Type 0} (p : X → Bool) (n : ℕ) (xs : List X) → count_by p (take n xs) ≤ count_by p xs
count-take p zero xs = omega arith
count-take p (suc n) [] = omega arith
count-take p (suc n) (x ∷ xs) = omega (arith, count-cons p x (take n xs), count-cons p x xs, count-take p n xs)

count-whole : (n : ℕ) (jobs : List Job) → whole_count (mark_whole n jobs) ≤ whole_count jobs + 1
count-whole n [] = omega arith
count-whole zero (job ∷ jobs) =
    omega (arith, count-cons (λ (j : Job). not j.broken) (record job { broken = false }) jobs, count-cons (λ (j : Job). not j.broken) job jobs)
count-whole (suc n) (job ∷ jobs) =
    omega (arith, count-cons (λ (j : Job). not j.broken) job (mark_whole n jobs), count-cons (λ (j : Job). not j.broken) job jobs, count-whole n jobs)

count-all_whole : (ns : List ℕ) (jobs : List Job) → whole_count (mark_all_whole ns jobs) ≤ whole_count jobs + length ns
count-all_whole [] jobs = omega arith
count-all_whole (n ∷ ns) jobs = omega (arith, count-all_whole ns (mark_whole n jobs), count-whole n jobs)

-- the jobs of the mark that are whole are no more than those that are, and those that broke since
pub count-then : (came : ℕ) (ns : List ℕ) (jobs : List Job) → whole_count (jobs_then came ns jobs) ≤ whole_count jobs + length ns
count-then came ns jobs = omega (arith, count-all_whole ns (take came jobs), count-take (λ (j : Job). not j.broken) came jobs)
