-- A job that was broken is whole again as it was.
use Rattle.std.proofs.Common.{◌≡◌, ◌∙◌, ℕ, zero, suc, ◌+◌, ◌<◌, ◌≤◌, true, false, List, [], ◌∷◌, ◌++◌, length, take, drop, drop-cons, add-one, set, get_or, refl, ap, sym, arith}
use Rattle.tp_jobs.specs.Backlogs.{mark_broken}
use Rattle.tp_jobs.specs.LineInvariants.{jobs_then, mark_whole, mark_all_whole}
use Rattle.tp_jobs.specs.declared.parts.Job.{Job}

whole-set : (jobs : List Job) (n : ℕ) (d : Job) → n < length jobs → set jobs n (record (get_or jobs n d) { broken = false }) ≡ mark_whole n jobs
whole-set [] n d within = absurd (omega arith)
whole-set (job ∷ jobs) zero d within = refl
whole-set (job ∷ jobs) (suc n) d within = ap (λ js. job ∷ js) (whole-set jobs n d (omega arith))

-- the job that is written is the one that was there, whole
pub whole-written : (jobs : List Job) (n : ℕ) (job : Job) → n < length jobs → job ≡ get_or jobs n job → set jobs n (record job { broken = false }) ≡ mark_whole n jobs
whole-written jobs n job within is = ap (λ (j : Job). set jobs n (record j { broken = false })) is ∙ whole-set jobs n job within

-- a number that no job has changes none
pub whole-beyond : (jobs : List Job) (n : ℕ) → length jobs ≤ n → mark_whole n jobs ≡ jobs
whole-beyond [] n beyond = refl
whole-beyond (job ∷ jobs) zero beyond = absurd (omega arith)
whole-beyond (job ∷ jobs) (suc n) beyond = ap (λ js. job ∷ js) (whole-beyond jobs n (omega arith))

whole-swap : (a b : ℕ) (jobs : List Job) → mark_whole a (mark_whole b jobs) ≡ mark_whole b (mark_whole a jobs)
whole-swap a b [] = refl
whole-swap zero zero (job ∷ jobs) = refl
whole-swap zero (suc b) (job ∷ jobs) = refl
whole-swap (suc a) zero (job ∷ jobs) = refl
whole-swap (suc a) (suc b) (job ∷ jobs) = ap (λ js. job ∷ js) (whole-swap a b jobs)

whole-early : (n : ℕ) (ns : List ℕ) (jobs : List Job) → mark_whole n (mark_all_whole ns jobs) ≡ mark_all_whole ns (mark_whole n jobs)
whole-early n [] jobs = refl
whole-early n (m ∷ ns) jobs = whole-early n ns (mark_whole m jobs) ∙ ap (mark_all_whole ns) (whole-swap n m jobs)

whole-last : (n : ℕ) (ns : List ℕ) (jobs : List Job) → mark_all_whole (ns ++ n ∷ []) jobs ≡ mark_all_whole ns (mark_whole n jobs)
whole-last n [] jobs = refl
whole-last n (m ∷ ns) jobs = whole-last n ns (mark_whole m jobs) ∙ ap (mark_all_whole ns) (whole-swap n m jobs)

-- a job that wasn't broken, broken and whole again
whole-broken : (came n : ℕ) (jobs : List Job) (d : Job) → n < length jobs → (get_or jobs n d).broken ≡ false → mark_whole n (take came (mark_broken n jobs)) ≡ take came jobs
whole-broken zero n jobs d within whole = refl
whole-broken (suc came) n [] d within whole = absurd (omega arith)
whole-broken (suc came) zero (job ∷ jobs) d within whole = λ k. record job { broken = sym whole k } ∷ take came jobs
whole-broken (suc came) (suc n) (job ∷ jobs) d within whole = ap (λ js. job ∷ js) (whole-broken came n jobs d (omega arith) whole)

-- the jobs at the mark stay as one more is broken and remembered
pub then-broken : (came n : ℕ) (ns : List ℕ) (jobs : List Job) (d : Job) → n < length jobs → (get_or jobs n d).broken ≡ false → jobs_then came (ns ++ n ∷ []) (mark_broken n jobs) ≡ jobs_then came ns jobs
then-broken came n ns jobs d within whole = whole-last n ns (take came (mark_broken n jobs)) ∙ ap (mark_all_whole ns) (whole-broken came n jobs d within whole)

-- to break a job that is broken changes nothing
pub broken-twice : (n : ℕ) (jobs : List Job) (d : Job) → n < length jobs → (get_or jobs n d).broken ≡ true → jobs ≡ mark_broken n jobs
broken-twice n [] d within broken = absurd (omega arith)
broken-twice zero (job ∷ jobs) d within broken = λ k. record job { broken = broken k } ∷ jobs
broken-twice (suc n) (job ∷ jobs) d within broken = ap (λ js. job ∷ js) (broken-twice n jobs d (omega arith) broken)

length-whole : (n : ℕ) (jobs : List Job) → length (mark_whole n jobs) ≡ length jobs
length-whole n [] = refl
length-whole zero (job ∷ jobs) = refl
length-whole (suc n) (job ∷ jobs) = ap suc (length-whole n jobs)

pub length-all_whole : (ns : List ℕ) (jobs : List Job) → length (mark_all_whole ns jobs) ≡ length jobs
length-all_whole [] jobs = refl
length-all_whole (n ∷ ns) jobs = length-all_whole ns (mark_whole n jobs) ∙ length-whole n jobs

-- one more of the jobs is whole again
pub whole-next : (ns : List ℕ) (i : ℕ) (jobs jobs' all : List Job) → i < length ns → jobs' ≡ mark_whole (get_or ns i 0) jobs → mark_all_whole (drop i ns) jobs ≡ all → mark_all_whole (drop (i + 1) ns) jobs' ≡ all
whole-next ns i jobs jobs' all within is so-far =
    let next : drop i ns ≡ get_or ns i 0 ∷ drop (i + 1) ns = rw (add-one, drop-cons ns i 0) in
    ap (mark_all_whole (drop (i + 1) ns)) is ∙ ap (λ ms. mark_all_whole ms jobs) (sym next) ∙ so-far
