-- A copy that is for another tray is passed over.
use Rattle.std.proofs.Common.{◌≡◌, ◌≢◌, ◌||◌, ◌==◌, ℕ, Bool, true, false, List, ◌∷◌, get_or, All, ap, sym, subst, ◌∙◌, arith}
use Rattle.std.specs.VecDeque.Iter.{deque_iter_rest}
use Rattle.std.proofs.lemmas.Bool.Decides.{nat_tests}
use Rattle.std.proofs.lemmas.List.Elements.{All-head, All-tail}
use Rattle.std.proofs.lemmas.Option.{slice_get-get_or}
use Rattle.tp_machine.specs.declared.parts.LocId.{LocId}
use Rattle.tp_jobs.specs.Backlogs.{IsOfJob, tray_in, tray_of}
use Rattle.tp_jobs.specs.WaitingCopies.{has_waiting}
use Rattle.tp_jobs.specs.declared.parts.Job.{Job}
use Rattle.tp_jobs.specs.declared.parts.WaitingCopy.{WaitingCopy}
use Rattle.tp_jobs.proofs.waiting_queue.has_copy_for.Goals as goal

-- whether a copy is for the tray
abbrev is_for : List Job → LocId → WaitingCopy → Bool
is_for jobs tray w = (tray_of jobs w.sheet).0 == tray.0

-- the tray of a copy, as the loop reads it
tray-read : (jobs : List Job) (w : WaitingCopy) (job : Job) → IsOfJob jobs w → (tray_of jobs w.sheet).0 ≡ (get_or jobs w.sheet.job job).tray.0
tray-read jobs w job known = ap (λ o. (tray_in o).0) (slice_get-get_or jobs w.sheet.job job known)

same : (a b : ℕ) → a ≡ b → (a == b) ≡ true
same a b e = grind (arith, nat_tests)

other : (a b : ℕ) → a ≢ b → (a == b) ≡ false
other a b e = grind (arith, nat_tests)

pub returns-then-own-tray : goal.returns-then-own-tray
returns-then-own-tray c =
    let jobs = c.args.jobs.now in
    let w = c.in-Some.copy.now in
    let rest = deque_iter_rest c.next.new.self in
    let step : deque_iter_rest c.loop-copy.copy-iterator ≡ w ∷ rest = c.in-Some.ensures.steps in
    let known = All-head (IsOfJob jobs) w rest (subst (All (IsOfJob jobs)) step c.loop-copy.invariant.jobs) in
    let is : is_for jobs c.args.tray w ≡ true = same _ _ (tray-read jobs w c.index-jobs-copy.result known ∙ c.if-own-tray.true) in
    ap (λ b. b || has_waiting jobs rest c.args.tray) (sym is) ∙ (λ k. has_waiting jobs (sym step k) c.args.tray) ∙ c.loop-copy.invariant.waits

pub loop-copy-preserved : goal.loop-copy-preserved
loop-copy-preserved c =
    let jobs = c.args.jobs.now in
    let w = c.in-Some.copy.now in
    let rest = deque_iter_rest c.next.new.self in
    let step : deque_iter_rest c.loop-copy.copy-iterator ≡ w ∷ rest = c.in-Some.ensures.steps in
    let all = subst (All (IsOfJob jobs)) step c.loop-copy.invariant.jobs in
    let tray = tray-read jobs w c.index-jobs-copy.result (All-head (IsOfJob jobs) w rest all) in
    let fails : is_for jobs c.args.tray w ≡ false = other _ _ (λ e. c.if-own-tray.false (sym tray ∙ e)) in
    record {
      jobs = All-tail (IsOfJob jobs) w rest all;
      waits = ap (λ b. b || has_waiting jobs rest c.args.tray) (sym fails) ∙ (λ k. has_waiting jobs (sym step k) c.args.tray) ∙ c.loop-copy.invariant.waits;
    }
