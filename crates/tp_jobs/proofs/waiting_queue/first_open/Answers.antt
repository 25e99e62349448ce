-- A copy whose line is blocked is passed over.
use Rattle.std.proofs.Common.{◌≡◌, ◌∷◌, ◌∙◌, Bool, not, cond, List, Some, get_or, find, All, ap, sym, subst}
use Rattle.std.specs.Option.{option_map}
use Rattle.std.specs.VecDeque.Iter.{deque_iter_rest}
use Rattle.std.proofs.lemmas.List.Elements.{All-head, All-tail}
use Rattle.std.proofs.lemmas.Option.{slice_get-get_or}
use Rattle.tp_jobs.specs.Backlogs.{IsOfJob, tray_in}
use Rattle.tp_jobs.specs.NextTry.{is_blocked, is_open}
use Rattle.tp_jobs.specs.declared.parts.Job.{Job}
use Rattle.tp_jobs.specs.declared.parts.WaitingCopy.{WaitingCopy}
use Rattle.tp_jobs.proofs.waiting_queue.first_open.Goals as goal

-- the test of the loop
open-test : (jobs : List Job) (marks : List Bool) (w : WaitingCopy) (job : Job) (blocked : Bool) → IsOfJob jobs w → blocked ≡ is_blocked marks (get_or jobs w.sheet.job job).tray → is_open jobs marks w ≡ not blocked
open-test jobs marks w job blocked known test = ap (λ j. not (is_blocked marks (tray_in j))) (slice_get-get_or jobs w.sheet.job job known) ∙ ap not (sym test)

pub returns-then-not-contains : goal.returns-then-not-contains
returns-then-not-contains c =
    let jobs = c.args.jobs.now in
    let marks = c.args.blocked.now in
    let w = c.in-Some.copy.now in
    let rest = deque_iter_rest c.next.new.self in
    let step : deque_iter_rest c.loop-copy.copy-iterator ≡ w ∷ rest = c.in-Some.ensures.steps in
    let known = All-head (IsOfJob jobs) w rest (subst (All (IsOfJob jobs)) step c.loop-copy.invariant.jobs) in
    let passes = open-test jobs marks w c.index-jobs-copy.result c.contains.result known c.contains.ensures ∙ ap not c.if-not-contains.true in
    ap (option_map (λ v. v.sheet)) (ap (λ b. cond b (Some w) (find (is_open jobs marks) rest)) (sym passes) ∙ ap (find (is_open jobs marks)) (sym step) ∙ c.loop-copy.invariant.found)

pub loop-copy-preserved : goal.loop-copy-preserved
loop-copy-preserved c =
    let jobs = c.args.jobs.now in
    let marks = c.args.blocked.now in
    let w = c.in-Some.copy.now in
    let rest = deque_iter_rest c.next.new.self in
    let step : deque_iter_rest c.loop-copy.copy-iterator ≡ w ∷ rest = c.in-Some.ensures.steps in
    let all = subst (All (IsOfJob jobs)) step c.loop-copy.invariant.jobs in
    let fails = open-test jobs marks w c.index-jobs-copy.result c.contains.result (All-head (IsOfJob jobs) w rest all) c.contains.ensures ∙ ap not c.if-not-contains.false in
    record {
      jobs = All-tail (IsOfJob jobs) w rest all;
      found = ap (λ b. cond b (Some w) (find (is_open jobs marks) rest)) (sym fails) ∙ ap (find (is_open jobs marks)) (sym step) ∙ c.loop-copy.invariant.found;
    }
