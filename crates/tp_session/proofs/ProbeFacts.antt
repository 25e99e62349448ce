-- The ask for the first sheet of a job that comes now, and what it gives on the whole schedule.
use Rattle.std.proofs.Common.{◌≡◌, ℕ, zero, suc, ◌+◌, ◌<◌, ◌≤◌, Bool, true, false, List, [], ◌∷◌, ◌++◌, length, get_or, slice_get, Option, Some, None, option_map, refl, sym, ap, ◌∙◌, arith, Contains, subst}
use Rattle.std.specs.Bool.{MatchBool}
use Rattle.std.specs.Option.{MatchOption}
use Rattle.std.specs.Prelude.{IsSomeAnd, IsTrue, replicate}
use Rattle.std.proofs.lemmas.List.Elements.{All-cons, All-contains, All-nil, Contains-append_right, Contains-get_or}
use Rattle.std.proofs.lemmas.Option.{get_or_from_slice_get, slice_get_within}
use Rattle.tp_machine.specs.declared.parts.LocId.{LocId}
use Rattle.tp_machine.specs.declared.parts.Sheet.{Sheet}
use Rattle.tp_machine.specs.declared.machine.Machine.{Machine}
use Rattle.tp_schedule.specs.Answers.{IsAlternative, KeepsFloors, NoneBefore}
use Rattle.tp_schedule.specs.Legality.{IsLegal}
use Rattle.tp_schedule.specs.PlannerAnswers.{CanAsk, none_exempt}
use Rattle.tp_schedule.specs.Plans.{end_of_plan, is_before}
use Rattle.tp_schedule.specs.declared.parts.Ask.{Ask}
use Rattle.tp_schedule.specs.declared.parts.Goal.TheVariants.{Tray}
use Rattle.tp_schedule.specs.declared.parts.Origin.TheVariants.{Feeder as FromFeeder}
use Rattle.tp_schedule.specs.declared.parts.Plan.{Plan}
use Rattle.tp_schedule.specs.declared.parts.SheetId.{SheetId}
use Rattle.tp_schedule.proofs.Pairs.{AllPairs-cons, AllPairs-nil}
use Rattle.tp_choices.specs.LiveParts.{MayAskBeside, MayForget, less}
use Rattle.tp_choices.proofs.RejoinedPlans.{join_exists}
use Rattle.tp_choices.proofs.LiveAnswers.{live_answers}
use Rattle.tp_choices.proofs.LiveBounds.{live_bounds_answers, live_has_none}
use Rattle.tp_jobs.specs.Backlogs.{tray_in}
use Rattle.tp_jobs.specs.JobRefusals.{tray_named}
use Rattle.tp_jobs.specs.WaitingCopies.{first_copies, given_tray, has_waiting, new_job, sheet_of, sheets_of}
use Rattle.tp_jobs.specs.declared.parts.Job.{Job}
use Rattle.tp_jobs.specs.declared.parts.WaitingCopy.{WaitingCopy}
use Rattle.tp_script.specs.Form.{GroupForm}
use Rattle.tp_script.specs.declared.event.Event.{Event}
use Rattle.tp_script.specs.declared.event.Event.TheVariants.{Bad, Job as NewJob, Clock, Jam, Off, On, Refill}
use Rattle.tp_search.specs.Trials.{EndsEarliest}
use Rattle.tp_event_rules.specs.AskPhase.{ask_waiting, is_full}
use Rattle.tp_event_rules.specs.StateInvariants.{KeepsLines, live_part}
use Rattle.tp_event_rules.specs.Labels.{job_name_in}
use Rattle.tp_event_rules.specs.Ready.{CanTakeEvents}
use Rattle.tp_event_rules.specs.Refusals.{job_refusal}
use Rattle.tp_event_rules.specs.States.{SessionState}
use Rattle.tp_event_rules.specs.Turns.{with_job}
use Rattle.tp_event_rules.proofs.FirstCopies.{accepted-job}
use Rattle.tp_event_rules.proofs.NewJob.{lines-job}
use Rattle.tp_event_turn.specs.LiveAnswers.{CanAskLive, live_at}
use Rattle.tp_event_turn.proofs.CanAskFacts.{can-ask}
use Rattle.tp_event_turn.proofs.KeptEvents.{events-job}
use Rattle.tp_event_turn.proofs.LiveAnswered.{live-budgets_hold, stays-of}
use Rattle.tp_event_turn.proofs.LiveAsks.{full-same}
use Rattle.tp_event_turn.proofs.LivePast.{both-parts, gone-is, gone_at, may-ask, may-forget}
use Rattle.tp_event_turn.proofs.TurnFacts.{match-false}
use Rattle.tp_event_turn.proofs.LiveStates.{WaitsFree, can-ask-live, same-ask, whole-all}
use Rattle.tp_session.specs.Probes.{AskGives, GivesProbe, IsProbe, Probes, ProbesJob, first_copy}
use Rattle.tp_stock.specs.Stock.{empties}
use Rattle.tp_stream.specs.declared.probe.Probe.{Probe}
use Rattle.tp_stream.specs.declared.probe.Probe.TheVariants.{Ends, Never, Spent, Full, Waits, Refused}

-- The first copy.

-- where a sheet is wanted first, its copy comes first
pub copy-first : (job : ℕ) (wants : List Sheet) (want : Sheet) → slice_get wants 0 ≡ Some want
    → slice_get (first_copies job 1 wants) 0 ≡ Some (record { sheet = record { job = job; number = 1; copy = 1 }; want = want })
copy-first job [] want e = absurd (cc)
copy-first job (v ∷ wants) want e = ap (option_map (λ w. record { sheet = record { job = job; number = 1; copy = 1 }; want = w })) e

-- the first group is of one sheet or more
sheet-first : (media : List ℕ) (g : GroupForm) (groups : List GroupForm) → 1 ≤ g.count → slice_get (sheets_of media (g ∷ groups)) 0 ≡ Some (sheet_of media g)
sheet-first media g groups some = go g.count some where
  go : (count : ℕ) → 1 ≤ count → slice_get (replicate count (sheet_of media g) ++ sheets_of media groups) 0 ≡ Some (sheet_of media g)
  go zero none = absurd (omega arith)
  go (suc count) more = refl

pub sheet-first-of : (media : List ℕ) (groups : List GroupForm) (g : GroupForm) → 0 < length groups → g ≡ get_or groups 0 g → 1 ≤ g.count → slice_get (sheets_of media groups) 0 ≡ Some (sheet_of media g)
sheet-first-of media [] g none is some = absurd (omega arith)
sheet-first-of media (h ∷ groups) g within is some = sheet-first media h groups (subst (λ (k : GroupForm). 1 ≤ k.count) is some) ∙ ap (λ k. Some (sheet_of media k)) (sym is)

-- the last of the jobs
pub last-job : (jobs : List Job) (j : Job) → slice_get (jobs ++ j ∷ []) (length jobs) ≡ Some j
last-job [] j = refl
last-job (i ∷ jobs) j = last-job jobs j

module _ (machine : Machine) (name tray media : List ℕ) (groups : List GroupForm) (s : SessionState) where
  abbrev next : SessionState
  next = with_job machine name tray media groups s

  abbrev copy : Sheet → WaitingCopy
  copy want = record { sheet = record { job = length s.jobs; number = 1; copy = 1 }; want = want }

  -- its ask
  pub ask-first : (want : Sheet) (loc : LocId) → tray_named machine tray ≡ Some loc
      → record { sheet = record { job = length s.jobs; number = 1; copy = 1 }; name = name; want = want; goal = Tray loc; origin = FromFeeder; outs = s.outs; empty = empties machine s.refills s.plans; now = s.now } ≡ ask_waiting machine next (copy want)
  ask-first want loc named =
      let last = last-job s.jobs (new_job machine name tray groups) in
      let name-is : job_name_in (slice_get next.jobs (length s.jobs)) ≡ name = ap job_name_in last in
      let tray-is : tray_in (slice_get next.jobs (length s.jobs)) ≡ loc = ap tray_in last ∙ ap given_tray named in
      λ k. record { sheet = record { job = length s.jobs; number = 1; copy = 1 }; name = sym name-is k; want = want; goal = Tray (sym tray-is k); origin = FromFeeder; outs = s.outs; empty = empties machine s.refills s.plans; now = s.now }

  waits-next : (w : WaitingCopy) → first_copy s media groups ≡ Some w → Contains next.waiting w
  waits-next w first =
      let news = first_copies (length s.jobs) 1 (sheets_of media groups) in
      Contains-append_right s.waiting news w
      (subst (Contains news) (get_or_from_slice_get news 0 w w first) (Contains-get_or news 0 w (slice_get_within news 0 w first)))

  -- it can be asked where the job would be accepted and fewer than 256 copies are live
  pub can-ask-first : (copies : ℕ) → job_refusal machine s.jobs (length s.waiting) name tray media groups ≡ None → CanTakeEvents machine copies s
      → (w : WaitingCopy) → first_copy s media groups ≡ Some w → is_full machine s ≡ false → CanAsk machine s.plans (ask_waiting machine next w)
  can-ask-first copies accepted can w first free =
      can-ask machine (copies + 1) next (events-job machine name tray media groups s accepted copies can).kept w (waits-next w first) free

  -- and on the whole schedule
  pub can-ask-whole : job_refusal machine s.jobs (length s.waiting) name tray media groups ≡ None → KeepsLines s → IsLegal machine s.plans → KeepsFloors machine s.now none_exempt s.plans
      → (w : WaitingCopy) → first_copy s media groups ≡ Some w → CanAskLive machine s.plans (ask_waiting machine next w)
  can-ask-whole accepted lines legal floors w first =
      let whole = whole-all machine next (lines-job machine name tray media groups s (accepted-job machine s.jobs (length s.waiting) name tray media groups accepted) lines) legal floors in
      can-ask-live machine next w [] (record {
        legal = legal;
        floors = floors;
        in_order = AllPairs-cons (λ v w. IsTrue (is_before v.sheet w.sheet)) w [] (All-nil (λ v. IsTrue (is_before w.sheet v.sheet))) (AllPairs-nil (λ v w. IsTrue (is_before v.sheet w.sheet)));
        free = All-cons (WaitsFree machine next) w [] (All-contains (WaitsFree machine next) next.waiting w whole.free (waits-next w first)) (All-nil (WaitsFree machine next));
      })

  -- what it gives is what a probe tells, where the job would be accepted, no copy of its line waits, and there is room for one more
  pub probes-first : (nodes : ℕ) → job_refusal machine s.jobs (length s.waiting) name tray media groups ≡ None → has_waiting s.jobs s.waiting (given_tray (tray_named machine tray)) ≡ false → is_full machine s ≡ false
      → (w : WaitingCopy) → first_copy s media groups ≡ Some w → GivesProbe machine nodes (NewJob name tray media groups) s (ask_waiting machine next w)
  probes-first nodes accepted none free w first answer gives =
      subst (λ o. MatchOption o (ProbesJob machine nodes s name tray media groups answer) (λ cause. answer ≡ Refused)) (sym accepted)
      (match-false (has_waiting s.jobs s.waiting (given_tray (tray_named machine tray))) _ _ none
      (match-false (is_full machine s) _ _ free
      (subst (λ o. IsSomeAnd o (λ w. AskGives nodes machine s.plans (ask_waiting machine next w) answer)) (sym first) gives)))

-- What an ask gives on the live part, it gives on the whole schedule.
module _ (machine : Machine) (plans : List Plan) (ask : Ask) (can : CanAskLive machine plans ask) where
  abbrev gone : SheetId → Bool
  gone = gone_at machine ask.now plans

  f : MayForget machine ask.now plans gone
  f = may-forget machine ask.now plans can.legal can.floors

  b : MayAskBeside machine plans ask gone
  b = may-ask machine plans ask can

  part : live_at machine ask.now plans ≡ less gone plans
  part = sym (both-parts machine ask.now gone plans (gone-is machine ask.now plans can.legal.in_order)).0

  ends-on : (end : ℕ) → EndsEarliest machine (less gone plans) ask end → EndsEarliest machine plans ask end
  ends-on end (live, to) =
      let a = to.earliest.alternative in
      let join = join_exists gone plans live f.legal.in_order a.legal.in_order (stays-of machine plans ask gone live b.stays a) in
      let on = live_answers machine plans live join.0 ask gone f b join.1 a in
      let ends : end_of_plan on.0.plan ≡ end = ap end_of_plan on.1 ∙ to.ends in
      let none = live_bounds_answers machine plans ask gone (end_of_plan a.plan) f b.stays to.earliest.first in
      (join.0, record { earliest = record { alternative = on.0; first = subst (NoneBefore machine plans ask) (sym (ap end_of_plan on.1)) none }; ends = ends })

  pub gives-on : (nodes : ℕ) (answer : Probe) → AskGives nodes machine (live_at machine ask.now plans) ask answer → AskGives nodes machine plans ask answer
  gives-on nodes (Ends end) to = ends-on end (subst (λ ps. EndsEarliest machine ps ask end) part to)
  gives-on nodes Never none = live_has_none machine plans ask gone f b.stays (subst (λ ps. (other : List Plan) → ¬ IsAlternative machine ps ask other) part none)
  gives-on nodes (Spent bound) spent = live-budgets_hold nodes machine plans ask bound can spent
  gives-on nodes Full none = absurd none
  gives-on nodes Waits none = absurd none
  gives-on nodes Refused none = absurd none

-- A probe of the live part is one of the whole state.
module _ (machine : Machine) (nodes : ℕ) (whole : SessionState) (lines : KeepsLines whole) (legal : IsLegal machine whole.plans) (floors : KeepsFloors machine whole.now none_exempt whole.plans) where
  job-on : (name tray media : List ℕ) (groups : List GroupForm) (answer : Probe) → job_refusal machine whole.jobs (length whole.waiting) name tray media groups ≡ None
      → ProbesJob machine nodes (live_part machine whole) name tray media groups answer → ProbesJob machine nodes whole name tray media groups answer
  job-on name tray media groups answer accepted probes =
      go (has_waiting whole.jobs whole.waiting (given_tray (tray_named machine tray))) (is_full machine (live_part machine whole)) (is_full machine whole) (full-same machine whole) (first_copy whole media groups) refl probes where
        go : (waits full full' : Bool) → full ≡ full' → (o : Option WaitingCopy) → first_copy whole media groups ≡ o
            → MatchBool waits (answer ≡ Waits) (MatchBool full (answer ≡ Full) (IsSomeAnd o (λ w. AskGives nodes machine (live_at machine whole.now whole.plans) (ask_waiting machine (live_part machine (with_job machine name tray media groups whole)) w) answer)))
            → MatchBool waits (answer ≡ Waits) (MatchBool full' (answer ≡ Full) (IsSomeAnd o (λ w. AskGives nodes machine whole.plans (ask_waiting machine (with_job machine name tray media groups whole) w) answer)))
        go true full full' same o e told = told
        go false true true same o e told = told
        go false true false same o e told = absurd (cc)
        go false false true same o e told = absurd (cc)
        go false false false same None e told = absurd told
        go false false false same (Some w) e told =
            gives-on machine whole.plans (ask_waiting machine (with_job machine name tray media groups whole) w) (can-ask-whole machine name tray media groups whole accepted lines legal floors w e) nodes answer
            (subst (λ ask. AskGives nodes machine (live_at machine whole.now whole.plans) ask answer) (same-ask machine (with_job machine name tray media groups whole) w) told)

  pub probe-on : (event : Event) (answer : Probe) → IsProbe machine nodes event (live_part machine whole) answer → IsProbe machine nodes event whole answer
  probe-on (NewJob name tray media groups) answer probes = go (job_refusal machine whole.jobs (length whole.waiting) name tray media groups) refl probes where
    go : (o : _) → job_refusal machine whole.jobs (length whole.waiting) name tray media groups ≡ o
        → MatchOption o (ProbesJob machine nodes (live_part machine whole) name tray media groups answer) (λ cause. answer ≡ Refused)
        → MatchOption o (ProbesJob machine nodes whole name tray media groups answer) (λ cause. answer ≡ Refused)
    go None e told = job-on name tray media groups answer e told
    go (Some cause) e told = told
  probe-on Bad answer told = told
  probe-on (Clock to) answer told = told
  probe-on (Jam module_name) answer told = told
  probe-on (Off module_name) answer told = told
  probe-on (On module_name) answer told = told
  probe-on (Refill feeder count) answer told = told

-- what is so in the state is so in each whole state behind it
pub probes-behind : (machine : Machine) (nodes : ℕ) (bounds : Bool) (s : SessionState) (event : Event) (answer : Probe) → IsProbe machine nodes event s answer → Probes (record { machine = machine; budget = nodes; bounds = bounds; state = s }) event answer
probes-behind machine nodes bounds s event answer told = record {
  here = told;
  on_whole = λ whole w. probe-on machine nodes whole w.through.lines w.through.plans.legal w.through.plans.floors event answer (subst (λ r. IsProbe machine nodes event r answer) (sym w.live) told);
}
