-- What befalls the copies when a module goes out: what is reported of a plan, what is left of it, and what waits.
use Rattle.std.specs.Prelude.{ℕ, Bool, true, false, ◌||◌, List, [], ◌∷◌, ◌++◌, map, filter, flat_map}
use Rattle.tp_schedule.specs.declared.parts.Goal.TheVariants.{Purge as ToPurge}
use Rattle.tp_schedule.specs.declared.parts.Plan.{Plan}
use Rattle.tp_schedule.specs.declared.parts.SheetId.{SheetId}
use Rattle.tp_schedule.specs.declared.records.Record.{Record}
use Rattle.tp_schedule.specs.declared.records.Record.TheVariants.{Lost, Recall, Withdraw, Cut, Purge, Again, Drop}
use Rattle.tp_jobs.specs.Backlogs.{next_copy}
use Rattle.tp_jobs.specs.declared.parts.Job.{Job}
use Rattle.tp_jobs.specs.declared.parts.WaitingCopy.{WaitingCopy}
use Rattle.tp_event_rules.specs.States.{SessionState}
use Rattle.tp_event_rules.specs.Lines.{is_lost, put_all_waiting}
use Rattle.tp_event_rules.specs.Labels.{label}
use Rattle.tp_event_rules.specs.Moments.{recalled, front_of}

-- what befalls a copy that has a plan: nothing; it is lost; its plan goes and it waits again; its plan is cut, and it
-- keeps its goal; its plan is cut, and it is to be purged; the same, and its next copy waits; it is gone
pub data Fate : Type 0 where
  stays : Fate
  lost : Fate
  withdrawn : Fate
  cut : Fate
  purged : Fate
  replaced : Fate
  dropped : Fate

abbrev pub recalls : List Job → ℕ → Plan → List Record
recalls jobs now p = map (λ run. Recall (label jobs p.sheet) run.number) (recalled now p)

-- what is reported of the copy
abbrev pub told_of : List Job → ℕ → Plan → Fate → List Record
told_of jobs now p stays = []
told_of jobs now p lost = Lost (label jobs p.sheet) ∷ recalls jobs now p
told_of jobs now p withdrawn = recalls jobs now p ++ Withdraw (label jobs p.sheet) ∷ []
told_of jobs now p cut = recalls jobs now p ++ Cut (label jobs p.sheet) ∷ []
told_of jobs now p purged = recalls jobs now p ++ Purge (label jobs p.sheet) ∷ []
told_of jobs now p replaced = recalls jobs now p ++ Purge (label jobs p.sheet) ∷ Again (label jobs (next_copy p.sheet)) ∷ []
told_of jobs now p dropped = recalls jobs now p ++ Drop (label jobs p.sheet) ∷ []

abbrev pub to_purge : Plan → Plan
to_purge p = record p { goal = ToPurge }

-- what is left of the plan. Its holds stand until their ends
abbrev pub left_of : ℕ → Plan → Fate → List Plan
left_of now p stays = p ∷ []
left_of now p lost = front_of now p ∷ []
left_of now p withdrawn = []
left_of now p cut = front_of now p ∷ []
left_of now p purged = to_purge (front_of now p) ∷ []
left_of now p replaced = to_purge (front_of now p) ∷ []
left_of now p dropped = []

-- whether a front is left, so that the copy must have started
abbrev pub is_cut_by : Fate → Bool
is_cut_by stays = false
is_cut_by lost = true
is_cut_by withdrawn = false
is_cut_by cut = true
is_cut_by purged = true
is_cut_by replaced = true
is_cut_by dropped = false

-- what waits after it
abbrev pub waits_for : Plan → Fate → List WaitingCopy
waits_for p stays = []
waits_for p lost = []
waits_for p withdrawn = record { sheet = p.sheet; want = p.want } ∷ []
waits_for p cut = []
waits_for p purged = []
waits_for p replaced = record { sheet = next_copy p.sheet; want = p.want } ∷ []
waits_for p dropped = []

abbrev pub is_loss : Fate → Bool
is_loss stays = false
is_loss lost = true
is_loss withdrawn = false
is_loss cut = false
is_loss purged = false
is_loss replaced = false
is_loss dropped = false

-- what is reported where each planned copy has its fate
abbrev pub told_by : (Plan → Fate) → SessionState → List Record
told_by fate s = flat_map (λ p. told_of s.jobs s.now p (fate p)) s.plans

-- what is then left of the plans, and which copies are lost
abbrev pub left_by : (Plan → Fate) → ℕ → List Plan → List Plan
left_by fate now plans = flat_map (λ p. left_of now p (fate p)) plans

abbrev pub lost_by : (Plan → Fate) → SessionState → List SheetId
lost_by fate s = map (λ p. p.sheet) (filter (λ p. is_lost s p || is_loss (fate p)) s.plans)

-- the state where each planned copy has its fate
abbrev pub befall : (Plan → Fate) → SessionState → SessionState
befall fate s = record s {
  plans = left_by fate s.now s.plans;
  lost = lost_by fate s;
  waiting = put_all_waiting s.waiting (flat_map (λ p. waits_for p (fate p)) s.plans);
}
