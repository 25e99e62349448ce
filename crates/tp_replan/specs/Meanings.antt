-- The fates of copies as calls give them, and the state that they stand in.
use Rattle.std.specs.Prelude.{◌≡◌, ℕ, ◌<◌, ◌≤◌, Bool, true, false, not, List, [], ◌∷◌, ◌++◌, length, map, flat_map, slice_get, Some, None, IsTrue}
use Rattle.tp_machine.specs.declared.machine.Machine.{Machine}
use Rattle.tp_schedule.specs.Plans.{is_before}
use Rattle.tp_schedule.specs.declared.parts.Plan.{Plan}
use Rattle.tp_schedule.specs.declared.parts.SheetId.{SheetId}
use Rattle.tp_schedule.specs.declared.records.Record.{Record}
use Rattle.tp_schedule.specs.declared.records.Record.TheVariants.{Withdraw, Cut as TellsCut, Purge, Again, Drop}
use Rattle.tp_jobs.specs.Backlogs.{next_copy}
use Rattle.tp_jobs.specs.declared.parts.Job.{Job}
use Rattle.tp_jobs.specs.declared.parts.WaitingCopy.{WaitingCopy}
use Rattle.tp_jobs.specs.WaitingCopies.{find_waiting, put_waiting}
use Rattle.tp_event_rules.specs.Fates as fates
use Rattle.tp_event_rules.specs.Fates.{Fate as Befalls, is_cut_by, told_of, waits_for}
use Rattle.tp_event_rules.specs.FallBacks.{Notice, by_copy}
use Rattle.tp_event_rules.specs.Clock.{record_of, release_of}
use Rattle.tp_event_rules.specs.Moments.{due_until, started_count}
use Rattle.tp_event_rules.specs.Labels.{label}
use Rattle.tp_event_rules.specs.States.{Outcome, SessionState}
use Rattle.tp_replan.specs.declared.fate.Fate.{Fate}
use Rattle.tp_replan.specs.declared.fate.Fate.TheVariants.{Stays, Lost, Withdrawn, Cut, Purged, Replaced, Dropped}

abbrev pub meant : Fate → Befalls
meant Stays = fates.stays
meant Lost = fates.lost
meant Withdrawn = fates.withdrawn
meant Cut = fates.cut
meant Purged = fates.purged
meant Replaced = fates.replaced
meant Dropped = fates.dropped

-- each of the plans has the fate that the rule gives it
abbrev pub AreFates : (Plan → Befalls) → List Plan → List Fate → Type 0
AreFates rule plans fates = map meant fates ≡ map rule plans

-- the copy is of one of the jobs
abbrev pub IsKnown : List Job → Plan → Type 0
IsKnown jobs p = p.sheet.job < length jobs

-- what is reported of the copy behind its recalls
abbrev pub told_behind : List Job → Plan → Befalls → List Record
told_behind jobs p fates.stays = []
told_behind jobs p fates.lost = []
told_behind jobs p fates.withdrawn = Withdraw (label jobs p.sheet) ∷ []
told_behind jobs p fates.cut = TellsCut (label jobs p.sheet) ∷ []
told_behind jobs p fates.purged = Purge (label jobs p.sheet) ∷ []
told_behind jobs p fates.replaced = Purge (label jobs p.sheet) ∷ Again (label jobs (next_copy p.sheet)) ∷ []
told_behind jobs p fates.dropped = Drop (label jobs p.sheet) ∷ []

-- what waits where each of the plans has its fate
abbrev pub waits_in : List Plan → List Fate → List WaitingCopy
waits_in [] fates = []
waits_in (p ∷ plans) [] = []
waits_in (p ∷ plans) (f ∷ fates) = waits_for p (meant f) ++ waits_in plans fates

-- none of the copies waits when its turn comes to wait
abbrev pub CanAllWait : List WaitingCopy → List WaitingCopy → Type 0
CanAllWait waiting [] = Unit {0}
CanAllWait waiting (w ∷ more) = (find_waiting w.sheet waiting ≡ None) × CanAllWait (put_waiting waiting w) more

-- a plan that is cut has started
abbrev pub AreCutStarted : ℕ → List Plan → List Fate → Type 0
AreCutStarted now plans fates = (i : ℕ) (p : Plan) (f : Fate) → slice_get plans i ≡ Some p → slice_get fates i ≡ Some f
    → IsTrue (is_cut_by (meant f)) → 1 ≤ started_count now p

-- what is reported of the releases of the plan's actions that are due
abbrev pub told_due : Machine → List Job → ℕ → Plan → List Record
told_due machine jobs last p =
    map (λ run. record_of machine jobs (release_of machine run).tell) (due_until last p)

-- the notes grow by what is reported, and the state is the one that follows
pub record Leads (o : Outcome) (notes notes' : List Record) (s' : SessionState) : Type 0 where
  pub told : notes' ≡ notes ++ o.records
  pub state : s' ≡ o.state

-- the fate where the copy is lost, and the fate where it is not
abbrev pub lost_alone : Fate → Fate
lost_alone Stays = Stays
lost_alone Lost = Lost
lost_alone Withdrawn = Stays
lost_alone Cut = Stays
lost_alone Purged = Stays
lost_alone Replaced = Stays
lost_alone Dropped = Stays

abbrev pub lost_aside : Fate → Fate
lost_aside Stays = Stays
lost_aside Lost = Stays
lost_aside Withdrawn = Withdrawn
lost_aside Cut = Cut
lost_aside Purged = Purged
lost_aside Replaced = Replaced
lost_aside Dropped = Dropped

-- whether the first of the copies that waited does not stand behind the first of the plans
abbrev pub is_copy_next : List SheetId → List Plan → Bool
is_copy_next [] plans = false
is_copy_next (copy ∷ copies) [] = true
is_copy_next (copy ∷ copies) (p ∷ plans) = not (is_before p.sheet copy)

-- what is reported where a job breaks: of copies that waited, and of plans with their fates
abbrev pub notice_of_copy : List Job → SheetId → Notice
notice_of_copy jobs copy = record { sheet = copy; records = Drop (label jobs copy) ∷ [] }

abbrev pub notice_of_plan : List Job → ℕ → (Plan → Befalls) → Plan → Notice
notice_of_plan jobs now rule p = record { sheet = p.sheet; records = told_of jobs now p (rule p) }

abbrev pub told_by_copy : List Job → ℕ → (Plan → Befalls) → List SheetId → List Plan → List Record
told_by_copy jobs now rule copies plans =
    flat_map (λ n. n.records) (by_copy (map (notice_of_copy jobs) copies ++ map (notice_of_plan jobs now rule) plans))

-- the copies stand in their order
abbrev pub StandsBefore : SheetId → SheetId → Type 0
StandsBefore a b = IsTrue (is_before a b)
