-- When copies can fall back: one that gives its tray up, and the displaced ones one after another.
use Rattle.std.specs.Prelude.{◌<◌, true, List, [], ◌∷◌, length}
use Rattle.tp_schedule.specs.Plans.{change_plan}
use Rattle.tp_schedule.specs.declared.parts.Ask.{Ask}
use Rattle.tp_schedule.specs.declared.parts.SheetId.{SheetId}
use Rattle.tp_event_rules.specs.Fates.{to_purge}
use Rattle.tp_event_rules.specs.FallBacks.{Displaced, fall_back_unless_broken}
use Rattle.tp_event_rules.specs.Seen.{HasNextCopy}
use Rattle.tp_event_rules.specs.States.{SessionState}
use Rattle.tp_replan.specs.Open.{CanFall, to_wait}

-- the displaced copy is of a job that came, and can have a next one
pub record IsDisplaced (s : SessionState) (d : Displaced) : Type 0 where
  pub known : d.sheet.job < length s.jobs
  pub next : HasNextCopy d.sheet
  pub can : CanFall s (to_wait d)

-- each displaced copy can fall back when its turn comes
abbrev pub CanAllFall : List Displaced → SessionState → Type 0
CanAllFall [] s = Unit {0}
CanAllFall (d ∷ ds) s = IsDisplaced s d × CanAllFall ds (fall_back_unless_broken s d).state

-- the state where the copy is to be purged
abbrev pub aimed_at_purge : SheetId → SessionState → SessionState
aimed_at_purge copy s = record s { plans = change_plan copy to_purge s.plans }

-- the asked copy can fall back once it is to be purged
abbrev pub CanGiveUp : Ask → SessionState → Type 0
CanGiveUp ask s = IsDisplaced (aimed_at_purge ask.sheet s) (record { sheet = ask.sheet; want = ask.want; again = true })
