-- When fates can befall the copies: of each sheet at most one copy waits, is to wait, or is on its way to the tray.
use Rattle.std.specs.Prelude.{ℕ, ◌+◌, ◌≤◌, Bool, true, false, ◌&&◌, ◌||◌, List, [], ◌∷◌, All, IsTrue, count_by, if◌then◌else◌}
use Rattle.tp_schedule.specs.declared.parts.Plan.{Plan}
use Rattle.tp_schedule.specs.declared.parts.SheetId.{SheetId}
use Rattle.tp_event_rules.specs.Fates as fates
use Rattle.tp_event_rules.specs.Fates.{Fate, is_cut_by}
use Rattle.tp_event_rules.specs.FallBacks.{Displaced, is_copy}
use Rattle.tp_event_rules.specs.StateInvariants.{is_copy_of}
use Rattle.tp_event_rules.specs.Moments.{is_to_tray, started_count}
use Rattle.tp_event_rules.specs.Seen.{HasNextCopy, HasStarted}
use Rattle.tp_event_rules.specs.States.{SessionState}
use Rattle.tp_replan.specs.Meanings.{IsKnown}

-- a planned copy is open where it is not lost and its goal is its tray
abbrev pub is_open : SessionState → Plan → Bool
is_open s p = is_copy s p && is_to_tray p.goal

-- all copies, or those of one sheet
pub record Group : Type 0 where
  pub all : Bool
  pub job : ℕ
  pub number : ℕ

abbrev pub all_copies : Group
all_copies = record { all = true; job = 0; number = 0 }

abbrev pub one_sheet : SheetId → Group
one_sheet copy = record { all = false; job = copy.job; number = copy.number }

abbrev pub is_in : Group → SheetId → Bool
is_in g copy = g.all || is_copy_of g.job g.number copy

-- the most copies that wait: their count with one more fits 32 bits
abbrev pub most_waiting : ℕ
most_waiting = 4294967294

-- at most one copy of a sheet is open
abbrev pub most_in : Group → ℕ
most_in g = if g.all then most_waiting else 1

-- how many copies of the group wait, are open, or are to wait
abbrev pub open_count : Group → SessionState → List SheetId → ℕ
open_count g s pending =
    count_by (λ w. is_in g w.sheet) s.waiting
    + (count_by (λ p. is_open s p && is_in g p.sheet) s.plans + count_by (is_in g) pending)

-- planned copies are of jobs that came and can have a next one, a copy that is to be purged has started, and of each sheet
-- at most one copy waits, is open, or is to wait, and in all so many that one more can wait
pub record CanFall (s : SessionState) (pending : List SheetId) : Type 0 where
  pub known : All (IsKnown s.jobs) s.plans
  pub next : All (λ p. HasNextCopy p.sheet) s.plans
  pub purges : All (HasStarted s.now) s.plans
  pub few : (g : Group) → open_count g s pending ≤ most_in g

-- whether a copy waits after the fate
abbrev pub is_waiting_after : Fate → Bool
is_waiting_after fates.stays = false
is_waiting_after fates.lost = false
is_waiting_after fates.withdrawn = true
is_waiting_after fates.cut = false
is_waiting_after fates.purged = false
is_waiting_after fates.replaced = true
is_waiting_after fates.dropped = false

-- the fate can be the plan's: a plan that is cut has started, and a copy that waits after it was open
pub record Fits (s : SessionState) (p : Plan) (f : Fate) : Type 0 where
  pub started : IsTrue (is_cut_by f) → 1 ≤ started_count s.now p
  pub opens : IsTrue (is_waiting_after f) → IsTrue (is_open s p)

-- the copy of whose sheet a next one is to wait
abbrev pub to_wait : Displaced → List SheetId
to_wait d = if d.again then d.sheet ∷ [] else []
