-- A module goes out: a jam loses the copies that run on it. Others that are to run on it are withdrawn where they have
-- not started, and cut where they are in flight. Then each displaced copy falls back.
use Rattle.std.specs.Prelude.{ℕ, Bool, true, false, not, ◌&&◌, List, [], ◌∷◌, ◌++◌, flat_map, if◌then◌else◌}
use Rattle.tp_machine.specs.declared.machine.Machine.{Machine}
use Rattle.tp_schedule.specs.declared.parts.Plan.{Plan}
use Rattle.tp_schedule.specs.declared.records.Record.{Record}
use Rattle.tp_event_rules.specs.States.{SessionState, Outcome, and_then, for_each}
use Rattle.tp_machine.specs.ModuleUse.{put_out}
use Rattle.tp_event_rules.specs.Moments.{is_unstarted, is_to_tray, is_running_on, is_to_run_on}
use Rattle.tp_event_rules.specs.Fates as fates
use Rattle.tp_event_rules.specs.Fates.{Fate, told_by, befall}
use Rattle.tp_event_rules.specs.FallBacks.{Displaced, is_copy, fall_back_unless_broken}

abbrev pub is_lost_by : Machine → ℕ → Bool → SessionState → Plan → Bool
is_lost_by machine m jam s p = jam && is_copy s p && is_running_on machine s.now m p

abbrev pub fate_of_running : Machine → ℕ → Bool → SessionState → Plan → Fate
fate_of_running machine m jam s p = if is_lost_by machine m jam s p then fates.lost else fates.stays

abbrev pub fate_of_others : Machine → ℕ → SessionState → Plan → Fate
fate_of_others machine m s p =
    if not (is_copy s p && is_to_run_on machine s.now m p) then fates.stays else
    (if is_unstarted s.now p then fates.withdrawn else fates.cut)

abbrev pub fate_unless_lost : Machine → ℕ → Bool → SessionState → Plan → Fate
fate_unless_lost machine m jam s p = if is_lost_by machine m jam s p then fates.stays else fate_of_others machine m s p

-- what befalls a copy in the outage itself
abbrev pub fate_in_outage : Machine → ℕ → Bool → SessionState → Plan → Fate
fate_in_outage machine m jam s p = if is_lost_by machine m jam s p then fates.lost else fate_of_others machine m s p

-- a lost copy that was to go to its tray is displaced, and so is one that is withdrawn
abbrev pub displaced_by : Plan → Fate → List Displaced
displaced_by p fates.stays = []
displaced_by p fates.lost = if is_to_tray p.goal then record { sheet = p.sheet; want = p.want; again = true } ∷ [] else []
displaced_by p fates.withdrawn = record { sheet = p.sheet; want = p.want; again = false } ∷ []
displaced_by p fates.cut = []
displaced_by p fates.purged = []
displaced_by p fates.replaced = []
displaced_by p fates.dropped = []

abbrev pub displaced : Machine → ℕ → Bool → SessionState → List Displaced
displaced machine m jam s = flat_map (λ p. displaced_by p (fate_in_outage machine m jam s p)) s.plans

-- the lost copies are reported first, then the others
abbrev pub told_in_outage : Machine → ℕ → Bool → SessionState → List Record
told_in_outage machine m jam s =
    told_by (fate_of_running machine m jam s) s ++ told_by (fate_unless_lost machine m jam s) s

abbrev pub with_out : ℕ → SessionState → SessionState
with_out m s = record s { outs = put_out s.outs m }

-- the module is out, and the copies have their fates
abbrev pub going_out : Machine → ℕ → Bool → SessionState → Outcome
going_out machine m jam s = record {
  records = told_in_outage machine m jam s;
  state = befall (fate_in_outage machine m jam s) (with_out m s);
}

abbrev pub outage : Machine → ℕ → Bool → SessionState → Outcome
outage machine m jam s =
    and_then (going_out machine m jam s) (for_each fall_back_unless_broken (displaced machine m jam s))
