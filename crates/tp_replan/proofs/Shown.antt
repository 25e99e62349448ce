-- The moment stays through an outage, so that schedule, lines and modules show the state after it.
use Rattle.std.proofs.Common.{◌≡◌, ℕ, Bool, List, ap, ◌∙◌}
use Rattle.std.specs.Prelude.{Result, Ok, Err, OnOk}
use Rattle.tp_machine.specs.declared.machine.Machine.{Machine}
use Rattle.tp_schedule.specs.declared.records.Record.{Record}
use Rattle.tp_event_rules.specs.Outages.{outage}
use Rattle.tp_event_rules.specs.Planners.{GoesOut, PlannerSteps}
use Rattle.tp_event_rules.specs.States.{SessionState}
use Rattle.tp_event_rules.proofs.LessOutages.{outages_keep_moment}
use Rattle.tp_event_rules.proofs.SameMoment.{now-answers}

pub moment-out : {P : Type 0} (steps : PlannerSteps P) (machine : Machine) (s : SessionState) (m : ℕ) (jam : Bool) (p : P) (records : List Record)
    (s' : SessionState) (p' : P) → GoesOut steps machine s m jam p records s' p' → s'.now ≡ s.now
moment-out steps machine s m jam p records s' p' out =
    ap (λ (t : SessionState). t.now) out.loop.state
    ∙ now-answers machine out.loop.answers (outage machine m jam s).state
    ∙ outages_keep_moment machine m jam s

-- what two facts on Ok give
pub on-both : {T E P Q R : Type 0} (r : Result T E) → (P → Q → R) → OnOk r P → OnOk r Q → OnOk r R
on-both (Ok v) f p q = f p q
on-both (Err e) f p q = tt
