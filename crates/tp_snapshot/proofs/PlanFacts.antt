-- A plan of its parts.
use Rattle.std.proofs.Common.{◌≡◌, ℕ, ◌+◌, true, List, Some, refl}
use Rattle.std.specs.Prelude.{codes, slice_get}
use Rattle.serde_json.specs.Data.{Data}
use Rattle.tp_machine.specs.declared.machine.Machine.{Machine}
use Rattle.tp_schedule.specs.declared.parts.Goal.{Goal}
use Rattle.tp_jobs.specs.Backlogs.{names_of}
use Rattle.tp_jobs.specs.declared.parts.Job.{Job}
use Rattle.tp_snapshot.specs.declared.course.TimedActs.{TimedActs}
use Rattle.tp_snapshot.specs.declared.course.Owner.{Owner}
use Rattle.tp_snapshot.specs.Plans.{course_of, goal_in, owner_of, plan_from, plan_of, plan_with}
use Rattle.tp_snapshot.specs.Values.{field_of, has_members}

pub plan-made : (m : Machine) (now : ℕ) (jobs : List Job) (d : Data) (owner : Owner) (job : Job) (course : TimedActs) (goal : Goal) → has_members 6 d ≡ true → owner_of (names_of jobs) d ≡ Some owner → slice_get jobs owner.sheet.job ≡ Some job → course_of m d ≡ Some course
    → field_of (codes "goal") (goal_in m job.tray) d ≡ Some goal → plan_of m now jobs d ≡ Some (plan_with (now + m.lead) job owner course goal)
unfolding plan_of plan_from
plan-made m now jobs d owner job course goal six o j c g = rw (six, o, j, c, g) refl
