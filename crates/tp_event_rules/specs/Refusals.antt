-- Which events are refused, and by which cause: the first that applies.
use Rattle.std.specs.Prelude.{ℕ, Bool, false, not, nat_lt, List, [], ◌∷◌, length, Option, Some, None, option_and_then, position, is_some, if◌then◌else◌, ℤ, pos, ◌+ℤ◌, int_lt}
use Rattle.std.specs.Str.{bytes_eq}
use Rattle.tp_machine.specs.ModuleUse.{is_out}
use Rattle.tp_machine.specs.declared.parts.Outs.{Outs}
use Rattle.tp_machine.specs.declared.machine.Machine.{Machine}
use Rattle.tp_script.specs.Form.{GroupForm}
use Rattle.tp_script.specs.declared.event.Event.{Event}
use Rattle.tp_script.specs.declared.event.Event.TheVariants.{Bad, Job as NewJob, Clock, Jam, Off, On, Refill}
use Rattle.tp_schedule.specs.PlannerAnswers.{last_tick}
use Rattle.tp_schedule.specs.declared.records.Cause.{Cause}
use Rattle.tp_schedule.specs.declared.records.Cause.TheVariants.{Syntax, Tray, Media, Named, Waiting, Back, End, Module, Out, NotOn, Feeder as NoFeeder, Endless, Stock}
use Rattle.tp_schedule.specs.declared.parts.Plan.{Plan}
use Rattle.tp_machine.specs.declared.parts.Feeder.{Feeder}
use Rattle.tp_stock.specs.Stock.{feeder_named, free_stock, most_free}
use Rattle.tp_jobs.specs.JobRefusals.{job_fault}
use Rattle.tp_jobs.specs.declared.fault.JobFault.{JobFault}
use Rattle.tp_jobs.specs.declared.fault.JobFault.TheVariants.{Memory, UnknownTray, UnknownMedia, TwiceNamed, TooManyWaiting}
use Rattle.tp_jobs.specs.declared.parts.Job.{Job}
use Rattle.tp_event_rules.specs.States.{SessionState}

-- the number of a module
abbrev pub module_of : Machine → List ℕ → Option ℕ
module_of machine name = position (bytes_eq name) machine.modules

abbrev pub is_out_at : Outs → Option ℕ → Bool
is_out_at outs None = false
is_out_at outs (Some m) = is_out outs m

abbrev pub is_on_at : Outs → Option ℕ → Bool
is_on_at outs None = false
is_on_at outs (Some m) = not (is_out outs m)

-- the cause where it applies; the first of several causes
abbrev pub cause_if : Bool → Cause → Option Cause
cause_if b cause = if b then Some cause else None

abbrev pub first_of_causes : List (Option Cause) → Option Cause
first_of_causes [] = None
first_of_causes (Some cause ∷ causes) = Some cause
first_of_causes (None ∷ causes) = first_of_causes causes

-- the cause by which the lines refuse a job, which want of memory is not
abbrev pub job_cause : JobFault → Option Cause
job_cause Memory = None
job_cause (UnknownTray name) = Some (Tray name)
job_cause (UnknownMedia name) = Some (Media name)
job_cause (TwiceNamed name) = Some (Named name)
job_cause (TooManyWaiting waiting asked) = Some Waiting

-- why a job is refused where these jobs came and so many copies wait
abbrev pub job_refusal : Machine → List Job → ℕ → List ℕ → List ℕ → List ℕ → List GroupForm → Option Cause
job_refusal machine jobs waiting name tray media groups =
    option_and_then job_cause (job_fault machine jobs waiting name tray media groups)

-- why a move of the clock is refused
abbrev pub clock_refusal : ℕ → ℕ → Option Cause
clock_refusal now to = first_of_causes (
    cause_if (nat_lt to now) (Back now) ∷
    cause_if (nat_lt last_tick to) End ∷ [])

-- why a jam, an off and an on are refused where these modules are out. A module that is out may jam again
abbrev pub jam_refusal : Machine → List ℕ → Option Cause
jam_refusal machine name = cause_if (not (is_some (module_of machine name))) (Module name)

abbrev pub off_refusal : Machine → Outs → List ℕ → Option Cause
off_refusal machine outs name = first_of_causes (
    jam_refusal machine name ∷ cause_if (is_out_at outs (module_of machine name)) (Out name) ∷ [])

abbrev pub on_refusal : Machine → Outs → List ℕ → Option Cause
on_refusal machine outs name = first_of_causes (
    jam_refusal machine name ∷ cause_if (is_on_at outs (module_of machine name)) (NotOn name) ∷ [])

-- why a refill is refused: no feeder has the name, its stock is endless, or too many sheets were free then
abbrev pub stock_refusal : List ℕ → ℕ → Option ℤ → Option Cause
stock_refusal name count None = Some (Endless name)
stock_refusal name count (Some free) = cause_if (int_lt (pos most_free) (free +ℤ pos count)) (Stock name)

abbrev pub feeder_refusal : Machine → List ℤ → List Plan → List ℕ → ℕ → Option Feeder → Option Cause
feeder_refusal machine refills plans name count None = Some (NoFeeder name)
feeder_refusal machine refills plans name count (Some f) = stock_refusal name count (free_stock machine refills plans f)

abbrev pub refill_refusal : Machine → List ℤ → List Plan → List ℕ → ℕ → Option Cause
refill_refusal machine refills plans name count = feeder_refusal machine refills plans name count (feeder_named machine name)

-- why the event is refused, if it is
abbrev pub refusal : Machine → SessionState → Event → Option Cause
refusal machine s Bad = Some Syntax
refusal machine s (NewJob name tray media groups) = job_refusal machine s.jobs (length s.waiting) name tray media groups
refusal machine s (Clock to) = clock_refusal s.now to
refusal machine s (Jam name) = jam_refusal machine name
refusal machine s (Off name) = off_refusal machine s.outs name
refusal machine s (On name) = on_refusal machine s.outs name
refusal machine s (Refill name count) = refill_refusal machine s.refills s.plans name count
