-- Where the schedule of a log begins: at nothing on the machine of a text, or where a snapshot stands.
use Rattle.std.specs.Prelude.{◌≡◌, ℕ, suc, Bool, true, false, ◌==◌, List, [], ◌∷◌, ◌++◌, map, length, fold, None, if◌then◌else◌}
use Rattle.tp_machine.specs.ModuleUse.{is_out}
use Rattle.tp_machine.specs.declared.machine.Machine.{Machine}
use Rattle.tp_machine.specs.declared.parts.Outs.{Outs}
use Rattle.tp_machine_text.specs.Texts.{IsMachineText}
use Rattle.tp_schedule.specs.Plans.{is_front}
use Rattle.tp_schedule.specs.declared.parts.Plan.{Plan}
use Rattle.tp_event_rules.specs.Labels.{action_name, end_location, label_by, location_name}
use Rattle.tp_jobs.specs.declared.standing.Standing.{Standing}
use Rattle.tp_snapshot.specs.Rules.{IsSnapshot}
use Rattle.tp_chart.specs.Courses.{Way}
use Rattle.tp_chart.specs.Scenes.{Sight, begun, nothing, planned}
use Rattle.tp_chart.specs.declared.out_span.OutKind.TheVariants as why
use Rattle.tp_chart.specs.declared.out_span.OutSpan.{OutSpan}

-- the way of a live plan; a plan that was cut short is that of a lost copy
abbrev pub way_of : Machine → Plan → Way
way_of machine p = record {
  sheet = label_by p.name p.sheet;
  location = location_name machine (end_location machine p);
  points = p.points;
  acts = map (action_name machine) p.acts;
  released = p.released;
  is_lost = is_front p.kind;
  done = None;
}

-- one more way, last. A copy has one way
abbrev pub with_way : List Way → Way → List Way
with_way ways w = planned w.sheet (λ old. old) w ways

abbrev pub ways_of : Machine → List Plan → List Way
ways_of machine plans = fold (λ ways p. with_way ways (way_of machine p)) [] plans

-- the modules that are out are so from the moment on, and a snapshot does not say why; the first one has the number n
abbrev pub out_spans : Outs → ℕ → ℕ → List (List ℕ) → List OutSpan
out_spans outs moment n [] = []
out_spans outs moment n (name ∷ names) =
    if is_out outs n then begun why.Saved n moment ∷ out_spans outs moment (suc n) names else out_spans outs moment (suc n) names

-- the schedule that a snapshot has
abbrev pub sight_in : Machine → Standing → Sight
sight_in machine t = record nothing {
  moment = t.now;
  courses = ways_of machine t.plans;
  outages = out_spans t.outs t.now 0 machine.modules;
  waiting = length t.waiting;
  before = length t.waiting;
}

-- a text that begins with a brace is read as a snapshot, and any other as a machine text
abbrev pub is_braced : List ℕ → Bool
is_braced [] = false
is_braced (byte ∷ text) = byte == 123

-- the machine, and the beginning of a log on it, of a text that begins with a brace or not
abbrev pub IsStartBy : Bool → List ℕ → Machine → Sight → Type 0
IsStartBy true text machine start = (t : Standing) × IsSnapshot text machine t × (start ≡ sight_in machine t)
IsStartBy false text machine start = IsMachineText text machine × (start ≡ nothing)

-- the text has this machine, and a log on it begins so
abbrev pub IsStart : List ℕ → Machine → Sight → Type 0
IsStart text machine start = IsStartBy (is_braced text) text machine start
