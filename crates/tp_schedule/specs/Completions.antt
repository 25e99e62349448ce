-- The schedule that a complete choice list and its ticks make.
use Rattle.std.specs.Prelude.{ℕ, ◌+◌, ◌-◌, ◌&&◌, nat_le, List, [], ◌++◌, length, map, if◌then◌else◌}
use Rattle.tp_schedule.specs.Plans.{without, put_plan, is_same_copy}
use Rattle.tp_schedule.specs.Answers.{kept_of, kept_acts}
use Rattle.tp_schedule.specs.Spots.{Spot, Ticks}
use Rattle.tp_schedule.specs.Spots.Spot.{kept, own}
use Rattle.tp_schedule.specs.Times.{timed_by}
use Rattle.tp_schedule.specs.Choices.{Choice, acts_of}
use Rattle.tp_schedule.specs.declared.parts.Ask.{Ask}
use Rattle.tp_schedule.specs.declared.parts.Kind.TheVariants.{Whole}
use Rattle.tp_schedule.specs.declared.parts.Plan.{Plan}
use Rattle.tp_schedule.specs.declared.parts.SheetId.{SheetId}

-- the number of actions of the asked copy's plan
abbrev pub total_of : Ask → List Choice → ℕ
total_of ask choices = kept_of ask + length choices

-- the point of the asked plan, which has so many actions, that an own point becomes
abbrev pub settled : SheetId → ℕ → Spot → Spot
settled copy total (kept c i) = kept c i
settled copy total (own n) = kept copy (total - n)

-- the ticks, with those of the own points as ticks of the asked plan's points behind the kept ones
abbrev pub settled_ticks : Ask → ℕ → Ticks → Spot → ℕ
settled_ticks ask total t (kept c i) = if is_same_copy c ask.sheet && nat_le (kept_of ask) i then t (own (total - i)) else t (kept c i)
settled_ticks ask total t (own n) = t (own n)

-- the asked copy's plan by these choices, without points yet
abbrev pub asked_plan : List Plan → Ask → List Choice → Plan
asked_plan plans ask choices = record {
  sheet = ask.sheet;
  name = ask.name;
  want = ask.want;
  goal = ask.goal;
  kind = Whole;
  acts = kept_acts ask.sheet plans ++ acts_of choices;
  points = [];
  released = kept_of ask;
}

-- the schedule with the asked copy's plan, at these ticks
abbrev pub answered : List Plan → Ask → List Choice → Ticks → List Plan
answered plans ask choices t = map (timed_by (settled_ticks ask (total_of ask choices) t)) (put_plan (asked_plan plans ask choices) (without ask.sheet plans))
