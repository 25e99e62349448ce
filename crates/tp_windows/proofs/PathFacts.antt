-- The halves that wait beside a path.
use Rattle.std.proofs.Common.{◌≡◌, ℕ, List, [], ◌∷◌, ◌++◌, map, true, ap, sym, subst, ◌∙◌}
use Rattle.std.proofs.lemmas.List.{reverse-append}
use Rattle.tp_machine.specs.declared.machine.Machine.{Machine}
use Rattle.tp_schedule.specs.PlannerAnswers.{IsKnownGoal, IsOpenGoal}
use Rattle.tp_schedule.specs.Spots.{Spot}
use Rattle.tp_schedule.specs.declared.parts.Ask.{Ask}
use Rattle.tp_schedule.specs.declared.parts.Goal.{Goal}
use Rattle.tp_schedule.specs.declared.parts.Goal.TheVariants.{Purge, Tray}
use Rattle.tp_schedule.specs.declared.parts.Plan.{Plan}
use Rattle.tp_constraints.specs.Numbers.{spot_at, table_of}
use Rattle.tp_windows.specs.Halves.{AreLeft, high_half}
use Rattle.tp_windows.specs.Walks.{half_of, halves_of, siblings, waiting_at}
use Rattle.tp_windows.specs.declared.ranges.Side.{Side}
use Rattle.tp_windows.proofs.Waiting.{halves_split}

-- the last side comes first
pub last_half : (table : List Spot) (path : List Side) (side : Side) → halves_of table (path ++ side ∷ []) ≡ half_of table side ∷ halves_of table path
last_half table path side = ap (map (half_of table)) (reverse-append path (side ∷ []))

-- a half that waits is split
pub split_left : (machine : Machine) (plans : List Plan) (ask : Ask) (path : List Side) (side : Side) (limit : ℕ) → side.later ≡ true → AreLeft machine plans ask (waiting_at (table_of plans) path) limit → AreLeft machine plans ask (waiting_at (table_of plans) (path ++ side ∷ [])) limit
split_left machine plans ask path side limit later left =
    let table = table_of plans in
    let halves = halves_of table path in
    let spot = spot_at table side.point.0 in
    let half-is : half_of table side ≡ high_half spot side.tick = λ i. record { spot = spot; tick = side.tick; high = later i } in
    let is : halves_of table (path ++ side ∷ []) ≡ high_half spot side.tick ∷ halves = last_half table path side ∙ ap (λ h. h ∷ halves) half-is in
    subst (λ hs. AreLeft machine plans ask (hs ∷ siblings hs) limit) (sym is) (halves_split machine plans ask limit spot side.tick halves (siblings halves) left)

pub known_goal : (machine : Machine) (plans : List Plan) (ask : Ask) (goal : Goal) → IsOpenGoal machine plans ask goal → IsKnownGoal machine goal
known_goal machine plans ask Purge open' = tt
known_goal machine plans ask (Tray t) open' = open'.0
