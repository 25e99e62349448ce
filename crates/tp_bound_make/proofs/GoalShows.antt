-- The node of a goal that is opened.
use Rattle.std.proofs.Common.{◌≡◌, ℕ, ◌<◌, ◌≤◌, true, List, [], ◌∷◌, ◌++◌, length, refl, sym, ◌∙◌, ap, subst, arith, Option, Some, None}
use Rattle.std.specs.Prelude.{pos, IfSome, MatchOption}
use Rattle.std.proofs.lemmas.List.{append-nil}
use Rattle.tp_base.specs.Readings.{Reading}
use Rattle.tp_bounds.specs.declared.tree.Close.TheVariants.{Dead}
use Rattle.tp_bounds.specs.declared.tree.Head.TheVariants.{Goal as GoalHead}
use Rattle.tp_bounds.specs.declared.tree.Node.{Node}
use Rattle.tp_bounds.specs.declared.tree.TreeRow.{TreeRow}
use Rattle.tp_machine.specs.declared.parts.State.{State}
use Rattle.tp_machine.specs.declared.machine.Machine.{Machine}
use Rattle.tp_schedule.specs.Answers.{kept_of}
use Rattle.tp_schedule.specs.Routes.{IsGoalState, IsRoom}
use Rattle.tp_schedule.specs.declared.parts.Ask.{Ask}
use Rattle.tp_schedule.specs.declared.parts.Plan.{Plan}
use Rattle.tp_constraints.specs.Suffixes.{with_goal}
use Rattle.tp_placing.specs.Boards.{BoardValue, content_of, suffix_of}
use Rattle.tp_routes.specs.Numbers.{number_of}
use Rattle.tp_routes.specs.Tables.{sum_at}
use Rattle.tp_bound_laws.specs.Places.Due.{goal}
use Rattle.tp_bound_laws.specs.Places.{Due, or_zero, stand_of}
use Rattle.tp_bound_laws.specs.Rows.{row_of}
use Rattle.tp_bound_laws.specs.Trees.{dead_look}
use Rattle.tp_bound_laws.proofs.RowFacts.{state-refl}
use Rattle.tp_constraints.specs.Ends.{HasEndBy}
use Rattle.tp_constraints.proofs.WaySteps.{goal-way}
use Rattle.tp_bound_make.specs.RoomRows.{named}
use Rattle.tp_bound_make.specs.TreeProgress.{Adds, Carries, GoalGoesOn, IsGoalEntered, IsOpen, PutsNode, Shows, branch_by, kids_of}
use Rattle.tp_bound_make.specs.declared.scene.ShowBranch.{ShowBranch}
use Rattle.tp_bound_make.proofs.AddFacts.{adds-node, node-look}
use Rattle.tp_bound_make.proofs.EnterFacts.{carries-same}
use Rattle.tp_bound_make.proofs.RoomTables.{named-state}

abbrev pub goal_below : State → ShowBranch
goal_below s = record { depth = 0; first = s; count = 0; newest = None; places = 0 }

module _ (machine : Machine) (plans : List Plan) (ask : Ask) (sums : List (Option ℕ)) (limit : ℕ) (old new : List Node) (s : State) (known : s.loc.0 < length machine.locations) where
  goal-stands : (rows : List TreeRow) (room : ℕ) → or_zero (row_of machine rows s) ≡ room → stand_of machine plans ask rows (goal s) (GoalHead (named machine s)) ≡ Some (record { branch = branch_by (goal_below s) (with_goal room); span = None })
  goal-stands rows room at =
      let t = state-refl s _ (named-state machine s known) in
      rw t (ap (λ n. Some (record { branch = branch_by (goal_below s) (with_goal n); span = None })) at)

  pub goal-shows : (room : ℕ) → sum_at sums (number_of s) ≡ Some room → (more : List TreeRow → List Due) → PutsNode machine plans ask limit old new (branch_by (goal_below s) (with_goal room)) (GoalHead (named machine s)) more
      → Shows machine plans ask sums limit old new (λ _. goal s ∷ []) more
  goal-shows room at more put rows has =
      subst (λ ds. Adds machine plans ask rows (pos limit) (goal s ∷ []) old new ds) (append-nil (more rows)) (put rows (goal s) (goal-stands rows room (ap or_zero (has s known ∙ at))))

  pub dead-goal : sum_at sums (number_of s) ≡ None → new ≡ old ++ record { depth = 0; head = GoalHead (named machine s); close = Dead } ∷ [] → Shows machine plans ask sums limit old new (λ _. goal s ∷ []) (λ _. [])
  dead-goal at put rows has =
      let n : Node = record { depth = 0; head = GoalHead (named machine s); close = Dead } in
      let none = has s known ∙ at in
      adds-node machine plans ask rows (pos limit) (goal s) n old new []
      (node-look machine plans ask rows (pos limit) (goal s) n (branch_by (goal_below s) (with_goal 0)) [] (goal-stands rows 0 (ap or_zero none)) refl (ap (dead_look true) none)) put (omega arith) (λ t is. tt)

module _ {N : Type 0} (reading : Reading N) (machine : Machine) (plans : List Plan) (ask : Ask) (sums : List (Option ℕ)) (limit : ℕ) (old new : List Node) where
  pub carries-goal : (b : BoardValue N) (s : State) (room : ℕ) → s.loc.0 < length machine.locations → IsGoalState machine ask.want ask.goal s → IsRoom machine ask s room → kept_of ask ≤ 64 → suffix_of b ≡ Some (with_goal room)
      → Carries reading machine ask b (goal_below s) (with_goal room)
  carries-goal b s room known is_goal is_room kept carried =
      record { carried = carried; going = refl; count = refl; newest = refl; known = known; goal = s; way = goal-way machine b.plans ask s room is_goal is_room kept; few = omega (arith, kept); few_places = omega arith; deep = omega arith }

  pub goal-by : (o : Option ShowBranch) (b b' : BoardValue N) (s : State) (room : ℕ) → s.loc.0 < length machine.locations → sum_at sums (number_of s) ≡ Some room → Carries reading machine ask b (goal_below s) (with_goal room) → content_of reading b' ≡ content_of reading b → b'.plans ≡ b.plans
      → MatchOption o (PutsNode machine plans ask limit old new (branch_by (goal_below s) (with_goal room)) (GoalHead (named machine s)) (λ _. []))
      (λ r. (r ≡ goal_below s) × PutsNode machine plans ask limit old new (branch_by (goal_below s) (with_goal room)) (GoalHead (named machine s)) (λ rows. kids_of machine plans ask rows (branch_by (goal_below s) (with_goal room))))
      → IfSome o (λ _. IsOpen machine ask (goal_below s)) → IfSome o (λ _. HasEndBy machine plans ask (with_goal room) limit) → IsGoalEntered reading machine plans ask sums limit old new b' s o
  goal-by None b b' s room known at c same loaded put may early = goal-shows machine plans ask sums limit old new s known room at (λ _. []) put
  goal-by (Some r) b b' s room known at c same loaded put may early =
      subst (GoalGoesOn reading machine plans ask sums limit old new b' s) (sym put.0) (record {
        suffix = with_goal room;
        carries = carries-same reading machine plans ask sums limit old new b b' (goal_below s) (with_goal room) same loaded c;
        is_open = may;
        early = early;
        shows = goal-shows machine plans ask sums limit old new s known room at (λ rows. kids_of machine plans ask rows (branch_by (goal_below s) (with_goal room))) put.1;
      })
