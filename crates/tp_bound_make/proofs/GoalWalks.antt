-- A goal state from a mark of the board to the way back, and all of them.
use Rattle.std.proofs.Common.{◌≡◌, ℕ, zero, suc, ◌+◌, ◌-◌, ◌≤◌, List, [], ◌∷◌, ◌++◌, length, drop, sym, ◌∙◌, add-one, ap, subst, arith, All, Result, Option, Some, None}
use Rattle.std.specs.Prelude.{map, pos, slice_get}
use Rattle.std.specs.Result.{OnOk}
use Rattle.std.proofs.lemmas.List.{append-nil, drop_all, length-append}
use Rattle.std.proofs.lemmas.List.Elements.{All-nil}
use Rattle.tp_base.specs.Readings.{Reading}
use Rattle.tp_bounds.specs.declared.tree.Node.{Node}
use Rattle.tp_bounds.specs.declared.tree.TreeRow.{TreeRow}
use Rattle.tp_machine.specs.declared.parts.State.{State}
use Rattle.tp_machine.specs.declared.machine.Machine.{Machine}
use Rattle.tp_schedule.specs.declared.parts.Ask.{Ask}
use Rattle.tp_schedule.specs.declared.parts.Plan.{Plan}
use Rattle.tp_constraints.specs.Suffixes.{Suffix}
use Rattle.tp_placing.specs.Boards.{BoardValue, content_of, past_of, suffix_of}
use Rattle.tp_placing.specs.Laws.{MarkKeeps}
use Rattle.tp_bound_laws.specs.Places.Due.{goal}
use Rattle.tp_bound_laws.specs.Places.{Due, goal_states}
use Rattle.tp_bound_laws.specs.Once.{PassOnce}
use Rattle.tp_bound_laws.specs.Short.{IsOfFewHops}
use Rattle.tp_bound_laws.specs.Trees.{Covers, goals_due}
use Rattle.tp_bound_make.specs.RoomRows.{HasRooms}
use Rattle.tp_bound_make.specs.TreeProgress.{Adds, CoversBriefly, GoalGoesOn, HasMarks, IsGoalEntered, IsSet, IsSince, LeadsTo, Shows, branch_by, kids_of}
use Rattle.tp_bound_make.specs.declared.scene.ShowBranch.{ShowBranch}
use Rattle.tp_bound_make.proofs.AddFacts.{adds-behind}
use Rattle.tp_bound_make.proofs.CarryFacts.{suffix-same}
use Rattle.tp_bound_make.proofs.MarkSteps.{IsMarked, load-of}
use Rattle.tp_bound_make.proofs.ReasonFacts.{on-map}
use Rattle.tp_bound_make.proofs.WalkFacts.{shows-trans}

module _ {N A : Type 0} (reading : Reading N) (untouched : N → A) (machine : Machine) (ask : Ask) where
  -- the board is marked, with no goal open
  pub record IsAtGoal (b b' : BoardValue N) : Type 0 where
    pub set : IsSet reading machine ask b'
    pub plans : b'.plans ≡ b.plans
    pub closed : suffix_of b' ≡ None
    pub spare : length (past_of reading b') + 325 ≤ reading.max_marks b'.net - 1

  pub at-goal : MarkKeeps reading untouched → (b b' : BoardValue N) (mark : ℕ) → IsMarked reading untouched b b' mark → IsSet reading machine ask b → suffix_of b ≡ None → HasMarks reading 326 b
      → IsAtGoal b b'
  at-goal keeps b b' mark m set closed marks =
      let load = load-of reading untouched b b' m.untouched_same in
      let more = ap length m.past_more in
      let one = length-append (past_of reading b) (content_of reading b ∷ []) in
      let room = m.room_same in
      record {
        set = record { stands = keeps b b' machine m.content_same m.untouched_same m.past_more set.stands; asked = load.ask ∙ set.asked; goal = set.goal };
        plans = load.plans;
        closed = suffix-same reading (λ _ _. ⊥) machine ask b b' m.content_same ∙ closed;
        spare = omega (arith, more, one, room, marks);
      }

  module _ (sums : List (Option ℕ)) (limit : ℕ) (b b1 b2 : BoardValue N) (s : State) where
    abbrev pub HasGoal : List Node → List Node → Type 0
    HasGoal one two = Shows machine b.plans ask sums limit one two (λ _. goal s ∷ []) (λ _. [])

    entered-here : (one two : List Node) (o : Option ShowBranch) → IsAtGoal b b1 → IsGoalEntered reading machine b1.plans ask sums limit one two b2 s o → IsGoalEntered reading machine b.plans ask sums limit one two b2 s o
    entered-here one two o at entered = subst (λ ps. IsGoalEntered reading machine ps ask sums limit one two b2 s o) at.plans entered

    pub goal-none : (one two : List Node) (o : Option ShowBranch) → IsAtGoal b b1 → o ≡ None → IsGoalEntered reading machine b1.plans ask sums limit one two b2 s o → HasGoal one two
    goal-none one two o at none entered = subst (IsGoalEntered reading machine b.plans ask sums limit one two b2 s) none (entered-here one two o at entered)

    pub goal-goes : (one two : List Node) (o : Option ShowBranch) (child : ShowBranch) → IsAtGoal b b1 → o ≡ Some child → IsGoalEntered reading machine b1.plans ask sums limit one two b2 s o
        → GoalGoesOn reading machine b.plans ask sums limit one two b2 s child
    goal-goes one two o child at some entered = subst (IsGoalEntered reading machine b.plans ask sums limit one two b2 s) some (entered-here one two o at entered)

    pub goal-some : {X E : Type 0} (one two three : List Node) (o : Option ShowBranch) (child : ShowBranch) (result : Result X E) → IsAtGoal b b1 → IsSince reading b1 b2 machine → o ≡ Some child
        → IsGoalEntered reading machine b1.plans ask sums limit one two b2 s o
        → OnOk result ((y : Suffix) → suffix_of b2 ≡ Some y → Shows machine b2.plans ask sums limit two three (λ rows. kids_of machine b2.plans ask rows (branch_by child y)) (λ _. [])) → OnOk result (HasGoal one three)
    goal-some one two three o child result at since some entered shown =
        let Sub = λ (ps : List Plan). (y : Suffix) → suffix_of b2 ≡ Some y → Shows machine ps ask sums limit two three (λ rows. kids_of machine ps ask rows (branch_by child y)) (λ _. []) in
        let g = goal-goes one two o child at some entered in
        on-map (Sub b2.plans) (HasGoal one three) result
        (λ sub. shows-trans machine b.plans ask sums limit one two three (λ _. goal s ∷ []) (λ rows. kids_of machine b.plans ask rows (branch_by child g.suffix)) (λ _. []) g.shows (subst Sub (since.load.plans ∙ at.plans) sub g.suffix g.carries.carried))
        shown

-- one goal state more
pub drop-next : {X : Type 0} (xs : List X) (at : ℕ) (x : X) → slice_get xs at ≡ Some x → drop at xs ≡ x ∷ drop (suc at) xs
drop-next [] zero x e = absurd cc
drop-next [] (suc n) x e = absurd cc
drop-next (y ∷ ys) zero x e = let same : y ≡ x = cc in ap (λ z. z ∷ ys) same
drop-next (y ∷ ys) (suc n) x e = drop-next ys n x e

abbrev pub goals_by : List State → List Due
goals_by ss = map (λ s. goal s) ss

pub goals-next : (machine : Machine) (plans plans' : List Plan) (ask : Ask) (sums : List (Option ℕ)) (limit : ℕ) (one two three : List Node) (ss : List State) (at : ℕ) (s : State) → slice_get ss at ≡ Some s → plans' ≡ plans
    → Shows machine plans ask sums limit one two (λ _. goals_by ss) (λ _. goals_by (drop at ss)) → Shows machine plans' ask sums limit two three (λ _. goal s ∷ []) (λ _. []) → Shows machine plans ask sums limit one three (λ _. goals_by ss) (λ _. goals_by (drop (at + 1) ss))
goals-next machine plans plans' ask sums limit one two three ss at s there same before shows =
    let next = ap goals_by (drop-next ss at s there) in
    let shown = subst (λ ps. Shows machine ps ask sums limit two three (λ _. goal s ∷ []) (λ _. [])) same shows in
    subst (λ n. Shows machine plans ask sums limit one three (λ _. goals_by ss) (λ _. goals_by (drop n ss))) (sym (add-one at))
    (shows-trans machine plans ask sums limit one two three (λ _. goals_by ss) (λ _. goal s ∷ goals_by (drop (suc at) ss)) (λ _. goals_by (drop (suc at) ss))
    (subst (λ us. Shows machine plans ask sums limit one two (λ _. goals_by ss) (λ _. us)) next before)
    (λ rows has. adds-behind machine plans ask rows (pos limit) (goal s ∷ []) [] (goals_by (drop (suc at) ss)) two three (shown rows has)))

-- behind the last goal state none is left
pub goals-last : (machine : Machine) (plans : List Plan) (ask : Ask) (sums : List (Option ℕ)) (limit : ℕ) (one two : List Node) (ss : List State) (at : ℕ) → length ss ≤ at
    → Shows machine plans ask sums limit one two (λ _. goals_by ss) (λ _. goals_by (drop at ss)) → Shows machine plans ask sums limit one two (λ _. goals_by ss) (λ _. [])
goals-last machine plans ask sums limit one two ss at past shows = subst (λ us. Shows machine plans ask sums limit one two (λ _. goals_by ss) (λ _. us)) (ap goals_by (drop_all at ss past)) shows

-- the nodes of all goals cover them
pub covers-all : (machine : Machine) (plans : List Plan) (ask : Ask) (sums : List (Option ℕ)) (limit : ℕ) (start nodes : List Node) (ss : List State) (rows : List TreeRow) → HasRooms machine sums rows → start ≡ [] → ss ≡ goal_states machine ask.want ask.goal
    → Shows machine plans ask sums limit start nodes (λ _. goals_by ss) (λ _. []) → Covers machine plans ask rows (pos limit) (goals_due machine plans ask rows (pos limit)) nodes × All IsOfFewHops nodes
    × PassOnce machine plans ask rows (pos limit) (goals_due machine plans ask rows (pos limit)) nodes
unfolding CoversBriefly
covers-all machine plans ask sums limit start nodes ss rows has none are shows =
    let goals = goals_due machine plans ask rows (pos limit) in
    let adds = subst (λ (us : List State). Adds machine plans ask rows (pos limit) (goals_by us) [] nodes []) are (subst (λ ns. Adds machine plans ask rows (pos limit) (goals_by ss) ns nodes []) none (shows rows has)) in
    let at_first : LeadsTo machine plans ask rows (pos limit) goals [] (goals ++ []) = λ tail covers. subst (λ ds. CoversBriefly machine plans ask rows (pos limit) ds tail) (append-nil goals) covers in
    subst (CoversBriefly machine plans ask rows (pos limit) goals) (append-nil nodes) (adds goals [] at_first [] (tt, All-nil IsOfFewHops, tt))
