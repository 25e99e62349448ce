-- The state before an action, and the node of an action that is opened.
use Rattle.std.proofs.Common.{◌≡◌, ℕ, suc, ◌+◌, ◌<◌, Bool, true, false, cond, List, [], ◌∷◌, ◌++◌, length, refl, sym, ◌∙◌, ap, subst, arith, add-one, find, Option, Some, None, option_and_then, option_map, unwrap_or, IsTrue}
use Rattle.std.specs.Prelude.{pos, IfSome, IfNone}
use Rattle.std.specs.List.{slice_get}
use Rattle.tp_bounds.specs.declared.tree.Close.TheVariants.{Dead}
use Rattle.tp_bounds.specs.declared.tree.Head.TheVariants.{Act as ActHead}
use Rattle.tp_bounds.specs.declared.tree.Node.{Node}
use Rattle.tp_bounds.specs.declared.tree.TreeRow.{TreeRow}
use Rattle.tp_machine.specs.Steps.{Step, step_of}
use Rattle.tp_machine.specs.ModuleUse.{action_at, is_allowed}
use Rattle.tp_machine.specs.declared.parts.Outs.{Outs}
use Rattle.tp_machine.specs.declared.parts.ActId.{ActId}
use Rattle.tp_machine.specs.declared.parts.Action.{Action}
use Rattle.tp_machine.specs.declared.parts.Sheet.{Sheet}
use Rattle.tp_machine.specs.declared.parts.State.{State}
use Rattle.tp_machine.specs.declared.machine.Machine.{Machine}
use Rattle.tp_schedule.specs.Laws.{StepIsComputed}
use Rattle.tp_schedule.specs.Routes.{is_act_allowed, step_by}
use Rattle.tp_schedule.specs.declared.parts.Ask.{Ask}
use Rattle.tp_schedule.specs.declared.parts.Plan.{Plan}
use Rattle.tp_constraints.specs.Suffixes.{Suffix, with_action}
use Rattle.tp_routes.specs.Numbers.{number_of}
use Rattle.tp_routes.specs.Tables.{sum_at}
use Rattle.tp_bound_laws.specs.Places.Due.{action}
use Rattle.tp_bound_laws.specs.Places.{Due, action_due, due_from, is_name_of_act, or_zero, stand_of, state_before, states_at}
use Rattle.tp_bound_laws.specs.Rows.{is_state, row_of}
use Rattle.tp_bound_laws.specs.Trees.{dead_look}
use Rattle.tp_bound_laws.proofs.Befores.{before-is}
use Rattle.tp_bound_laws.proofs.RowFacts.{state-is}
use Rattle.tp_bound_make.specs.TreeProgress.{Adds, PutsNode, Shows, branch_by}
use Rattle.tp_bound_make.specs.declared.scene.ShowBranch.{ShowBranch}
use Rattle.tp_bound_make.proofs.AddFacts.{adds-node, node-look}

find-passes : {X : Type 0} (test : X → Bool) (xs : List X) (x : X) → find test xs ≡ Some x → test x ≡ true
find-passes test [] x e = absurd cc
find-passes {X} test (y ∷ xs) x e = go (test y) refl e (find-passes test xs x) where
  go : (b : Bool) → test y ≡ b → cond b (Some y) (find test xs) ≡ Some x → (find test xs ≡ Some x → test x ≡ true) → test x ≡ true
  go true t f rest = let same : y ≡ x = cc in subst (λ (z : X). test z ≡ true) same t
  go false t f rest = rest f

-- the state before by what the step back tells
pub before-found : (machine : Machine) (sheet : Sheet) (act : ActId) (a : Action) (s : State) (o : Option State) → StepIsComputed → slice_get machine.actions act.0 ≡ Some a → IfSome o (λ q. Step a sheet q s) → IfNone o ((q : State) → ¬ Step a sheet q s)
    → state_before sheet s (action_at machine act.0) ≡ o
before-found machine sheet act a s (Some q) law at some none =
    let by : step_by machine sheet act q ≡ Some s = ap (option_and_then (λ k. step_of k sheet q)) at ∙ (law a sheet q s).0 some in
    before-is machine sheet act q s by
before-found machine sheet act a s None law at some none =
    ap (state_before sheet s) at ∙ go (find (λ q. is_state s (step_of a sheet q)) (states_at a.from)) refl
  where
    go : (o : Option State) → find (λ q. is_state s (step_of a sheet q)) (states_at a.from) ≡ o → find (λ q. is_state s (step_of a sheet q)) (states_at a.from) ≡ None
    go None e = e
    go (Some q) e = absurd (none q ((law a sheet q s).1 (state-is s (step_of a sheet q) (find-passes (λ q. is_state s (step_of a sheet q)) (states_at a.from) q e))))

-- and the action leads from it
pub before-steps : (machine : Machine) (sheet : Sheet) (act : ActId) (s q : State) → state_before sheet s (action_at machine act.0) ≡ Some q → step_by machine sheet act q ≡ Some s
before-steps machine sheet act s q e = go (action_at machine act.0) refl e where
  go : (o : Option Action) → action_at machine act.0 ≡ o → state_before sheet s o ≡ Some q → option_and_then (λ k. step_of k sheet q) (action_at machine act.0) ≡ Some s
  go None at h = absurd cc
  go (Some a) at h = ap (option_and_then (λ k. step_of k sheet q)) at ∙ state-is s (step_of a sheet q) (find-passes (λ r. is_state s (step_of a sheet r)) (states_at a.from) q h)

-- a state before that was found: the action is allowed, and leads from it
pub found-steps : (machine : Machine) (ask : Ask) (act : ActId) (s q : State) → Some q ≡ cond (is_act_allowed machine ask.outs act) (state_before ask.want s (action_at machine act.0)) None
    → IsTrue (is_act_allowed machine ask.outs act) × (step_by machine ask.want act q ≡ Some s)
found-steps machine ask act s q = go (is_act_allowed machine ask.outs act) refl where
  go : (t : Bool) → is_act_allowed machine ask.outs act ≡ t → Some q ≡ cond t (state_before ask.want s (action_at machine act.0)) None → IsTrue (is_act_allowed machine ask.outs act) × (step_by machine ask.want act q ≡ Some s)
  go true is e = (is, before-steps machine ask.want act s q (sym e))
  go false is e = absurd cc

pub allowed-is : (machine : Machine) (outs : Outs) (act : ActId) (a : Action) (r : Bool) → slice_get machine.actions act.0 ≡ Some a → IfSome (action_at machine act.0) (λ x. r ≡ is_allowed machine outs x) → is_act_allowed machine outs act ≡ r
allowed-is machine outs act a r e = go (slice_get machine.actions act.0) e where
  go : (o : Option Action) → o ≡ Some a → IfSome o (λ x. r ≡ is_allowed machine outs x) → unwrap_or (option_map (is_allowed machine outs) o) false ≡ r
  go None f h = absurd cc
  go (Some x) f h = sym h

-- a branch one action deeper, from a state
abbrev pub opened_below : ShowBranch → ActId → State → ShowBranch
opened_below r act s = record { depth = r.depth + 1; first = s; count = r.count + 1; newest = Some act; places = 0 }

module _ (machine : Machine) (plans : List Plan) (ask : Ask) (rows : List TreeRow) where
  pub due-by : (r : ShowBranch) (x : Suffix) (act : ActId) (o : Option State) → o ≡ cond (is_act_allowed machine ask.outs act) (state_before ask.want r.first (action_at machine act.0)) None
      → action_due machine plans ask rows (branch_by r x) act ≡ due_from machine plans ask rows (branch_by r x) act o
  due-by r x act o e = go (is_act_allowed machine ask.outs act) e where
    go : (t : Bool) → o ≡ cond t (state_before ask.want r.first (action_at machine act.0)) None
        → cond t (due_from machine plans ask rows (branch_by r x) act (state_before ask.want r.first (action_at machine act.0))) [] ≡ due_from machine plans ask rows (branch_by r x) act o
    go true f = ap (due_from machine plans ask rows (branch_by r x) act) (sym f)
    go false f = ap (due_from machine plans ask rows (branch_by r x) act) (sym f)

  pub act-stands : (r : ShowBranch) (x : Suffix) (act : ActId) (s : State) (name : List ℕ) (room : ℕ) → is_name_of_act machine plans ask rows name (action_at machine act.0) ≡ true → or_zero (row_of machine rows s) ≡ room
      → stand_of machine plans ask rows (action (branch_by r x) act s) (ActHead name) ≡ Some (record { branch = branch_by (opened_below r act s) (with_action act room x); span = None })
  act-stands r x act s name room named at =
      let deeper : suc r.depth ≡ r.depth + 1 = sym (add-one r.depth) in
      rw named (λ i. Some (record { branch = record { depth = deeper i; first = s; x = with_action act (at i) x }; span = None }))

module _ (machine : Machine) (plans : List Plan) (ask : Ask) (sums : List (Option ℕ)) (limit : ℕ) (old new : List Node) (r : ShowBranch) (x : Suffix) (act : ActId) (s : State) (name : List ℕ)
    (named : (rows : List TreeRow) → is_name_of_act machine plans ask rows name (action_at machine act.0) ≡ true) (known : s.loc.0 < length machine.locations)
    (is : Some s ≡ cond (is_act_allowed machine ask.outs act) (state_before ask.want r.first (action_at machine act.0)) None) where
  pub act-shows : (room : ℕ) → sum_at sums (number_of s) ≡ Some room → (more : List TreeRow → List Due) → PutsNode machine plans ask limit old new (branch_by (opened_below r act s) (with_action act room x)) (ActHead name) more
      → Shows machine plans ask sums limit old new (λ rows. action_due machine plans ask rows (branch_by r x) act) (λ rows. more rows ++ [])
  act-shows room at more put rows has =
      subst (λ ds. Adds machine plans ask rows (pos limit) ds old new (more rows ++ [])) (sym (due-by machine plans ask rows r x act (Some s) is))
      (put rows (action (branch_by r x) act s) (act-stands machine plans ask rows r x act s name room (named rows) (ap or_zero (has s known ∙ at))))

  pub dead-shows : sum_at sums (number_of s) ≡ None → new ≡ old ++ record { depth = r.depth + 1; head = ActHead name; close = Dead } ∷ [] → Shows machine plans ask sums limit old new (λ rows. action_due machine plans ask rows (branch_by r x) act) (λ _. [])
  dead-shows at put rows has =
      let n : Node = record { depth = r.depth + 1; head = ActHead name; close = Dead } in
      let none = has s known ∙ at in
      subst (λ ds. Adds machine plans ask rows (pos limit) ds old new []) (sym (due-by machine plans ask rows r x act (Some s) is))
      (adds-node machine plans ask rows (pos limit) (action (branch_by r x) act s) n old new []
      (node-look machine plans ask rows (pos limit) (action (branch_by r x) act s) n (branch_by (opened_below r act s) (with_action act 0 x)) [] (act-stands machine plans ask rows r x act s name 0 (named rows) (ap or_zero none)) refl (ap (dead_look true) none)) put (omega arith) (λ t is. tt))

pub skipped-shows : (machine : Machine) (plans : List Plan) (ask : Ask) (sums : List (Option ℕ)) (limit : ℕ) (old : List Node) (r : ShowBranch) (x : Suffix) (act : ActId)
    → None ≡ cond (is_act_allowed machine ask.outs act) (state_before ask.want r.first (action_at machine act.0)) None → Shows machine plans ask sums limit old old (λ rows. action_due machine plans ask rows (branch_by r x) act) (λ _. [])
skipped-shows machine plans ask sums limit old r x act is rows has = subst (λ ds. Adds machine plans ask rows (pos limit) ds old old []) (sym (due-by machine plans ask rows r x act None is)) (λ start rest lead. lead)
