-- A node of several places, and trying a place on a board.
use Rattle.std.proofs.Common.{◌≡◌, ℕ, suc, ◌+◌, ◌≤◌, Bool, true, false, cond, ◌==◌, List, [], ◌∷◌, ◌++◌, length, refl, sym, ◌∙◌, ap, subst, arith, add-one, Result, Ok, Err, Option, Some, None}
use Rattle.std.specs.Prelude.{ℤ, pos, slice_get, IfSome}
use Rattle.std.specs.Result.{IfOk, OnOk}
use Rattle.tp_base.specs.Readings.{Reading}
use Rattle.tp_bounds.specs.declared.tree.Close.{Close}
use Rattle.tp_bounds.specs.declared.tree.Head.TheVariants.{At as AtHead}
use Rattle.tp_bounds.specs.declared.tree.Node.{Node}
use Rattle.tp_bounds.specs.declared.tree.TreeRow.{TreeRow}
use Rattle.tp_machine.specs.declared.parts.HoldRule.{HoldRule}
use Rattle.tp_machine.specs.declared.machine.Machine.{Machine}
use Rattle.tp_schedule.specs.declared.parts.Ask.{Ask}
use Rattle.tp_schedule.specs.declared.parts.Plan.{Plan}
use Rattle.tp_constraints.specs.Suffixes.{Suffix, order_in}
use Rattle.tp_placing.specs.Boards.{BoardValue}
use Rattle.tp_placing.specs.Laws.{MarkKeeps}
use Rattle.tp_bound_laws.specs.Once.{PassesOnce}
use Rattle.tp_bound_laws.specs.Places as places
use Rattle.tp_bound_laws.specs.Places.Due.{places as places_due}
use Rattle.tp_bound_laws.specs.Places.{Stand, alone, at_places, due_behind, is_name_of_resource, place_branch, places_from, stand_of}
use Rattle.tp_bound_laws.specs.Trees.{look, stand_look, with_behind}
use Rattle.tp_bound_laws.specs.Trees.Look.{due}
use Rattle.tp_bound_laws.proofs.AllowedHops.{le-to}
use Rattle.tp_bound_laws.proofs.Lists.{number-same}
use Rattle.tp_bound_make.specs.Ranges.{ClosesRange, IsRange}
use Rattle.tp_bound_make.specs.declared.closed_places.Range.{Range}
use Rattle.tp_bound_make.specs.TreeProgress.{Adds, Carries, IsSet, Shows, branch_by}
use Rattle.tp_bound_make.specs.declared.scene.ShowBranch.{ShowBranch}
use Rattle.tp_bound_make.proofs.AddFacts.{adds-node}
use Rattle.tp_bound_make.proofs.EnterFacts.{carries-same, places-due}
use Rattle.tp_bound_make.proofs.MarkSteps.{IsMarked, load-of}

pub some-map : {X : Type 0} (P Q : X → Type 0) (o : Option X) → ((x : X) → P x → Q x) → IfSome o P → IfSome o Q
some-map P Q None f h = tt
some-map P Q (Some x) f h = f x h

pub ok-some : {X E : Type 0} (P Q : X → Type 0) (r : Result (Option X) E) → ((x : X) → P x → Q x) → IfOk r (λ o. IfSome o P) → IfOk r (λ o. IfSome o Q)
ok-some P Q (Ok o) f h = some-map P Q o f h
ok-some P Q (Err e) f h = tt

module _ (machine : Machine) (plans : List Plan) (ask : Ask) (rows : List TreeRow) (r : ShowBranch) (x : Suffix) (rule : HoldRule) (lo hi : ℕ) (name : List ℕ) where
  abbrev b : places.Branch
  b = branch_by r x

  abbrev stand : Stand
  stand = at_places machine plans ask rows (branch_by r x) rule lo hi

  range-stands : is_name_of_resource machine plans ask rows name (slice_get machine.resources rule.resource.0) ≡ true → lo ≤ hi → hi ≤ length (order_in machine plans x rule.resource.0)
      → stand_of machine plans ask rows (places_due (branch_by r x) rule lo) (AtHead name lo hi) ≡ Some stand
  range-stands named below within =
      let a = number-same lo in
      let c = le-to lo hi below in
      let d = le-to hi (length (order_in machine plans x rule.resource.0)) within in
      rw (named, a, c, d) refl

  range-depth : (t : Bool) → (cond t (alone machine plans ask rows (place_branch machine plans ask rows b lo)) (record { branch = record { depth = suc r.depth; first = r.first; x = x }; span = Some (record { rule = rule; lo = lo; hi = hi }) })).branch.depth ≡ suc r.depth
  range-depth true = refl
  range-depth false = refl

stand-is : (s t : Stand) → Some s ≡ Some t → s ≡ t
stand-is s t e = cc

-- the node of several places
pub range-shows : (machine : Machine) (plans : List Plan) (ask : Ask) (sums : List (Option ℕ)) (limit : ℕ) (old new : List Node) (r : ShowBranch) (x : Suffix) (rule : HoldRule) (lo hi : ℕ) (name : List ℕ) (close : Close)
    → ((rows : List TreeRow) → is_name_of_resource machine plans ask rows name (slice_get machine.resources rule.resource.0) ≡ true) → lo ≤ hi → hi ≤ length (order_in machine plans x rule.resource.0)
    → ClosesRange machine plans ask (pos limit) x rule lo hi close → new ≡ old ++ record { depth = r.depth + 1; head = AtHead name lo hi; close = close } ∷ []
    → Shows machine plans ask sums limit old new (λ rows. places_from machine plans ask rows (branch_by r x) rule lo) (λ rows. places_from machine plans ask rows (branch_by r x) rule (hi + 1))
range-shows machine plans ask sums limit old new r x rule lo hi name close named below within closes put rows has =
    let br = branch_by r x in
    let d = places_due br rule lo in
    let n : Node = record { depth = r.depth + 1; head = AtHead name lo hi; close = close } in
    let s = at_places machine plans ask rows br rule lo hi in
    let deep : s.branch.depth ≡ r.depth + 1 = range-depth machine plans ask rows r x rule lo hi name (lo == hi) ∙ sym (add-one r.depth) in
    let t : (r.depth + 1 == s.branch.depth) ≡ true = ap (λ k. r.depth + 1 == k) deep ∙ number-same (r.depth + 1) in
    let closed = ap (with_behind machine plans ask rows (pos limit) (due_behind machine plans ask rows d (AtHead name lo hi))) (closes.1 rows br (AtHead name lo hi) refl) in
    let looks : look machine plans ask rows (pos limit) d n ≡ due (places_from machine plans ask rows br rule (suc hi)) = ap (stand_look machine plans ask rows (pos limit) d n) (range-stands machine plans ask rows r x rule lo hi name (named rows) below within) ∙ rw t closed in
    let adds = adds-node machine plans ask rows (pos limit) d n old new (places_from machine plans ask rows br rule (suc hi)) looks put closes.0 (λ t is. subst (λ q. PassesOnce machine plans ask (pos limit) q close) (stand-is s t (sym (range-stands machine plans ask rows r x rule lo hi name (named rows) below within) ∙ is)) (closes.2 rows br refl)) in
    let next : places_from machine plans ask rows br rule (suc hi) ≡ places_from machine plans ask rows br rule (hi + 1) = ap (places_from machine plans ask rows br rule) (sym (add-one hi)) in
    let here : lo ≤ length (order_in machine plans x rule.resource.0) = omega arith in
    subst (λ ds. Adds machine plans ask rows (pos limit) ds old new (places_from machine plans ask rows br rule (hi + 1))) (sym (places-due machine plans ask rows br rule lo here))
    (subst (λ ds. Adds machine plans ask rows (pos limit) (d ∷ []) old new ds) next adds)

module _ {N A : Type 0} (reading : Reading N) (untouched : N → A) (machine : Machine) (ask : Ask) where
  -- the board is marked where it carries a branch
  pub record IsAtMark (b b' : BoardValue N) (r : ShowBranch) (x : Suffix) : Type 0 where
    pub set : IsSet reading machine ask b'
    pub plans : b'.plans ≡ b.plans
    pub carries : Carries reading machine ask b' r x

  pub at-mark : MarkKeeps reading untouched → (b b' : BoardValue N) (r : ShowBranch) (x : Suffix) (mark : ℕ) → IsMarked reading untouched b b' mark → IsSet reading machine ask b
      → Carries reading machine ask b r x → IsAtMark b b' r x
  at-mark keeps b b' r x mark m set c =
      let load = load-of reading untouched b b' m.untouched_same in
      record {
        set = record { stands = keeps b b' machine m.content_same m.untouched_same m.past_more set.stands; asked = load.ask ∙ set.asked; goal = set.goal };
        plans = load.plans;
        carries = carries-same reading machine b.plans ask [] 0 [] [] b b' r x m.content_same load.plans c;
      }

-- a range is one from its first place on
pub range-from : (machine : Machine) (plans : List Plan) (ask : Ask) (limit : ℤ) (x : Suffix) (rule : HoldRule) (lo place last : ℕ) (range : Range) → IsRange machine plans ask limit x rule lo place last range → IsRange machine plans ask limit x rule lo lo last range
range-from machine plans ask limit x rule lo place last range r =
    let a = r.begins in
    let b = r.reaches in
    record { begins = omega arith; reaches = omega (arith, a, b); within = r.within; closes = r.closes }

pub ok-next : {X E : Type 0} (P : Type 0) (Q : X → Type 0) (k : X) (r : Result X E) → IfOk r (λ n. n ≡ k) → OnOk r P → (P → Q k) → IfOk r Q
ok-next P Q k (Ok n) is p f = subst Q (sym is) (f p)
ok-next P Q k (Err e) is p f = tt
