-- What a board carries after a step, and that a branch that it carries can be split.
use Rattle.std.proofs.Common.{◌≡◌, ℕ, ◌+◌, ◌<◌, ◌≤◌, false, List, [], ◌∷◌, ◌++◌, length, refl, sym, ◌∙◌, ap, subst, arith, Option, Some, None, IsSomeAnd, IsTrue}
use Rattle.std.specs.Prelude.{ℤ, slice_get, IfSome}
use Rattle.std.proofs.lemmas.List.{length-append}
use Rattle.tp_base.specs.Readings.{Reading}
use Rattle.tp_base.specs.Net.{Net}
use Rattle.tp_bounds.specs.declared.tree.Head.{Head}
use Rattle.tp_bounds.specs.declared.tree.Close.TheVariants.{Split}
use Rattle.tp_bounds.specs.declared.tree.TreeRow.{TreeRow}
use Rattle.tp_machine.specs.ModuleUse.{action_at}
use Rattle.tp_machine.specs.declared.parts.Action.{Action}
use Rattle.tp_machine.specs.declared.parts.ActId.{ActId}
use Rattle.tp_machine.specs.declared.parts.HoldRule.{HoldRule}
use Rattle.tp_machine.specs.declared.parts.State.{State}
use Rattle.tp_machine.specs.declared.machine.Machine.{Machine}
use Rattle.tp_machine.proofs.MachineFacts.{is_machine}
use Rattle.tp_schedule.specs.Answers.{kept_of}
use Rattle.tp_schedule.specs.Choices.{Choice}
use Rattle.tp_schedule.specs.Holders.{holds_of_act}
use Rattle.tp_schedule.specs.Routes.{IsRoom, is_act_allowed, step_by}
use Rattle.tp_schedule.specs.declared.parts.Ask.{Ask}
use Rattle.tp_schedule.specs.declared.parts.Plan.{Plan}
use Rattle.tp_constraints.specs.Suffixes.{Suffix, order_in, place_first, with_action, with_place, with_stop}
use Rattle.tp_constraints.proofs.Lists.{contains-get}
use Rattle.tp_placing.specs.Boards.{BoardValue, BoardContent, content_of, suffix_after, suffix_of}
use Rattle.tp_placing.specs.Calls.{CanPlace, IsSameLoad}
use Rattle.tp_placing.specs.Reasons.{HasEndReason, HasReason}
use Rattle.tp_bound_laws.specs.Places.Due.{places as places_due}
use Rattle.tp_bound_laws.specs.Places.{Due, actions_due, stop_due, children, rule_in}
use Rattle.tp_bound_laws.specs.Trees.{close_look, split_look}
use Rattle.tp_bound_laws.specs.Trees.Look.{due}
use Rattle.tp_constraints.specs.Ways.{IsPlaced, IsWay}
use Rattle.tp_constraints.proofs.WaySteps.{action-way, place-way}
use Rattle.tp_bound_make.specs.Closes.{IsEndRefused, IsRefused, IsStopRefused}
use Rattle.tp_bound_make.specs.TreeProgress.{Carries, IsNewest, IsOpen, below, branch_by, hold_after, hold_of, kids_of, or_no_dues}
use Rattle.tp_bound_make.specs.declared.scene.ShowBranch.{ShowBranch}
use Rattle.tp_bound_make.proofs.TellFacts.{get-within}

-- the next hold of a branch is that of its suffix
pub newest-hold : (machine : Machine) (act : Option ActId) (places : ℕ) (choices : List Choice) → IsNewest machine act places choices → hold_after machine act places ≡ rule_in machine choices
newest-hold machine None places [] h = refl
newest-hold machine None places (c ∷ choices) h = absurd h
newest-hold machine (Some act) places [] h = absurd h
newest-hold machine (Some act) places (c ∷ choices) h = λ i. slice_get (holds_of_act (action_at machine (sym h.0 i).0)) (sym h.1 i)

pub newest-act : (machine : Machine) (act : Option ActId) (places : ℕ) (choices : List Choice) → IsNewest machine act places choices → IfSome act (λ a. a.0 < length machine.actions)
newest-act machine None places choices h = tt
newest-act machine (Some act) places [] h = absurd h
newest-act machine (Some act) places (c ∷ choices) h = h.2

-- an open branch has its children
pub split-closes : (machine : Machine) (plans : List Plan) (ask : Ask) (rows : List TreeRow) (limit : ℤ) (r : ShowBranch) (x : Suffix) (head : Head) → x.stopped ≡ false → hold_of machine r ≡ rule_in machine x.choices → IsOpen machine ask r
    → close_look machine plans ask rows limit (record { branch = branch_by r x; span = None }) head Split ≡ due (kids_of machine plans ask rows (branch_by r x))
split-closes machine plans ask rows limit r x head going same may =
    let c = can (rule_in machine x.choices) refl in ap split_look (some-kids (children machine plans ask rows (record { branch = branch_by r x; span = None })) c.0 c.1) where
      some-kids : (o : Option (List Due)) (ds : List Due) → o ≡ Some ds → o ≡ Some (or_no_dues machine plans ask rows o)
      some-kids None ds e = absurd cc
      some-kids (Some k) ds e = refl

      can : (o : Option HoldRule) → rule_in machine x.choices ≡ o → (ds : List Due) × (children machine plans ask rows (record { branch = branch_by r x; span = None }) ≡ Some ds)
      can None e = let m = may (same ∙ e) in (stop_due machine plans ask rows (branch_by r x) ++ actions_due machine plans ask rows (branch_by r x), rw (going, e, m) refl)
      can (Some rule) e = (places_due (branch_by r x) rule 0 ∷ [], rw (going, e) refl)

module _ {N : Type 0} (reading : Reading N) (refutes : N → Net → Type 0) (machine : Machine) (ask : Ask) where
  pub suffix-same : (b b' : BoardValue N) → content_of reading b' ≡ content_of reading b → suffix_of b' ≡ suffix_of b
  suffix-same b b' e = ap (λ (k : BoardContent). suffix_after k.steps) e

  pub end-refused : (b b' : BoardValue N) (r : ShowBranch) (x : Suffix) (last : ℕ) → Carries reading machine ask b r x → content_of reading b' ≡ content_of reading b
      → IsSomeAnd (suffix_of b') (λ y. HasEndReason refutes machine b' y last) → IsEndRefused refutes machine b' x last
  end-refused b b' r x last c same shown =
      let few = c.few in
      record { going = c.going; few = omega (arith, few); shown = subst (λ o. IsSomeAnd o (λ y. HasEndReason refutes machine b' y last)) (suffix-same b b' same ∙ c.carried) shown }

  -- ---- one place more
  pub may-place : (b : BoardValue N) (r : ShowBranch) (x : Suffix) (rule : HoldRule) (place : ℕ) → Carries reading machine ask b r x → hold_of machine r ≡ Some rule → place ≤ length (order_in machine b.plans x rule.resource.0)
      → CanPlace machine b.plans x r.places place
  may-place b r x rule place c next within = go r.newest x.choices refl refl c.newest next where
    go : (act : Option ActId) (choices : List Choice) → r.newest ≡ act → x.choices ≡ choices → IsNewest machine act r.places choices → hold_after machine act r.places ≡ Some rule → CanPlace machine b.plans x r.places place
    go None choices e f h n = absurd cc
    go (Some act) [] e f h n = absurd h
    go (Some act) (k ∷ choices) e f h n = record {
      choice = k;
      choices = choices;
      newest = f;
      next = sym h.1;
      rule = rule;
      is_rule = ap (λ (a : ActId). slice_get (holds_of_act (action_at machine a.0)) r.places) h.0 ∙ n;
      within = within;
    }

  pub carries-place : (b b' : BoardValue N) (r child : ShowBranch) (x : Suffix) (rule : HoldRule) (place : ℕ) → Carries reading machine ask b r x → hold_of machine r ≡ Some rule
      → place ≤ length (order_in machine b.plans x rule.resource.0) → IsSameLoad b b'
      → IsSomeAnd (suffix_of b) (λ y. suffix_of b' ≡ Some (with_place place y)) → child ≡ record { depth = r.depth + 1; first = r.first; count = r.count; newest = r.newest; places = r.places + 1 }
      → Carries reading machine ask b' child (with_place place x) × (below child < below r)
  carries-place b b' r child x rule place c next within load put is =
      let can = may-place b r x rule place c next within in
      let fresh = holds-left r.newest r.places x.choices c.newest next in
      let few = c.few_places in
      subst (λ (k : ShowBranch). Carries reading machine ask b' k (with_place place x) × (below k < below r)) (sym is) (
        record {
          carried = subst (λ o. IsSomeAnd o (λ y. suffix_of b' ≡ Some (with_place place y))) c.carried put;
          going = c.going;
          count = c.count ∙ sym (placed-length x.choices);
          newest = newest-placed r.newest r.places x.choices c.newest next;
          known = c.known;
          goal = c.goal;
          way = subst (λ ps. IsWay machine ps ask c.goal r.first (with_place place x)) (sym load.plans)
              (place-way machine b.plans ask c.goal r.first x can.choice can.choices can.rule place c.way c.going can.newest (ap (slice_get (holds_of_act (action_at machine can.choice.act.0))) (sym can.next) ∙ can.is_rule) can.within);
          few = let f = c.few in let l = placed-length x.choices in omega (arith, f, l);
          few_places = omega (arith, fresh);
          deep = let d = c.deep in omega (arith, d);
        },
        omega (arith, fresh),
      ) where
        placed-length : (cs : List Choice) → length (place_first place cs) ≡ length cs
        placed-length [] = refl
        placed-length (k ∷ cs) = refl

        newest-placed : (act : Option ActId) (places : ℕ) (cs : List Choice) → IsNewest machine act places cs → hold_after machine act places ≡ Some rule → IsNewest machine act (places + 1) (place_first place cs)
        newest-placed None places [] h e = absurd cc
        newest-placed None places (k ∷ cs) h e = absurd h
        newest-placed (Some act) places [] h e = absurd h
        newest-placed (Some act) places (k ∷ cs) h e = let l = length-append k.places (place ∷ []) in let m = h.1 in (h.0, omega (arith, l, m), h.2)

        holds-left : (act : Option ActId) (places : ℕ) (cs : List Choice) → IsNewest machine act places cs → hold_after machine act places ≡ Some rule → places < 4
        holds-left None places cs h e = absurd cc
        holds-left (Some act) places cs h e = go (action_at machine act.0) refl e where
          go : (o : Option Action) → action_at machine act.0 ≡ o → slice_get (holds_of_act o) places ≡ Some rule → places < 4
          go None u v = absurd cc
          go (Some a) u v = let w = get-within a.holds places rule v in let most = (is_machine machine).few_holds act.0 a u in omega (arith, w, most)

  -- ---- one action more
  pub carries-act : (b b' : BoardValue N) (r child : ShowBranch) (x : Suffix) (act : ActId) (room : ℕ) (state : State) → Carries reading machine ask b r x → act.0 < length machine.actions → state.loc.0 < length machine.locations
      → kept_of ask + length x.choices < 64 → IsPlaced machine x.choices → step_by machine ask.want act state ≡ Some r.first → IsTrue (is_act_allowed machine ask.outs act) → IsRoom machine ask state room → IsSameLoad b b'
      → IsSomeAnd (suffix_of b) (λ y. suffix_of b' ≡ Some (with_action act room y)) → child ≡ record { depth = r.depth + 1; first = state; count = r.count + 1; newest = Some act; places = 0 }
      → Carries reading machine ask b' child (with_action act room x) × (below child < below r)
  carries-act b b' r child x act room state c known at fewer placed step allowed is_room load put is =
      let few = c.few_places in
      let count = c.count in
      subst (λ (k : ShowBranch). Carries reading machine ask b' k (with_action act room x) × (below k < below r)) (sym is) (
        record {
          carried = subst (λ o. IsSomeAnd o (λ y. suffix_of b' ≡ Some (with_action act room y))) c.carried put;
          going = c.going;
          count = omega (arith, count);
          newest = (refl, refl, known);
          known = at;
          goal = c.goal;
          way = subst (λ ps. IsWay machine ps ask c.goal state (with_action act room x)) (sym load.plans)
              (action-way machine b.plans ask c.goal r.first state x act room c.way placed c.going step allowed is_room fewer);
          few = omega (arith, fewer);
          few_places = omega arith;
          deep = let d = c.deep in omega (arith, d, few);
        },
        omega (arith, few, count, fewer),
      )

  pub place-refused : (b b' : BoardValue N) (r : ShowBranch) (x : Suffix) (place : ℕ) → Carries reading machine ask b r x → IsSomeAnd (suffix_of b) (λ y. HasReason refutes machine b' (with_place place y)) → IsRefused refutes machine b' (with_place place x)
  place-refused b b' r x place c shown =
      let few = c.few in
      record { going = c.going; few = let l = same-length x.choices in omega (arith, few, l); shown = subst (λ o. IsSomeAnd o (λ y. HasReason refutes machine b' (with_place place y))) c.carried shown } where
        same-length : (cs : List Choice) → length (place_first place cs) ≡ length cs
        same-length [] = refl
        same-length (k ∷ cs) = refl

  pub stop-refused : (b b' : BoardValue N) (r : ShowBranch) (x : Suffix) → Carries reading machine ask b r x → content_of reading b' ≡ content_of reading b
      → IsSomeAnd (suffix_of b) (λ y. HasReason refutes machine b' (with_stop y)) → IsStopRefused refutes machine b' x
  stop-refused b b' r x c same shown =
      let few = c.few in
      record { carried = suffix-same b b' same ∙ c.carried; few = omega (arith, few); shown = subst (λ o. IsSomeAnd o (λ y. HasReason refutes machine b' (with_stop y))) c.carried shown }

  pub act-refused : (b b' : BoardValue N) (r : ShowBranch) (x : Suffix) (act : ActId) (room : ℕ) → Carries reading machine ask b r x → kept_of ask + length x.choices < 64
      → IsSomeAnd (suffix_of b) (λ y. HasReason refutes machine b' (with_action act room y)) → IsRefused refutes machine b' (with_action act room x)
  act-refused b b' r x act room c fewer shown = record { going = c.going; few = omega (arith, fewer); shown = subst (λ o. IsSomeAnd o (λ y. HasReason refutes machine b' (with_action act room y))) c.carried shown }

-- the resource of the next hold is one of the machine's
pub hold-known : (machine : Machine) (r : ShowBranch) (rule : HoldRule) → hold_of machine r ≡ Some rule → rule.resource.0 < length machine.resources
hold-known machine r rule e = go r.newest e where
  act-known : (act : ActId) (o : Option Action) → action_at machine act.0 ≡ o → slice_get (holds_of_act o) r.places ≡ Some rule → rule.resource.0 < length machine.resources
  act-known act None u v = absurd cc
  act-known act (Some a) u v = (is_machine machine).known act.0 a u rule (contains-get a.holds r.places rule v)

  go : (o : Option ActId) → hold_after machine o r.places ≡ Some rule → rule.resource.0 < length machine.resources
  go None h = absurd cc
  go (Some act) h = act-known act (action_at machine act.0) refl h

-- what holds of the suffix that a board carries holds of each that it carries
pub own-suffix : (o : Option Suffix) (x : Suffix) → o ≡ Some x → (P : Suffix → Type 0) → P x → (y : Suffix) → o ≡ Some y → P y
own-suffix o x e P p y f = subst P (same x y (sym e ∙ f)) p where
  same : (a b : Suffix) → Some a ≡ Some b → a ≡ b
  same a b h = cc
