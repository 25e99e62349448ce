-- A whole list that goes through a place that is due goes through one of those that are due in its stead, until none is.
use Rattle.std.proofs.Common.{◌≡◌, ◌⊎◌, inl, inr, ℕ, zero, suc, ◌+◌, ◌≤◌, ◌<◌, Bool, true, false, cond, ◌&&◌, ◌==◌, List, [], ◌∷◌, ◌++◌, length, refl, sym, ◌∙◌, subst, arith, Contains, Option, Some, None}
use Rattle.std.specs.Prelude.{ℤ, pos, ◌≤ℤ◌, nat_le, nat_lt, slice_get}
use Rattle.std.proofs.lemmas.Bool.{eqb-true, and_parts, cases_lt}
use Rattle.std.proofs.lemmas.Bool.Decides.{nat_tests}
use Rattle.std.proofs.lemmas.Option.{slice_get_within}
use Rattle.std.proofs.lemmas.List.Elements.{Contains-append_left, Contains-append_right}
use Rattle.tp_bounds.specs.declared.tree.Close.{Close}
use Rattle.tp_bounds.specs.declared.tree.Close.TheVariants.{Split, Dead, Chain, Loop}
use Rattle.tp_bounds.specs.declared.tree.Head.{Head}
use Rattle.tp_bounds.specs.declared.tree.Head.TheVariants.{Goal as GoalHead, Act as ActHead, At as AtHead, Stop as StopHead}
use Rattle.tp_bounds.specs.declared.tree.Node.{Node}
use Rattle.tp_bounds.specs.declared.tree.TreeRow.{TreeRow}
use Rattle.tp_machine.specs.ModuleUse.{action_at}
use Rattle.tp_machine.specs.declared.parts.HoldRule.{HoldRule}
use Rattle.tp_machine.specs.declared.parts.State.{State}
use Rattle.tp_machine.specs.declared.machine.Machine.{Machine}
use Rattle.tp_schedule.specs.Answers.{IsAsked, kept_of}
use Rattle.tp_schedule.specs.Legality.{IsLegal}
use Rattle.tp_schedule.specs.Spots.{Ticks}
use Rattle.tp_schedule.specs.Spots.Spot.{own}
use Rattle.tp_schedule.specs.declared.parts.Ask.{Ask}
use Rattle.tp_schedule.specs.declared.parts.Plan.{Plan}
use Rattle.tp_schedule.proofs.Membership.{Contains-cons_cases, Contains-here}
use Rattle.tp_constraints.specs.Suffixes.{Suffix, SuffixTimes, with_action, with_goal, with_place, with_stop}
use Rattle.tp_bound_laws.specs.Places.{Branch, Due, Span, Stand, action_branch, action_due, actions_below, actions_due, alone, at_places, children, children_at, children_of, due_behind, goal_branch, is_begun, is_name_of_act, is_name_of_resource, next_rule, order_length, place_branch, places_from, room_at, stand_of, stop_branch, stop_due}
use Rattle.tp_bound_laws.specs.Places.Due.{action, goal, places, stop}
use Rattle.tp_bound_laws.specs.Rows.{AreRoomRows, is_state, state_of}
use Rattle.tp_bound_laws.specs.Trees.{Covers, Look, close_look, look, split_look, stand_look, with_behind}
use Rattle.tp_bound_laws.specs.Trees.Look.{due, wrong}
use Rattle.tp_bound_laws.specs.Trees.Wrong.{uncovered}
use Rattle.tp_bound_laws.proofs.Befores.{before-is, step-action}
use Rattle.tp_bound_laws.proofs.ClosedNodes.{chain-none, dead-none, loop-none}
use Rattle.tp_bound_laws.proofs.HopsInLists.{Sits, SitsAt}
use Rattle.tp_bound_laws.proofs.Ways.{Way, way-reached, IsReached}
use Rattle.tp_bound_laws.proofs.Ways.Way.{by_action, by_place, by_stop, there}

le-from : (a b : ℕ) → nat_le a b ≡ true → a ≤ b
le-from a b e = grind (arith, nat_tests)

le-to : (a b : ℕ) → a ≤ b → nat_le a b ≡ true
le-to a b e = grind (arith, nat_tests)

lt-to : (a b : ℕ) → a < b → nat_lt a b ≡ true
lt-to a b e = grind (arith, nat_tests)

module _ (machine : Machine) (plans : List Plan) (ask : Ask) (rows : List TreeRow) (X : Suffix) where
  abbrev pub ToX : State → Suffix → Type 0
  ToX s x = Way machine plans ask rows X s x

  abbrev room : State → ℕ
  room s = room_at machine plans ask rows s

  -- the list goes on from the branch by a place of the next hold, from a number on
  pub record MeetsIn (b : Branch) (rule : HoldRule) (lo : ℕ) : Type 0 where
    pub next : next_rule machine b.x ≡ Some rule
    pub going : b.x.stopped ≡ false
    pub place : ℕ
    pub from : lo ≤ place
    pub within : place ≤ order_length machine plans ask rows b rule
    pub way : ToX b.first (with_place place b.x)

  -- the list goes through the place that is due
  abbrev pub Meets : Due → Type 0
  Meets (goal s) = ToX s (with_goal (room s))
  Meets (action b act s) = ToX s (with_action act (room s) b.x)
  Meets (places b rule lo) = MeetsIn b rule lo
  Meets (stop b) = ToX b.first (with_stop b.x)

  abbrev pub MeetsOne : List Due → Type 0
  MeetsOne ds = (d : Due) × Contains ds d × Meets d

  abbrev SitsHere : Stand → Type 0
  SitsHere s = Sits machine plans ask rows X s

  -- through the node that stands there, or through the places behind it
  one-stand : (b : Bool) (st s : Stand) → SitsHere st → cond b (Some st) None ≡ Some s → SitsHere s
  one-stand true st s sits e = let same : st ≡ s = cc in subst SitsHere same sits
  one-stand false st s sits e = absurd cc

  in-places : (b : Branch) (rule : HoldRule) (name : List ℕ) (lo from to : ℕ) (s : Stand) → MeetsIn b rule lo
      → (test : Bool) → (is_name_of_resource machine plans ask rows name (slice_get machine.resources rule.resource.0) && (from == lo) && nat_le from to && nat_le to (order_length machine plans ask rows b rule)) ≡ test
      → cond test (Some (at_places machine plans ask rows b rule from to)) None ≡ Some s → SitsHere s ⊎ MeetsOne (places_from machine plans ask rows b rule (suc to))
  in-places b rule name lo from to s m false t e = absurd cc
  in-places b rule name lo from to s m true t e =
      let named = is_name_of_resource machine plans ask rows name (slice_get machine.resources rule.resource.0) in
      let p = and_parts (named && (from == lo) && nat_le from to) (nat_le to (order_length machine plans ask rows b rule)) t in
      let q = and_parts (named && (from == lo)) (nat_le from to) p.0 in
      let r = and_parts named (from == lo) q.0 in
      let first : from ≡ lo = eqb-true from lo r.1 in
      let within : to ≤ order_length machine plans ask rows b rule = le-from to (order_length machine plans ask rows b rule) p.1 in
      let same : at_places machine plans ask rows b rule from to ≡ s = cc in
      elim (cases_lt to m.place) [
        | inl beyond ↦ inr (behind beyond)
        | inr le ↦ inl (subst SitsHere same (here first within le))
      ] where
        behind : to < m.place → MeetsOne (places_from machine plans ask rows b rule (suc to))
        behind beyond =
            let w = m.within in
            let test : nat_le (suc to) (order_length machine plans ask rows b rule) ≡ true = le-to (suc to) (order_length machine plans ask rows b rule) (omega arith) in
            rw test (places b rule (suc to), Contains-here (places b rule (suc to)) [], record { next = m.next; going = m.going; place = m.place; from = beyond; within = m.within; way = m.way })

        here : from ≡ lo → to ≤ order_length machine plans ask rows b rule → m.place ≤ to → SitsHere (at_places machine plans ask rows b rule from to)
        here first within le = go (from == to) refl where
          go : (c : Bool) → (from == to) ≡ c → SitsHere (cond c (alone machine plans ask rows (place_branch machine plans ask rows b from)) (record { branch = record { depth = suc b.depth; first = b.first; x = b.x }; span = Some (record { rule = rule; lo = from; hi = to }) }))
          go true u =
              let f = m.from in
              let only : m.place ≡ from = let k = eqb-true from to u in omega arith in
              subst (λ k. ToX b.first (with_place k b.x)) only m.way
          go false u = record { next = m.next; going = m.going; place = m.place; from = let f = m.from in omega arith; until = le; within = within; way = m.way }

  enters : (d : Due) (head : Head) (s : Stand) → stand_of machine plans ask rows d head ≡ Some s → Meets d → SitsHere s ⊎ MeetsOne (due_behind machine plans ask rows d head)
  enters (goal g) (GoalHead named) s e way = inl (one-stand (is_state g (state_of machine named)) (alone machine plans ask rows (goal_branch machine plans ask rows g)) s way e)
  enters (goal g) (ActHead name) s e way = absurd cc
  enters (goal g) (AtHead name lo hi) s e way = absurd cc
  enters (goal g) StopHead s e way = absurd cc
  enters (action b act g) (ActHead name) s e way =
      inl (one-stand (is_name_of_act machine plans ask rows name (action_at machine act.0)) (alone machine plans ask rows (action_branch machine plans ask rows b act g)) s way e)
  enters (action b act g) (GoalHead named) s e way = absurd cc
  enters (action b act g) (AtHead name lo hi) s e way = absurd cc
  enters (action b act g) StopHead s e way = absurd cc
  enters (places b rule lo) (AtHead name from to) s e m = in-places b rule name lo from to s m _ refl e
  enters (places b rule lo) (GoalHead named) s e m = absurd cc
  enters (places b rule lo) (ActHead name) s e m = absurd cc
  enters (places b rule lo) StopHead s e m = absurd cc
  enters (stop b) StopHead s e way = let same : alone machine plans ask rows (stop_branch machine plans ask rows b) ≡ s = cc in inl (subst SitsHere same way)
  enters (stop b) (GoalHead named) s e way = absurd cc
  enters (stop b) (ActHead name) s e way = absurd cc
  enters (stop b) (AtHead name lo hi) s e way = absurd cc

  -- ---- children

  in-actions : (b : Branch) (n i : ℕ) (d : Due) → i < n → Contains (action_due machine plans ask rows b (record { 0 = i })) d → Contains (actions_below machine plans ask rows b n) d
  in-actions b zero i d below in' = absurd (omega (arith, below))
  in-actions b (suc n) i d below in' = elim (cases_lt i n) [
    | inl l ↦ Contains-append_left (actions_below machine plans ask rows b n) (action_due machine plans ask rows b (record { 0 = n })) d (in-actions b n i d l in')
    | inr l ↦ let e : i ≡ n = omega arith in Contains-append_right (actions_below machine plans ask rows b n) (action_due machine plans ask rows b (record { 0 = n })) d (subst (λ k. Contains (action_due machine plans ask rows b (record { 0 = k })) d) e in')
  ]

  unless : (c : Bool) (ds more : List Due) → cond c None (Some ds) ≡ Some more → ds ≡ more
  unless true ds more e = absurd cc
  unless false ds more e = cc

  children-met : (b : Branch) (more : List Due) → b.x.stopped ≡ false → ToX b.first b.x → (o : Option HoldRule) → next_rule machine b.x ≡ o → children_of machine plans ask rows b o ≡ Some more → MeetsOne more
  children-met b more going (there _ whole) o next e =
      let none : o ≡ None = sym next ∙ whole.full in
      let begun = whole.complete going in
      let e' : cond (is_begun machine ask ask.origin b.first) None (Some (stop_due machine plans ask rows b ++ actions_due machine plans ask rows b)) ≡ Some more = subst (λ k. children_of machine plans ask rows b k ≡ Some more) none e in
      let no : cond true None (Some (stop_due machine plans ask rows b ++ actions_due machine plans ask rows b)) ≡ Some more = subst (λ k. cond k None (Some (stop_due machine plans ask rows b ++ actions_due machine plans ask rows b)) ≡ Some more) begun e' in
      absurd cc
  children-met b more going (by_action act before _ _ full going' lengths few allowed step way) o next e =
      let none : o ≡ None = sym next ∙ full in
      let e' : cond (is_begun machine ask ask.origin b.first) None (Some (stop_due machine plans ask rows b ++ actions_due machine plans ask rows b)) ≡ Some more = subst (λ k. children_of machine plans ask rows b k ≡ Some more) none e in
      let is : stop_due machine plans ask rows b ++ actions_due machine plans ask rows b ≡ more = unless (is_begun machine ask ask.origin b.first) (stop_due machine plans ask rows b ++ actions_due machine plans ask rows b) more e' in
      let a = step-action machine ask.want act before b.first step in
      let within = slice_get_within machine.actions act.0 a.0 a.1 in
      let found = before-is machine ask.want act before b.first step in
      let here : Contains (action_due machine plans ask rows b act) (action b act before) = rw (allowed, found) (Contains-here (action b act before) []) in
      let among : Contains (actions_due machine plans ask rows b) (action b act before) = rw (lt-to (kept_of ask + length b.x.choices) 64 few) (in-actions b (length machine.actions) act.0 (action b act before) within here) in
      (action b act before, subst (λ ds. Contains ds (action b act before)) is (Contains-append_right (stop_due machine plans ask rows b) (actions_due machine plans ask rows b) (action b act before) among), way)
  children-met b more going (by_place rule place _ _ next' going' le way) o next e =
      let some : o ≡ Some rule = sym next ∙ next' in
      let e' : Some (places b rule 0 ∷ []) ≡ Some more = subst (λ k. children_of machine plans ask rows b k ≡ Some more) some e in
      let is : places b rule 0 ∷ [] ≡ more = cc in
      (places b rule 0, subst (λ ds. Contains ds (places b rule 0)) is (Contains-here (places b rule 0) []), record { next = next'; going = going; place = place; from = omega arith; within = le; way = way })
  children-met b more going (by_stop _ _ full going' some front way) o next e =
      let none : o ≡ None = sym next ∙ full in
      let e' : cond (is_begun machine ask ask.origin b.first) None (Some (stop_due machine plans ask rows b ++ actions_due machine plans ask rows b)) ≡ Some more = subst (λ k. children_of machine plans ask rows b k ≡ Some more) none e in
      let is : stop_due machine plans ask rows b ++ actions_due machine plans ask rows b ≡ more = unless (is_begun machine ask ask.origin b.first) (stop_due machine plans ask rows b ++ actions_due machine plans ask rows b) more e' in
      let here : Contains (stop_due machine plans ask rows b) (stop b) = rw (front, some) (Contains-here (stop b) []) in
      (stop b, subst (λ ds. Contains ds (stop b)) is (Contains-append_left (stop_due machine plans ask rows b) (actions_due machine plans ask rows b) (stop b) here), way)

  splits : (b : Branch) (o : Option Span) (more : List Due) → SitsAt machine plans ask rows X b o → children_at machine plans ask rows b o ≡ Some more → MeetsOne more
  splits b (Some span) more sits e = absurd cc
  splits b None more sits e = go b.x.stopped refl e where
    go : (c : Bool) → b.x.stopped ≡ c → cond c None (children_of machine plans ask rows b (next_rule machine b.x)) ≡ Some more → MeetsOne more
    go true u h = absurd cc
    go false u h = children-met b more u sits (next_rule machine b.x) refl h

  -- ---- nodes

  module _ (are : AreRoomRows machine ask rows) (asked : IsAsked machine plans ask) (legal : IsLegal machine plans) (t : Ticks) (all : SuffixTimes machine plans ask X t) (limit : ℤ) (by_limit : pos (t (own 0)) ≤ℤ limit) where
    reached : (b : Branch) (o : Option Span) → SitsAt machine plans ask rows X b o → IsReached machine plans ask rows b.first
    reached b None way = way-reached machine plans ask rows X b.first b.x way
    reached b (Some span) sits = way-reached machine plans ask rows X b.first (with_place sits.place b.x) sits.way

    closes : (s : Stand) (head : Head) (close : Close) (more : List Due) → SitsHere s → close_look machine plans ask rows limit s head close ≡ due more → MeetsOne more
    closes s head Split more sits e = go (children machine plans ask rows s) refl e where
      go : (o : Option (List Due)) → children machine plans ask rows s ≡ o → split_look o ≡ due more → MeetsOne more
      go None u h = absurd cc
      go (Some ds) u h = let same : ds ≡ more = cc in subst MeetsOne same (splits s.branch s.span ds sits u)
    closes s head Dead more sits e = absurd (dead-none machine plans ask rows are asked legal X t all limit by_limit s sits head more (reached s.branch s.span sits) e)
    closes s head (Chain first hops) more sits e = absurd (chain-none machine plans ask rows are asked legal X t all limit by_limit s sits first hops more e)
    closes s head (Loop first hops) more sits e = absurd (loop-none machine plans ask rows are asked legal X t all limit by_limit s sits first hops more e)

    looks : (d : Due) (n : Node) (more : List Due) → Meets d → look machine plans ask rows limit d n ≡ due more → MeetsOne more
    looks d n more meets e = go (stand_of machine plans ask rows d n.head) refl e where
      joined : (s : Stand) → stand_of machine plans ask rows d n.head ≡ Some s → (l : Look) → close_look machine plans ask rows limit s n.head n.close ≡ l → with_behind machine plans ask rows limit (due_behind machine plans ask rows d n.head) l ≡ due more → MeetsOne more
      joined s u (wrong flaw) v h = absurd cc
      joined s u (due ds) v h =
          let same : ds ++ due_behind machine plans ask rows d n.head ≡ more = cc in
          subst MeetsOne same (elim (enters d n.head s u meets) [
            | inl sits ↦ let m = closes s n.head n.close ds sits v in (m.0, Contains-append_left ds (due_behind machine plans ask rows d n.head) m.0 m.1, m.2)
            | inr m ↦ (m.0, Contains-append_right ds (due_behind machine plans ask rows d n.head) m.0 m.1, m.2)
          ])

      test : (s : Stand) → stand_of machine plans ask rows d n.head ≡ Some s → (c : Bool) → cond c (with_behind machine plans ask rows limit (due_behind machine plans ask rows d n.head) (close_look machine plans ask rows limit s n.head n.close)) (wrong uncovered) ≡ due more → MeetsOne more
      test s u false h = absurd cc
      test s u true h = joined s u (close_look machine plans ask rows limit s n.head n.close) refl h

      go : (o : Option Stand) → stand_of machine plans ask rows d n.head ≡ o → stand_look machine plans ask rows limit d n o ≡ due more → MeetsOne more
      go None u h = absurd cc
      go (Some s) u h = test s u (n.depth == s.branch.depth) h

    pub covers-none : (nodes : List Node) (ds : List Due) → Covers machine plans ask rows limit ds nodes → MeetsOne ds → ⊥
    covers-none [] [] covers m = let in' = m.1 in absurd (omega (arith, in'.1))
    covers-none [] (d ∷ ds) covers m = absurd covers
    covers-none (n ∷ nodes) [] covers m = absurd covers
    covers-none (n ∷ nodes) (d ∷ ds) (more, e, rest) m = elim (Contains-cons_cases d ds m.0 m.1) [
      | inl is ↦ let k = looks d n more (subst Meets (sym is) m.2) e in covers-none nodes (more ++ ds) rest (k.0, Contains-append_left more ds k.0 k.1, k.2)
      | inr later ↦ covers-none nodes (more ++ ds) rest (m.0, Contains-append_right more ds m.0 later, m.2)
    ]
