-- What closes a node of one place of a hold closes a node of several.
use Rattle.std.proofs.Common.{◌≡◌, ◌⊎◌, inl, inr, ℕ, suc, ◌-◌, ◌≤◌, Bool, true, false, cond, ◌==◌, List, [], ◌∷◌, length, refl, sym, ◌∙◌, ap, subst, AllPairs, arith, Option, Some, None}
use Rattle.std.specs.Prelude.{slice_get, ℤ, pos}
use Rattle.std.proofs.lemmas.Bool.{eqb-true}
use Rattle.tp_bounds.specs.declared.hops.Hop.{Hop}
use Rattle.tp_bounds.specs.declared.tree.Close.{Close}
use Rattle.tp_bounds.specs.declared.tree.Close.TheVariants.{Split, Dead, Chain, Loop}
use Rattle.tp_bounds.specs.declared.tree.Head.{Head}
use Rattle.tp_bounds.specs.declared.tree.Head.TheVariants.{Stop as StopHead}
use Rattle.tp_bounds.specs.declared.tree.TreeRow.{TreeRow}
use Rattle.tp_machine.specs.declared.parts.HoldRule.{HoldRule}
use Rattle.tp_machine.specs.declared.parts.Resource.{Resource}
use Rattle.tp_machine.specs.declared.parts.State.{State}
use Rattle.tp_machine.specs.declared.machine.Machine.{Machine}
use Rattle.tp_schedule.specs.Choices.{Choice}
use Rattle.tp_schedule.specs.Plans.{IsEarlier}
use Rattle.tp_schedule.specs.Spots.{Spot}
use Rattle.tp_schedule.specs.declared.parts.Ask.{Ask}
use Rattle.tp_schedule.specs.declared.parts.Plan.{Plan}
use Rattle.tp_constraints.specs.Suffixes.{Suffix, order_in, with_place}
use Rattle.tp_bound_laws.specs.Chains.{Led, follow, low, spot_of}
use Rattle.tp_bound_laws.specs.Chains.Led.{led, lost}
use Rattle.tp_bound_laws.specs.Once.{AreDifferent, PassesOnce, chain_once, loop_once}
use Rattle.tp_bound_laws.specs.Places.{Branch, Stand, alone, at_places, next_rule, place_branch}
use Rattle.tp_bound_laws.specs.Trees.{chain_end, chain_look, close_look, loop_end, loop_look}
use Rattle.tp_bound_laws.specs.Trees.Look.{due}
use Rattle.tp_bound_laws.proofs.Lists.{number-same}
use Rattle.tp_bound_make.specs.Closes.{Closes}
use Rattle.tp_bound_make.specs.Ranges.{ClosesRange, IsFree, NoHop, leads}
use Rattle.tp_bound_make.specs.declared.side.Side.TheVariants.{Before, Behind}
use Rattle.tp_bound_make.proofs.RangeHops.{follow-stays, many, one, passed-stays}

-- a hop that leads to no hold of a side, or the last place of that side
unless : (p : Hop → Bool) (hops : List Hop) (place end : ℕ) → (place ≡ end) ⊎ NoHop p hops → (i : ℕ) (h : Hop) → slice_get hops i ≡ Some h → p h ≡ true → place ≡ end
unless p hops place end (inl same) i h at leads-there = same
unless p hops place end (inr none) i h at leads-there = let never = none i h at in absurd cc

module _ (machine : Machine) (plans : List Plan) (ask : Ask) (limit : ℤ) (rule : HoldRule) (res : Resource) (place lo hi : ℕ) (in_order : AllPairs IsEarlier plans) (at : slice_get machine.resources rule.resource.0 ≡ Some res) (from : lo ≤ place) (until : place ≤ hi) (close : Close) where
  -- what is known of a close of one place
  pub record IsWide (x : Suffix) : Type 0 where
    pub next : next_rule machine x ≡ Some rule
    pub within : hi ≤ length (order_in machine plans x rule.resource.0)
    pub closes : Closes machine plans ask limit (with_place place x) close
    pub behind : (place ≡ hi) ⊎ IsFree (leads Behind res.name (length x.choices)) close
    pub before : (place ≡ lo) ⊎ IsFree (leads Before res.name (length x.choices)) close

  module _ (rows : List TreeRow) (head : Head) (depth : ℕ) (first : State) (rooms : List ℕ) (stopped : Bool) (apart : (lo == hi) ≡ false) where
    abbrev Many : Stand → Type 0
    Many s = close_look machine plans ask rows limit s head close ≡ due []

    not-one : place ≡ hi → place ≡ lo → ⊥
    not-one a b = let same : lo ≡ hi = sym b ∙ a in let equal = subst (λ k. (lo == k) ≡ true) same (number-same lo) in absurd cc

    module _ (c : Choice) (cs : List Choice) (w : IsWide (record { choices = c ∷ cs; rooms = rooms; stopped = stopped })) where
      abbrev s1 : Stand
      s1 = one machine plans ask limit rule res place lo hi in_order at from until c cs rooms stopped depth first w.next w.within

      abbrev s2 : Stand
      s2 = many machine plans ask limit rule res place lo hi in_order at from until c cs rooms stopped depth first w.next w.within

      abbrev count : ℕ
      count = suc (length cs)

      chain-stays : (hops : List Hop) → (place ≡ hi) ⊎ NoHop (leads Behind res.name count) hops → (place ≡ lo) ⊎ NoHop (leads Before res.name count) hops → (o : Option Spot)
          → chain_look machine plans ask rows limit s1 o hops ≡ due [] → chain_look machine plans ask rows limit s2 o hops ≡ due []
      chain-stays hops behind before None e = absurd cc
      chain-stays hops behind before (Some p) e = go (follow machine plans ask limit s1 0 p (pos (low machine plans ask limit s1 p)) hops) refl e where
        go : (l : Led) → follow machine plans ask limit s1 0 p (pos (low machine plans ask limit s1 p)) hops ≡ l → chain_end machine plans ask rows limit s1 (pos (low machine plans ask limit s1 p)) l ≡ due [] → chain_look machine plans ask rows limit s2 (Some p) hops ≡ due []
        go (lost k) u d = absurd cc
        go (led to sum) u d =
            let f = follow-stays machine plans ask limit rule res place lo hi in_order at from until c cs rooms stopped depth first w.next w.within 0 p (pos (low machine plans ask limit s1 p)) hops to sum (unless (leads Behind res.name count) hops place hi behind)
            (unless (leads Before res.name count) hops place lo before) u in
            ap (chain_end machine plans ask rows limit s2 (pos (low machine plans ask limit s1 p))) f ∙ d

      loop-stays : (hops : List Hop) → (place ≡ hi) ⊎ NoHop (leads Behind res.name count) hops → (place ≡ lo) ⊎ NoHop (leads Before res.name count) hops → (o : Option Spot)
          → loop_look machine plans ask rows limit s1 o hops ≡ due [] → loop_look machine plans ask rows limit s2 o hops ≡ due []
      loop-stays hops behind before None e = absurd cc
      loop-stays hops behind before (Some p) e = go (follow machine plans ask limit s1 0 p (pos 0) hops) refl e where
        go : (l : Led) → follow machine plans ask limit s1 0 p (pos 0) hops ≡ l → loop_end machine plans ask rows limit p (length hops - 1) l ≡ due [] → loop_look machine plans ask rows limit s2 (Some p) hops ≡ due []
        go (lost k) u d = absurd cc
        go (led to sum) u d =
            let f = follow-stays machine plans ask limit rule res place lo hi in_order at from until c cs rooms stopped depth first w.next w.within 0 p (pos 0) hops to sum (unless (leads Behind res.name count) hops place hi behind)
            (unless (leads Before res.name count) hops place lo before) u in
            ap (loop_end machine plans ask rows limit p (length hops - 1)) f ∙ d

      by-close : (k : Close) → (place ≡ hi) ⊎ IsFree (leads Behind res.name count) k → (place ≡ lo) ⊎ IsFree (leads Before res.name count) k → close_look machine plans ask rows limit s1 head k ≡ due [] → close_look machine plans ask rows limit s2 head k ≡ due []
      by-close Split (inl a) (inl b) e = absurd (not-one a b)
      by-close Split (inr a) b e = absurd a
      by-close Split (inl a) (inr b) e = absurd b
      by-close Dead (inl a) (inl b) e = absurd (not-one a b)
      by-close Dead (inr a) b e = absurd a
      by-close Dead (inl a) (inr b) e = absurd b
      by-close (Chain p hops) a b e = chain-stays hops a b (spot_of plans count p) e
      by-close (Loop p hops) a b e = loop-stays hops a b (spot_of plans count p) e

      pub many-closes : Many s2
      many-closes = by-close close w.behind w.before (w.closes.1 rows (record { depth = suc depth; first = first; x = with_place place (record { choices = c ∷ cs; rooms = rooms; stopped = stopped }) }) head refl)

      -- and it passes no point twice
      chain-onces : (hops : List Hop) → (place ≡ hi) ⊎ NoHop (leads Behind res.name count) hops → (place ≡ lo) ⊎ NoHop (leads Before res.name count) hops → (o : Option Spot)
          → chain_look machine plans ask rows limit s1 o hops ≡ due [] → chain_once machine plans ask limit s1 o hops → chain_once machine plans ask limit s2 o hops
      chain-onces hops behind before None e once = tt
      chain-onces hops behind before (Some p) e once = go (follow machine plans ask limit s1 0 p (pos (low machine plans ask limit s1 p)) hops) refl e where
        go : (l : Led) → follow machine plans ask limit s1 0 p (pos (low machine plans ask limit s1 p)) hops ≡ l → chain_end machine plans ask rows limit s1 (pos (low machine plans ask limit s1 p)) l ≡ due [] → chain_once machine plans ask limit s2 (Some p) hops
        go (lost k) u d = absurd cc
        go (led to sum) u d =
            subst (λ ps. AreDifferent (p ∷ ps)) (passed-stays machine plans ask limit rule res place lo hi in_order at from until c cs rooms stopped depth first w.next w.within 0 p (pos (low machine plans ask limit s1 p)) hops to sum
            (unless (leads Behind res.name count) hops place hi behind) (unless (leads Before res.name count) hops place lo before) u) once

      loop-onces : (hops : List Hop) → (place ≡ hi) ⊎ NoHop (leads Behind res.name count) hops → (place ≡ lo) ⊎ NoHop (leads Before res.name count) hops → (o : Option Spot)
          → loop_look machine plans ask rows limit s1 o hops ≡ due [] → loop_once machine plans ask limit s1 o hops → loop_once machine plans ask limit s2 o hops
      loop-onces hops behind before None e once = tt
      loop-onces hops behind before (Some p) e once = go (follow machine plans ask limit s1 0 p (pos 0) hops) refl e where
        go : (l : Led) → follow machine plans ask limit s1 0 p (pos 0) hops ≡ l → loop_end machine plans ask rows limit p (length hops - 1) l ≡ due [] → loop_once machine plans ask limit s2 (Some p) hops
        go (lost k) u d = absurd cc
        go (led to sum) u d =
            subst AreDifferent (passed-stays machine plans ask limit rule res place lo hi in_order at from until c cs rooms stopped depth first w.next w.within 0 p (pos 0) hops to sum
            (unless (leads Behind res.name count) hops place hi behind) (unless (leads Before res.name count) hops place lo before) u) once

      once-close : (k : Close) → (place ≡ hi) ⊎ IsFree (leads Behind res.name count) k → (place ≡ lo) ⊎ IsFree (leads Before res.name count) k → close_look machine plans ask rows limit s1 head k ≡ due [] → PassesOnce machine plans ask limit s1 k → PassesOnce machine plans ask limit s2 k
      once-close Split a b e once = tt
      once-close Dead a b e once = tt
      once-close (Chain p hops) a b e once = chain-onces hops a b (spot_of plans count p) e once
      once-close (Loop p hops) a b e once = loop-onces hops a b (spot_of plans count p) e once

      pub many-once : PassesOnce machine plans ask limit s2 close
      many-once =
          let here : Branch = record { depth = suc depth; first = first; x = with_place place (record { choices = c ∷ cs; rooms = rooms; stopped = stopped }) } in
          once-close close w.behind w.before (w.closes.1 rows here head refl) (w.closes.2 here refl)

    pub some-once : (choices : List Choice) → IsWide (record { choices = choices; rooms = rooms; stopped = stopped })
        → PassesOnce machine plans ask limit (record { branch = record { depth = suc depth; first = first; x = record { choices = choices; rooms = rooms; stopped = stopped } }; span = Some (record { rule = rule; lo = lo; hi = hi }) }) close
    some-once [] w = let e = w.next in absurd cc
    some-once (c ∷ cs) w = many-once c cs w

    pub some-closes : (choices : List Choice) → IsWide (record { choices = choices; rooms = rooms; stopped = stopped })
        → Many (record { branch = record { depth = suc depth; first = first; x = record { choices = choices; rooms = rooms; stopped = stopped } }; span = Some (record { rule = rule; lo = lo; hi = hi }) })
    some-closes [] w = let e = w.next in absurd cc
    some-closes (c ∷ cs) w = many-closes c cs w

  -- at one place or at several
  range-looks : (x : Suffix) → IsWide x → (rows : List TreeRow) (b : Branch) (head : Head) → b.x ≡ x → close_look machine plans ask rows limit (at_places machine plans ask rows b rule lo hi) head close ≡ due []
  range-looks x wide rows b head same = go (lo == hi) refl where
    w : IsWide b.x
    w = subst IsWide (sym same) wide

    go : (t : Bool) → (lo == hi) ≡ t
        → close_look machine plans ask rows limit (cond t (alone machine plans ask rows (place_branch machine plans ask rows b lo)) (record { branch = record { depth = suc b.depth; first = b.first; x = b.x }; span = Some (record { rule = rule; lo = lo; hi = hi }) })) head close ≡ due []
    go true u =
        let both : lo ≡ hi = eqb-true lo hi u in
        let only : place ≡ lo = omega arith in
        w.closes.1 rows (place_branch machine plans ask rows b lo) head (ap (λ k. with_place k b.x) (sym only))
    go false u = some-closes rows head b.depth b.first b.x.rooms b.x.stopped u b.x.choices w

  range-once : (x : Suffix) → IsWide x → (rows : List TreeRow) (b : Branch) → b.x ≡ x → PassesOnce machine plans ask limit (at_places machine plans ask rows b rule lo hi) close
  range-once x wide rows b same = go (lo == hi) refl where
    w : IsWide b.x
    w = subst IsWide (sym same) wide

    go : (t : Bool) → (lo == hi) ≡ t
        → PassesOnce machine plans ask limit (cond t (alone machine plans ask rows (place_branch machine plans ask rows b lo)) (record { branch = record { depth = suc b.depth; first = b.first; x = b.x }; span = Some (record { rule = rule; lo = lo; hi = hi }) })) close
    go true u =
        let both : lo ≡ hi = eqb-true lo hi u in
        let only : place ≡ lo = omega arith in
        w.closes.2 (place_branch machine plans ask rows b lo) (ap (λ k. with_place k b.x) (sym only))
    go false u = some-once rows StopHead b.depth b.first b.x.rooms b.x.stopped u b.x.choices w

  pub range-closes : (x : Suffix) → IsWide x → ClosesRange machine plans ask limit x rule lo hi close
  range-closes x wide = (wide.closes.0, range-looks x wide, range-once x wide)
