-- No whole list whose ticks end by the limit goes through a node that is closed.
use Rattle.std.proofs.Common.{◌≡◌, ℕ, zero, suc, ◌+◌, ◌-◌, ◌≤◌, Bool, true, false, cond, ◌&&◌, ◌==◌, List, [], length, refl, sym, subst, arith, Contains, Option, Some, None}
use Rattle.std.specs.Prelude.{ℤ, pos, ◌+ℤ◌, ◌≤ℤ◌, ◌<ℤ◌, int_lt, nat_le}
use Rattle.std.proofs.lemmas.Bool.Decides.{nat_tests}
use Rattle.std.proofs.lemmas.Int.{ints}
use Rattle.tp_bounds.specs.declared.hops.Hop.{Hop}
use Rattle.tp_bounds.specs.declared.hops.TreePoint.{TreePoint}
use Rattle.tp_bounds.specs.declared.hops.TreePoint.TheVariants.{Own as OwnPoint, Kept as KeptPoint}
use Rattle.tp_bounds.specs.declared.tree.Head.{Head}
use Rattle.tp_bounds.specs.declared.tree.TreeRow.{TreeRow}
use Rattle.tp_machine.specs.declared.machine.Machine.{Machine}
use Rattle.tp_schedule.specs.Answers.{IsAsked}
use Rattle.tp_schedule.specs.Choices.{start_floor}
use Rattle.tp_schedule.specs.Legality.{IsLegal}
use Rattle.tp_schedule.specs.Spots.{Spot, Ticks}
use Rattle.tp_schedule.specs.Spots.Spot.{kept, own}
use Rattle.tp_schedule.specs.declared.parts.Ask.{Ask}
use Rattle.tp_schedule.specs.declared.parts.Plan.{Plan}
use Rattle.tp_choices.proofs.CompletePlans.{ChoicesLast-rise}
use Rattle.tp_constraints.specs.Gaps.{IsPoint, Within}
use Rattle.tp_constraints.specs.Numbers.{is_same_spot}
use Rattle.tp_constraints.specs.Suffixes.{IsSuffixPoint, Suffix, SuffixTimes, room_of, suffix_cap, suffix_low}
use Rattle.tp_constraints.proofs.Bounds.{within-all, within-from_times}
use Rattle.tp_constraints.proofs.PointNumbers.{same_spot-is}
use Rattle.tp_bound_laws.specs.Chains.{Led, cap, follow, low, plan_named, is_plan_of, point_in, spot_of}
use Rattle.tp_bound_laws.specs.Chains.Led.{led, lost}
use Rattle.tp_bound_laws.specs.Places.{Due, Stand}
use Rattle.tp_bound_laws.specs.Rows.{AreRoomRows, row_of}
use Rattle.tp_bound_laws.specs.Trees.{chain_end, chain_look, dead_look, loop_end, loop_look, may_be_dead, reach_look}
use Rattle.tp_bound_laws.specs.Trees.Look.{due, wrong}
use Rattle.tp_bound_laws.specs.Trees.Wrong.{no_such_hop, weak}
use Rattle.tp_bound_laws.proofs.OrderHops.{find-in}
use Rattle.tp_bound_laws.proofs.RowFacts.{row-below}
use Rattle.tp_bound_laws.proofs.HopsInLists.{Sits, follow-kept, times-of}
use Rattle.tp_bound_laws.proofs.Ways.{IsReached}

-- named points are known
le-from : (a b : ℕ) → nat_le a b ≡ true → a ≤ b
le-from a b e = grind (arith, nat_tests)

point-known : (plans : List Plan) (count i : ℕ) (o : Option Plan) (s : Spot) → ((p : Plan) → o ≡ Some p → Contains plans p) → point_in i o ≡ Some s → IsPoint plans count s
point-known plans count i None s within e = absurd cc
point-known plans count i (Some p) s within e = go (nat_le i (length p.acts)) refl e where
  go : (b : Bool) → nat_le i (length p.acts) ≡ b → cond b (Some (kept p.sheet i)) None ≡ Some s → IsPoint plans count s
  go true u h = let same : kept p.sheet i ≡ s = cc in subst (IsPoint plans count) same (p, within p refl, refl, le-from i (length p.acts) u)
  go false u h = absurd cc

spot-known : (plans : List Plan) (count : ℕ) (point : TreePoint) (s : Spot) → spot_of plans count point ≡ Some s → IsPoint plans (suc count) s
spot-known plans count (OwnPoint n) s e = go (nat_le n count) refl e where
  go : (b : Bool) → nat_le n count ≡ b → cond b (Some (own n)) None ≡ Some s → IsPoint plans (suc count) s
  go true u h = let same : own n ≡ s = cc in let le = le-from n count u in subst (IsPoint plans (suc count)) same (omega (arith, le))
  go false u h = absurd cc
spot-known plans count (KeptPoint name i) s e = point-known plans (suc count) i (plan_named name plans) s (λ p f. find-in (is_plan_of name) plans p f) e

-- a look that closes tells a sum above the cap
below : (a b : ℤ) → int_lt a b ≡ true → a <ℤ b
below a b e = grind (arith, ints)

reach-above : (reach top : ℤ) (more : List Due) → reach_look reach top ≡ due more → top <ℤ reach
reach-above reach top more e = go (int_lt top reach) refl e where
  go : (b : Bool) → int_lt top reach ≡ b → cond b (due []) (wrong (weak reach top)) ≡ due more → top <ℤ reach
  go true u h = below top reach u
  go false u h = absurd cc

module _ (machine : Machine) (plans : List Plan) (ask : Ask) (rows : List TreeRow) (are : AreRoomRows machine ask rows) (asked : IsAsked machine plans ask) (legal : IsLegal machine plans) (X : Suffix) (t : Ticks) (all : SuffixTimes machine plans ask X t)
    (limit : ℤ) (by_limit : pos (t (own 0)) ≤ℤ limit) where
  module _ (s : Stand) (sits : Sits machine plans ask rows X s) where
    abbrev x : Suffix
    x = s.branch.x

    abbrev count : ℕ
    count = suc (length x.choices)

    times : SuffixTimes machine plans ask s.branch.x t
    times = times-of machine plans ask rows asked legal X t all s sits

    within : Within (IsSuffixPoint plans x) (suffix_low machine plans ask x) (suffix_cap machine plans ask) t
    within =
        within-all plans count (ask.now + machine.lead) (ask.now + machine.window) (λ _. false) (λ n. start_floor machine ask.now ask.origin + room_of x.rooms n) t legal.in_order (within-from_times machine ask.now (λ _. false) plans t times.keeps)
        (λ n below. let r = ChoicesLast-rise machine t x.choices times.lasts n (omega arith) in let last = times.last in (times.lows n (omega arith), omega (arith, r.1, last)))

    low-holds : (p : Spot) → IsPoint plans count p → low machine plans ask limit s p ≤ t p
    low-holds p known = (within p known).0

    cap-holds : (p : Spot) → IsPoint plans count p → pos (t p) ≤ℤ cap machine plans ask limit s p
    cap-holds (kept c i) known = let h = (within (kept c i) known).1 in omega (arith, ints)
    cap-holds (own zero) known = by_limit
    cap-holds (own (suc n)) known = go x.stopped (suc n == length x.choices) refl refl where
      top : t (own (suc n)) ≤ ask.now + machine.window
      top = (within (own (suc n)) known).1

      go : (a b : Bool) → x.stopped ≡ a → (suc n == length x.choices) ≡ b → pos (t (own (suc n))) ≤ℤ cond (a && b) (pos (start_floor machine ask.now ask.origin)) (pos (ask.now + machine.window))
      go true true u v =
          let is : suc n ≡ length x.choices = grind (arith, nat_tests) in
          let stands = times.stopped u in
          let here : t (own (suc n)) ≡ start_floor machine ask.now ask.origin = subst (λ k. t (own k) ≡ start_floor machine ask.now ask.origin) (sym is) stands in
          omega (arith, ints)
      go true false u v = let h = top in omega (arith, ints)
      go false b u v = let h = top in omega (arith, ints)

    -- a chain
    pub chain-none : (point : TreePoint) (hops : List Hop) (more : List Due) → chain_look machine plans ask rows limit s (spot_of plans (length x.choices) point) hops ≡ due more → ⊥
    chain-none point hops more e = go (spot_of plans (length x.choices) point) refl e where
      end : (from : Spot) → IsPoint plans count from → (l : Led) → follow machine plans ask limit s 0 from (pos (low machine plans ask limit s from)) hops ≡ l → chain_end machine plans ask rows limit s (pos (low machine plans ask limit s from)) l ≡ due more → ⊥
      end from known (lost k) u h = absurd cc
      end from known (led to sum) u h =
          let above = reach-above sum (cap machine plans ask limit s to) more h in
          let f = follow-kept machine plans ask rows asked legal X t all limit s sits hops 0 from to (pos (low machine plans ask limit s from)) sum known u in
          let far = f.0 in
          let least = low-holds from known in
          let most = cap-holds to f.1 in
          let q : pos (low machine plans ask limit s from) ≤ℤ pos (t from) = omega (arith, ints) in
          absurd (omega (arith, ints))

      go : (o : Option Spot) → spot_of plans (length x.choices) point ≡ o → chain_look machine plans ask rows limit s o hops ≡ due more → ⊥
      go None u h = absurd cc
      go (Some from) u h = let known = spot-known plans (length x.choices) point from u in end from known (follow machine plans ask limit s 0 from (pos (low machine plans ask limit s from)) hops) refl h

    -- a loop
    pub loop-none : (point : TreePoint) (hops : List Hop) (more : List Due) → loop_look machine plans ask rows limit s (spot_of plans (length x.choices) point) hops ≡ due more → ⊥
    loop-none point hops more e = go (spot_of plans (length x.choices) point) refl e where
      back : (from to : Spot) (sum : ℤ) → IsPoint plans count from → follow machine plans ask limit s 0 from (pos 0) hops ≡ led to sum → (b : Bool) → is_same_spot to from ≡ b → cond b (reach_look sum (pos 0)) (wrong (no_such_hop (length hops - 1))) ≡ due more → ⊥
      back from to sum known u false v h = absurd cc
      back from to sum known u true v h =
          let above = reach-above sum (pos 0) more h in
          let f = follow-kept machine plans ask rows asked legal X t all limit s sits hops 0 from to (pos 0) sum known u in
          let same : to ≡ from = same_spot-is to from v in
          let far : (pos (t from) +ℤ sum) ≤ℤ (pos (t from) +ℤ pos 0) = subst (λ q. (pos (t from) +ℤ sum) ≤ℤ (pos (t q) +ℤ pos 0)) same f.0 in
          absurd (omega (arith, ints))

      end : (from : Spot) → IsPoint plans count from → (l : Led) → follow machine plans ask limit s 0 from (pos 0) hops ≡ l → loop_end machine plans ask rows limit from (length hops - 1) l ≡ due more → ⊥
      end from known (lost k) u h = absurd cc
      end from known (led to sum) u h = back from to sum known u (is_same_spot to from) refl h

      go : (o : Option Spot) → spot_of plans (length x.choices) point ≡ o → loop_look machine plans ask rows limit s o hops ≡ due more → ⊥
      go None u h = absurd cc
      go (Some from) u h = let known = spot-known plans (length x.choices) point from u in end from known (follow machine plans ask limit s 0 from (pos 0) hops) refl h

    -- a state that can be reached has a row
    pub dead-none : (head : Head) (more : List Due) → IsReached machine plans ask rows s.branch.first → dead_look (may_be_dead head) (row_of machine rows s.branch.first) ≡ due more → ⊥
    dead-none head more reached e = go (may_be_dead head) (row_of machine rows s.branch.first) refl e where
      go : (b : Bool) (o : Option ℕ) → row_of machine rows s.branch.first ≡ o → dead_look b o ≡ due more → ⊥
      go true None u h = let r = row-below machine ask rows are reached.acts s.branch.first reached.allowed reached.reaches in let has = r.1 in absurd cc
      go true (Some n) u h = absurd cc
      go false o u h = absurd cc
