-- A network of a board's points, beside the points, least and greatest ticks of a tree's node.
use Rattle.std.proofs.Common.{◌≡◌, ℕ, zero, suc, ◌+◌, ◌-◌, ◌<◌, ◌≤◌, Bool, true, false, cond, ◌&&◌, ◌==◌, List, [], length, refl, sym, ◌∙◌, ap, subst, arith, AllPairs, Option, Some}
use Rattle.std.specs.Prelude.{ℤ, pos, ◌≤ℤ◌, ◌<ℤ◌, int_lt, slice_index}
use Rattle.std.proofs.lemmas.Int.{ints}
use Rattle.std.proofs.lemmas.List.Elements.{All-contains}
use Rattle.std.proofs.lemmas.List.{length-map}
use Rattle.tp_base.specs.Net.{Net}
use Rattle.tp_bounds.specs.declared.hops.Hop.{Hop as TreeHop}
use Rattle.tp_bounds.specs.declared.hops.TreePoint.{TreePoint}
use Rattle.tp_bounds.specs.declared.tree.TreeRow.{TreeRow}
use Rattle.tp_machine.specs.declared.machine.Machine.{Machine}
use Rattle.tp_schedule.specs.Choices.{start_floor}
use Rattle.tp_schedule.specs.Plans.{AreNamed, IsEarlier}
use Rattle.tp_schedule.specs.Spots.{Spot}
use Rattle.tp_schedule.specs.Spots.Spot.{kept, own}
use Rattle.tp_schedule.specs.declared.parts.Ask.{Ask}
use Rattle.tp_schedule.specs.declared.parts.Plan.{Plan}
use Rattle.tp_constraints.specs.Gaps.{IsPoint}
use Rattle.tp_constraints.specs.Nets.{IsBoardNet}
use Rattle.tp_constraints.specs.Suffixes.{Suffix, suffix_cap, suffix_low}
use Rattle.tp_constraints.proofs.Lists.{contains-get, get-there, index-map}
use Rattle.tp_constraints.proofs.PointNumbers.{same_spot-refl}
use Rattle.tp_placing.specs.Causes.{named_point, numbered, spot_name}
use Rattle.tp_placing.specs.Reasons.{IsPart}
use Rattle.tp_placing.specs.LoadedBoard.{table_with}
use Rattle.tp_placing.proofs.CauseFacts.{numbered-in}
use Rattle.tp_base.specs.declared.edges.PointId.{PointId}
use Rattle.tp_bound_laws.specs.Chains.{cap, follow, low, spot_of}
use Rattle.tp_bound_laws.specs.Chains.Led.{led}
use Rattle.tp_bound_laws.specs.Places.{Stand}
use Rattle.tp_bound_laws.specs.Trees.{chain_end, chain_look, loop_end, loop_look, reach_look}
use Rattle.tp_bound_laws.specs.Trees.Look.{due}
use Rattle.tp_bound_laws.proofs.AllowedHops.{named-point}
use Rattle.tp_bound_make.specs.TellableReasons.{IsNameOf}
use Rattle.tp_bound_make.proofs.NameFacts.{own-name}

above : (a b : ℤ) → a <ℤ b → int_lt a b ≡ true
above a b h = grind (arith, ints)

pub reach-due : (reach top : ℤ) → top <ℤ reach → reach_look reach top ≡ due []
reach-due reach top h = let t = above top reach h in rw t refl

module _ (machine : Machine) (plans : List Plan) (ask : Ask) (rows : List TreeRow) (limit : ℤ) (s : Stand) where
  abbrev count : ℕ
  count = length s.branch.x.choices

  -- a chain that comes later than its last point may closes its node, and so does a loop that takes time
  pub chain-closes : (name : TreePoint) (from to : Spot) (sum : ℤ) (hops : List TreeHop) → spot_of plans count name ≡ Some from → follow machine plans ask limit s 0 from (pos (low machine plans ask limit s from)) hops ≡ led to sum
      → cap machine plans ask limit s to <ℤ sum → chain_look machine plans ask rows limit s (spot_of plans count name) hops ≡ due []
  chain-closes name from to sum hops found leads passes =
      ap (λ o. chain_look machine plans ask rows limit s o hops) found ∙ ap (chain_end machine plans ask rows limit s (pos (low machine plans ask limit s from))) leads ∙ reach-due sum (cap machine plans ask limit s to) passes

  pub loop-closes : (name : TreePoint) (from : Spot) (sum : ℤ) (hops : List TreeHop) → spot_of plans count name ≡ Some from → follow machine plans ask limit s 0 from (pos 0) hops ≡ led from sum
      → pos 0 <ℤ sum → loop_look machine plans ask rows limit s (spot_of plans count name) hops ≡ due []
  loop-closes name from sum hops found leads passes =
      let t = same_spot-refl from in
      ap (λ o. loop_look machine plans ask rows limit s o hops) found ∙ ap (loop_end machine plans ask rows limit from (length hops - 1)) leads ∙ rw t (reach-due sum (pos 0) passes)

  -- a point's greatest tick in a tree is at most that on a board
  pub cap-below : (p : Spot) → limit ≤ℤ pos (ask.now + machine.window) → (s.branch.x.stopped ≡ true → start_floor machine ask.now ask.origin ≤ ask.now + machine.window) → cap machine plans ask limit s p ≤ℤ pos (suffix_cap machine plans ask p)
  cap-below (kept c i) by early = omega (arith, ints)
  cap-below (own zero) by early = by
  cap-below (own (suc n)) by early = go s.branch.x.stopped (suc n == count) refl where
    go : (a b : Bool) → s.branch.x.stopped ≡ a → cond (a && b) (pos (start_floor machine ask.now ask.origin)) (pos (ask.now + machine.window)) ≤ℤ pos (ask.now + machine.window)
    go true true u = let e = early u in omega (arith, ints)
    go true false u = omega (arith, ints)
    go false b u = omega (arith, ints)

  -- the first points of a network are those of the node, with least times that are no later and greatest ones that are no less
  pub record IsFrame (late : Net) (points : ℕ) : Type 0 where
    pub enough : points ≤ length late.lows
    pub known : (i : ℕ) → i < points → IsPoint plans (suc count) (numbered plans i)
    pub lows : (i : ℕ) → i < points → slice_index late.lows i ≤ low machine plans ask limit s (numbered plans i)
    pub caps : (i : ℕ) → i < points → cap machine plans ask limit s (numbered plans i) ≤ℤ pos (slice_index late.caps i)

  abbrev x : Suffix
  x = s.branch.x

  abbrev table : List Spot
  table = table_with plans (suc count)

  pub record IsTablePoint (net : Net) (i : ℕ) : Type 0 where
    pub known : IsPoint plans (suc count) (numbered plans i)
    pub low : slice_index net.lows i ≡ suffix_low machine plans ask x (numbered plans i)
    pub cap : slice_index net.caps i ≡ suffix_cap machine plans ask (numbered plans i)

  pub table-point : (net : Net) → IsBoardNet machine plans ask x table net → (i : ℕ) → i < length table → IsTablePoint net i
  table-point net is i below =
      let h = get-there table i below in
      let same : numbered plans i ≡ h.0 = numbered-in plans (suc count) i h.0 h.1 in
      record {
        known = subst (IsPoint plans (suc count)) (sym same) (All-contains (IsPoint plans (suc count)) table h.0 is.is_table.only (contains-get table i h.0 h.1));
        low = ap (λ l. slice_index l i) is.lows ∙ index-map (suffix_low machine plans ask x) table i h.0 h.1 ∙ ap (suffix_low machine plans ask x) (sym same);
        cap = ap (λ l. slice_index l i) is.caps ∙ index-map (suffix_cap machine plans ask) table i h.0 h.1 ∙ ap (suffix_cap machine plans ask) (sym same);
      }

  pub table-length : (net : Net) → IsBoardNet machine plans ask x table net → length net.lows ≡ length table
  table-length net is = ap length is.lows ∙ length-map table (suffix_low machine plans ask x)

  pub net-frame : (net late : Net) → IsBoardNet machine plans ask x table net → IsPart late net → limit ≤ℤ pos (ask.now + machine.window) → (x.stopped ≡ true → start_floor machine ask.now ask.origin ≤ ask.now + machine.window) → IsFrame late (length table)
  net-frame net late is part by early =
      let n = table-length net is in
      let same = part.points in
      record {
        enough = omega arith;
        known = λ i below. (table-point net is i below).known;
        lows = λ i below. let p = (table-point net is i below).low in let l = part.lows i (omega arith) in omega arith;
        caps = λ i below. let p = (table-point net is i below).cap in let c : slice_index late.caps i ≡ slice_index net.caps i = ap (λ l. slice_index l i) part.caps in let e = cap-below (numbered plans i) by early in omega (arith, ints);
      }

  -- a name that was given is found again
  pub name-found : AllPairs IsEarlier plans → AreNamed plans → (last : Option PointId) (point : PointId) (name : TreePoint) → IsPoint plans (suc count) (numbered plans point.0) → named_point plans last point ≡ spot_name plans (numbered plans point.0)
      → IsNameOf plans last point name → spot_of plans count name ≡ Some (numbered plans point.0)
  name-found in_order named last point name known here told =
      let p = named-point plans count (numbered plans point.0) in_order named known in
      let t = own-name machine plans last point name here told in
      let same : Some p.name ≡ Some name = sym p.told ∙ t in
      let is : p.name ≡ name = cc in
      subst (λ q. spot_of plans count q ≡ Some (numbered plans point.0)) is p.found
