use Rattle.std.proofs.Common.{◌≡◌, ◌∙◌, ℕ, ◌+◌, ◌<◌, ◌≤◌, [], All, List, ap, arith, false, length, subst, sym}
use Rattle.std.specs.List.{flat_map}
use Rattle.std.specs.Prelude.{slice_index}
use Rattle.tp_base.specs.Net.{IsLeast, Net}
use Rattle.tp_schedule.specs.Plans.{IsFormed}
use Rattle.tp_schedule.specs.declared.parts.Plan.{Plan}
use Rattle.tp_constraints.specs.Gaps.{low_of}
use Rattle.tp_placing.specs.Boards.{past_of}
use Rattle.tp_placing.specs.Loaded.{CanLoad, IsLoaded}
use Rattle.tp_placing.specs.LoadedNet.{caps_of, lows_of, point_count}
use Rattle.tp_placing.specs.ClockMove.{AreFurther}
use Rattle.tp_placing.specs.Settled.{HasLeastPoints}
use Rattle.tp_placing.specs.LoadedBoard.{AreFirsts}
use Rattle.tp_placing.proofs.LoadTable.{length-table-of}
use Rattle.tp_placing.proofs.LoadedTicks.{points-fit}
use Rattle.tp_placing.proofs.MovedBounds.{length-rows}
use Rattle.tp_placing.proofs.MovedNet.{board-moved, caps-count, loads-rise, moved-loaded, moved-loads, moved-more, moved-points, none-marked}
use Rattle.tp_placing.proofs.MovedPlans.{further-count, further-firsts}
use Rattle.tp_placing.proofs.SettledFacts.{settled-all}
use Rattle.tp_placing.proofs.WriteReady.{timed-formed}
use Rattle.tp_placing.proofs.board.Board.move_to.Goals as goal
use Rattle.tp_placing.proofs.board.Board.move_to.Goals.{After-deref}

pub release_all-requires-clause-rise : goal.release_all-requires-clause-rise
release_all-requires-clause-rise g c = loads-rise c.args.machine.now c.args.before c.self.inside.plans.items (rw (← c.self.view_is) at c.requires.can)

-- ---- the plans are released
module _ (g : _) (c : After-deref g) where
  can-before : CanLoad c.args.machine.now c.args.before c.self.inside.plans.items
  can-before = rw (← c.self.view_is) at c.requires.can

  loaded-before : IsLoaded c.args.machine.now c.args.before c.self.inside.plans.items (g.N.Network.reading.net c.self.inside.net) c.self.inside.timelines.orders c.self.inside.held.items c.self.inside.firsts.items c.self.inside.causes
  loaded-before = rw (← c.self.view_is) at c.requires.loaded

  further : AreFurther c.args.machine.now c.args.now c.self.inside.plans.items c.release_all.new.plans.items
  further = c.release_all.ensures.further c.if-not-release_all.false

  can : CanLoad c.args.machine.now c.args.now c.release_all.new.plans.items
  can =
      moved-loads c.args.machine.now c.args.before c.args.now c.self.inside.plans.items (g.N.Network.reading.net c.self.inside.net) c.self.inside.timelines.orders c.self.inside.held.items c.self.inside.firsts.items c.self.inside.causes can-before loaded-before
      c.release_all.new.plans.items c.requires.later c.requires.last_tick further

  points : point_count c.release_all.new.plans.items ≡ length (g.N.Network.reading.net c.self.inside.net).lows
  points =
      moved-points c.args.machine.now c.args.before c.args.now c.self.inside.plans.items (g.N.Network.reading.net c.self.inside.net) c.self.inside.timelines.orders c.self.inside.held.items c.self.inside.firsts.items c.self.inside.causes can-before loaded-before
      c.release_all.new.plans.items c.requires.later c.requires.last_tick further

  few : point_count c.release_all.new.plans.items < 4294967296
  few = omega (arith, length-table-of c.release_all.new.plans.items, points-fit c.args.machine.now c.args.now c.release_all.new.plans.items can)

  formed : All IsFormed c.release_all.new.plans.items
  formed = timed-formed c.args.machine.now c.release_all.new.plans.items can.loadable.legal.timed

  unmarked : g.N.Network.reading.past c.self.inside.net ≡ []
  unmarked =
      let m = c.self.invariant.marked in
      none-marked c.self.inside.held.items c.self.inside.steps.items (g.N.Network.reading.past c.self.inside.net) c.self.inside.timelines.past c.self.inside.marks.items m.line_marks m.board_marks (ap (past_of g.N.Network.reading) c.self.view_is ∙ c.requires.unmarked)

  -- with the bounds of the moment they are loaded
  loaded-after : (net : Net) → net.lows ≡ flat_map (lows_of (c.args.now + c.args.machine.now.lead)) c.deref.result.now → net.caps ≡ flat_map (caps_of (c.args.now + c.args.machine.now.window)) c.deref.result.now
      → net.edges ≡ (g.N.Network.reading.net c.self.inside.net).edges → ((x : ℕ → ℕ) → IsLeast (g.N.Network.reading.net c.self.inside.net) x → IsLeast net x)
      → IsLoaded c.args.machine.now c.args.now c.release_all.new.plans.items net c.self.inside.timelines.orders c.self.inside.held.items c.self.inside.firsts.items c.self.inside.causes
  loaded-after net lows caps edges least =
      moved-loaded c.args.machine.now c.args.before c.args.now c.self.inside.plans.items (g.N.Network.reading.net c.self.inside.net) c.self.inside.timelines.orders c.self.inside.held.items c.self.inside.firsts.items c.self.inside.causes can-before loaded-before
      c.release_all.new.plans.items c.requires.later c.requires.last_tick further net
      (lows ∙ ap (flat_map (lows_of (c.args.now + c.args.machine.now.lead))) c.deref.ensures.value) (caps ∙ ap (flat_map (caps_of (c.args.now + c.args.machine.now.window))) c.deref.ensures.value) edges least

pub move_points-requires-clause-formed : goal.move_points-requires-clause-formed
move_points-requires-clause-formed g c = subst (All IsFormed) (sym c.deref.ensures.value) (formed g (goal.at.move_points-requires-clause-formed g c).After-deref)

pub move_points-requires-clause-known : goal.move_points-requires-clause-known
move_points-requires-clause-known g c = ap point_count c.deref.ensures.value ∙ points g (goal.at.move_points-requires-clause-known g c).After-deref

pub move_points-requires-clause-caps : goal.move_points-requires-clause-caps
move_points-requires-clause-caps g c =
    let k = (goal.at.move_points-requires-clause-caps g c).After-deref in
    caps-count c.args.machine.now c.args.before c.args.now c.self.inside.plans.items (g.N.Network.reading.net c.self.inside.net) c.self.inside.timelines.orders c.self.inside.held.items c.self.inside.firsts.items c.self.inside.causes (can-before g k) (loaded-before g k)

pub move_points-requires-clause-fits : goal.move_points-requires-clause-fits
move_points-requires-clause-fits g c = omega (arith, ap point_count c.deref.ensures.value, few g (goal.at.move_points-requires-clause-fits g c).After-deref)

pub move_points-requires-clause-unmarked : goal.move_points-requires-clause-unmarked
move_points-requires-clause-unmarked g c = unmarked g (goal.at.move_points-requires-clause-unmarked g c).After-deref

pub move_points-requires-clause-more : goal.move_points-requires-clause-more
move_points-requires-clause-more g c =
    let k = (goal.at.move_points-requires-clause-more g c).After-deref in
    subst (λ (ps : List Plan). (i : ℕ) → i < point_count ps → slice_index (g.N.Network.reading.net c.self.inside.net).lows i ≤ slice_index (flat_map (lows_of (c.args.now + c.args.machine.now.lead)) ps) i) (sym c.deref.ensures.value)
    (moved-more c.args.machine.now c.args.before c.args.now c.self.inside.plans.items (g.N.Network.reading.net c.self.inside.net) c.self.inside.timelines.orders c.self.inside.held.items c.self.inside.firsts.items c.self.inside.causes (can-before g k) (loaded-before g k)
    c.release_all.new.plans.items c.requires.later c.requires.last_tick (further g k))

-- ---- the bounds are moved
pub invariant_of-self-then-not-move_points : goal.invariant_of-self-then-not-move_points
invariant_of-self-then-not-move_points g c =
    let k = (goal.at.invariant_of-self-then-not-move_points g c).After-deref in
    let s = c.move_points.ensures.same_size in
    board-moved _ _ _ _ _ _ _ _ c.self.inside.plans c.release_all.new.plans _ _ _ _ _ c.self.invariant _ _ _ _ (ap length (c.move_points.ensures.past ∙ sym (unmarked g k))) s.marks s.points s.edges c.release_all.ensures.space

pub invariant_of-self-2 : goal.invariant_of-self-2
invariant_of-self-2 g c =
    let k = (goal.at.invariant_of-self-2 g c).After-deref in
    let s = c.move_points.ensures.same_size in
    board-moved _ _ _ _ _ _ _ _ c.self.inside.plans c.release_all.new.plans _ _ _ _ _ c.self.invariant _ _ _ _ (ap length (c.move_points.ensures.past ∙ sym (unmarked g k))) s.marks s.points s.edges c.release_all.ensures.space

pub are_settled-self-inside-requires-clause-firsts : goal.are_settled-self-inside-requires-clause-firsts
are_settled-self-inside-requires-clause-firsts g c =
    let k = (goal.at.are_settled-self-inside-requires-clause-firsts g c).After-deref in
    let at = further-firsts c.args.machine.now c.args.before c.args.now c.self.inside.plans.items c.release_all.new.plans.items c.requires.later (further g k) c.self.inside.firsts.items (loaded-before g k).at_firsts in
    coe 1 0 (i. AreFirsts 0 (c.deref-2.ensures.value i) (c.deref-3.ensures.value i)) at

pub are_settled-self-inside-requires-clause-known : goal.are_settled-self-inside-requires-clause-known
are_settled-self-inside-requires-clause-known g c =
    let rows = length-rows (low_of (c.args.now + c.args.machine.now.lead) (λ _. false)) c.deref.result.now in
    let moved = ap length (c.move_points.ensures.lows c.if-not-move_points.false) in
    omega (arith, length-table-of c.deref-2.result.now, ap point_count c.deref-2.ensures.value, ap point_count c.deref.ensures.value, rows, moved)

pub are_settled-self-inside-requires-clause-fits : goal.are_settled-self-inside-requires-clause-fits
are_settled-self-inside-requires-clause-fits g c =
    omega (arith, length-table-of c.deref-2.result.now, ap point_count c.deref-2.ensures.value, few g (goal.at.are_settled-self-inside-requires-clause-fits g c).After-deref)

pub are_settled-self-inside-requires-clause-formed : goal.are_settled-self-inside-requires-clause-formed
are_settled-self-inside-requires-clause-formed g c = subst (All IsFormed) (sym c.deref-2.ensures.value) (formed g (goal.at.are_settled-self-inside-requires-clause-formed g c).After-deref)

pub returns-clause-can : goal.returns-clause-can
returns-clause-can g c _ = can g (goal.at.returns-clause-can g c).After-deref

-- ---- the board is loaded
pub returns-clause-loaded : goal.returns-clause-loaded
returns-clause-loaded g c _ =
    let m = c.move_points.ensures in
    let so = c.if-not-move_points.false in
    loaded-after g (goal.at.returns-clause-loaded g c).After-deref (g.N.Network.reading.net c.move_points.new.net) (m.lows so) (m.caps so) (m.edges so) m.least

pub returns-clause-settled : goal.returns-clause-settled
returns-clause-settled g c _ so =
    let k = (goal.at.returns-clause-settled g c).After-deref in
    let m = c.move_points.ensures in
    let moved = c.if-not-move_points.false in
    let loaded = loaded-after g k (g.N.Network.reading.net c.move_points.new.net) (m.lows moved) (m.caps moved) (m.edges moved) m.least in
    settled-all c.args.machine.now c.args.now c.release_all.new.plans.items (g.N.Network.reading.net c.move_points.new.net) loaded.net (can g k) loaded.solved
    (subst (λ (ps : List Plan). All (HasLeastPoints (g.N.Network.reading.net c.move_points.new.net) ps) ps) c.deref-2.ensures.value (c.are_settled-self-inside.ensures so))

pub returns-clause-points : goal.returns-clause-points
returns-clause-points g c _ =
    let k = (goal.at.returns-clause-points g c).After-deref in
    further-count c.args.machine.now c.args.before c.args.now c.self.inside.plans.items c.release_all.new.plans.items c.requires.later (further g k) ∙ ap (λ b. point_count b.plans) c.self.view_is
