use Rattle.std.proofs.Common.{Bool, sym, ◌∙◌, subst, ◌≡◌, map, filter, All, AllPairs}
use Rattle.tp_schedule.specs.LivePlans.{is_live}
use Rattle.tp_schedule.specs.Plans.{IsEarlier, IsFormed}
use Rattle.tp_schedule.specs.Spots.{Ticks}
use Rattle.tp_schedule.specs.declared.parts.Plan.{Plan}
use Rattle.tp_constraints.specs.Numbers.{table_of}
use Rattle.tp_placing.specs.Settled.{AreOfSchedule}
use Rattle.tp_placing.specs.Commits.{AreLeastTicks, retimed_in}
use Rattle.tp_placing.proofs.WriteReady.{timed-formed}
use Rattle.tp_placing.proofs.WriteSettle.{live-part, live-settles, settled-few, settled-is}
use Rattle.tp_placing.proofs.board.Board.settle.Goals as goal
use Rattle.tp_placing.proofs.board.Board.settle.Goals.{After-deref-2}

pub load_live-requires-clause-can : goal.load_live-requires-clause-can
load_live-requires-clause-can g c = live-settles c.args.machine.now c.args.now c.args.schedule.now.plans c.requires.can_settle

-- the plans that are loaded
plans-are : (g : _) (c : After-deref-2 g) → c.deref.result.now ≡ filter (is_live c.args.machine.now c.args.now) c.args.schedule.now.plans
plans-are g c = let live = rw (← c.self.view_is) at c.load_live.ensures.plans in c.deref.ensures.value ∙ live

pub write_times-requires-clause-fits : goal.write_times-requires-clause-fits
write_times-requires-clause-fits g c = settled-few c.args.machine.now c.args.now c.args.schedule.now.plans c.deref.result.now c.requires.can_settle (plans-are g (goal.at.write_times-requires-clause-fits g c).After-deref-2)

pub write_times-requires-clause-formed : goal.write_times-requires-clause-formed
write_times-requires-clause-formed g c =
    subst (All IsFormed) (sym (plans-are g (goal.at.write_times-requires-clause-formed g c).After-deref-2))
    (timed-formed c.args.machine.now (filter (is_live c.args.machine.now c.args.now) c.args.schedule.now.plans) (live-settles c.args.machine.now c.args.now c.args.schedule.now.plans c.requires.can_settle).loadable.legal.timed)

pub write_times-requires-clause-in_order : goal.write_times-requires-clause-in_order
write_times-requires-clause-in_order g c =
    subst (AllPairs IsEarlier) (sym (plans-are g (goal.at.write_times-requires-clause-in_order g c).After-deref-2)) (live-settles c.args.machine.now c.args.now c.args.schedule.now.plans c.requires.can_settle).loadable.legal.in_order

pub write_times-requires-clause-planned : goal.write_times-requires-clause-planned
write_times-requires-clause-planned g c =
    subst (λ ps. (test : Plan → Bool) × AreOfSchedule (g.N.Network.reading.net c.self.inside.net) ps c.args.schedule.now.plans test) (sym (plans-are g (goal.at.write_times-requires-clause-planned g c).After-deref-2))
    (is_live c.args.machine.now c.args.now, live-part c.args.machine.now c.args.now c.args.schedule.now.plans _ c.requires.can_settle)

pub returns-clause-settled : goal.returns-clause-settled
returns-clause-settled g c =
    let live = rw (← c.self.view_is) at c.load_live.ensures.plans in
    let loaded = rw (← c.self.view_is) at c.load_live.ensures.loaded in
    settled-is c.args.machine.now c.args.now c.args.schedule.now.plans c.self.inside.plans.items c.write_times.new.schedule.plans _ _ _ _ (g.N.Network.reading.net c.self.inside.net) c.requires.can_settle live loaded
    (subst (λ ps. (test : Plan → Bool) → AreOfSchedule (g.N.Network.reading.net c.self.inside.net) ps c.args.schedule.now.plans test → (t : Ticks) → AreLeastTicks (g.N.Network.reading.net c.self.inside.net) (table_of ps) t
    → c.write_times.new.schedule.plans ≡ map (retimed_in (filter test ps) t) c.args.schedule.now.plans) c.deref.ensures.value c.write_times.ensures.times)
