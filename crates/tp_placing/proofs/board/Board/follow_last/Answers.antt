use Rattle.std.proofs.Common.{◌≡◌, ◌∙◌, ◌+◌, ◌-◌, ◌<◌, ◌≤◌, All, AllPairs, List, ap, arith, get_or, length, subst, sym, take, true}
use Rattle.std.specs.Prelude.{slice_get}
use Rattle.std.proofs.lemmas.List.{length-take-le}
use Rattle.tp_schedule.specs.LivePlans.{is_live}
use Rattle.tp_schedule.specs.Plans.{IsEarlier, IsFormed}
use Rattle.tp_schedule.specs.declared.parts.Plan.{Plan}
use Rattle.tp_constraints.specs.Numbers.{table_of}
use Rattle.tp_placing.specs.Loaded.{CanLoad}
use Rattle.tp_placing.specs.Settled.{HasLeastPoints}
use Rattle.tp_placing.proofs.FreshPlans.{all-load, are-behind, last-behind}
use Rattle.tp_placing.proofs.LoadedTicks.{points-fit}
use Rattle.tp_placing.proofs.SettledFacts.{settled-last}
use Rattle.tp_placing.proofs.WriteReady.{timed-formed}
use Rattle.tp_placing.proofs.board.Board.follow_last.Goals as goal
use Rattle.tp_placing.proofs.board.Board.follow_last.Goals.{After-add_last-arg-1, After-deref-then-self}

pub is_last_behind-requires-clause-in_order : goal.is_last_behind-requires-clause-in_order
is_last_behind-requires-clause-in_order g c =
    let more : length c.self.inside.plans.items ≡ c.args.count + 1 = rw (← c.self.view_is) at c.requires.more in
    let can = rw (← c.self.view_is) at c.requires.can in
    let value = c.deref.ensures.value in
    let n : c.args.count ≡ length c.deref.result.now - 1 = omega (arith, ap length value, more) in
    let way : take c.args.count c.self.inside.plans.items ≡ take (length c.deref.result.now - 1) c.deref.result.now = λ i. take (n i) (sym value i) in
    subst (AllPairs IsEarlier) way can.loadable.legal.in_order

-- ---- the plan that is added
module _ (g : _) (c : After-add_last-arg-1 g) where
  same : c.self.inside.plans.items ≡ c.args.self.now.plans
  same = ap (λ b. b.plans) c.self.view_is

  in_order : AllPairs IsEarlier c.args.self.now.plans
  in_order = subst (AllPairs IsEarlier) (c.deref.ensures.value ∙ same) (c.is_last_behind.ensures c.if-not-is_last_behind.false)

  at : c.index.result.now ≡ get_or c.args.self.now.plans c.args.count c.index.result.now
  at = subst (λ ps. c.index.result.now ≡ get_or ps c.args.count c.index.result.now) same c.index.ensures

  few : length c.args.self.now.plans ≤ 256
  few = omega (arith, c.requires.more, c.if-count-ge-MOST_LIVE.false)

  fresh : (is_live c.args.machine.now c.args.now c.index.result.now ≡ true) × (c.index.result.now.released ≡ 0)
  fresh = c.is_fresh.ensures c.if-not-is_fresh.false

  loads : CanLoad c.args.machine.now c.args.now c.args.self.now.plans
  loads = subst (CanLoad c.args.machine.now c.args.now) (sym (are-behind c.args.machine.now c.args.now c.args.count c.args.self.now.plans c.index.result.now c.requires.more at))
      (all-load c.args.machine.now c.args.now c.args.count c.args.self.now.plans c.index.result.now c.requires.more at c.requires.can c.requires.live fresh.0 fresh.1 in_order few)

pub add_last-requires-clause-behind : goal.add_last-requires-clause-behind
add_last-requires-clause-behind g c =
    last-behind c.args.machine.now c.args.now c.args.count c.args.self.now.plans c.index.result.now c.requires.more (at g c) c.requires.can c.requires.live (fresh g c).0 (fresh g c).1 (in_order g c) (few g c)
    (g.N.Network.reading.net c.args.self.now.net) c.args.self.now.orders.orders c.args.self.now.held c.args.self.now.firsts c.args.self.now.last.0 c.args.self.now.causes c.requires.loaded c.requires.last

may : (g : _) (c : After-add_last-arg-1 g) (ps : List Plan) → ps ≡ c.args.self.now.plans → CanLoad c.args.machine.now c.args.now ps
may g c ps is = subst (CanLoad c.args.machine.now c.args.now) (sym is) (loads g c)

-- ---- one plan more
module _ (g : _) (c : After-deref-then-self g) where
  plans-are : c.self-2.inside.plans.items ≡ c.args.self.now.plans
  plans-are = rw (← c.self-2.view_is) at c.add_last.ensures.plans

pub is_settled-self-inside-requires-clause-fits : goal.is_settled-self-inside-requires-clause-fits
is_settled-self-inside-requires-clause-fits g c =
    let k = goal.at.is_settled-self-inside-requires-clause-fits g c in
    subst (λ ps. length (table_of ps) < 4294967296) (sym c.deref-then-self.ensures.value)
    (points-fit c.args.machine.now c.args.now c.self-2.inside.plans.items (may g k.After-add_last-arg-1 c.self-2.inside.plans.items (plans-are g k.After-deref-then-self)))

pub is_settled-self-inside-requires-clause-formed : goal.is_settled-self-inside-requires-clause-formed
is_settled-self-inside-requires-clause-formed g c =
    let k = goal.at.is_settled-self-inside-requires-clause-formed g c in
    subst (All IsFormed) (sym c.deref-then-self.ensures.value)
    (timed-formed c.args.machine.now c.self-2.inside.plans.items (may g k.After-add_last-arg-1 c.self-2.inside.plans.items (plans-are g k.After-deref-then-self)).loadable.legal.timed)

pub returns-then-self-clause-can : goal.returns-then-self-clause-can
returns-then-self-clause-can g k _ =
    let c = goal.at.returns-then-self-clause-can g k in
    may g c.After-add_last-arg-1 k.self-2.inside.plans.items (plans-are g c.After-deref-then-self)

pub returns-else-self-clause-can : goal.returns-else-self-clause-can
returns-else-self-clause-can g k _ = may g (goal.at.returns-else-self-clause-can g k).After-add_last-arg-1 k.add_last.new.self.plans k.add_last.ensures.plans

pub returns-then-self-clause-settled : goal.returns-then-self-clause-settled
returns-then-self-clause-settled g k _ so =
    let c = (goal.at.returns-then-self-clause-settled g k).After-deref-then-self in
    let loaded = rw (← k.self-2.view_is) at (k.add_last.ensures.loaded k.if-not-add_last.false) in
    let was : k.self-2.inside.settled ≡ k.args.self.now.settled = rw (← k.self-2.view_is) at k.add_last.ensures.settled in
    let count : length (take k.args.count k.args.self.now.plans) ≡ k.args.count = length-take-le k.args.count k.args.self.now.plans (omega (arith, k.requires.more)) in
    let first : take (length (take k.args.count k.args.self.now.plans)) k.self-2.inside.plans.items ≡ take k.args.count k.args.self.now.plans = λ i. take (count i) (plans-are g c i) in
    settled-last k.args.machine.now k.args.now (take k.args.count k.args.self.now.plans) k.self-2.inside.plans.items (g.N.Network.reading.net k.self-2.inside.net)
    (may g (goal.at.returns-then-self-clause-settled g k).After-add_last-arg-1 k.self-2.inside.plans.items (plans-are g c)) loaded.net loaded.solved first
    (omega (arith, ap length (plans-are g c), count, k.requires.more)) (k.requires.settled (sym was ∙ k.if-self.true))
    (λ p is. subst (λ ps. HasLeastPoints (g.N.Network.reading.net k.self-2.inside.net) ps p) k.deref-then-self.ensures.value (k.is_settled-self-inside.ensures so p ((λ i. slice_get (k.deref-then-self.ensures.value i) (sym count i)) ∙ is)))
