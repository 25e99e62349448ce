use Rattle.std.proofs.Common.{◌≡◌, ◌⊎◌, ◌≤◌, inl, ℕ, refl, sym, subst, ap, ◌∙◌, arith, Some}
use Rattle.std.specs.Prelude.{pos, slice_get}
use Rattle.tp_bound_make.specs.Ranges.{IsFree, leads}
use Rattle.tp_bound_make.specs.declared.side.Side.{Side}
use Rattle.tp_bound_make.specs.declared.side.Side.TheVariants.{Before, Behind}
use Rattle.tp_bound_make.proofs.RangeCloses.{range-closes}
use Rattle.tp_bound_make.proofs.closed_places.Range.of.Goals as goal
use Rattle.tp_bound_make.proofs.closed_places.Range.of.Goals.{After-get-resource}

pub get-resource-requires : goal.get-resource-requires
get-resource-requires c = let h = c.requires.known in let f = c.from.ensures in omega (arith, h, f)

-- the resource of the hold
there : (c : After-get-resource) → slice_get c.args.scene.machine.now.resources c.args.places.rule.resource.0 ≡ Some c.get-resource.result.now
there c = ap (slice_get c.args.scene.machine.now.resources) (sym c.from.ensures) ∙ c.get-resource.ensures

pub returns-then-serves : goal.returns-then-serves
returns-then-serves c = λ plans x in_order next count last closes.
    let places = c.args.places in
    let on = there (goal.at.returns-then-serves c).After-get-resource in
    let Serves = λ (side : Side) (end n : ℕ). (c.args.place ≡ end) ⊎ IsFree (leads side c.get-resource.result.now.name n) c.args.close in
    record {
      begins = c.requires.begins;
      reaches = c.requires.ends;
      within = omega arith;
      closes = range-closes c.args.scene.machine.now plans c.args.scene.ask.now (pos c.args.scene.limit) places.rule c.get-resource.result.now c.args.place places.lo places.last in_order on c.requires.begins c.requires.ends c.args.close x (record {
        next = next;
        within = omega (arith, last);
        closes = closes;
        behind = subst (Serves Behind places.last) count (c.serves-2.ensures c.if-serves.true);
        before = subst (Serves Before places.lo) count (c.serves.ensures c.if-not-serves.false);
      });
    }

pub returns-else-serves : goal.returns-else-serves
returns-else-serves c = λ plans x in_order next count last closes.
    let places = c.args.places in
    let on = there (goal.at.returns-else-serves c).After-get-resource in
    let Serves = λ (side : Side) (end n : ℕ). (c.args.place ≡ end) ⊎ IsFree (leads side c.get-resource.result.now.name n) c.args.close in
    let same : c.args.place ≤ c.args.place = omega arith in
    record {
      begins = c.requires.begins;
      reaches = same;
      within = c.requires.ends;
      closes = range-closes c.args.scene.machine.now plans c.args.scene.ask.now (pos c.args.scene.limit) places.rule c.get-resource.result.now c.args.place places.lo c.args.place in_order on c.requires.begins same c.args.close x (record {
        next = next;
        within = let ends = c.requires.ends in omega (arith, last, ends);
        closes = closes;
        behind = inl refl;
        before = subst (Serves Before places.lo) count (c.serves.ensures c.if-not-serves.false);
      });
    }
