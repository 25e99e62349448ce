use Rattle.std.proofs.Common.{subst, sym, refl, ◌-◌, List}
use Rattle.std.specs.Prelude.{true}
use Rattle.tp_constraints.specs.Numbers.{table_of}
use Rattle.tp_windows.specs.Halves.{AreLeft}
use Rattle.tp_windows.specs.Walks.{waiting_at}
use Rattle.tp_windows.specs.declared.ranges.Side.{Side}
use Rattle.tp_windows.proofs.PathFacts.{split_left}
use Rattle.tp_windows.proofs.windows.split.Goals as goal

pub returns-clause-turned : goal.returns-clause-turned
returns-clause-turned c machine plans ask left =
    let side : Side = record { point = c.args.side.point; tick = c.args.side.tick; later = true } in
    subst (λ (p : List Side). AreLeft machine plans ask (waiting_at (table_of plans) p) (c.args.end - 1)) (sym c.push_reserved.ensures.items) (split_left machine plans ask c.args.path.now.items side (c.args.end - 1) refl left)
