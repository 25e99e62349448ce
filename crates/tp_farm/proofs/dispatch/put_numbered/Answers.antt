-- The first of the lines that are left goes out with its number.
use Rattle.std.proofs.Common.{rules, ◌≡◌, ◌+◌, ◌∷◌, [], ◌++◌}
use Rattle.tp_farm.proofs.NumberedFacts.{put-first}
use Rattle.tp_farm.proofs.dispatch.put_numbered.Goals as goal

pub lines-preserved : goal.lines-preserved
lines-preserved c =
    let put : c.extend_from_slice.new.self.items ≡ ((c.lines.out.items ++ (48 + c.args.number) ∷ []) ++ 32 ∷ []) ++ c.first_line.result.0.now = search rules in
    put-first c.args.number c.lines.out.items _ c.lines.rest.now c.first_line.result.0.now c.first_line.result.1.now _ c.first_line.ensures.lines put c.lines.invariant
