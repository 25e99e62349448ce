use Rattle.std.proofs.Common.{◌≡◌, option_map, arith}
use Rattle.std.specs.Prelude.{codes}
use Rattle.std.proofs.lemmas.Int.{ints}
use Rattle.toml.specs.View.{view, table_view}
use Rattle.tp_machine_text.specs.Words.{keys_of, members_of}
use Rattle.tp_machine_text.specs.HoldRules.{offset_at}
use Rattle.tp_machine_text.proofs.HoldFacts.{held, offset_within}
use Rattle.tp_machine_text.proofs.action_values.hold_of.Goals as goal

pub narrow-requires : goal.narrow-requires
narrow-requires c =
    let kept = held (keys_of (members_of (option_map (λ m. table_view m.now) c.args.resources))) (view c.args.hold.now) c.requires.kept in
    let range = offset_within (codes "begin") (view c.args.hold.now) kept.begin in
    let e : c.point_at-begin.result.1 ≡ offset_at (codes "begin") (view c.args.hold.now) = c.point_at-begin.ensures.offset in
    record { low = omega (arith, ints); high = omega (arith, ints) }

pub narrow-requires-2 : goal.narrow-requires-2
narrow-requires-2 c =
    let kept = held (keys_of (members_of (option_map (λ m. table_view m.now) c.args.resources))) (view c.args.hold.now) c.requires.kept in
    let range = offset_within (codes "end") (view c.args.hold.now) kept.end in
    let e : c.point_at-end.result.1 ≡ offset_at (codes "end") (view c.args.hold.now) = c.point_at-end.ensures.offset in
    record { low = omega (arith, ints); high = omega (arith, ints) }

pub mode_of-requires : goal.mode_of-requires
mode_of-requires c = (held (keys_of (members_of (option_map (λ m. table_view m.now) c.args.resources))) (view c.args.hold.now) c.requires.kept).mode
