use Rattle.std.proofs.Common.{ap, ◌∙◌}
use Rattle.std.specs.Prelude.{codes}
use Rattle.toml.specs.View.{view}
use Rattle.tp_machine_text.specs.Printed.{put_member, resource_names}
use Rattle.tp_machine_text.proofs.Built.{hold_built, resource_there, no_entries}
use Rattle.tp_machine_text.proofs.table_parts.hold_value.Goals as goal

pub returns : goal.returns
returns c =
    let rs = c.args.resources.now in
    let at = rw c.from.ensures at c.index-resources-from.is in
    let ends = c.in_ok-put-2.ensures ∙ ap (put_member (codes "end") (view c.in_ok-end.end)) c.in_ok-put.ensures in
    let modes = c.in_ok-put-3.ensures ∙ ap (put_member (codes "mode") (view c.mode_value.result)) ends in
    let made = c.in_ok-put-4.ensures ∙ ap (put_member (codes "resource") (view c.in_ok-resource.resource)) modes in
    hold_built (resource_names rs) c.args.hold.now c.index-resources-from.result.name _ _ _ _ _ _ _
    (no_entries c.new-table.result.entries c.new-table.ensures.empty) c.in_ok-begin.ensures c.in_ok-end.ensures c.mode_value.ensures c.in_ok-resource.ensures
    (resource_there rs c.args.hold.now.resource.0 c.index-resources-from.result c.requires at) made c.from-2.ensures
