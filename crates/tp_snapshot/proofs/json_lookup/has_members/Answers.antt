use Rattle.std.proofs.Common.{◌≡◌, ap, ◌∙◌}
use Rattle.serde_json.proofs.Views.{view-Object}
use Rattle.serde_json.specs.Data.{object}
use Rattle.serde_json.specs.View.{members_view, view}
use Rattle.tp_snapshot.proofs.Seen.{counted}
use Rattle.tp_snapshot.proofs.json_lookup.has_members.Goals as goal

pub returns-in-Object : goal.returns-in-Object
returns-in-Object c =
    let is : view c.args.value.now ≡ object (members_view c.in-Object.members.entries) = ap view c.in-Object.is ∙ view-Object c.in-Object.members in
    rw (is, counted c.in-Object.members.entries, c.len.ensures.len)
