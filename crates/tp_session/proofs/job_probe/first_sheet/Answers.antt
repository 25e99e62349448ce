-- The first group is of one sheet or more.
use Rattle.std.proofs.Common.{◌≤◌, Some, sym, ap, ◌∙◌, subst}
use Rattle.tp_jobs.specs.WaitingCopies.{sheet_of}
use Rattle.tp_script.specs.Form.{GroupForm}
use Rattle.tp_session.proofs.ProbeFacts.{sheet-first-of}
use Rattle.tp_session.proofs.job_probe.first_sheet.Goals as goal

pub returns : goal.returns
returns c =
    sheet-first-of c.args.media c.args.groups.now c.index-groups-0.result c.requires c.index-groups-0.is (subst (λ (g : GroupForm). 1 ≤ g.count) c.group.view_is c.group.invariant.0)
    ∙ ap (λ g. Some (sheet_of c.args.media g)) (sym c.group.view_is)
