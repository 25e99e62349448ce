-- A machine's gaps are small.
use Rattle.std.proofs.Common.{◌≤◌, ◌∙◌, ap, subst, sym, slice_get}
use Rattle.tp_machine.specs.Modes.{gap_at, gap_of}
use Rattle.tp_machine.proofs.ModeFacts.{gap_at_most}
use Rattle.tp_machine.proofs.modes.gap_at.Goals as goal

pub returns-clause-within : goal.returns-clause-within
unfolding gap_at
returns-clause-within c =
    subst (λ n. n ≤ 4096) (sym (c.gap_in.ensures ∙ ap (λ rs. gap_of (slice_get rs c.args.resource.0)) c.as_slice.ensures))
    (gap_at_most c.args.machine.now c.args.resource.0)
