use Rattle.std.proofs.Common.{◌∙◌, List, ap, filter, not, subst}
use Rattle.tp_schedule_check.specs.Holds.{slot_of}
use Rattle.tp_schedule_check.specs.OrderDifferences.{IsFirstParting, is_new_of}
use Rattle.tp_schedule_check.specs.declared.held.NumberedHold.{NumberedHold}
use Rattle.tp_schedule_check.proofs.PartingFacts.{parting-says}
use Rattle.tp_schedule_check.proofs.parting.find_parting.Goals as goal

pub returns : goal.returns
returns c =
    let stand = c.in_ok-stand.stand.items in
    let less = λ (hs : List NumberedHold). filter (λ (h : NumberedHold). not (is_new_of c.args.asked (slot_of h))) hs in
    let old = c.as_slice-3.ensures.value ∙ c.in_ok-old.ensures ∙ ap less c.as_slice.ensures.value in
    parting-says c.args.machine.now c.args.asked c.args.before.now.plans c.args.after.now.plans c.requires.before c.requires.after
    c.in_ok-stood.stood.items stand c.in_ok-stood.ensures.moved c.in_ok-stood.ensures.sorted c.in_ok-stand.ensures.moved c.in_ok-stand.ensures.sorted c.first_parting.result
    (subst (λ xs. IsFirstParting xs (less stand) c.first_parting.result) c.as_slice-2.ensures.value (subst (λ ys. IsFirstParting c.as_slice-2.result.now ys c.first_parting.result) old c.first_parting.ensures))
