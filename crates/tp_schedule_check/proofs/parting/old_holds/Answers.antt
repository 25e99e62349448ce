use Rattle.std.proofs.Common.{◌∙◌, Bool, filter, not, sym, ap, arith}
use Rattle.tp_schedule_check.specs.Holds.{slot_of}
use Rattle.tp_schedule_check.specs.OrderDifferences.{is_new_of}
use Rattle.tp_schedule_check.specs.declared.held.NumberedHold.{NumberedHold}
use Rattle.tp_schedule_check.proofs.ListFacts.{filter-kept, filter-passed, take-whole}
use Rattle.tp_schedule_check.proofs.parting.old_holds.Goals as goal
use Rattle.tp_schedule_check.proofs.parting.old_holds.Goals.{then-is_old+in_ok-push, else-is_old}

pub holds-preserved : goal.holds-preserved
holds-preserved c =
    let is_old : NumberedHold → Bool = λ h. not (is_new_of c.args.asked.now (slot_of h)) in
    elim c.if-is_old.branch [
      | then-is_old+in_ok-push w ↦ rw w.old-is (w.in_ok-push.ensures.items ∙ filter-kept is_old c.args.holds.now c.holds.at _ c.holds.old.items c.holds-test.true (sym c.is_old.ensures ∙ w.if-is_old.true) c.holds.invariant)
      | else-is_old w ↦ rw w.old-is (filter-passed is_old c.args.holds.now c.holds.at _ c.holds.old.items c.holds-test.true (sym c.is_old.ensures ∙ w.if-is_old.false) c.holds.invariant)
    ]

pub returns : goal.returns
returns c =
    let is_old : NumberedHold → Bool = λ h. not (is_new_of c.args.asked.now (slot_of h)) in
    c.holds.invariant ∙ ap (filter is_old) (take-whole c.args.holds.now c.holds.at (omega arith))
