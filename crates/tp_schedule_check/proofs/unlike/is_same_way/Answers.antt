use Rattle.std.proofs.Common.{◌∙◌, sym}
use Rattle.tp_schedule_check.proofs.PlanFacts.{same-way, way-acts, way-copy, way-course}
use Rattle.tp_schedule_check.proofs.unlike.is_same_way.Goals as goal

pub returns-then-not-is_same_copy : goal.returns-then-not-is_same_copy
returns-then-not-is_same_copy c = (λ t. absurd cc, λ same. (let t = c.is_same_copy.ensures.1 (way-copy c.args.one.now c.args.other.now same) in let f = c.if-not-is_same_copy.true in absurd cc))

pub returns-then-not-is_same_course : goal.returns-then-not-is_same_course
returns-then-not-is_same_course c = (λ t. absurd cc, λ same. (let t = c.is_same_course.ensures.1 (way-course c.args.one.now c.args.other.now same) in let f = c.if-not-is_same_course.true in absurd cc))

pub returns : goal.returns
returns c =
    let p = c.args.one.now in
    let q = c.args.other.now in (
      λ t. same-way p q (c.is_same_copy.ensures.0 c.if-not-is_same_copy.false) (c.is_same_course.ensures.0 c.if-not-is_same_course.false) (sym c.as_slice-2.ensures.items ∙ c.are_same_acts.ensures.0 t ∙ c.as_slice.ensures.items),
      λ same. c.are_same_acts.ensures.1 (c.as_slice-2.ensures.items ∙ way-acts p q same ∙ sym c.as_slice.ensures.items),
    )
