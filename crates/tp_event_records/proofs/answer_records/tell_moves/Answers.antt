-- The asked copy's plan is passed over, and the others are reported of in turn.
use Rattle.std.proofs.Common.{◌+◌, ◌++◌, drop, length, slice_get, arith, ap, sym, ◌∙◌}
use Rattle.std.proofs.lemmas.List.{length-map}
use Rattle.tp_schedule.specs.declared.parts.Plan.{Plan}
use Rattle.tp_event_rules.specs.AnswerRecords.{moves}
use Rattle.tp_event_records.specs.RecordNames.{others}
use Rattle.tp_event_records.proofs.MoveSteps.{passes, tells-all, tells-none, tells-one}
use Rattle.tp_event_records.proofs.answer_records.tell_moves.Goals as goal
use Rattle.tp_event_records.proofs.answer_records.tell_moves.Goals.{then-place-len+then-not-is_of+in_ok-tell_move, else-place-len, else-place-len-via-then-place-len+else-not-is_of, else-place-len-via-else-place-len}

pub moves-preserved : goal.moves-preserved
moves-preserved c = λ plans was.
    let after = c.args.after.now.plans in
    let asked = c.args.asked in
    let at = c.moves.at in
    let q = c.plan_at-plan.result.now in
    let here = c.plan_at-plan.ensures.plan in
    let rest = c.moves.invariant plans was in
    elim c.if-place-len.branch [
      | then-place-len+then-not-is_of+in_ok-tell_move w ↦
          rw (w.notes-is, w.place-is)
          (tells-one c.moves.notes.items w.tell_move.new.notes.items plans c.moves.place w.get.result.now asked after at q _
          (sym (ap (λ parts. slice_get parts c.moves.place) was) ∙ w.get.ensures) here (sym w.if-not-is_of.ensures) w.in_ok-tell_move.ensures rest)
      | else-place-len w ↦ rw (w.notes-is, w.place-is) (elim w.else-place-len.branch [
        | else-place-len-via-then-place-len+else-not-is_of w' ↦ ap (λ ps. c.moves.notes.items ++ moves (drop c.moves.place plans) ps) (sym (passes asked after at q here (sym w'.if-not-is_of.ensures))) ∙ rest
        | else-place-len-via-else-place-len w' ↦
            tells-none c.moves.notes.items plans (others asked (drop at after)) (others asked (drop (at + 1) after)) c.moves.place _
            (omega (arith, w'.if-place-len.false, c.len.ensures, ap length was, length-map plans (λ (p : Plan). p.points))) rest
      ])
    ]

pub returns : goal.returns
returns c = λ plans was.
    tells-all c.moves.notes.items (drop c.moves.place plans) c.args.asked c.args.after.now.plans c.moves.at _ (omega (arith, c.moves-test.false, c.len-at-end.ensures.len)) (c.moves.invariant plans was)
