-- One span more, over ticks that grew at their end.
use Rattle.std.proofs.Common.{◌≡◌, ◌∙◌, ◌++◌, ◌∷◌, [], ap, length, map, rules}
use Rattle.tp_event_records.specs.Spans.{ticks_at}
use Rattle.tp_event_records.specs.declared.times.PlanSpan.{PlanSpan}
use Rattle.tp_event_records.proofs.SpanSteps.{notes-one}
use Rattle.tp_event_records.proofs.times.Times.push.Goals as goal

pub returns : goal.returns
returns c =
    let ticks = c.self.inside.ticks.items in
    let more = c.as_slice.result.now in
    let s : PlanSpan = record { from = c.len-from.result; till = c.len.result } in
    let grown : c.extend_from_slice.new.self.items ≡ ticks ++ more = c.in_ok-extend_from_slice.ensures.items in
    let from : s.from ≡ length ticks = search rules in
    let till : s.till ≡ length c.extend_from_slice.new.self.items = search rules in
    ap (λ ts. map (ticks_at ts) c.push.new.self.items) grown ∙ ap (map (ticks_at (ticks ++ more))) c.in_ok-push.ensures.items
    ∙ notes-one ticks more c.self.inside.spans.items s from (till ∙ ap length grown) c.self.invariant
    ∙ ap (λ seen. seen ++ more ∷ []) c.self.view_is ∙ ap (λ points. c.args.self.now ++ points ∷ []) c.as_slice.ensures.items
