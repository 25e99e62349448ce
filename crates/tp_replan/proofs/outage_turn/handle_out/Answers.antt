-- Schedule, lines and modules show the state that the outage leads to.
use Rattle.std.proofs.Common.{◌≡◌, ℕ, ◌+◌, sym, ap, ◌∙◌, subst}
use Rattle.tp_event_rules.specs.LiveStates.{seen}
use Rattle.tp_event_rules.specs.Planners.{right_steps}
use Rattle.tp_event_rules.specs.Ready.{CanTakeEvents, KeepsLive}
use Rattle.tp_event_rules.specs.Seen.{state_seen}
use Rattle.tp_event_rules.specs.States.{SessionState}
use Rattle.tp_replan.specs.Answered.{NotesOut}
use Rattle.tp_replan.specs.LooseLoop.{CanBeginLoop}
use Rattle.tp_replan.specs.declared.outage.Outage.{Outage}
use Rattle.tp_replan.proofs.LostFronts.{fronts-out}
use Rattle.tp_replan.proofs.Shown.{moment-out, on-both}
use Rattle.tp_replan.proofs.outage_turn.handle_out.Goals as goal
use Rattle.tp_event_rules.proofs.StockTurns.{refills-goes}

pub go_out-result-requires-clause-can : goal.go_out-result-requires-clause-can
go_out-result-requires-clause-can g c = subst (CanBeginLoop c.args.machine.now) (sym c.in-Ok.ensures) c.requires.can

pub returns-clause-out : goal.returns-clause-out
returns-clause-out g c =
    let m = c.args.machine.now in
    let steps = right_steps g.P.Planner.rules m in
    let event : Outage = record { «module» = c.args.id; jammed = c.args.jammed } in
    let s = seen c.in-Ok.state in
    let l = c.go_out-result.new.state in
    let notes = c.args.notes.now.items in
    let planner = c.go_out-result.new.planner in
    let last = c.go_out-result.new.notes.items in
    let end = state_seen c.args.now l.schedule.plans l.lines l.outs in
    let before = subst (CanBeginLoop m) (sym c.in-Ok.ensures) c.requires.can in
    on-both c.go_out-result.result
    (λ (out : NotesOut steps m event s c.args.planner.now notes (seen l) planner last)
    (kept : (copies : ℕ) → KeepsLive m copies s → CanTakeEvents m (copies + 1) (seen l)).
    let moment = moment-out steps m s c.args.id.0 c.args.jammed c.args.planner.now out.0 (seen l) planner out.2
    ∙ ap (λ (t : SessionState). t.now) c.in-Ok.ensures in
    let fronts = sym (fronts-out steps m g.P.Planner.rules.spent (λ p plans deed plans' p' does. does.0) s c.args.id.0 c.args.jammed c.args.planner.now out.0 (seen l) planner out.2 before.plans.legal.in_order before.lines) in
    let refills = refills-goes steps m s c.args.id.0 c.args.jammed c.args.planner.now out.0 (seen l) planner out.2 ∙ ap (λ (t : SessionState). t.refills) c.in-Ok.ensures in
    let shows : seen l ≡ end = λ k. record (seen l) { now = moment k; lost = fronts k; refills = refills k } in
    subst (λ (t : SessionState). NotesOut steps m event t c.args.planner.now notes end planner last) c.in-Ok.ensures
    (subst (λ (t : SessionState). NotesOut steps m event s c.args.planner.now notes t planner last) shows out))
    c.go_out-result.ensures.out c.go_out-result.ensures.kept

pub returns-clause-kept : goal.returns-clause-kept
returns-clause-kept g c =
    let m = c.args.machine.now in
    let steps = right_steps g.P.Planner.rules m in
    let event : Outage = record { «module» = c.args.id; jammed = c.args.jammed } in
    let s = seen c.in-Ok.state in
    let l = c.go_out-result.new.state in
    let planner = c.go_out-result.new.planner in
    let end = state_seen c.args.now l.schedule.plans l.lines l.outs in
    let before = subst (CanBeginLoop m) (sym c.in-Ok.ensures) c.requires.can in
    on-both c.go_out-result.result
    (λ (out : NotesOut steps m event s c.args.planner.now c.args.notes.now.items (seen l) planner c.go_out-result.new.notes.items)
    (kept : (copies : ℕ) → KeepsLive m copies s → CanTakeEvents m (copies + 1) (seen l)).
    let moment = moment-out steps m s c.args.id.0 c.args.jammed c.args.planner.now out.0 (seen l) planner out.2
    ∙ ap (λ (t : SessionState). t.now) c.in-Ok.ensures in
    let fronts = sym (fronts-out steps m g.P.Planner.rules.spent (λ p plans deed plans' p' does. does.0) s c.args.id.0 c.args.jammed c.args.planner.now out.0 (seen l) planner out.2 before.plans.legal.in_order before.lines) in
    let refills = refills-goes steps m s c.args.id.0 c.args.jammed c.args.planner.now out.0 (seen l) planner out.2 ∙ ap (λ (t : SessionState). t.refills) c.in-Ok.ensures in
    let shows : seen l ≡ end = λ k. record (seen l) { now = moment k; lost = fronts k; refills = refills k } in
    λ copies can. subst (CanTakeEvents m (copies + 1)) shows (kept copies (subst (KeepsLive m copies) (sym c.in-Ok.ensures) can)))
    c.go_out-result.ensures.out c.go_out-result.ensures.kept
