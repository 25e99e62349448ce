use Rattle.std.proofs.Common.{ℕ, ◌≤◌, List, length, subst, IsTrue}
use Rattle.tp_machine.specs.declared.parts.ActId.{ActId}
use Rattle.tp_schedule_check.specs.Timed.{DoLast}
use Rattle.tp_schedule_check.proofs.TimedFacts.{timed-from}
use Rattle.tp_schedule_check.proofs.timed.is_timed_plan.Goals as goal

pub returns-then-led : goal.returns-then-led
returns-then-led c =
    let machine = c.args.machine.now in
    let p = c.args.plan.now in
    let formed = c.has_form.ensures.0 c.if-not-has_form.false in
    let led = c.is_led-led.ensures.0 c.if-led.true in
    let few : length p.acts ≤ 64 = subst (λ (xs : List ActId). length xs ≤ 64) c.as_slice.ensures.items c.as_slice.ensures.within in
    let D : List ActId → List ℕ → Type 0 = λ xs ps. (IsTrue c.do_last-lasts.result → DoLast machine xs ps) × (DoLast machine xs ps → IsTrue c.do_last-lasts.result) in
    let lasts : D p.acts p.points = subst (λ ps. D p.acts ps) c.as_slice-2.ensures.items (subst (λ xs. D xs c.as_slice-2.result.now) c.as_slice.ensures.items c.do_last-lasts.ensures) in
    (λ t. timed-from machine p formed few led (lasts.0 t), λ timed. lasts.1 timed.lasts)
