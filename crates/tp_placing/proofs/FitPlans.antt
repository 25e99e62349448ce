-- Held plans that are fit for an ask: it can be put on them, and there is room for its plan.
use Rattle.std.proofs.Common.{◌≡◌, ◌∙◌, inl, inr, ◌+◌, ◌≤◌, List, filter, ap, sym, subst, arith}
use Rattle.tp_machine.specs.declared.machine.Machine.{Machine}
use Rattle.tp_schedule.specs.Answers.{kept_of}
use Rattle.tp_schedule.specs.LivePlans.{is_live}
use Rattle.tp_schedule.specs.PlannerAnswers.{CanAsk}
use Rattle.tp_schedule.specs.declared.parts.Ask.{Ask}
use Rattle.tp_schedule.specs.declared.parts.Plan.{Plan}
use Rattle.tp_placing.specs.KeptBoard.{AreFit}
use Rattle.tp_placing.specs.Loaded.{CanLoad}
use Rattle.tp_placing.specs.LoadedNet.{point_count}
use Rattle.tp_placing.specs.Commits.{IsHeldFrom}
use Rattle.tp_placing.proofs.HeldPlans.{held-live, held-put}
use Rattle.tp_placing.proofs.LivePlans.{live-few}

module _ (machine : Machine) (plans : List Plan) (ask : Ask) (held : List Plan) (can : CanAsk machine plans ask) (loads : CanLoad machine ask.now held)
    (live-part : filter (is_live machine ask.now) held ≡ filter (is_live machine ask.now) plans) where
  pub fit-held : AreFit machine ask held → IsHeldFrom machine plans ask held
  fit-held fit = elim fit [
    | inl all ↦ subst (IsHeldFrom machine plans ask) (sym live-part ∙ all) (held-live machine plans ask can)
    | inr few ↦ (
        let count = loads.few in
        record { can_ask = can; can_put = held-put machine plans ask held can loads (omega arith) live-part few.1; live_part = live-part })
  ]

  pub fit-points : AreFit machine ask held → point_count held + 65 ≤ 16641 + kept_of ask
  fit-points fit = elim fit [
    | inl all ↦ (
        let few = (live-few machine plans ask can ask.origin can.asked).1 in
        let same = ap point_count (sym live-part ∙ all) in
        omega (arith, few, same))
    | inr few ↦ (
        let room = few.0 in
        omega (arith, room))
  ]

  pub fit-kept : kept_of ask ≤ 64
  fit-kept = (live-few machine plans ask can ask.origin can.asked).2
