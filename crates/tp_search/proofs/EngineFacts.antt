-- What an answer tells of open lists, a deed tells.
use Rattle.std.proofs.Common.{◌≡◌, ◌∙◌, ℕ, List, None, ap, filter, refl, subst, sym}
use Rattle.tp_machine.specs.declared.machine.Machine.{Machine}
use Rattle.tp_schedule.proofs.PlanOrder.{without-none}
use Rattle.tp_schedule.specs.Answers.{IsAskedFrom}
use Rattle.tp_schedule.specs.LivePlans.{is_live}
use Rattle.tp_schedule.specs.PlannerAnswers.Deed.{replied}
use Rattle.tp_schedule.specs.Plans.{plan_of, without}
use Rattle.tp_schedule.specs.SpentBudget.{FewListsOpen}
use Rattle.tp_schedule.specs.declared.parts.Ask.{Ask}
use Rattle.tp_schedule.specs.declared.parts.Plan.{Plan}
use Rattle.tp_schedule.specs.declared.parts.Reply.{Reply}
use Rattle.tp_schedule.specs.declared.parts.Reply.TheVariants.{Never, Planned, Spent}
use Rattle.tp_placing.specs.KeptBoard.{HoldsOthers}
use Rattle.tp_placing.specs.Commits.{IsHeldFrom}
use Rattle.tp_search.specs.Engines.{HasFewLists}

pub few-told : (nodes : ℕ) (machine : Machine) (plans : List Plan) (ask : Ask) (reply : Reply) → (reply ≡ Never → FewListsOpen machine plans ask nodes) → HasFewLists nodes machine plans (replied ask reply)
few-told nodes machine plans ask Planned few = tt
few-told nodes machine plans ask Never few = few refl
few-told nodes machine plans ask (Spent bound) few = tt

-- a board that was made ready for an ask holds all other live plans after an answer that moved none of them
pub holds-others : (machine : Machine) (plans plans' : List Plan) (ask : Ask) (held : List Plan) → IsHeldFrom machine plans ask held → without ask.sheet plans' ≡ without ask.sheet plans → HoldsOthers machine ask plans' held
holds-others machine plans plans' ask held from unmoved new =
    let none : plan_of ask.sheet plans ≡ None = subst (IsAskedFrom machine plans ask) new from.can_ask.asked in
    ap (filter (is_live machine ask.now)) (unmoved ∙ without-none ask.sheet plans none) ∙ sym from.live_part
