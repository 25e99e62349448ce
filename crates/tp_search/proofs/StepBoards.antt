-- A step of a search on a board with a mark: what stands, and what it leaves.
use Rattle.std.proofs.Common.{◌≡◌, ℕ, Some, sym, subst, ◌∙◌}
use Rattle.std.proofs.lemmas.Option.{same_Some}
use Rattle.tp_base.specs.Readings.{Reading}
use Rattle.tp_machine.specs.declared.machine.Machine.{Machine}
use Rattle.tp_schedule.specs.Answers.{IsAsked}
use Rattle.tp_schedule.specs.Legality.{IsLegal}
use Rattle.tp_schedule.specs.declared.parts.Ask.{Ask}
use Rattle.tp_placing.specs.Boards.{BoardValue}
use Rattle.tp_placing.specs.Laws.{MarkKeeps}
use Rattle.tp_placing.specs.LoadedBoard.{Stands}
use Rattle.tp_search.specs.Boards.{IsReady}
use Rattle.tp_search.proofs.BoardSteps.{IsMarked, load-of, suffix-back}

module _ {N : Type 0} (reading : Reading N) where
  -- the plans are legal, and the ask can be put on them
  pub stands-legal : (b : BoardValue N) (machine : Machine) → Stands reading b machine → IsLegal machine b.plans
  stands-legal b machine stands = stands.1.loadable.legal

  pub stands-asked : (b : BoardValue N) (machine : Machine) (ask : Ask) → Stands reading b machine → b.ask ≡ Some ask → IsAsked machine b.plans ask
  stands-asked b machine ask stands asked = subst (IsAsked machine b.plans) (same_Some stands.0 ask (sym stands.1.asked ∙ asked)) stands.1.origin

module _ {N A : Type 0} (reading : Reading N) (untouched : N → A) where
  -- a mark leaves a board ready
  pub marked-ready : MarkKeeps reading untouched → (b b' : BoardValue N) (machine : Machine) (ask : Ask) (mark : ℕ) → IsMarked reading untouched b b' mark → IsReady reading b machine ask → IsReady reading b' machine ask
  marked-ready keeps b b' machine ask mark m r = record {
    stands = keeps b b' machine m.content_same m.untouched_same m.past_more r.stands;
    asked = (load-of reading untouched b b' m.untouched_same).ask ∙ r.asked;
    closed = suffix-back reading b b' m.content_same ∙ r.closed;
  }
