-- A trial that is abandoned leaves its board ready.
use Rattle.std.proofs.Common.{List, ap, sym, subst, ◌∙◌}
use Rattle.tp_base.specs.Readings.{Reading}
use Rattle.tp_machine.specs.declared.machine.Machine.{Machine}
use Rattle.tp_schedule.specs.declared.parts.Ask.{Ask}
use Rattle.tp_schedule.specs.declared.parts.Plan.{Plan}
use Rattle.tp_placing.specs.Boards.{BoardContent, BoardValue}
use Rattle.tp_placing.specs.Commits.{IsHeldFrom}
use Rattle.tp_search.specs.Boards.{IsBack}
use Rattle.rows_engines.specs.ReadyBoard.{IsReady}

module _ {N : Type 0} (reading : Reading N) where
  pub ready-back : (b b' : BoardValue N) (machine : Machine) (plans : List Plan) (ask : Ask) → IsBack reading b b' machine
      → IsReady reading b machine plans ask → IsReady reading b' machine plans ask
  ready-back b b' machine plans ask back ready = record {
    held = subst (IsHeldFrom machine plans ask) (sym back.loaded.plans) ready.held;
    stands = back.stands ready.stands;
    asked = back.loaded.ask ∙ ready.asked;
    closed = ap (λ (x : BoardContent). x.steps) back.same_content ∙ ready.closed;
    unmarked = back.same_past ∙ ready.unmarked;
  }
