-- A loose copy whose goal is its tray can give it up.
use Rattle.std.proofs.Common.{◌≡◌, [], ◌∷◌, Some, IsTrue, subst}
use Rattle.tp_machine.specs.declared.machine.Machine.{Machine}
use Rattle.tp_schedule.specs.declared.parts.Ask.{Ask}
use Rattle.tp_event_rules.specs.Loops.{next_ask}
use Rattle.tp_event_rules.specs.Moments.{is_to_tray}
use Rattle.tp_event_rules.specs.States.{SessionState}
use Rattle.tp_replan.specs.LooseLoop.{CanLoop}
use Rattle.tp_replan.specs.Open.{CanFall}
use Rattle.tp_replan.specs.Displacement.{CanGiveUp, aimed_at_purge}
use Rattle.tp_replan.proofs.AnswerSteps.{asked-known, asked-next}
use Rattle.tp_replan.proofs.GivenUp.{can-given_up, first-loose}

-- the asked copy can fall back once it is to be purged
pub asked-can_give_up : (machine : Machine) (s : SessionState) (ask : Ask) → CanLoop machine s → next_ask machine s ≡ Some ask
    → IsTrue (is_to_tray ask.goal) → CanGiveUp ask s
asked-can_give_up machine s ask can e tray =
    let of = first-loose machine s ask e in
    record {
      known = asked-known machine s ask can e;
      next = asked-next machine s ask can e;
      can = subst (λ (a : Ask). IsTrue (is_to_tray a.goal) → CanFall (aimed_at_purge a.sheet s) (a.sheet ∷ [])) of.is
          (λ goal. (can-given_up machine s of.p can of.there of.loose goal).fall) tray;
    }
