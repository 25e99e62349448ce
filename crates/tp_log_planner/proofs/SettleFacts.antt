-- Moves among items that settle the times.
use Rattle.std.proofs.Common.{◌≡◌, ℕ, List, [], ◌∷◌, ◌++◌, drop, refl, sym, ap, subst, ◌∙◌, All, None}
use Rattle.std.specs.Prelude.{IsFalse}
use Rattle.std.proofs.lemmas.List.Elements.{All-contains}
use Rattle.tp_log.specs.declared.item.Item.{Item}
use Rattle.tp_machine.specs.declared.machine.Machine.{Machine}
use Rattle.tp_schedule.specs.Legality.{IsLegal}
use Rattle.tp_schedule.specs.PlannerAnswers.{IsSettled, none_exempt}
use Rattle.tp_schedule.specs.Plans.{AreNamed, IsTimedPlan}
use Rattle.tp_schedule.specs.declared.parts.Plan.{Plan}
use Rattle.tp_schedule.proofs.Membership.{All-from_contains}
use Rattle.tp_event_rules.specs.AnswerRecords.{moves}
use Rattle.tp_schedule_check.specs.Alike.{others}
use Rattle.tp_schedule_check.proofs.AnswerFacts.{alike-of}
use Rattle.tp_log_planner.specs.TakenAnswers.{DoTellSettled, TakesSettled}
use Rattle.tp_log_planner.specs.ToldMoves.{DoTellMoves, IsKeptPlan, TakesMoves, TellsMoves}
use Rattle.tp_log_planner.specs.ToldAnswers.{TellsSettled, begins_with_move, behind_asides, notes}
use Rattle.tp_log_planner.proofs.AnswerFacts.{kept-of}

all-others : (plans : List Plan) → others None plans ≡ plans
all-others [] = refl
all-others (p ∷ plans) = ap (λ ps. p ∷ ps) (all-others plans)

module _ (machine : Machine) (plans : List Plan) (now : ℕ) (legal : IsLegal machine plans) (items : List Item) (first : behind_asides items ≡ items) where
  settled-kept : (others' : List Plan) → IsSettled machine now plans others' → All (IsKeptPlan machine now None) others'
  settled-kept others' settled = All-from_contains (IsKeptPlan machine now None) others' (λ r in'.
      kept-of machine now others' none_exempt None r in' (All-contains (IsTimedPlan machine) others' r settled.retimed.legal.timed in') settled.retimed.floors settled.retimed.horizon (λ e. refl))

  tells-moves : (others' : List Plan) (rest : List Item) → TellsSettled machine plans now items others' rest → TellsMoves machine now (others None plans) (others None others') items rest
  tells-moves others' rest tells = record {
    told = sym first ∙ tells.told ∙ ap (λ xs. notes (moves xs others') ++ rest) (sym (all-others plans)) ∙ ap (λ xs. notes (moves (others None plans) xs) ++ rest) (sym (all-others others'));
    over = tells.over;
    alike = alike-of machine now plans others' legal tells.settles.retimed.legal.in_order tells.settles;
    kept = subst (All (IsKeptPlan machine now None)) (sym (all-others others')) (settled-kept others' tells.settles);
  }

  pub settled-moves : DoTellSettled machine plans now items → DoTellMoves machine now None plans items
  settled-moves told-it = (told-it.0, (others None told-it.1.0, (told-it.1.1.0, tells-moves told-it.1.0 told-it.1.1.0 told-it.1.1.1)))

  module _ (after : List Plan) (taken : ℕ) (takes : TakesMoves machine now None plans after items taken) where
    same-after : AreNamed plans → (others' : List Plan) (rest : List Item) → TellsSettled machine plans now items others' rest → (others' ≡ after) × (rest ≡ drop taken items)
    same-after named others' rest tells =
        let both = takes.only named (others None others') rest (tells-moves others' rest tells) in
        (sym (all-others others') ∙ both.0 ∙ all-others after, both.1)

    pub settled-too : DoTellSettled machine plans now items → IsSettled machine now plans after
    settled-too told-it = subst (IsSettled machine now plans) (same-after told-it.0 told-it.1.0 told-it.1.1.0 told-it.1.1.1).0 told-it.1.1.1.settles

    pub settled-taken : IsFalse (begins_with_move (drop taken items)) → IsSettled machine now plans after → TakesSettled machine plans now items after taken
    settled-taken over settled = record {
      within = takes.within;
      told = record {
        told = first ∙ takes.told ∙ ap (λ xs. notes (moves xs (others None after)) ++ drop taken items) (all-others plans) ∙ ap (λ xs. notes (moves plans xs) ++ drop taken items) (all-others after);
        over = over;
        settles = settled;
      };
      only = same-after;
    }
