-- The first item tells no answer to the ask.
use Rattle.std.proofs.Common.{◌≡◌, List, ◌∷◌, inl, inr, sym, subst, true}
use Rattle.tp_log.specs.declared.item.Item.{Item}
use Rattle.tp_log.specs.declared.item.Item.TheVariants.{Note}
use Rattle.tp_machine.specs.declared.machine.Machine.{Machine}
use Rattle.tp_schedule.specs.declared.parts.Ask.{Ask}
use Rattle.tp_schedule.specs.declared.parts.Plan.{Plan}
use Rattle.tp_schedule.specs.declared.records.Record.{Record}
use Rattle.tp_log_planner.specs.ToldPlans.{TellsNoForm}
use Rattle.tp_log_planner.specs.Reasons.{BeginsWithNoAnswer, TellsAnAnswer}
use Rattle.tp_log_planner.specs.ToldAnswers.{is_plan}

module _ (machine : Machine) (plans : List Plan) (ask : Ask) where
  note-is : (told t : Record) (later l : List Item) → Note told ∷ later ≡ Note t ∷ l → t ≡ told
  note-is told t later l e = cc

  pub no-answer : (told : Record) (later : List Item) → (TellsAnAnswer machine plans ask told → ⊥) → BeginsWithNoAnswer machine plans ask (Note told ∷ later)
  no-answer told later none t l e answer = none (subst (TellsAnAnswer machine plans ask) (note-is told t later l e) answer)

  -- the record of a plan
  pub no-plan : (told : Record) → is_plan told ≡ true → TellsNoForm machine plans ask told → TellsAnAnswer machine plans ask told → ⊥
  no-plan told e none (inl form) = none form.0 form.1
  no-plan told e none (inr (inl never)) = let f = sym e in absurd cc
  no-plan told e none (inr (inr budget)) = let b = budget.1 in absurd cc
