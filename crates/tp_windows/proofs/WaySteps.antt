-- A step from an arrival by the action of a number: where it leads, how long it lasts, and where its holds stand.
use Rattle.std.proofs.Common.{◌≡◌, ℕ, ◌+◌, ◌≤◌, List, Option, Some, sym, ap, subst, ◌∙◌, arith}
use Rattle.std.specs.Prelude.{IsSomeAnd}
use Rattle.std.proofs.lemmas.Option.{same_Some}
use Rattle.tp_machine.specs.ModuleUse.{action_at}
use Rattle.tp_machine.specs.Steps.{step_of}
use Rattle.tp_machine.specs.declared.parts.Action.{Action}
use Rattle.tp_machine.specs.declared.parts.State.{State}
use Rattle.std.specs.Prelude.{option_and_then}
use Rattle.tp_schedule.specs.Holders.{holds_of_act}
use Rattle.tp_schedule.specs.Routes.{IsGoalState}
use Rattle.tp_schedule.specs.declared.parts.Plan.{Plan}
use Rattle.tp_windows.proofs.RowSteps.{row_law}
use Rattle.tp_windows.specs.RestTables.{rest_of}
use Rattle.tp_windows.specs.Rows.{AllStandIn}
use Rattle.tp_windows.specs.SoughtWays.{IsAhead, IsBehind, IsSoughtIn}
use Rattle.tp_windows.specs.Spans.{IsWithin}
use Rattle.tp_windows.specs.Ways.{IsStep}
use Rattle.tp_windows.specs.Windows.{Windows}
use Rattle.tp_windows.specs.declared.sought.Sought.{Sought}

module _ (sought : Sought) (act : ℕ) (a : Action) (at : action_at sought.machine.now act ≡ Some a) (s : State) (plans : List Plan) (w : Windows) (is : IsSoughtIn sought plans w) (next : State) (start end : ℕ)
    (step : IsStep sought.machine.now plans sought.ask.now w (rest_of sought.rests.now.rests.items) sought.limit s start next end) (same : step.act.0 ≡ act) where
  at-step : action_at sought.machine.now step.act.0 ≡ Some a
  at-step = ap (action_at sought.machine.now) same ∙ at

  pub leads : step_of a sought.ask.now.want s ≡ Some next
  leads = subst (λ (o : Option Action). option_and_then (λ b. step_of b sought.ask.now.want s) o ≡ Some next) at-step step.leads

  pub lasts : IsWithin a.least a.most start end
  lasts = let both = subst (λ (o : Option Action). IsSomeAnd o (λ b. (start + b.least ≤ end) × (end ≤ start + b.most))) at-step step.runs.lasts in record { long = both.0; short = both.1 }

  pub stands : AllStandIn sought.machine.now sought.rows.now.rows a.holds start end
  stands = subst (λ (o : Option Action). AllStandIn sought.machine.now sought.rows.now.rows (holds_of_act o) start end) at-step (row_law sought.machine.now plans w sought.rows.now.rows step.act start end is.rows step.runs)

  module _ (there : State) (leads' : step_of a sought.ask.now.want s ≡ Some there) where
    pub same-next : there ≡ next
    same-next = same_Some there next (sym leads' ∙ leads)

    pub in-time : (rest : ℕ) → rest_of sought.rests.now.rests.items there ≡ Some rest → end + rest ≤ sought.limit
    in-time rest rests =
        let equal : rest ≡ step.needs = same_Some rest step.needs (sym (subst (λ (x : State). rest_of sought.rests.now.rests.items x ≡ Some rest) same-next rests) ∙ step.rests) in
        let by = step.in_time in
        omega (arith, equal, by)

    pub line : IsGoalState sought.machine.now sought.ask.now.want sought.ask.now.goal there → IsBehind sought.after end × IsAhead sought.before end
    line goal = is.line end (step.line (subst (λ (x : State). IsGoalState sought.machine.now sought.ask.now.want sought.ask.now.goal x) same-next goal))
