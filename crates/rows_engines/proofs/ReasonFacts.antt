-- The edges of a reason have their causes.
use Rattle.std.proofs.Common.{ℕ, ◌<◌, List, length, Option, Some, None, IsSomeAnd, All}
use Rattle.std.proofs.lemmas.List.Elements.{All-push, All-weaker}
use Rattle.std.proofs.lemmas.Option.{slice_get_within}
use Rattle.tp_base.specs.Net.{Net}
use Rattle.tp_base.specs.declared.edges.Edge.{Edge}
use Rattle.tp_machine.specs.declared.machine.Machine.{Machine}
use Rattle.tp_schedule.specs.declared.parts.Ask.{Ask}
use Rattle.tp_constraints.specs.Suffixes.{Suffix}
use Rattle.tp_placing.specs.Boards.{BoardValue}
use Rattle.tp_placing.specs.Causes.{IsNamedHop, limit_tag}
use Rattle.tp_placing.specs.Reasons.{HasEndReason, HasReason, IsEndReason, IsReason, with_limit}
use Rattle.tp_placing.proofs.StandFacts.{some-and}
use Rattle.rows_engines.specs.NamedReasons.{HaveCauses, IsTold}

module _ {N : Type 0} (b : BoardValue N) where
  have_causes-hops : (machine : Machine) (ask : Ask) (x : Suffix) (edges : List Edge) → All (IsNamedHop machine b.plans ask x b.causes) edges → HaveCauses b edges
  have_causes-hops machine ask x edges hops = All-weaker (IsNamedHop machine b.plans ask x b.causes) (λ e. e.tag < length b.causes) (λ e hop. hop.tag) edges hops

  pub is_told-reason : (refutes : N → Net → Type 0) (machine : Machine) (before : Option Suffix) (after : Suffix → Suffix) → IsSomeAnd before (λ x. HasReason refutes machine b (after x)) → IsTold refutes b
  is_told-reason refutes machine None after shown = absurd shown
  is_told-reason refutes machine (Some x) after shown =
      let told = some-and b.ask (λ ask. IsReason refutes b machine ask (after x)) shown in
      record { net = told.2.net; shown = told.2.shown; causes = have_causes-hops machine told.0 (after x) told.2.net.edges told.2.hops }

  pub is_told-end_reason : (refutes : N → Net → Type 0) (machine : Machine) (suffix : Option Suffix) (last : ℕ) → IsSomeAnd suffix (λ x. HasEndReason refutes machine b x last) → IsTold refutes b
  is_told-end_reason refutes machine None last shown = absurd shown
  is_told-end_reason refutes machine (Some x) last shown =
      let told = some-and b.ask (λ ask. IsEndReason refutes b machine ask x last) shown in
      let reason = told.2 in
      let limit : limit_tag < length b.causes = slice_get_within b.causes limit_tag _ reason.limit_cause in
      record {
        net = with_limit reason.net reason.end last;
        shown = reason.shown;
        causes = All-push (λ (e : Edge). e.tag < length b.causes) reason.net.edges _ (have_causes-hops machine told.0 x reason.net.edges reason.hops) limit;
      }
