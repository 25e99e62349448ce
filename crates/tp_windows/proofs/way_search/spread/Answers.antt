use Rattle.std.proofs.Common.{◌≡◌, inl, inr, ℕ, ◌+◌, Option, Some, length, arith, subst, sym}
use Rattle.std.specs.Prelude.{option_map}
use Rattle.std.proofs.lemmas.Bool.{cases_lt}
use Rattle.tp_machine.specs.declared.parts.ActId.{ActId}
use Rattle.tp_routes.specs.Index.{IsIndexOf, IsNextAt}
use Rattle.tp_routes.specs.declared.index.ActEnd.TheVariants.{From}
use Rattle.tp_windows.proofs.FrontFacts.{Grows-then, reached-grow}
use Rattle.tp_windows.proofs.IndexedSteps.{next_behind, none_there}
use Rattle.tp_windows.specs.SoughtWays.{AreStepsReached}
use Rattle.tp_windows.proofs.way_search.spread.Goals as goal

pub acts-preserved : goal.acts-preserved
acts-preserved c =
    let machine = c.args.sought.machine.now in
    let loc = c.args.from.state.loc.0 in
    let at = c.in-Some.act.0 in
    let here : IsIndexOf From machine c.args.sought.starts.now.firsts.items c.args.sought.starts.now.nexts.items → IsNextAt From machine.actions loc c.acts.least (Some at) =
    λ is. subst (λ (o : Option ActId). IsNextAt From machine.actions loc c.acts.least (option_map (λ (act : ActId). act.0) o)) c.in-Some.is (c.acts.invariant.next is) in
    record {
      grows = Grows-then c.args.front.now c.acts.front c.step_on.new.front c.acts.invariant.grows c.step_on.ensures.grows;
      keyed = λ keyed. c.step_on.ensures.keyed (c.acts.invariant.keyed keyed);
      reached = λ act less. elim (cases_lt act c.acts.least) [
        | inl before ↦ λ plans w is next start end more by step same. reached-grow c.acts.front c.step_on.new.front next end c.step_on.ensures.grows (c.acts.invariant.reached act before plans w is next start end more by step same)
        | inr later ↦ elim (cases_lt act at) [
          | inl between ↦ none_there c.args.sought c.args.from c.acts.least at c.step_on.new.front (λ is. (here is).3) act (omega (arith, later)) between
          | inr there ↦
              let e : at ≡ act = omega (arith, less, there) in
              subst (λ (n : ℕ). AreStepsReached c.args.sought c.args.from n c.step_on.new.front) e (c.step_on.ensures.reached c.if-not-step_on.false)
        ]
      ];
      next = λ is. subst (λ (n : ℕ). IsNextAt From machine.actions loc (n + 1) (option_map (λ (act : ActId). act.0) c.next-next.result)) (sym c.from-at.ensures)
          (subst (λ (o : Option ℕ). IsNextAt From machine.actions loc (at + 1) o) (sym c.next-next.ensures) (next_behind machine loc c.acts.least at _ _ is (here is)));
    }

pub returns-clause-reached : goal.returns-clause-reached
returns-clause-reached c = λ done act less. elim (cases_lt act c.acts.least) [
  | inl before ↦ c.acts.invariant.reached act before
  | inr later ↦ none_there c.args.sought c.args.from c.acts.least (length c.args.sought.machine.now.actions) c.acts.front
      (λ is. subst (λ (o : Option ActId). IsNextAt From c.args.sought.machine.now.actions c.args.from.state.loc.0 c.acts.least (option_map (λ (act : ActId). act.0) o)) c.in_default.is (c.acts.invariant.next is))
      act (omega (arith, later)) less
]
