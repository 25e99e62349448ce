-- The loop from answer to answer, and where it ends.
use Rattle.std.proofs.Common.{◌≡◌, ℕ, ◌<◌, List, [], ◌∷◌, ◌++◌, Some, None, refl, sym, ap, ◌∙◌, append-nil, append_assoc, subst}
use Rattle.tp_machine.specs.declared.machine.Machine.{Machine}
use Rattle.tp_schedule.specs.PlannerAnswers.{CanAsk, Deed}
use Rattle.tp_schedule.specs.PlannerAnswers.Deed.{replied, settled}
use Rattle.tp_schedule.specs.declared.parts.Ask.{Ask}
use Rattle.tp_schedule.specs.declared.parts.Plan.{Plan}
use Rattle.tp_schedule.specs.declared.records.Record.{Record}
use Rattle.tp_event_rules.specs.AnswerRecords.{moves}
use Rattle.tp_event_rules.specs.Loops.{after_one, after_answers, due, next_ask}
use Rattle.tp_event_rules.specs.Planners.{IsRight, PlannerSteps, RunsLoop, StopsInLoop}
use Rattle.tp_event_rules.specs.States.{SessionState}
use Rattle.tp_event_rules.proofs.LoopFacts.{in_turn-one_more, state-after_one_more, told-after_one_more}
use Rattle.tp_event_rules.proofs.SameMoment.{now-answers}
use Rattle.tp_replan.specs.Answered.{IsAnswered, IsInLoop}
use Rattle.tp_replan.specs.LooseLoop.{CanLoop, copies_left}
use Rattle.tp_replan.proofs.GivenUp.{first-loose}
use Rattle.tp_replan.proofs.LoopAsks.{can-ask}
use Rattle.tp_replan.proofs.LoopSteps.{IsLessWork, less-work, loop-step, work}

-- the ask that is due can be put, and where none is due the times can be settled
pub due-ask : (machine : Machine) (s : SessionState) (ask : Ask) → CanLoop machine s → next_ask machine s ≡ Some ask → CanAsk machine s.plans ask
due-ask machine s ask can e = let of = first-loose machine s ask e in subst (CanAsk machine s.plans) of.is (can-ask machine s of.p can.on_way of.there of.loose)

module _ {P : Type 0} (steps : PlannerSteps P) (machine : Machine) (spent : P → Machine → List Plan → Ask → ℕ → Type 0)
    (right : (p : P) (plans : List Plan) (deed : Deed) (plans' : List Plan) (p' : P) → steps.does p plans deed plans' p' → IsRight (spent p) machine plans deed plans') where
  pub begins : (s : SessionState) (p : P) (notes : List Record) → CanLoop machine s → IsInLoop steps machine s p notes s p notes
  begins s p notes can = record { answers = []; in_turn = refl; told = sym (append-nil notes); state = refl; can = can }

  pub answered-can : (s : SessionState) (p : P) (notes : List Record) (s' : SessionState) (p' : P) (notes' : List Record) → CanLoop machine s → IsAnswered steps machine s p notes s' p' notes'
      → CanLoop machine s' × IsLessWork s s'
  answered-can s p notes s' p' notes' can a =
      let step = loop-step p spent machine s a.ask a.answer a.is_due (right p s.plans (replied a.ask a.answer.reply) a.answer.plans p' a.does) can in
      (subst (CanLoop machine) (sym a.state) step.can, subst (IsLessWork s) (sym a.state) step.less)

  pub goes-on : (start : SessionState) (p : P) (notes : List Record) (s : SessionState) (p' : P) (notes' : List Record) (t : SessionState) (p'' : P) (notes'' : List Record)
      → IsInLoop steps machine start p notes s p' notes' → IsAnswered steps machine s p' notes' t p'' notes'' → IsInLoop steps machine start p notes t p'' notes''
  goes-on start p notes s p' notes' t p'' notes'' i a = record {
    answers = i.answers ++ a.answer ∷ [];
    in_turn = in_turn-one_more steps machine i.answers a.answer a.ask start p p' p'' i.in_turn (sym (ap (next_ask machine) i.state) ∙ a.is_due)
        (subst (λ (u : SessionState). steps.does p' u.plans (replied a.ask a.answer.reply) a.answer.plans p'') i.state a.does);
    told = a.told
        ∙ (λ k. i.told k ++ (after_one machine (i.state k) a.answer).records)
        ∙ append_assoc notes (after_answers machine i.answers start).records (after_one machine (after_answers machine i.answers start).state a.answer).records
        ∙ ap (λ rs. notes ++ rs) (sym (told-after_one_more machine i.answers a.answer start));
    state = a.state ∙ ap (λ u. (after_one machine u a.answer).state) i.state ∙ sym (state-after_one_more machine i.answers a.answer start);
    can = (answered-can s p' notes' t p'' notes'' i.can a).0;
  }

  pub less-left : (most : ℕ) (s : SessionState) (p : P) (notes : List Record) (s' : SessionState) (p' : P) (notes' : List Record) → CanLoop machine s → copies_left s < most
      → IsAnswered steps machine s p notes s' p' notes' → work most s' < work most s
  less-left most s p notes s' p' notes' can few a = less-work most s s' few (answered-can s p notes s' p' notes' can a).1

  -- no copy is loose, and the times are settled
  pub ends : (start : SessionState) (p : P) (notes : List Record) (s : SessionState) (p' : P) (notes' : List Record) (plans : List Plan) (p'' : P)
      → IsInLoop steps machine start p notes s p' notes' → next_ask machine s ≡ None → steps.does p' s.plans (settled s.now) plans p''
      → (rest : List Record) × (notes' ++ moves s.plans plans ≡ notes ++ rest) × RunsLoop steps machine start p rest (record s { plans = plans }) p''
  ends start p notes s p' notes' plans p'' i none does = (
    (after_answers machine i.answers start).records ++ moves (after_answers machine i.answers start).state.plans plans,
    (λ k. i.told k ++ moves (i.state k).plans plans) ∙ append_assoc notes (after_answers machine i.answers start).records (moves (after_answers machine i.answers start).state.plans plans),
    record {
      answers = i.answers;
      mid = p';
      in_turn = i.in_turn;
      none_loose = sym (ap (next_ask machine) i.state) ∙ none;
      plans = plans;
      settles = subst (λ n. steps.does p' (after_answers machine i.answers start).state.plans (settled n) plans p'') (now-answers machine i.answers start)
          (subst (λ (u : SessionState). steps.does p' u.plans (settled u.now) plans p'') i.state does);
      told = refl;
      state = ap (λ (u : SessionState). record u { plans = plans }) i.state;
    },
  )

  -- the planner stopped where an ask or the settling was due
  pub stops : (start : SessionState) (p : P) (notes : List Record) (s : SessionState) (p' : P) (notes' : List Record) (p'' : P)
      → IsInLoop steps machine start p notes s p' notes' → steps.stops p' s.plans (due machine s) p''
      → (rest : List Record) × (notes' ≡ notes ++ rest) × StopsInLoop steps machine start p rest p''
  stops start p notes s p' notes' p'' i stopped = (
    (after_answers machine i.answers start).records,
    i.told,
    record { answers = i.answers; mid = p'; in_turn = i.in_turn; stops = subst (λ (u : SessionState). steps.stops p' u.plans (due machine u) p'') i.state stopped; told = refl },
  )
