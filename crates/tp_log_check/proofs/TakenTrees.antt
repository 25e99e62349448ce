-- The planner that is given its answers takes the trees of its items one after another.
use Rattle.std.proofs.Common.{◌≡◌, Bool, true, false, List, [], ◌∷◌, ◌++◌, refl, sym, ap, subst, ◌∙◌}
use Rattle.std.specs.Prelude.{if◌then◌else◌}
use Rattle.tp_bounds.specs.declared.tree.BoundTree.{BoundTree}
use Rattle.tp_log.specs.declared.item.Item.{Item}
use Rattle.tp_log.specs.declared.item.Item.TheVariants.{Event, Note, Tree}
use Rattle.tp_machine.specs.declared.machine.Machine.{Machine}
use Rattle.tp_schedule.specs.PlannerAnswers.{Deed}
use Rattle.tp_schedule.specs.PlannerAnswers.Deed.{replied, settled}
use Rattle.tp_schedule.specs.declared.parts.Ask.{Ask}
use Rattle.tp_schedule.specs.declared.parts.Plan.{Plan}
use Rattle.tp_schedule.specs.declared.parts.Reply.{Reply}
use Rattle.tp_schedule.specs.declared.parts.Reply.TheVariants.{Planned, Never, Spent}
use Rattle.tp_schedule.specs.declared.records.Record.{Record}
use Rattle.tp_script.specs.declared.event.Event.{Event as AnEvent}
use Rattle.tp_event_rules.specs.AnswerRecords.{moves, told_of_reply}
use Rattle.tp_event_rules.specs.Logs.{TakesTree, TakesTrees}
use Rattle.tp_event_rules.specs.States.{SessionState}
use Rattle.tp_log_laws.specs.AcceptedEntries.{HasAcceptedTurn, bound_claims}
use Rattle.tp_log_planner.specs.ToldAnswers.{TakesOn, Tells, ToldValue, ahead, behind_asides, is_other, notes}
use Rattle.tp_log_check.specs.EventEntry.{trees_in}

-- no tree is an aside, nor a record
behind-note : (told : Record) (items : List Item) (b : Bool) → trees_in (behind_asides items) ≡ trees_in items → trees_in (if b then behind_asides items else (Note told ∷ items)) ≡ trees_in items
behind-note told items true same = same
behind-note told items false same = refl

pub trees-behind : (items : List Item) → trees_in (behind_asides items) ≡ trees_in items
trees-behind [] = refl
trees-behind (Event event ∷ items) = refl
trees-behind (Tree tree ∷ items) = refl
trees-behind (Note told ∷ items) = behind-note told items (is_other told) (trees-behind items)

trees-notes : (records : List Record) (items : List Item) → trees_in (notes records ++ items) ≡ trees_in items
trees-notes [] items = refl
trees-notes (r ∷ records) items = trees-notes records items

pub trees-told : (items rest : List Item) (records : List Record) → behind_asides items ≡ notes records ++ rest → trees_in items ≡ trees_in rest
trees-told items rest records told = sym (trees-behind items) ∙ ap trees_in told ∙ trees-notes records rest

module _ (machine : Machine) (plans : List Plan) (ask : Ask) (items rest : List Item) (plans' : List Plan) where
  pub takes-answer : (reply : Reply) → Tells machine plans ask items reply plans' rest → TakesTree bound_claims machine plans ask reply plans' (trees_in items) (trees_in rest)
  takes-answer Planned t =
      let (tree, (plan, found, proves, shown)) = t.shows in
      (tree, (plan, found, proves, trees-told items (t.shown ++ rest) (told_of_reply machine plans ask Planned plans') t.told ∙ ap (λ xs. trees_in (xs ++ rest)) shown))
  takes-answer Never t =
      let (tree, proves, shown) = t.shows in
      (tree, proves, trees-told items (t.shown ++ rest) (told_of_reply machine plans ask Never plans') t.told ∙ ap (λ xs. trees_in (xs ++ rest)) shown)
  takes-answer (Spent bound) t =
      sym (trees-told items (t.shown ++ rest) (told_of_reply machine plans ask (Spent bound) plans') t.told ∙ ap (λ xs. trees_in (xs ++ rest)) t.shows)

pub takes-trees : (machine : Machine) (p p' : ToldValue) (plans plans' : List Plan) (deed : Deed) → TakesOn p machine plans deed plans' p'
    → TakesTrees bound_claims machine true (trees_in (ahead p)) plans deed plans' (trees_in (ahead p'))
takes-trees machine p p' plans plans' (replied ask reply) t = takes-answer machine plans ask (ahead p) (ahead p') plans' reply t.told
takes-trees machine p p' plans plans' (settled now) t = sym (trees-told (ahead p) (ahead p') (moves plans plans') t.told.told)

pub accepted-as : (machine : Machine) (event : AnEvent) (whole s' : SessionState) (trees trees' rest : List BoundTree) (records records' : List Record) → trees ≡ trees' → records ≡ records' → rest ≡ []
    → HasAcceptedTurn machine event whole trees records s' rest → HasAcceptedTurn machine event whole trees' records' s' []
accepted-as machine event whole s' trees trees' rest records records' same told none h =
    subst (λ ts. HasAcceptedTurn machine event whole ts records' s' []) same
    (subst (λ rs. HasAcceptedTurn machine event whole trees rs s' []) told
    (subst (λ r. HasAcceptedTurn machine event whole trees records s' r) none h))
