-- An engine's deeds on the live part of a schedule are its deeds on the whole, with their trees.
use Rattle.std.proofs.Common.{◌≡◌, ℕ, Bool, true, false, List, [], ◌∷◌, ◌++◌, refl, ap, ◌∙◌, append_assoc}
use Rattle.tp_bounds.specs.declared.tree.BoundTree.{BoundTree}
use Rattle.tp_machine.specs.declared.machine.Machine.{Machine}
use Rattle.tp_run_laws.specs.Runs.{tree_claims}
use Rattle.tp_schedule.specs.PlannerAnswers.{Deed}
use Rattle.tp_schedule.specs.PlannerAnswers.Deed.{replied, settled}
use Rattle.tp_schedule.specs.declared.parts.Ask.{Ask}
use Rattle.tp_schedule.specs.declared.parts.Plan.{Plan}
use Rattle.tp_schedule.specs.declared.parts.Reply.{Reply}
use Rattle.tp_schedule.specs.declared.parts.Reply.TheVariants.{Planned, Never, Spent}
use Rattle.tp_search.specs.Engines.{HasFewLists, KeepsTrees}
use Rattle.tp_event_rules.specs.Logs.{TakesTrees}
use Rattle.tp_event_turn.specs.LiveAnswers.{CanAskLive, IsAnswerOnWhole, live_at, spent_of}
use Rattle.tp_event_turn.proofs.LiveAnswered.{few-on}
use Rattle.tp_session.proofs.ShownTrees.{trees-on}
use Rattle.tp_session.proofs.laws.engines_answer_alone.Goals as goal

few : (nodes : ℕ) (machine : Machine) (plans : List Plan) (ask : Ask) (reply : Reply) → CanAskLive machine plans ask
    → HasFewLists nodes machine (live_at machine ask.now plans) (replied ask reply) → HasFewLists nodes machine plans (replied ask reply)
few nodes machine plans ask Planned can h = h
few nodes machine plans ask Never can h = few-on machine plans ask can nodes h
few nodes machine plans ask (Spent bound) can h = h

kept : (nodes : ℕ) (bounds : Bool) (machine : Machine) (plans live : List Plan) (ask : Ask) (reply : Reply) (trees trees' : List BoundTree) → CanAskLive machine plans ask
    → (w : IsAnswerOnWhole (spent_of nodes) machine plans ask reply live) → KeepsTrees bounds machine (live_at machine ask.now plans) (replied ask reply) live trees trees'
    → KeepsTrees bounds machine plans (replied ask reply) w.whole trees trees'
kept nodes true machine plans live ask reply trees trees' can w h = trees-on machine plans ask can reply live trees trees' w h
kept nodes false machine plans live ask reply trees trees' can w h = h

pub returns-clause-alone : goal.returns-clause-alone
returns-clause-alone g c machine = record {
  right = λ p p' plans live ask reply can does. does.0;
  again = λ p p' plans live ask reply can does w. (
    w.answer,
    record {
      same = does.1.same;
      few = few p.work.nodes machine plans ask reply can does.1.few;
      trees = kept p.work.nodes p.bounds machine plans live ask reply p.trees p'.trees can w does.1.trees;
    },
  );
  settles = λ p p' plans live now legal floors does w. (w.settles, record { same = does.1.same; few = does.1.few; trees = does.1.trees });
}

pub returns-clause-settles : goal.returns-clause-settles
returns-clause-settles g c machine p p' plans live now legal floors does = does.0

pub returns-clause-nodes : goal.returns-clause-nodes
returns-clause-nodes g c machine = record { counted = λ p plans ask bound h. h; same = λ p p' plans plans' deed step. step.same.nodes }

-- the trees that a deed adds are those that it takes
taken : (bounds : Bool) (machine : Machine) (plans plans' : List Plan) (deed : Deed) (trees trees' later : List BoundTree) → KeepsTrees bounds machine plans deed plans' trees trees'
    → (now : List BoundTree) × TakesTrees tree_claims machine bounds now plans deed plans' later × (trees' ++ later ≡ trees ++ now)
taken bounds machine plans plans' (settled now) trees trees' later same = (later, refl, ap (λ ts. ts ++ later) same)
taken false machine plans plans' (replied ask reply) trees trees' later same = (later, refl, ap (λ ts. ts ++ later) same)
taken true machine plans plans' (replied ask (Spent bound)) trees trees' later same = (later, refl, ap (λ ts. ts ++ later) same)
taken true machine plans plans' (replied ask Planned) trees trees' later (tree, (p, planned, shows), added) =
    (tree ∷ later, (tree, (p, planned, shows, refl)), ap (λ ts. ts ++ later) added ∙ append_assoc trees (tree ∷ []) later)
taken true machine plans plans' (replied ask Never) trees trees' later (tree, shows, added) =
    (tree ∷ later, (tree, shows, refl), ap (λ ts. ts ++ later) added ∙ append_assoc trees (tree ∷ []) later)

pub returns-clause-shows : goal.returns-clause-shows
returns-clause-shows g c machine = record {
  shown = λ p p' plans plans' deed step later. taken p.bounds machine plans plans' deed p.trees p'.trees later step.trees;
  same = λ p p' plans plans' deed step. step.same.bounds;
}
