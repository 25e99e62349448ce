-- An event can be taken after so many, and one more can be taken after it.
use Rattle.std.proofs.Common.{ℕ, ◌+◌, ◌<◌, ◌≤◌, ◌++◌, arith, refl, sym, ap, subst, ◌∙◌}
use Rattle.tp_search.specs.Engines.{Serves}
use Rattle.tp_stream.specs.Tellers.{most_events}
use Rattle.tp_event_rules.specs.LiveStates.{seen}
use Rattle.tp_event_rules.specs.Ready.{CanTakeEvents, KeepsStock, last_copy}
use Rattle.tp_run_laws.specs.Wholes.{TellsTurn}
use Rattle.tp_session.specs.Sessions.{Tells}
use Rattle.tp_session.specs.Kept.{KeepsSound}
use Rattle.tp_session_standing.specs.Sound.{last_number}
use Rattle.tp_event_rules.proofs.ReadyTurns.{events-more}
use Rattle.tp_session.proofs.session.SessionOver.event.Goals as goal
use Rattle.tp_event_rules.proofs.StockKept.{stock-more}

pub take_turn-result-requires-clause-can : goal.take_turn-result-requires-clause-can
take_turn-result-requires-clause-can g c =
    subst (CanTakeEvents c.self.inside.machine last_copy) (sym c.in_ok-before.ensures.stays)
    (events-more c.self.inside.machine (last_number + c.self.inside.answered) last_copy (seen c.self.inside.state) (omega (arith, c.self.invariant.within)) c.self.invariant.can)

pub take_turn-result-requires-clause-stocked : goal.take_turn-result-requires-clause-stocked
take_turn-result-requires-clause-stocked g c =
    subst (KeepsStock c.self.inside.machine last_copy) (sym c.in_ok-before.ensures.stays)
    (stock-more c.self.inside.machine (2 + c.self.inside.answered) last_copy (seen c.self.inside.state) (omega (arith, c.self.invariant.within)) c.self.invariant.stocked)

-- the turn that is reported, with the budget and the bounds of the session, and what is kept of a state that can be saved
pub returns-in-Ok-clause-told : goal.returns-in-Ok-clause-told
returns-in-Ok-clause-told g c =
    let i = c.self.inside in
    let event = c.args.event.now in
    let s = seen i.state in
    let s' = seen c.take_turn-result.new.state in
    let stays = c.in_ok-before.ensures.stays in
    let (text, turn, grown) = c.in-Ok.ensures.told in (
      text,
      subst (λ v. Tells v.standing event text (record { machine = i.machine; budget = i.budget; bounds = i.bounds; state = s' })) c.self.view_is (record {
        same_machine = refl;
        same_budget = refl;
        same_bounds = refl;
        turn = subst (λ b. TellsTurn i.machine i.budget b event s text s') c.self.invariant.bounds
            (subst (λ n. TellsTurn i.machine n i.engine.bounds event s text s') c.self.invariant.nodes
            (subst (λ u. TellsTurn i.machine i.engine.work.nodes i.engine.bounds event u text s') stays turn));
        saved = λ events k. record {
          can = c.in-Ok.ensures.kept events (subst (CanTakeEvents i.machine events) (sym stays) k.can);
          stocked = c.in-Ok.ensures.stocked events (subst (KeepsStock i.machine events) (sym stays) k.stocked);
          sound = c.in-Ok.ensures.sound (subst (KeepsSound i.machine) (sym stays) k.sound);
        };
      }),
      grown ∙ ap (λ v. v.text ++ text) c.self.view_is,
    )

pub invariant_of-self-in-Ok-1 : goal.invariant_of-self-in-Ok-1
invariant_of-self-in-Ok-1 g c =
    let cleared = c.clear_trees.ensures in
    record {
      serves = subst (λ e. Serves g.N.Network.reading e c.self.inside.machine) (sym cleared) (record { made = c.take_turn-result.ensures.serves.made; rests = c.take_turn-result.ensures.serves.rests });
      nodes = ap (λ e. e.work.nodes) cleared ∙ c.take_turn-result.ensures.nodes ∙ c.self.invariant.nodes;
      bounds = ap (λ e. e.bounds) cleared ∙ c.take_turn-result.ensures.bounds ∙ c.self.invariant.bounds;
      no_trees = ap (λ e. e.trees) cleared;
      can = one_more (CanTakeEvents c.self.inside.machine) last_number c.self.inside.answered (c.in-Ok.ensures.kept (last_number + c.self.inside.answered) (subst (CanTakeEvents c.self.inside.machine (last_number + c.self.inside.answered)) (sym c.in_ok-before.ensures.stays) c.self.invariant.can));
      stocked = one_more (KeepsStock c.self.inside.machine) 2 c.self.inside.answered (c.in-Ok.ensures.stocked (2 + c.self.inside.answered) (subst (KeepsStock c.self.inside.machine (2 + c.self.inside.answered)) (sym c.in_ok-before.ensures.stays) c.self.invariant.stocked));
      within = subst (λ n. n + 1 ≤ most_events) (sym (ap (λ v. v.answered) c.self.view_is)) (less c.requires.few);
    }
  where
    one_more : {X : Type 0} {x : X} (P : ℕ → X → Type 0) (from n : ℕ) → P (from + n + 1) x → P (from + (n + 1)) x
    one_more {X} {x} P from n p = subst (λ m. P m x) (omega arith) p

    less : {a b : ℕ} → a < b → a + 1 ≤ b
    less h = omega (arith, h)
