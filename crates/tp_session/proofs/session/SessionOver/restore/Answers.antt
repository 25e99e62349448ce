-- Any event can be taken in the state that the standing tells.
use Rattle.std.proofs.Common.{◌≡◌, ◌+◌, arith, subst, sym}
use Rattle.tp_jobs.specs.declared.standing.Standing.{Standing}
use Rattle.tp_session_standing.specs.Laws.{CanGoOn}
use Rattle.tp_session_standing.specs.Sound.{IsSound, last_number}
use Rattle.tp_session_standing.specs.StandingStates.{standing_state}
use Rattle.tp_event_rules.proofs.ReadyTurns.{events-more}
use Rattle.tp_event_rules.proofs.StockKept.{stock-more}
use Rattle.tp_event_rules.specs.LiveStates.{seen}
use Rattle.tp_event_rules.specs.Ready.{CanTakeEvents, KeepsStock}
use Rattle.tp_session.proofs.session.SessionOver.restore.Goals as goal

pub invariant_of-self : goal.invariant_of-self
invariant_of-self g c =
    let m = c.self.inside.machine in
    let n = c.self.inside.answered in
    let within = c.self.invariant.within in
    let t : Standing = c.args.standing.now in
    let sound : IsSound m t = subst (λ v. IsSound v.standing.machine t) (sym c.self.view_is) c.requires.sound in
    let on : CanGoOn m t = c.sound_standings_go_on.ensures m t sound in
    let is : seen c.in_ok-self-inside.field-0 ≡ standing_state m t = c.in_ok-self-inside.ensures in
    record {
      serves = c.self.invariant.serves;
      nodes = c.self.invariant.nodes;
      bounds = c.self.invariant.bounds;
      no_trees = c.self.invariant.no_trees;
      can = subst (CanTakeEvents m (last_number + n)) (sym is) (events-more m last_number (last_number + n) (standing_state m t) (omega (arith, within)) on.can);
      stocked = subst (KeepsStock m (2 + n)) (sym is) (stock-more m 2 (2 + n) (standing_state m t) (omega arith) on.stocked);
      within = within;
    }
