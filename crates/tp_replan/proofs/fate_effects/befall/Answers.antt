-- Lost copies, waiting copies and plans are those of the state that the fates lead to.
use Rattle.std.proofs.Common.{◌≡◌, ◌∙◌, ap, flat_map}
use Rattle.tp_event_rules.specs.Fates.{waits_for}
use Rattle.tp_event_rules.specs.Lines.{put_all_waiting}
use Rattle.tp_event_rules.specs.LiveStates.{seen}
use Rattle.tp_replan.proofs.FateFacts.{waits-by}
use Rattle.tp_replan.proofs.fate_effects.befall.Goals as goal

pub returns-clause-follows : goal.returns-clause-follows
returns-clause-follows c = λ rule e.
    let s = seen c.args.state.now in
    let lost = c.in_ok-state.ensures rule e in
    let waits : c.wait_all.new.lines ≡ record { jobs = s.jobs; waiting = put_all_waiting s.waiting (flat_map (λ p. waits_for p (rule p)) s.plans); kept = c.args.state.now.lines.kept } =
    c.in_ok-wait_all.ensures.waits
    ∙ ap (λ more. record { jobs = s.jobs; waiting = put_all_waiting s.waiting more; kept = c.args.state.now.lines.kept }) (waits-by rule s.plans c.args.fates.now e) in
    let left = c.leave_all.ensures rule e in
    λ k. record {
      now = s.now;
      plans = left k;
      lost = lost k;
      jobs = (waits k).jobs;
      waiting = (waits k).waiting;
      outs = s.outs;
      refills = s.refills;
    }
