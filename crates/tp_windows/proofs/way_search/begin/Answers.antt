use Rattle.std.proofs.Common.{subst, sym}
use Rattle.tp_machine.specs.declared.parts.State.{State}
use Rattle.tp_windows.proofs.StartFacts.{front-state, new-sheet}
use Rattle.tp_windows.specs.SoughtWays.{AreStartsReached}
use Rattle.tp_windows.proofs.way_search.begin.Goals as goal

pub returns-in-Front-clause-starts : goal.returns-in-Front-clause-starts
returns-in-Front-clause-starts c = λ done s tick n is can stands le.
    subst (λ (x : State). AreStartsReached c.args.sought x c.begin_in.new.front) (sym (front-state c.args.sought.machine.now c.args.sought.ask.now s c.in-Front.state c.in-Front.end c.in-Front.kept c.in-Front.is is))
    (c.begin_in.ensures.starts done) tick n is can stands le

pub returns-in-Feeder-clause-starts : goal.returns-in-Feeder-clause-starts
returns-in-Feeder-clause-starts c = λ done s tick n is can stands le.
    let new = new-sheet c.args.sought.machine.now c.args.sought.ask.now s c.in-Feeder.is is in
    subst (λ (x : State). AreStartsReached c.args.sought x c.begin_at_feeders.new.front) (sym new.state) (c.begin_at_feeders.ensures.starts done new.number new.feeder new.there) tick n is can stands le
