-- The line is of the session's machine and of where the session stands.
use Rattle.std.proofs.Common.{subst, sym}
use Rattle.std.proofs.lemmas.Result.{IfOk-weaker}
use Rattle.tp_session_standing.specs.Sound.{IsSound}
use Rattle.tp_session_standing.specs.StandingStates.{standing_of}
use Rattle.tp_program.proofs.SaveEndFacts.{line-saved}
use Rattle.tp_program.proofs.save_mode.saved_line.Goals as goal

pub write_snapshot-requires : goal.write_snapshot-requires
write_snapshot-requires c =
    subst (λ m. IsSound m c.in_ok-standing.standing) (sym c.machine.ensures) (subst (IsSound c.args.session.now.standing.machine) (sym c.in_ok-standing.ensures.stands) c.requires)

pub returns : goal.returns
returns c =
    let s = c.args.session.now.standing in
    IfOk-weaker c.line_of.result _ _ (λ line is.
    line-saved s.machine c.machine.result.now (standing_of s.machine s.state) c.in_ok-standing.standing c.in_ok-snapshot.snapshot.items c.deref.result.now line.items
    c.machine.ensures c.in_ok-standing.ensures.stands c.in_ok-snapshot.ensures.written c.in_ok-snapshot.ensures.snapshot c.deref.ensures.value is) c.line_of.ensures
