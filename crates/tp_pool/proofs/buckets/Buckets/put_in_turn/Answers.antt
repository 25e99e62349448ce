use Rattle.std.proofs.Common.{sym}
use Rattle.tp_pool.proofs.CallerFacts.{out_put}
use Rattle.tp_pool.proofs.TurnFacts.{before-head, behind-head, differ, still-out}
use Rattle.tp_pool.proofs.buckets.Buckets.put_in_turn.Goals as goal

pub put-requires-clause-out : goal.put-requires-clause-out
put-requires-clause-out c = still-out c.args.node c.in-Some.first c.args.bound c.args.self.now.queued c.take_of.new.self.queued c.requires.out c.in-Some.ensures.taken

pub put-requires-in-Some-clause-out : goal.put-requires-in-Some-clause-out
put-requires-in-Some-clause-out c =
    let other = differ c.args.node c.in-Some.first c.args.bound c.args.self.now.queued c.take_of.new.self.queued c.requires.out c.in-Some.ensures.taken in
    out_put c.in-Some.first (record { node = c.args.node; bound = c.args.bound }) c.take_of.new.self.queued c.put.new.self.queued c.put.ensures.queued (λ e. other (sym e)) c.in-Some.ensures.out

pub put-requires-in-Some-2-2-clause-out : goal.put-requires-in-Some-2-2-clause-out
put-requires-in-Some-2-2-clause-out c =
    let old = c.args.self.now.queued in
    let rest = c.take_of.new.self.queued in
    out_put c.args.node (record { node = c.in-Some.first; bound = c.args.bound }) rest c.put-in-Some-2.new.self.queued c.put-in-Some-2.ensures.queued
    (differ c.args.node c.in-Some.first c.args.bound old rest c.requires.out c.in-Some.ensures.taken) (still-out c.args.node c.in-Some.first c.args.bound old rest c.requires.out c.in-Some.ensures.taken)

pub returns-in-Some-clause-queued : goal.returns-in-Some-clause-queued
returns-in-Some-clause-queued c =
    behind-head c.args.node c.in-Some.first c.args.bound c.args.self.now.queued c.take_of.new.self.queued c.requires.out c.in-Some.ensures.taken c.put.new.self.queued c.put-in-Some.new.self.queued c.put.ensures.queued c.put-in-Some.ensures.queued

pub returns-in-Some-2-clause-queued : goal.returns-in-Some-2-clause-queued
returns-in-Some-2-clause-queued c =
    before-head c.args.node c.in-Some.first c.args.bound c.args.self.now.queued c.take_of.new.self.queued c.requires.out c.in-Some.ensures.taken c.put-in-Some-2.new.self.queued c.put-in-Some-2-2.new.self.queued c.put-in-Some-2.ensures.queued c.put-in-Some-2-2.ensures.queued
