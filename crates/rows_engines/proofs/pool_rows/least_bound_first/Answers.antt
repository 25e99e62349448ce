use Rattle.std.proofs.Common.{ap, arith}
use Rattle.tp_pool.specs.Queues.{BucketQueue}
use Rattle.tp_pool.proofs.CallerFacts.{out_put, out_of_none}
use Rattle.rows_engines.proofs.pool_rows.least_bound_first.Goals as goal

pub put-requires-2-clause-out : goal.put-requires-2-clause-out
put-requires-2-clause-out g c = out_put 1 _ c.clear.new.self.queued c.put.new.self.queued c.put.ensures.queued (λ e. absurd (omega arith)) (out_of_none 1 c.clear.new.self.queued (ap (λ (b : BucketQueue). b.queued) c.clear.ensures))

pub put_in_turn-requires-clause-out : goal.put_in_turn-requires-clause-out
put_in_turn-requires-clause-out g c = out_put 2 _ c.put.new.self.queued c.put-2.new.self.queued c.put-2.ensures.queued (λ e. absurd (omega arith))
    (out_put 2 _ c.clear.new.self.queued c.put.new.self.queued c.put.ensures.queued (λ e. absurd (omega arith)) (out_of_none 2 c.clear.new.self.queued (ap (λ (b : BucketQueue). b.queued) c.clear.ensures)))
