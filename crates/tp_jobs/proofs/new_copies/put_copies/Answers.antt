-- One more copy is pushed, of the next number.
use Rattle.std.proofs.Common.{◌≡◌, ◌+◌, ◌++◌, ◌∷◌, [], List, arith, vec_len, replicate, append_assoc, ◌∙◌, ap, sym}
use Rattle.tp_jobs.specs.WaitingCopies.{first_copies}
use Rattle.tp_jobs.specs.declared.parts.WaitingCopy.{WaitingCopy}
use Rattle.tp_jobs.proofs.FirstCopies.{first_copies-one_more}
use Rattle.tp_jobs.proofs.new_copies.put_copies.Goals as goal

pub loop-put-preserved : goal.loop-put-preserved
loop-put-preserved c =
    let number : c.len.result + 1 ≡ vec_len c.args.copies.now + 1 + c.loop-put.put = omega (arith, c.loop-put.invariant.len, c.len.ensures) in
    let so-far : List WaitingCopy = first_copies c.args.job (vec_len c.args.copies.now + 1) (replicate c.loop-put.put c.args.want.now) in
    record {
      copies =
          c.in_ok-push.ensures.items
          ∙ (λ k. c.loop-put.invariant.copies k ++ record { sheet = record { job = c.args.job; number = number k; copy = 1 }; want = c.args.want.now } ∷ [])
          ∙ append_assoc c.args.copies.now.items so-far (record { sheet = record { job = c.args.job; number = vec_len c.args.copies.now + 1 + c.loop-put.put; copy = 1 }; want = c.args.want.now } ∷ [])
          ∙ ap (λ ws. c.args.copies.now.items ++ ws) (sym (first_copies-one_more c.args.job (vec_len c.args.copies.now + 1) c.loop-put.put c.args.want.now));
      len = omega (arith, c.in_ok-push.ensures.len, c.loop-put.invariant.len);
    }
