use Rattle.std.proofs.Common.{rules, arith, ◌+◌, ◌≤◌, ◌++◌, length, take, length-append}
use Rattle.std.proofs.lemmas.List.{length-take}
use Rattle.tp_outside.proofs.Parts.{LeavesAfter-all, LeavesAfter-end, LeavesAfter-read, LeavesAfter-more}
use Rattle.tp_outside.proofs.transfer.read_all.Goals as goal

pub returns-then-n-eq0-clause-bytes : goal.returns-then-n-eq0-clause-bytes
returns-then-n-eq0-clause-bytes g c =
    LeavesAfter-all c.pieces.text.items c.read_some.new.into c.in_ok-n.n _ _ _ c.if-n-eq0.true c.pieces.invariant.left c.in_ok-n.ensures.given (omega arith)

pub returns-then-n-eq0-clause-end : goal.returns-then-n-eq0-clause-end
returns-then-n-eq0-clause-end g c =
    LeavesAfter-end c.pieces.text.items c.read_some.new.into c.in_ok-n.n _ _ _ c.if-n-eq0.true c.pieces.invariant.left c.in_ok-n.ensures.given (omega arith)

pub pieces-preserved : goal.pieces-preserved
pieces-preserved g c = record {
  fits = search rules;
  counted = search rules;
  left = rw c.in_ok-extend_from_slice.ensures.items (LeavesAfter-more c.pieces.text.items c.read_some.new.into c.in_ok-n.n _ _ _ c.pieces.invariant.left c.in_ok-n.ensures.given);
}

-- what was read is gone, though there is no memory to keep it
pub returns-in_err-extend_from_slice-clause-taken : goal.returns-in_err-extend_from_slice-clause-taken
returns-in_err-extend_from_slice-clause-taken g c =
    let text = c.pieces.text.items ++ take c.in_ok-n.n c.read_some.new.into in
    let fits : length text ≤ c.args.limit + 1 = rw length-append (omega (arith, length-take c.in_ok-n.n c.read_some.new.into, c.in_ok-n.ensures.within)) in
    LeavesAfter-read text (c.args.limit + 1) _ _
    (LeavesAfter-more c.pieces.text.items c.read_some.new.into c.in_ok-n.n _ _ _ c.pieces.invariant.left c.in_ok-n.ensures.given) fits
