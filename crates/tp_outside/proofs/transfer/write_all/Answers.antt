use Rattle.std.proofs.Common.{rules, arith}
use Rattle.std.proofs.lemmas.List.{take_rest}
use Rattle.tp_outside.proofs.Parts.{TakenSo-none, TakenSo-more, IsCounted-none, IsCounted-more}
use Rattle.tp_outside.proofs.transfer.write_all.Goals as goal

pub pieces-init : goal.pieces-init
pieces-init g c = record { within = omega arith; counted = IsCounted-none _; taken = TakenSo-none c.args.piece.now _ }

pub pieces-preserved : goal.pieces-preserved
pieces-preserved g c = record {
  within = search rules;
  counted = IsCounted-more _ _ _ c.pieces.invariant.counted c.in_ok-at.ensures.counted;
  taken = TakenSo-more c.pieces.at c.in_ok-at.field-0 c.args.piece.now _ _ _ c.pieces.invariant.taken (rw take_rest at c.in_ok-at.ensures.taken);
}

pub returns-in_err-at-clause-counted : goal.returns-in_err-at-clause-counted
returns-in_err-at-clause-counted g c = IsCounted-more _ _ _ c.pieces.invariant.counted c.in_err-at.ensures.counted
