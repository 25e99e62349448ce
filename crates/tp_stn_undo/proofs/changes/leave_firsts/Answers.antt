use Rattle.std.proofs.Common.{arith, ◌≡◌, ◌<◌, sym, length, get_or}
use Rattle.std.proofs.lemmas.List.{get_or_read}
use Rattle.tp_stn_undo.proofs.NoteFacts.{no_saved, left_known, left_skip, left_keep}
use Rattle.tp_stn_undo.proofs.changes.leave_firsts.Goals as goal
use Rattle.tp_stn_undo.proofs.changes.leave_firsts.Goals.{After-index-entry, then-not-noted-point, else-not-noted-point}

-- the entry at hand
read : (c : After-index-entry) → get_or c.each.entries.items c.each.at no_saved ≡ c.index-entry.result.now
read c = let n = c.each.invariant.firsts.count in let t = c.each-test.true in sym (get_or_read c.each.entries.items c.each.at c.index-entry.result.now (omega arith) c.index-entry.ensures no_saved)

known : (c : After-index-entry) → c.index-entry.result.now.point.0 < length c.each.noted
known c =
    let l = c.each.invariant.firsts in
    let n = l.len in
    let t = c.each-test.true in
    let m = l.count in
    let k = left_known c.args.from c.each.left c.each.at c.each.entries.items c.args.entries.now.items c.args.noted.now c.each.noted l (omega arith) c.index-entry.result.now (read c) (length c.args.noted.now) c.requires.known in
    omega arith

pub bounds-noted-point : goal.bounds-noted-point
bounds-noted-point c = known (goal.at.bounds-noted-point c).After-index-entry

pub bounds-noted-point-then-not-noted-point : goal.bounds-noted-point-then-not-noted-point
bounds-noted-point-then-not-noted-point c = known (goal.at.bounds-noted-point-then-not-noted-point c).After-index-entry

pub each-preserved : goal.each-preserved
each-preserved c =
    let k = (goal.at.each-preserved c).After-index-entry in
    let l = c.each.invariant.firsts in
    let n = l.count in
    let t = c.each-test.true in
    elim c.if-not-noted-point.branch [
      | then-not-noted-point w ↦ rw (w.entries-is, w.noted-is, w.left-is) (record {
        firsts = left_keep c.args.from c.each.left c.each.at c.each.entries.items c.args.entries.now.items c.args.noted.now c.each.noted l (omega arith) c.index-entry.result.now (read k) (known k) w.if-not-noted-point.true;
        capacity = c.each.invariant.capacity;
      })
      | else-not-noted-point w ↦ rw (w.entries-is, w.noted-is, w.left-is) (record {
        firsts = left_skip c.args.from c.each.left c.each.at c.each.entries.items c.args.entries.now.items c.args.noted.now c.each.noted l (omega arith) c.index-entry.result.now (read k) w.if-not-noted-point.false;
        capacity = c.each.invariant.capacity;
      })
    ]
