use Rattle.std.proofs.Common.{arith, ◌≡◌, ◌+◌, ◌-◌, length, Some, sym}
use Rattle.std.specs.List.{slice_get}
use Rattle.std.proofs.lemmas.Option.{slice_get_within}
use Rattle.tp_stn_undo.proofs.NoteFacts.{known_all}
use Rattle.tp_stn_undo.proofs.StackedFacts.{marks_below, mark_within, capacity_left, stack_kept}
use Rattle.tp_stn_undo.proofs.PastFacts.{past_kept}
use Rattle.tp_stn_undo.proofs.saved_changes.save_changes.Goals as goal
use Rattle.tp_stn_undo.proofs.saved_changes.save_changes.Goals.{In-Some}

-- the newest mark
at : (c : In-Some) → slice_get c.args.marks.now (length c.args.marks.now - 1) ≡ Some c.in-Some.mark.now
at c = sym c.in-Some.ensures.value

last : (c : In-Some) → length c.args.marks.now - 1 + 1 ≡ length c.args.marks.now
last c = let w = slice_get_within c.args.marks.now _ _ (at c) in omega arith

pub keep-requires-clause-capacity : goal.keep-requires-clause-capacity
keep-requires-clause-capacity c =
    let k = (goal.at.keep-requires-clause-capacity c).In-Some in
    let r = c.requires.ready in
    let e = r.enough in
    let l = capacity_left c.args.marks.now c.args.changes.now.older r.points r.edges c.args.changes.now.capacity _ c.in-Some.mark.now (last k) (at k) r.stack in
    omega arith

pub keep-requires-clause-known : goal.keep-requires-clause-known
keep-requires-clause-known c =
    let r = c.requires.ready in
    let f = r.fits in
    known_all c.args.changes.now.older c.args.changes.now.capacity (λ j e g. let b = r.stack.kept.known j e g in omega arith)

pub returns-in-Some-clause-stack : goal.returns-in-Some-clause-stack
returns-in-Some-clause-stack c = λ count edges known s.
    let k = (goal.at.returns-in-Some-clause-stack c).In-Some in
    let e = c.keep.ensures in
    stack_kept c.args.marks.now c.args.changes.now.older count edges c.args.changes.now.capacity _ c.in-Some.mark.now (last k) (at k) s c.keep.new.self.older e.before e.few
    (e.known count (known_all c.args.changes.now.older count s.kept.known) known)

pub returns-in-Some-clause-past : goal.returns-in-Some-clause-past
returns-in-Some-clause-past c = λ states caps links edges s.
    let k = (goal.at.returns-in-Some-clause-past c).In-Some in
    let e = c.keep.ensures in
    past_kept c.args.marks.now c.args.changes.now.older states caps links c.keep.new.self.older c.args.changes.now.entries c.in-Some.mark.now.saved
    (marks_below c.args.marks.now c.args.changes.now.older _ _ _ _ c.in-Some.mark.now (last k) (at k) s)
    (mark_within c.args.marks.now c.args.changes.now.older _ _ _ _ c.in-Some.mark.now (last k) (at k) s)
    e.before e.back
