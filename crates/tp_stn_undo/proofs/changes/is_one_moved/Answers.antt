use Rattle.std.proofs.Common.{arith, ◌≡◌, ◌∙◌, ap, sym, subst, get_or, inl, inr}
use Rattle.std.proofs.lemmas.Bool.{cases_lt}
use Rattle.std.proofs.lemmas.Option.{get_or_from_slice_get}
use Rattle.tp_stn_undo.proofs.CauseFacts.{slice_get_at}
use Rattle.tp_stn_undo.proofs.NoteFacts.{no_saved}
use Rattle.tp_stn_undo.proofs.TimeFacts.{IsOfNow, time_at, times_kept}
use Rattle.tp_stn_undo.proofs.changes.is_one_moved.Goals as goal
use Rattle.tp_stn_undo.proofs.changes.is_one_moved.Goals.{else-entry-end-via-then-entry-end+else-states-entry, else-entry-end-via-else-entry-end}

pub each-init : goal.each-init
each-init c k d h = absurd (omega arith)

pub each-preserved : goal.each-preserved
each-preserved c k d h = elim (cases_lt k c.each.entry-index) [
  | inl p ↦ c.each.invariant k d p
  | inr p ↦ (
      let entries = c.args.entries.now in
      let states = c.args.states.now in
      let at = c.each.entry-index in
      let e = get_or entries at no_saved in
      let time = time_at states e.point.0 (c.requires at no_saved c.each-test.true) in
      let same : e ≡ get_or entries k d = sym (ap (λ i. get_or entries i d) (omega arith) ∙ get_or_from_slice_get entries at e d (slice_get_at entries at no_saved c.each-test.true)) in
      subst (IsOfNow c.args.end.0 states) same (λ before. elim c.else-entry-end.branch [
        | else-entry-end-via-then-entry-end+else-states-entry w ↦ time ∙ w.if-states-entry.false
        | else-entry-end-via-else-entry-end w ↦ absurd (let f = w.if-entry-end.false in omega arith)
      ]))
]

pub returns-then-states-entry-clause-moved : goal.returns-then-states-entry-clause-moved
returns-then-states-entry-clause-moved c _ =
    let at = c.each.entry-index in
    let e = get_or c.args.entries.now at no_saved in
    record {
      at = at;
      entry = e;
      get = slice_get_at c.args.entries.now at no_saved c.each-test.true;
      before = c.if-entry-end.true;
      moved = λ same. c.if-states-entry.true (sym (time_at c.args.states.now e.point.0 (c.requires at no_saved c.each-test.true)) ∙ same);
    }

pub returns-clause-same : goal.returns-clause-same
returns-clause-same c _ =
    times_kept c.args.entries.now c.args.end.0 c.args.states.now (λ k d h. let l = c.each-test.false in c.each.invariant k d (omega arith))
