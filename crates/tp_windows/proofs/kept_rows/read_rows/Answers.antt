use Rattle.std.proofs.Common.{ap, arith, sym, ◌∙◌, ◌∷◌, ◌++◌, [], subst, length}
use Rattle.std.specs.Prelude.{◌≡◌}
use Rattle.tp_windows.proofs.RowCuts.{IsCutTo, cut_push, rising_of}
use Rattle.tp_windows.proofs.RowSlots.{orders_push}
use Rattle.tp_windows.proofs.kept_rows.read_rows.Goals as goal

pub resources-preserved : goal.resources-preserved
resources-preserved g c =
    let holds = c.add_row.new.holds.items in
    let ends = c.resources.ends.items in
    let ends' = c.push_reserved.new.self.items in
    let long : c.len-in-resources.result ≡ length holds = c.len-in-resources.ensures ∙ c.add_row.new.holds.ok.0 in
    let pushed : ends' ≡ ends ++ length holds ∷ [] = c.push_reserved.ensures.items ∙ ap (λ n. ends ++ n ∷ []) long in
    let row = c.add_row.ensures.row c.if-not-add_row.false in
    record {
      rows = orders_push c.args.machine.now c.args.board.now.plans c.resources.number c.resources.holds.items holds ends ends' c.resources.invariant.rows c.resources.invariant.cut row pushed;
      cut = subst (λ es. IsCutTo 0 es (length holds)) (sym pushed) (cut_push 0 ends (length c.resources.holds.items) (length holds) c.resources.invariant.cut c.add_row.ensures.more);
      near = c.add_row.ensures.near;
    }

pub returns-then-len-capacity-clause-cut : goal.returns-then-len-capacity-clause-cut
returns-then-len-capacity-clause-cut g c = record {
  near = c.resources.invariant.near;
  rising = rising_of 0 c.resources.ends.items (length c.resources.holds.items) (length c.resources.holds.items) c.resources.invariant.cut (omega arith);
}

pub returns-then-not-add_row-clause-cut : goal.returns-then-not-add_row-clause-cut
returns-then-not-add_row-clause-cut g c = record {
  near = c.add_row.ensures.near;
  rising = rising_of 0 c.resources.ends.items (length c.resources.holds.items) (length c.add_row.new.holds.items) c.resources.invariant.cut c.add_row.ensures.more;
}

pub returns-clause-cut : goal.returns-clause-cut
returns-clause-cut g c = record {
  near = c.resources.invariant.near;
  rising = rising_of 0 c.resources.ends.items (length c.resources.holds.items) (length c.resources.holds.items) c.resources.invariant.cut (omega arith);
}
