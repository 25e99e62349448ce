use Rattle.std.proofs.Common.{◌≡◌, ◌∙◌, ◌+◌, ◌-◌, suc, true, false, All, ap, arith, drop, get_or, length, subst, sym, take}
use Rattle.std.proofs.lemmas.Option.{slice_get-get_or}
use Rattle.tp_placing.proofs.LineEnds.{drop-before, read-at, read-before, read-is, read-one}
use Rattle.tp_constraints.specs.Gaps.{is_same_line}
use Rattle.tp_schedule.specs.declared.parts.Plan.{Plan}
use Rattle.tp_placing.specs.AddedEdges.IsLineEnd.{line_end, no_end}
use Rattle.tp_placing.proofs.live_match.line_end.Goals as goal

pub returns : goal.returns
returns c p at =
    let test = c.back-test.false in
    let none : c.back.left ≡ 0 = omega (arith, test) in
    no_end (subst (λ k. All (λ (q : Plan). is_same_line q p ≡ false) (drop k (take c.args.at c.args.plans.now))) none (c.back.invariant.others p at))

pub back-preserved : goal.back-preserved
back-preserved c =
    let test = c.back-test.true in
    let v = c.back.invariant in
    let le = v.within in
    let there = c.requires.there in
    record {
      others = λ p at. (
          let same = read-is c.args.plans.now c.args.at c.index-plans-at.result p there c.index-plans-at.is at in
          let before = read-before c.args.plans.now c.args.at (c.back.left - 1) c.index-plans-left.result (omega arith) (omega arith) c.index-plans-left.is in
          let other = subst (λ (q : Plan). is_same_line c.index-plans-left.result q ≡ false) same (sym c.are_in_line.ensures ∙ c.if-are_in_line.false) in
          drop-before (λ (q : Plan). is_same_line q p ≡ false) (take c.args.at c.args.plans.now) c.back.left c.index-plans-left.result test before other (v.others p at));
      within = omega arith;
    }

pub returns-then-are_in_line : goal.returns-then-are_in_line
returns-then-are_in_line c p at =
    let test = c.back-test.true in
    let v = c.back.invariant in
    let le = v.within in
    let there = c.requires.there in
    let firsts = c.requires.firsts in
    let same = read-is c.args.plans.now c.args.at c.index-plans-at.result p there c.index-plans-at.is at in
    let next : c.back.left ≡ suc (c.back.left - 1) = omega arith in
    let count : c.len.result ≡ length c.index-plans-left.result.acts = c.len.ensures.len ∙ ap (λ (q : Plan). length q.acts) (sym c.index-plans-left-then-are_in_line.is ∙ read-one c.args.plans.now (c.back.left - 1) c.index-plans-left-then-are_in_line.result c.index-plans-left.result (omega arith) c.index-plans-left-then-are_in_line.is c.index-plans-left.is) in
    line_end (c.back.left - 1) c.index-plans-left.result (get_or c.args.firsts.now (c.back.left - 1) (record { 0 = 0 })) _ (omega arith)
    (read-at c.args.plans.now (c.back.left - 1) c.index-plans-left.result (omega arith) c.index-plans-left.is)
    (slice_get-get_or c.args.firsts.now (c.back.left - 1) (record { 0 = 0 }) (omega arith))
    (ap (λ k. (get_or c.args.firsts.now (c.back.left - 1) (record { 0 = 0 })).0 + k) count)
    (subst (λ (q : Plan). is_same_line c.index-plans-left.result q ≡ true) same (sym c.are_in_line.ensures ∙ c.if-are_in_line.true))
    (subst (λ k. All (λ (r : Plan). is_same_line r p ≡ false) (drop k (take c.args.at c.args.plans.now))) next (v.others p at))
