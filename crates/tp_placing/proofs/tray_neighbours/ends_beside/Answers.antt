use Rattle.std.proofs.Common.{rules, arith, suc, sym, ◌∙◌, subst, ◌≡◌, ◌+◌, ◌-◌, ◌<◌, ◌^◌, drop, length, get_or, None, Some, false}
use Rattle.std.proofs.lemmas.List.{drop_all}
use Rattle.tp_base.specs.declared.edges.PointId.{PointId}
use Rattle.tp_placing.specs.Edges.{end_if, first_end, first_of, is_ahead, is_behind, last_end, plan_end}
use Rattle.tp_placing.proofs.LineFacts.{end-fits, first-behind, firsts-back, last-ahead, plans-back}
use Rattle.tp_placing.proofs.TableFacts.{length-firsts}
use Rattle.tp_placing.proofs.tray_neighbours.ends_beside.Goals as goal

-- what an index reads beyond the end
abbrev nothing : PointId
nothing = record { 0 = 0 }

pub back-init : goal.back-init
back-init c =
    let same = length-firsts 0 c.args.plans.now c.args.firsts.now c.requires.firsts in
    let a = drop_all (length c.args.plans.now) c.args.plans.now (omega arith) in
    let b = drop_all (length c.args.plans.now) c.args.firsts.now (omega arith) in
    record {
      ahead = λ i. last_end (is_ahead c.args.ask.now) (a i) (b i);
      behind = sym (λ i. first_end (is_behind c.args.ask.now) (a i) (b i));
      within = omega arith;
    }

pub bounds-firsts-left : goal.bounds-firsts-left
bounds-firsts-left c =
    let same = length-firsts 0 c.args.plans.now c.args.firsts.now c.requires.firsts in
    let test = c.back-test.true in
    let within = c.back.invariant.within in
    omega arith

pub overflow_add-end : goal.overflow_add-end
overflow_add-end c =
    let test = c.back-test.true in
    let within = c.back.invariant.within in
    let fits = end-fits c.args.plans.now c.args.firsts.now (c.back.left - 1) c.index-plans-left.result nothing c.requires.firsts (omega arith) c.index-plans-left.is in
    let len = c.len.ensures.len in
    let few = c.requires.few in
    let b : (get_or c.args.firsts.now (c.back.left - 1) nothing).0 + c.len.result < 2 ^ 32 = omega arith in
    search (rules, b)

pub returns-then-is_ahead-clause-ahead : goal.returns-then-is_ahead-clause-ahead
returns-then-is_ahead-clause-ahead c =
    let same = length-firsts 0 c.args.plans.now c.args.firsts.now c.requires.firsts in
    let test = c.back-test.true in
    let within = c.back.invariant.within in
    let p = c.index-plans-left.result in
    let next : c.back.left ≡ suc (c.back.left - 1) = omega arith in
    let none = subst (λ k. last_end (is_ahead c.args.ask.now) (drop k c.args.plans.now) (drop k c.args.firsts.now) ≡ None) next c.back.invariant.ahead in
    let last = last-ahead c.args.ask.now c.args.plans.now c.args.firsts.now (c.back.left - 1) p nothing same (omega arith) c.index-plans-left.is (sym c.is_ahead.ensures ∙ c.if-is_ahead.true) none in
    (λ i. Some (record { 0 = (get_or c.args.firsts.now (c.back.left - 1) nothing).0 + c.len.ensures.len i })) ∙ sym last

pub returns-then-is_ahead-clause-behind : goal.returns-then-is_ahead-clause-behind
returns-then-is_ahead-clause-behind c =
    let same = length-firsts 0 c.args.plans.now c.args.firsts.now c.requires.firsts in
    let test = c.back-test.true in
    let within = c.back.invariant.within in
    let p = c.index-plans-left.result in
    let next : c.back.left ≡ suc (c.back.left - 1) = omega arith in
    c.back.invariant.behind ∙ (λ i. first_end (is_behind c.args.ask.now) (drop (next i) c.args.plans.now) (drop (next i) c.args.firsts.now))
    ∙ sym (first-behind c.args.ask.now c.args.plans.now c.args.firsts.now (c.back.left - 1) p c.requires.in_order same (omega arith) c.index-plans-left.is (sym c.is_ahead.ensures ∙ c.if-is_ahead.true))

pub back-preserved : goal.back-preserved
back-preserved c =
    let same = length-firsts 0 c.args.plans.now c.args.firsts.now c.requires.firsts in
    let test = c.back-test.true in
    let within = c.back.invariant.within in
    let p = c.index-plans-left.result in
    let first = get_or c.args.firsts.now (c.back.left - 1) nothing in
    let end : record { 0 = first.0 + c.len.result } ≡ plan_end p first = λ i. record { 0 = first.0 + c.len.ensures.len i } in
    let ask = c.args.ask.now in
    let a = plans-back c.args.plans.now c.args.firsts.now c.back.left p nothing same test within c.index-plans-left.is in
    let b = firsts-back c.args.plans.now c.args.firsts.now c.back.left p nothing same test within c.index-plans-left.is in
    let not_ahead : is_ahead ask p ≡ false = sym c.is_ahead.ensures ∙ c.if-is_ahead.false in
    record {
      ahead =
          (λ i. last_end (is_ahead ask) (a i) (b i))
          ∙ (λ i. first_of (c.back.invariant.ahead i) (end_if (not_ahead i) (plan_end p first)));
      behind =
          c.first_of-behind.ensures ∙ (λ i. first_of (c.end_if.ensures i) (c.back.invariant.behind i))
          ∙ (λ i. first_of (end_if (c.is_behind.ensures i) (end i)) (first_end (is_behind ask) (drop c.back.left c.args.plans.now) (drop c.back.left c.args.firsts.now)))
          ∙ sym (λ i. first_end (is_behind ask) (a i) (b i));
      within = omega arith;
    }
