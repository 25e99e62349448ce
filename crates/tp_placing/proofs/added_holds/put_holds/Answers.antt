use Rattle.std.proofs.Common.{arith, ◌≡◌, ◌∙◌, ◌-◌, ◌<◌, [], All, drop, get_or, length, map, refl, sym, subst, take}
use Rattle.std.proofs.lemmas.List.{append-nil, length-drop, take_all}
use Rattle.tp_constraints.specs.Numbers.{table_of}
use Rattle.std.specs.Prelude.{pos}
use Rattle.tp_constraints.specs.Puts.{with_puts}
use Rattle.tp_machine.specs.declared.parts.Anchor.TheVariants.{Start}
use Rattle.tp_placing.specs.AddedEdges.{HasPut, slot_by}
use Rattle.tp_placing.specs.LoadedHolds.{IsHeldWithin, IsRuleOf, ticks_in}
use Rattle.tp_placing.specs.declared.parts.Held.{Held}
use Rattle.std.proofs.lemmas.Option.{slice_get-get_or}
use Rattle.tp_placing.proofs.GrowFacts.{at-drop, put-none, put-step, turned}
use Rattle.tp_placing.proofs.added_holds.put_holds.Goals as goal

-- what stands where there is no hold
abbrev none : Held
none = record { rule = record { resource = record { 0 = 0 }; begin = Start; begin_off = pos 0; end = Start; end_off = pos 0; mode = 0 }; start = record { 0 = 0 }; end = record { 0 = 0 } }

pub place_of-requires-clause-known : goal.place_of-requires-clause-known
place_of-requires-clause-known c =
    let v = c.loop-number.invariant in
    let test = c.loop-number-test.true in
    let number : c.loop-number.number < length c.args.look.held.now = omega (arith, test) in
    let here = slice_get-get_or c.args.look.held.now c.loop-number.number none number in
    let rule = at-drop (λ (h : Held). IsRuleOf (length c.args.machine.now.resources) h.rule) c.args.from c.loop-number.number c.args.look.held.now (get_or c.args.look.held.now c.loop-number.number none) v.from here c.requires.rules in
    let resource = rule.0 in
    let count = v.resources ∙ c.requires.resources in
    omega (arith, resource, count)

pub place_of-requires-clause-slots : goal.place_of-requires-clause-slots
place_of-requires-clause-slots c =
    let v = c.loop-number.invariant in
    let test = c.loop-number-test.true in
    let number : c.loop-number.number < length c.args.look.held.now = omega (arith, test) in
    let here = slice_get-get_or c.args.look.held.now c.loop-number.number none number in
    let rule = at-drop (λ (h : Held). IsRuleOf (length c.args.machine.now.resources) h.rule) c.args.from c.loop-number.number c.args.look.held.now (get_or c.args.look.held.now c.loop-number.number none) v.from here c.requires.rules in
    let put = v.put c.requires.orders.0 c.requires.orders.1 c.requires.orders.2 in
    (with_puts put.2.puts c.requires.orders.0 (get_or c.args.look.held.now c.loop-number.number none).rule.resource.0, put.2.orders (get_or c.args.look.held.now c.loop-number.number none).rule.resource.0 rule.0)

pub place_of-requires-clause-hold : goal.place_of-requires-clause-hold
place_of-requires-clause-hold c =
    let v = c.loop-number.invariant in
    let test = c.loop-number-test.true in
    let number : c.loop-number.number < length c.args.look.held.now = omega (arith, test) in
    let here = slice_get-get_or c.args.look.held.now c.loop-number.number none number in
    at-drop (IsHeldWithin (length (ticks_in c.args.look.plans.now))) c.args.from c.loop-number.number c.args.look.held.now (get_or c.args.look.held.now c.loop-number.number none) v.from here c.requires.within

pub put_hold-requires-clause-known : goal.put_hold-requires-clause-known
put_hold-requires-clause-known c =
    let v = c.loop-number.invariant in
    let test = c.loop-number-test.true in
    let number : c.loop-number.number < length c.args.look.held.now = omega (arith, test) in
    let here = slice_get-get_or c.args.look.held.now c.loop-number.number none number in
    let rule = at-drop (λ (h : Held). IsRuleOf (length c.args.machine.now.resources) h.rule) c.args.from c.loop-number.number c.args.look.held.now (get_or c.args.look.held.now c.loop-number.number none) v.from here c.requires.rules in
    let resource = rule.0 in
    let count = v.resources ∙ c.requires.resources in
    omega (arith, resource, count)

pub loop-number-init : goal.loop-number-init
loop-number-init c =
    let none : c.args.from - c.args.from ≡ 0 = omega arith in
    record {
      put = λ before on at. (
        [],
        sym (append-nil c.args.edges.now.items),
        subst (λ k. HasPut c.args.machine.now c.args.look.plans.now before c.args.look.held.now c.args.timelines.now.orders [] c.args.causes.now (map (slot_by (table_of c.args.look.plans.now)) (take k (drop c.args.from c.args.look.held.now)))) (sym none)
            (put-none c.args.machine.now c.args.look.plans.now before c.args.look.held.now c.args.timelines.now.orders c.args.causes.now at),
      );
      causes = ([], sym (append-nil c.args.causes.now));
      ids = c.requires.ids;
      few = omega arith;
      some = omega arith;
      total = omega arith;
      resources = refl;
      past = refl;
      hold_capacity = refl;
      marks = refl;
      capacity = omega arith;
      from = omega arith;
    }

pub returns-clause-put : goal.returns-clause-put
returns-clause-put c before on at =
    let h = c.loop-number.invariant.put before on at in
    let n = length-drop c.args.from c.args.look.held.now in
    let end = c.loop-number-test.false in
    let from = c.requires.from in
    let all = take_all (c.loop-number.number - c.args.from) (drop c.args.from c.args.look.held.now) (omega arith) in
    (h.0, h.1, subst (λ hs. HasPut c.args.machine.now c.args.look.plans.now before c.args.look.held.now c.loop-number.timelines.orders h.0 c.loop-number.causes (map (slot_by (table_of c.args.look.plans.now)) hs)) all h.2)

pub loop-number-preserved : goal.loop-number-preserved
loop-number-preserved c =
    let v = c.loop-number.invariant in
    let test = c.loop-number-test.true in
    let number : c.loop-number.number < length c.args.look.held.now = omega (arith, test) in
    let here = slice_get-get_or c.args.look.held.now c.loop-number.number _ number in
    let rule = at-drop (λ (h : Held). IsRuleOf (length c.args.machine.now.resources) h.rule) c.args.from c.loop-number.number c.args.look.held.now _ v.from here c.requires.rules in
    let inside = at-drop (IsHeldWithin (length (table_of c.args.look.plans.now))) c.args.from c.loop-number.number c.args.look.held.now _ v.from here
    (subst (λ n. All (IsHeldWithin n) (drop c.args.from c.args.look.held.now)) c.requires.ticks c.requires.within) in
    let count = v.resources ∙ c.requires.resources in
    let few = v.few in
    let some = v.some in
    let base = c.requires.base in
    let resource = rule.0 in
    let smalls = c.requires.small in
    let turn = turned c.args.look.held.now c.loop-number.timelines.orders c.put_hold.new.timelines.orders c.loop-number.edges.items c.put_hold.new.edges.items c.loop-number.causes c.put_hold.new.causes c.loop-number.number c.place_of.result c.gap_at.result _
    c.put_hold.ensures.edges c.put_hold.ensures.causes c.put_hold.ensures.timelines (omega (arith, resource, count)) c.place_of.ensures number v.ids in
    let two = turn.two_causes in
    let edges = turn.few_edges in
    let one = turn.one_more in
    let timelines = turn.same_count in
    let old = c.loop-number.edges.ok.0 in
    let new = c.put_hold.new.edges.ok.0 in
    let from = v.from in
    let total_is = v.total in
    let wide = v.capacity in
    let wider = c.put_hold.ensures.capacity in
    let whole = c.requires.from in
    record {
      put = λ before on at. put-step c.args.machine.now c.args.look.plans.now c.args.look.held.now c.loop-number.timelines.orders c.put_hold.new.timelines.orders c.args.edges.now.items c.loop-number.edges.items c.put_hold.new.edges.items c.loop-number.causes c.put_hold.new.causes
          c.args.from c.loop-number.number c.place_of.result c.gap_at.result _ c.put_hold.ensures.edges c.put_hold.ensures.causes c.put_hold.ensures.timelines c.gap_at.ensures.gap here from smalls inside resource (omega (arith, resource, count)) c.place_of.ensures (omega (arith, few, base)) before on (v.put before on at);
      causes = turn.behind c.args.causes.now v.causes.0 v.causes.1;
      ids = turn.ids;
      few = omega arith;
      some = omega arith;
      total = omega arith;
      resources = timelines ∙ v.resources;
      past = c.put_hold.ensures.past ∙ v.past;
      hold_capacity = c.put_hold.ensures.hold_capacity ∙ v.hold_capacity;
      marks = c.put_hold.ensures.marks ∙ v.marks;
      capacity = omega arith;
      from = omega arith;
    }
