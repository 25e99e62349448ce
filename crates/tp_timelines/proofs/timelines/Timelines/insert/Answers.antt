use Rattle.std.proofs.Common.{◌≡◌, ◌<◌, ◌≤◌, [], ◌∷◌, ◌++◌, length, drop, set, ap, sym, subst, ◌∙◌, arith}
use Rattle.std.proofs.lemmas.List.{length_push}
use Rattle.std.specs.List.{insert}
use Rattle.tp_timelines.specs.declared.inserts.Insert.{Insert}
use Rattle.tp_timelines.specs.Orders.{Orders, numbers_of, order_on, total}
use Rattle.tp_timelines.specs.Inserts.{taken_back, StandAt}
use Rattle.tp_timelines.proofs.InsertFacts.{taken_back-insert, total-insert, StandAt-insert}
use Rattle.tp_timelines.proofs.VectorFacts.{length-numbers, numbers-insert, HaveCapacity-set}
use Rattle.tp_timelines.proofs.MarkFacts.{marks_grown, past_same}
use Rattle.tp_timelines.proofs.timelines.Timelines.insert.Goals as goal
use Rattle.tp_timelines.proofs.timelines.Timelines.insert.Goals.{After-push_reserved}

abbrev entry : After-push_reserved → Insert
entry c = record { resource = c.args.resource; place = c.args.place }

known : (c : After-push_reserved) → c.args.resource.0 < length c.self.inside.orders.items
known c =
    let v = ap (λ (o : Orders). length o.orders) c.self.view_is in
    let k = c.requires.known in
    omega (arith, length-numbers c.self.inside.orders.items)

within : (c : After-push_reserved) → c.args.place ≤ length (order_on (numbers_of c.self.inside.orders.items) c.args.resource.0)
within c =
    let v = ap (λ (o : Orders). length (order_on o.orders c.args.resource.0)) c.self.view_is in
    let k = c.requires.within in
    omega arith

now : (c : After-push_reserved) → numbers_of (set c.self.inside.orders.items c.args.resource.0 c.insert.new.self) ≡ set (numbers_of c.self.inside.orders.items) c.args.resource.0 (insert (order_on (numbers_of c.self.inside.orders.items) c.args.resource.0) c.args.place c.args.id)
now c = numbers-insert c.self.inside.orders.items c.args.resource.0 c.index_mut.result.now (known c) c.index_mut.ensures.value c.insert.new.self c.args.place c.args.id c.in-Ok.ensures.items

pub invariant_of-self : goal.invariant_of-self
invariant_of-self c =
    let a = c.self.inside in
    let inv = c.self.invariant in
    let vs = a.orders.items in
    let os = numbers_of vs in
    let k : c.args.resource.0 < length os = omega (arith, known c, length-numbers vs) in
    let e = c.push_reserved.ensures.items in
    let n = ap length e ∙ length_push a.inserted.items (entry c) in
    let t = total-insert os a.inserted.items (entry c) c.args.id k (within c) in
    let full = c.if-len-self.false in
    let l = c.len.ensures in
    let ok = a.inserted.ok.0 in
    let h = inv.holds in
    let all = inv.all in
    record {
      all = ap total (now c) ∙ omega arith;
      stand = subst (λ ns. StandAt ns c.push_reserved.new.self.items) (sym (now c)) (rw e (StandAt-insert os a.inserted.items (entry c) c.args.id k (within c) inv.stand));
      at_marks = marks_grown a.marks.items (length a.inserted.items) _ (omega arith) inv.at_marks;
      holds = omega arith;
      marks = inv.marks;
      fits = inv.fits;
      capacity = HaveCapacity-set vs c.args.resource.0 c.index_mut.result.now (known c) c.index_mut.ensures.value c.insert.new.self a.hold_capacity (omega (arith, c.in-Ok.ensures.capacity)) inv.capacity;
      insert_capacity = omega (arith, inv.insert_capacity, c.push_reserved.ensures.capacity);
      mark_space = inv.mark_space;
    }

pub returns-clause-ok : goal.returns-clause-ok
returns-clause-ok c = now c ∙ ap (λ (o : Orders). set o.orders c.args.resource.0 (insert (order_on o.orders c.args.resource.0) c.args.place c.args.id)) c.self.view_is

pub returns-clause-past : goal.returns-clause-past
returns-clause-past c =
    let a = c.self.inside in
    let vs = a.orders.items in
    let os = numbers_of vs in
    let k : c.args.resource.0 < length os = omega (arith, known c, length-numbers vs) in
    past_same a.marks.items os (numbers_of (set vs c.args.resource.0 c.insert.new.self)) a.inserted.items c.push_reserved.new.self.items c.self.invariant.at_marks
    (λ n h. ap (λ is. taken_back (drop n is) (numbers_of (set vs c.args.resource.0 c.insert.new.self))) c.push_reserved.ensures.items
    ∙ ap (taken_back (drop n (a.inserted.items ++ entry c ∷ []))) (now c)
    ∙ taken_back-insert os a.inserted.items (entry c) c.args.id k (within c) n h)
    ∙ ap (λ (o : Orders). o.past) c.self.view_is
