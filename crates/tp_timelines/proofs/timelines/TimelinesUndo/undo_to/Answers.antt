use Rattle.std.proofs.Common.{◌≡◌, ◌<◌, length, map, take, drop, Some, refl, ap, sym, ◌∙◌, arith}
use Rattle.std.proofs.lemmas.List.{length-map, length-take-le}
use Rattle.std.proofs.lemmas.Option.{slice_get-map, slice_get_read}
use Rattle.std.specs.List.{slice_get}
use Rattle.std.specs.Option.{option_map}
use Rattle.tp_timelines.specs.Orders.{Orders, numbers_of, Sizes, sizes_of}
use Rattle.tp_timelines.specs.Inserts.{taken_back}
use Rattle.tp_timelines.proofs.InsertFacts.{length-taken_back}
use Rattle.tp_timelines.proofs.MarkFacts.{marks_undone, past_undone}
use Rattle.tp_timelines.proofs.timelines.TimelinesUndo.undo_to.Goals as goal
use Rattle.tp_timelines.proofs.timelines.TimelinesUndo.undo_to.Goals.{After-take_back}

in_force : (c : After-take_back) → c.args.mark.0 < length c.self.inside.marks.items
in_force c =
    let a = c.self.inside in
    let r = c.requires in
    let v = ap (λ (o : Orders). length o.past) c.self.view_is in
    let l = length-map a.marks.items (λ n. taken_back (drop n a.inserted.items) (numbers_of a.orders.items)) in
    omega arith

at_mark : (c : After-take_back) → slice_get c.self.inside.marks.items c.args.mark.0 ≡ Some c.index.result.now
at_mark c = slice_get_read c.self.inside.marks.items (length c.self.inside.marks.items) c.args.mark.0 c.index.result.now refl (in_force c) c.index.ensures

pub invariant_of-self : goal.invariant_of-self
invariant_of-self c =
    let a = c.self.inside in
    let inv = c.self.invariant in
    let below = inv.at_marks.below c.args.mark.0 c.index.result.now (at_mark c) in
    let e = c.take_back.ensures.inserted in
    let n = ap length e ∙ length-take-le c.index.result.now a.inserted.items below in
    let m = ap length c.truncate.ensures.items ∙ length-take-le c.args.mark.0 a.marks.items (omega (arith, in_force c)) in
    record {
      all = c.take_back.ensures.all inv.all;
      stand = c.take_back.ensures.stand;
      at_marks = rw (c.truncate.ensures.items, n) (marks_undone a.marks.items (length a.inserted.items) c.args.mark.0 c.index.result.now (at_mark c) inv.at_marks);
      holds = omega (arith, inv.holds);
      marks = omega (arith, inv.marks, in_force c);
      fits = inv.fits;
      capacity = c.take_back.ensures.spacious a.hold_capacity inv.capacity;
      insert_capacity = omega (arith, inv.insert_capacity, c.take_back.ensures.capacity);
      mark_space = omega (arith, inv.mark_space, c.truncate.ensures.capacity);
    }

pub returns-clause-content : goal.returns-clause-content
returns-clause-content c =
    let a = c.self.inside in
    ap (λ (o : Orders). slice_get o.past c.args.mark.0) (sym c.self.view_is)
    ∙ slice_get-map (λ n. taken_back (drop n a.inserted.items) (numbers_of a.orders.items)) a.marks.items c.args.mark.0
    ∙ ap (option_map (λ n. taken_back (drop n a.inserted.items) (numbers_of a.orders.items))) (at_mark c)
    ∙ ap Some (sym c.take_back.ensures.numbers)

pub returns-clause-past : goal.returns-clause-past
returns-clause-past c =
    let a = c.self.inside in
    let os = numbers_of a.orders.items in
    ap (λ ms. map (λ m. taken_back (drop m c.take_back.new.inserted.items) (numbers_of c.take_back.new.orders.items)) ms) c.truncate.ensures.items
    ∙ ap (λ is. map (λ m. taken_back (drop m is) (numbers_of c.take_back.new.orders.items)) (take c.args.mark.0 a.marks.items)) c.take_back.ensures.inserted
    ∙ ap (λ ns. map (λ m. taken_back (drop m (take c.index.result.now a.inserted.items)) ns) (take c.args.mark.0 a.marks.items)) c.take_back.ensures.numbers
    ∙ past_undone a.marks.items os a.inserted.items c.args.mark.0 c.index.result.now (at_mark c) c.self.invariant.at_marks
    ∙ ap (λ (o : Orders). take c.args.mark.0 o.past) c.self.view_is

pub returns-clause-untouched : goal.returns-clause-untouched
returns-clause-untouched c =
    let a = c.self.inside in
    let os = numbers_of a.orders.items in
    ap {B = Sizes} (λ n. record { resources = n; hold_capacity = a.hold_capacity }) (ap length c.take_back.ensures.numbers ∙ length-taken_back (drop c.index.result.now a.inserted.items) os)
    ∙ ap sizes_of c.self.view_is
