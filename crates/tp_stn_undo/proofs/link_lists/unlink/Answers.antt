use Rattle.std.proofs.Common.{arith, ◌≤◌, ◌∙◌, ap, sym, length, drop}
use Rattle.std.proofs.lemmas.List.{set_past, length_push}
use Rattle.tp_base.proofs.SliceFacts.{take_popped}
use Rattle.tp_stn_undo.specs.Saved.{relinked}
use Rattle.tp_stn_undo.proofs.SavedFacts.{relinked-pop}
use Rattle.tp_stn_undo.proofs.link_lists.unlink.Goals as goal

pub back-preserved-then-at-heads : goal.back-preserved-then-at-heads
back-preserved-then-at-heads c =
    let xs = c.pop.new.self.items in
    let e = c.in-Some.ensures.items in
    let l = ap length e ∙ length_push xs c.in-Some.last in
    let test = c.back-test.true in
    let len = c.len.ensures in
    let ok = c.back.links.ok.0 in
    let to : c.args.to ≤ length xs = omega arith in
    record {
      links = take_popped c.args.links.now.items xs c.back.links.items c.in-Some.last e c.back.invariant.links;
      to = to;
      heads = relinked-pop c.args.to xs c.back.links.items c.in-Some.last c.back.heads e to ∙ c.back.invariant.heads;
      capacity = c.in-Some.ensures.capacity ∙ c.back.invariant.capacity;
    }

pub back-preserved : goal.back-preserved
back-preserved c =
    let xs = c.pop.new.self.items in
    let s = c.in-Some.last in
    let e = c.in-Some.ensures.items in
    let l = ap length e ∙ length_push xs s in
    let test = c.back-test.true in
    let len = c.len.ensures in
    let ok = c.back.links.ok.0 in
    let to : c.args.to ≤ length xs = omega arith in
    let out = c.if-at-heads.false in
    record {
      links = take_popped c.args.links.now.items xs c.back.links.items s e c.back.invariant.links;
      to = to;
      heads = ap (relinked (drop c.args.to xs)) (sym (set_past c.back.heads s.edge.from.0 s.older out)) ∙ relinked-pop c.args.to xs c.back.links.items s c.back.heads e to ∙ c.back.invariant.heads;
      capacity = c.in-Some.ensures.capacity ∙ c.back.invariant.capacity;
    }
