use Rattle.std.proofs.Common.{arith, ◌≡◌, ◌≤◌, ◌∙◌, ap, sym, length, drop}
use Rattle.std.proofs.lemmas.List.{set_past, length_push}
use Rattle.tp_base.proofs.SliceFacts.{take_popped}
use Rattle.tp_stn_core.specs.Saved.{restored, relinked}
use Rattle.tp_stn_core.proofs.SavedFacts.{restored-pop, relinked-pop}
use Rattle.tp_stn_core.proofs.saved_low.put_back.Goals as goal

pub back-preserved-then-at-lows : goal.back-preserved-then-at-lows
back-preserved-then-at-lows c =
    let xs = c.pop.new.self.items in
    let e = c.in-Some.ensures.items in
    let l = ap length e ∙ length_push xs c.in-Some.last in
    let test = c.back-test.true in
    let len = c.len.ensures in
    let ok = c.back.saved.ok.0 in
    let to : c.args.to ≤ length xs = omega arith in
    record {
      saved = take_popped c.args.saved.now.items xs c.back.saved.items c.in-Some.last e c.back.invariant.saved;
      to = to;
      lows = restored-pop c.args.to xs c.back.saved.items c.in-Some.last c.back.lows e to ∙ c.back.invariant.lows;
      newest = relinked-pop c.args.to xs c.back.saved.items c.in-Some.last c.back.newest e to ∙ c.back.invariant.newest;
      capacity = c.in-Some.ensures.capacity ∙ c.back.invariant.capacity;
    }

pub back-preserved : goal.back-preserved
back-preserved c =
    let xs = c.pop.new.self.items in
    let s = c.in-Some.last in
    let e = c.in-Some.ensures.items in
    let l = ap length e ∙ length_push xs s in
    let test = c.back-test.true in
    let len = c.len.ensures in
    let ok = c.back.saved.ok.0 in
    let to : c.args.to ≤ length xs = omega arith in
    let out = c.if-at-lows.false in
    let same : length c.back.newest ≡ length c.back.lows = omega (arith, c.back.auto.lows, c.back.auto.newest, c.requires.len) in
    record {
      saved = take_popped c.args.saved.now.items xs c.back.saved.items s e c.back.invariant.saved;
      to = to;
      lows = ap (restored (drop c.args.to xs)) (sym (set_past c.back.lows s.point.0 s.low out)) ∙ restored-pop c.args.to xs c.back.saved.items s c.back.lows e to ∙ c.back.invariant.lows;
      newest = ap (relinked (drop c.args.to xs)) (sym (set_past c.back.newest s.point.0 s.older (omega arith))) ∙ relinked-pop c.args.to xs c.back.saved.items s c.back.newest e to ∙ c.back.invariant.newest;
      capacity = c.in-Some.ensures.capacity ∙ c.back.invariant.capacity;
    }
