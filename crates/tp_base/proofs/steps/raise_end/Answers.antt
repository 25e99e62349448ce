use Rattle.std.proofs.Common.{arith, ◌≡◌, ◌<◌, pos, ◌+ℤ◌, slice_index, nat_abs, Some, None, length, refl, ℤ, to_z, of_z, w64}
use Rattle.std.proofs.lemmas.Int.{ints}
use Rattle.tp_base.specs.Grows.{cause_of}
use Rattle.tp_base.proofs.GrowsFacts.{Grows-step, Changes-set, Changes-changed, changed, slack-set, nat_abs-is, nat_abs-above, nat_abs-at_most}
use Rattle.tp_base.proofs.steps.raise_end.Goals as goal

pub returns-then-reach-from-2-clause-late : goal.returns-then-reach-from-2-clause-late
returns-then-reach-from-2-clause-late c edges in_list =
    let e = c.args.edge.now in
    let t = slice_index c.args.times.now in
    let z : ℤ = pos (t e.from.0) +ℤ e.weight in
    let high = nat_abs z in
    let reach : pos high ≡ z = nat_abs-is z z (omega (arith, ints)) refl in
    let more : t e.to.0 < high = nat_abs-above (t e.to.0) z (omega (arith, ints)) in
    let to_in : e.to.0 < length c.args.causes.now = omega arith in
    let dt = Changes-changed t e.to.0 high in
    let at : changed t e.to.0 high e.to.0 ≡ high = dt.at in
    let k : slice_index c.args.caps.now e.to.0 < high = nat_abs-above (slice_index c.args.caps.now e.to.0) z (omega (arith, ints)) in
    record {
      known = c.requires.known.to;
      time = changed t e.to.0 high;
      grows = Grows-step (length c.args.times.now) edges t (changed t e.to.0 high) (cause_of c.args.causes.now) _ e high in_list c.requires.known.from c.requires.known.to reach more dt (Changes-set c.args.causes.now e.to.0 (Some e) None to_in);
      passes = omega arith;
    }

pub returns-clause-rises : goal.returns-clause-rises
returns-clause-rises c edges in_list =
    let e = c.args.edge.now in
    let t = slice_index c.args.times.now in
    let z = to_z w64 (of_z w64 (to_z w64 (of_z w64 c.from.result) +ℤ to_z w64 (of_z w64 e.weight))) in
    let to_in : e.to.0 < length c.args.causes.now = omega arith in
    Grows-step (length c.args.times.now) edges t _ (cause_of c.args.causes.now) _ e (nat_abs z) in_list c.requires.known.from c.requires.known.to
    (nat_abs-is z (pos (t e.from.0) +ℤ e.weight) (omega (arith, ints)) (omega (arith, ints))) (nat_abs-above (t e.to.0) z (omega (arith, ints)))
    (Changes-set c.args.times.now e.to.0 (nat_abs z) 0 c.requires.known.to) (Changes-set c.args.causes.now e.to.0 (Some e) None to_in)

pub returns-clause-less : goal.returns-clause-less
returns-clause-less c _ =
    let z = to_z w64 (of_z w64 (to_z w64 (of_z w64 c.from.result) +ℤ to_z w64 (of_z w64 c.args.edge.now.weight))) in
    slack-set c.args.caps.now c.args.times.now c.args.edge.now.to.0 (nat_abs z) c.requires.known.to c.requires.caps (nat_abs-above _ z (omega (arith, ints))) (nat_abs-at_most z _ (omega (arith, ints)) (omega (arith, ints)))
